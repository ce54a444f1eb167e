-- The wire of a round as contracts see it: a link whose far end is the server's session over its archive.
use Rattle.std.specs.Prelude.{◌≡◌, ◌≤◌, nat_le, ℕ, List, [], ◌++◌, length, take, Option, Some, None, IfNone}
use Rattle.frame_layout.specs.Values.{UpValue}
use Rattle.item_streams.specs.Streams.{Item}
use Rattle.links.specs.Links.{LinkState}
use Rattle.session_core.specs.declared.known.Known.{Known}
use Rattle.session_core.specs.Knowing.{knows}
use Rattle.session_core.specs.Sessions.{SessionState, new_session}
use Rattle.shelf.specs.Shelf.{ShelfView}
use Rattle.trial_model.specs.declared.outcome.ServerEnd.{ServerEnd}
use Rattle.trial_model.specs.Connections.{up_to}
use Rattle.trial_wire.specs.Hearing.{HasTaken, Hears, Stands, items_in}

pub record WireState : Type 0 where
  pub known : Known
  -- how many bytes up, and how many down, the line lets through
  pub limit : Option ℕ
  pub most : Option ℕ
  -- what was sent up, and how much of it the session took
  pub up : List ℕ
  pub given : ℕ
  -- what the session wrote, and how much of it the device took
  pub down : List ℕ
  pub heard : ℕ
  pub shelf : ShelfView
  pub session : SessionState
  -- how the session ended, where it did
  pub ended : Option ServerEnd
  -- how often a write found no memory
  pub faults : ℕ

-- before the first byte
abbrev pub new_wire : ShelfView → Known → Option ℕ → Option ℕ → WireState
new_wire shelf known limit most = record { known = known; limit = limit; most = most; up = []; given = 0; down = []; heard = 0; shelf = shelf; session = new_session; ended = None; faults = 0 }

-- its end is where the device has taken all that was written, or all that the line lets through
abbrev pub link_state : WireState → LinkState
link_state w = record { told = Some record { taken = take w.heard w.down; written = w.up }; ended = nat_le (up_to w.most (length w.down)) w.heard; faults = w.faults }

-- The session takes at once what the line lets through. One that goes on has taken just that.
pub record IsWire (w : WireState) : Type 0 where
  pub given : w.given ≤ up_to w.limit (length w.up)
  pub all : IfNone w.ended (w.given ≡ up_to w.limit (length w.up))
  pub taken : IfNone w.ended (HasTaken (take w.given w.up) w.session)
  pub heard : w.heard ≤ up_to w.most (length w.down)

-- Where the session stands on a line on which these items were old, and the shelf was this.
abbrev pub IsLive : List (Item UpValue) → ShelfView → WireState → Type 0
IsLive old start w = Stands (knows w.known) old start (take w.given w.up) w.down w.shelf w.ended

-- What further calls of the wire do: bytes come after those that were told, and what is true of the session stays true.
pub record Follows (a b : WireState) : Type 0 where
  pub known : b.known ≡ a.known
  pub limit : b.limit ≡ a.limit
  pub most : b.most ≡ a.most
  pub sent : List ℕ
  pub up : b.up ≡ a.up ++ sent
  pub taken : List ℕ
  pub takes : take b.heard b.down ≡ take a.heard a.down ++ taken
  pub faults : a.faults ≤ b.faults
  pub keeps : (old : List (Item UpValue)) (start : ShelfView) → IsLive old start a → IsLive old start b

-- A session that had taken the bytes up to one place took those up to another, and all where it goes on.
pub record Passes (known : Known) (up : List ℕ) (given to : ℕ) (now : SessionState) (s t : ShelfView) (old_down new_down : List ℕ) (at : ℕ) (ended : Option ServerEnd) : Type 0 where
  pub after : given ≤ at
  pub within : at ≤ to
  pub all : IfNone ended (at ≡ to)
  pub wrote : List ℕ
  pub writes : new_down ≡ old_down ++ wrote
  pub taken : IfNone ended (HasTaken (take at up) now)
  pub stands : (old : List (Item UpValue)) (start : ShelfView) → Hears (knows known) old start (items_in (take given up)) old_down s → Stands (knows known) old start (take at up) new_down t ended

-- How a round goes, and how it ends.
use Rattle.std.specs.Prelude.{◌≡◌, ◌⊎◌, ℕ, ◌+◌, ◌<◌, ◌≤◌, true, false, List, [], ◌∷◌, ◌++◌, length, take, Option, Result, Ok, Err}
use Rattle.avl_values.specs.declared.errors.MediumFault.{MediumFault}
use Rattle.layout.specs.Bytes.{AreBytes}
use Rattle.layout.specs.Rows.{Verdict, short, fault}
use Rattle.item_streams.specs.Readers.{ReadsAs}
use Rattle.item_streams.specs.Streams.{Item, next_rows, reading_of, values, with_items}
use Rattle.links.specs.Links.{Moves, Traffic, WritesPart}
use Rattle.medium_model.specs.State.{Counted}
use Rattle.frame_layout.specs.DownRows.{down_rows}
use Rattle.frame_layout.specs.Items.{login_of}
use Rattle.frame_layout.specs.Readings.{down_reading}
use Rattle.frame_layout.specs.Values.{DownValue, answer, count, order}
use Rattle.flash_ring.specs.Entries.{held_of}
use Rattle.flash_ring.specs.Images.{MayClose}
use Rattle.flash_ring.specs.Ring.{EachHolds, IsDurable, RingView}
use Rattle.tracker_session.specs.Hearing.{IsWrong}
use Rattle.tracker_session.specs.Responses.{ShellMeaning}
use Rattle.tracker_session.specs.RoundStates.{AllFit, Fits, IsWaiting, Round, RoundState, after, counts, next, release_calls, slots_now, starts, text, writes}
use Rattle.tracker_session.specs.declared.heard.Got.TheVariants as got
use Rattle.tracker_session.specs.declared.round_end.RoundEnd.{RoundEnd}
use Rattle.tracker_session.specs.declared.round_end.RoundEnd.TheVariants as end

module _ {S : Type 0} (m : ShellMeaning S) (r : Round S) where
  -- The bytes are read as some items from which the round goes on, and a rest that is short; and for these items all that follows was
  -- written.
  pub record Advances (bytes have : List ℕ) (d : RoundState S) : Type 0 where
    pub items : List (Item DownValue)
    pub reading : down_reading false bytes ≡ record { items = items; rest = have }
    pub place : next_rows (down_rows false) (down_rows true) items ≡ down_rows d.accepted
    pub fits : AllFit m r (starts r) (values items)
    pub state : d ≡ after m r (starts r) (values items)

  -- what was written for the items so far
  abbrev pub written : {bytes have : List ℕ} → {d : RoundState S} → Advances bytes have d → List ℕ
  written a = text m r (starts r) (values a.items)

  -- What a round leaves: just the slots of the counted batches are closed, a power loss leaves them so, and each of their releases
  -- made its medium calls. Where no batch was counted the ring is as before.
  pub record Leaves (d : RoundState S) (old new : RingView) (t : S) : Type 0 where
    pub ring : new ≡ record old { medium = new.medium; slots = slots_now m r d }
    pub durable : IsDurable new
    pub counted : Counted (release_calls d) old.medium new.medium ⊥
    pub untouched : d.frames ≡ 0 → new ≡ old
    pub shell : t ≡ d.shell

  -- The medium failed as the outstanding batch was released. A power loss leaves any part of it closed.
  pub record FailsInside (d : RoundState S) (old new : RingView) (t : S) : Type 0 where
    pub ring : new ≡ record old { medium = new.medium; slots = slots_now m r d; down = true }
    pub images : EachHolds new (MayClose d.batch (slots_now m r d))
    pub counted : Counted (release_calls d + (length d.batch + 1)) old.medium new.medium (Unit {0})
    pub shell : t ≡ d.shell

  -- Where it stands where it ends at an item: with the batch that this item counted, also where the medium failed as it was released.
  abbrev pub stands_at : Result RoundEnd MediumFault → RoundState S → DownValue → RoundState S
  stands_at (Ok (end.Done n)) d item = next m r d item
  stands_at (Ok end.Empty) d item = d
  stands_at (Ok end.Refused) d item = d
  stands_at (Ok end.Broken) d item = next m r d item
  stands_at (Ok (end.WrongAnswer g)) d item = d
  stands_at (Ok end.TooManyCommands) d item = d
  stands_at (Err failed) d item = counts m r d

  -- It ends after its items, while it waits for another, and what was taken after them is judged so.
  pub record Rests (verdict : Verdict DownValue) (taken : List ℕ) (d : RoundState S) (old new : RingView) (t : S) (x y : Option Traffic) : Type 0 where
    pub items : List (Item DownValue)
    pub rest : List ℕ
    pub reading : ReadsAs down_rows false taken items rest verdict
    pub fits : AllFit m r (starts r) (values items)
    pub state : d ≡ after m r (starts r) (values items)
    pub waits : IsWaiting d
    pub leaves : Leaves d old new t
    pub wire : Moves taken (text m r (starts r) (values items)) x y

-- `rose` says that the link's count rose in the round: only then is something written in part.
module _ {S : Type 0} (m : ShellMeaning S) (r : Round S) (rose : Type 0) where
  -- The item at which it ends, by the end: what was heard, what is left, and what was written before and for it.
  abbrev pub StopsAt : Result RoundEnd MediumFault → RoundState S → DownValue → RingView → RingView → S → List ℕ → Type 0
  StopsAt (Ok end.Refused) d item old new t then_ = (item ≡ answer 0) × (d.accepted ≡ false) × Leaves m r d old new t × (then_ ≡ [])
  StopsAt (Ok (end.WrongAnswer g)) d item old new t then_ = IsWrong d.accepted d.batch g item × Leaves m r d old new t × (then_ ≡ [])
  StopsAt (Ok end.TooManyCommands) d item old new t then_ = ((body : List ℕ) × (item ≡ order body)) × (d.accepted ≡ true) × (16 ≤ d.orders) × Leaves m r d old new t × (then_ ≡ [])
  StopsAt (Ok end.Broken) d item old new t then_ = Fits m r d item × Leaves m r (next m r d item) old new t × ((n : ℕ) × (n < length (writes m r d item)) × (then_ ≡ take n (writes m r d item))) × rose
  StopsAt (Ok (end.Done n)) d item old new t then_ = Fits m r d item × Leaves m r (next m r d item) old new t × ((next m r d item).batch ≡ []) × (n ≡ length (next m r d item).closed)
      × (((next m r d item).left ≡ 0) ⊎ (held_of new.slots ≡ [])) × (then_ ≡ [])
  StopsAt (Ok end.Empty) d item old new t then_ = ⊥
  StopsAt (Err failed) d item old new t then_ = Fits m r d item × (item ≡ count (length d.batch)) × FailsInside m r d old new t × (then_ ≡ [])

  -- It ends at an item for which it waited: the bytes up to it are read as items from which the round goes on, and then it. The bytes
  -- that were taken in the same piece are read after it, and nothing follows from them.
  pub record Stops (end : Result RoundEnd MediumFault) (taken : List ℕ) (d : RoundState S) (old new : RingView) (t : S) (x y : Option Traffic) : Type 0 where
    pub heard : List ℕ
    pub back : List ℕ
    pub split : taken ≡ heard ++ back
    pub items : List (Item DownValue)
    pub last : Item DownValue
    pub reading : down_reading false heard ≡ record { items = items ++ last ∷ []; rest = [] }
    pub reads_on : down_reading false taken ≡ with_items (items ++ last ∷ []) (reading_of (down_rows true) (down_rows true) (length heard) back)
    pub fits : AllFit m r (starts r) (values items)
    pub waits : IsWaiting (after m r (starts r) (values items))
    pub state : d ≡ stands_at m r end (after m r (starts r) (values items)) last.value
    pub then_ : List ℕ
    pub stops : StopsAt end (after m r (starts r) (values items)) last.value old new t then_
    pub wire : Moves taken (text m r (starts r) (values items) ++ then_) x y

  -- how a round ends, by the bytes taken, and where it stands then
  abbrev pub Ends : Result RoundEnd MediumFault → List ℕ → RoundState S → RingView → RingView → S → Option Traffic → Option Traffic → Type 0
  Ends (Ok end.Broken) taken d old new t x y = Rests m r short taken d old new t x y ⊎ Stops (Ok end.Broken) taken d old new t x y
  Ends (Ok (end.WrongAnswer (got.Frame found))) taken d old new t x y = Rests m r (fault found.kind found.place) taken d old new t x y
  Ends e taken d old new t x y = Stops e taken d old new t x y

  -- One connection: nothing where no slot was open; else the login, or a part of it where the link failed, and then what follows from
  -- the bytes taken. At its end it stands here.
  pub data IsRound (d : RoundState S) (old new : RingView) (t : S) (x y : Option Traffic) : Result RoundEnd MediumFault → Type 0 where
    empty : held_of old.slots ≡ [] → d ≡ starts r → new ≡ old → t ≡ r.shell → y ≡ x → IsRound d old new t x y (Ok end.Empty)
    cut : d ≡ starts r → new ≡ old → t ≡ r.shell → WritesPart (login_of r.imei) x y → rose → IsRound d old new t x y (Ok end.Broken)
    talked : (result : Result RoundEnd MediumFault) (taken : List ℕ) (z : Option Traffic) → Moves [] (login_of r.imei) x z → AreBytes taken → Ends result taken d old new t z y → IsRound d old new t x y result

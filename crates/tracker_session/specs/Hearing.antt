-- What a tracker does with a piece of the stream down.
use Rattle.std.specs.Prelude.{◌≡◌, ◌≢◌, ◌⊎◌, ℕ, ◌+◌, ◌<◌, ◌≤◌, Bool, true, false, List, [], ◌++◌, length, take}
use Rattle.layout.specs.Rows.{whole, short, fault}
use Rattle.medium_model.specs.State.{Counted}
use Rattle.frame_layout.specs.DownRows.{down_verdict}
use Rattle.frame_layout.specs.Values.{DownValue, answer, count, order}
use Rattle.flash_ring.specs.Held.{closed_all}
use Rattle.flash_ring.specs.Images.{MayClose, reached}
use Rattle.flash_ring.specs.Ring.{EachHolds, IsDurable, RingView}
use Rattle.tracker_session.specs.Responses.{ShellMeaning, answer_frame, shell_after}
use Rattle.tracker_session.specs.Trackers.{TrackerView, silent}
use Rattle.tracker_session.specs.declared.heard.Got.{Got}
use Rattle.tracker_session.specs.declared.heard.Got.TheVariants as got
use Rattle.tracker_session.specs.declared.heard.Heard.{Heard}
use Rattle.tracker_session.specs.declared.heard.Heard.TheVariants as heard
use Rattle.tracker_session.specs.declared.heard.Hearing.{Hearing}
use Rattle.tracker_session.specs.declared.heard.Hearing.TheVariants as hearing

-- The batch's slots were closed, and a power loss leaves them so.
pub record Releases (batch : List ℕ) (old new : RingView) : Type 0 where
  pub is : new ≡ record old { medium = new.medium; slots = closed_all batch old.slots }
  pub durable : IsDurable new
  pub counted : Counted (length batch + 1) old.medium new.medium ⊥

-- The medium failed. A power loss leaves the slots before, less any of those whose gates had been written.
pub record FailsToRelease (batch : List ℕ) (old new : RingView) : Type 0 where
  pub is : new ≡ record old { medium = new.medium; down = true }
  pub images : EachHolds new (MayClose (reached old.medium.left batch) old.slots)
  pub counted : Counted (length batch + 1) old.medium new.medium (Unit {0})

-- an item that isn't what the tracker waits for, and how it is told
abbrev pub IsWrong : Bool → List ℕ → Got → DownValue → Type 0
IsWrong answered batch (got.Login b) item = (item ≡ answer b) × (answered ≡ false) × (b ≢ 0) × (b ≢ 1)
IsWrong answered batch (got.Count k) item = (item ≡ count k) × (answered ≡ true) × ((batch ≡ []) ⊎ (k ≢ length batch))
IsWrong answered batch (got.Frame found) item = ⊥

-- What an item does: to the tracker, to the shell, and to the buffer of what is to be sent.
abbrev pub Follows : {S : Type 0} → ShellMeaning S → Heard → DownValue → TrackerView → TrackerView → S → S → List ℕ → Type 0
Follows m heard.More item v w s t out = ⊥
Follows m heard.Accepted item v w s t out = (item ≡ answer 1) × (v.answered ≡ false) × (w ≡ record v { answered = true; have = [] }) × (t ≡ s) × (out ≡ [])
Follows m heard.Refused item v w s t out = (item ≡ answer 0) × (v.answered ≡ false) × (w ≡ silent v) × (t ≡ s) × (out ≡ [])
Follows m (heard.Released k) item v w s t out = (item ≡ count (length v.batch)) × (v.answered ≡ true) × (0 < length v.batch) × (k ≡ length v.batch)
    × (w ≡ record v { ring = w.ring; batch = []; have = [] }) × Releases v.batch v.ring w.ring × (t ≡ s) × (out ≡ [])
Follows m heard.Answer item v w s t out = (body : List ℕ) × (item ≡ order body) × (v.answered ≡ true) × (w ≡ record v { have = [] }) × (t ≡ shell_after m v.imei s body) × (out ≡ answer_frame m v.imei s body)
Follows m (heard.Wrong g) item v w s t out = IsWrong v.answered v.batch g item × (w ≡ silent v) × (t ≡ s) × (out ≡ [])
Follows m heard.MediumFault item v w s t out = (item ≡ count (length v.batch)) × (v.answered ≡ true) × (0 < length v.batch)
    × (w ≡ silent (record v { ring = w.ring })) × FailsToRelease v.batch v.ring w.ring × (t ≡ s) × (out ≡ [])

-- By the verdict on the bytes that it has: too few, an item and what it does, or a fault.
abbrev pub Steps : {S : Type 0} → ShellMeaning S → Heard → List ℕ → TrackerView → TrackerView → S → S → List ℕ → Type 0
Steps m heard.More all v w s t out = (down_verdict v.answered all ≡ short) × (w ≡ record v { have = all }) × (t ≡ s) × (out ≡ [])
Steps m (heard.Wrong (got.Frame found)) all v w s t out = (down_verdict v.answered all ≡ fault found.kind found.place) × (w ≡ silent v) × (t ≡ s) × (out ≡ [])
Steps m h all v w s t out = (item : DownValue) × (down_verdict v.answered all ≡ whole item (length all)) × Follows m h item v w s t out

-- At most one item was heard, of the bytes that it had and the first n of the piece, and what follows from it is done.
pub record Hears {S : Type 0} (m : ShellMeaning S) (v w : TrackerView) (piece : List ℕ) (n : ℕ) (h : Heard) (s t : S) (out : List ℕ) : Type 0 where
  pub within_piece : n ≤ length piece
  pub some : 0 < length piece → 0 < n
  pub steps : Steps m h (v.have ++ take n piece) v w s t out

-- the login's answer, where its byte was taken and nothing is outstanding
abbrev pub HearsAnswer : Heard → ℕ → TrackerView → TrackerView → Type 0
HearsAnswer heard.Accepted byte v w = (byte ≡ 1) × (w ≡ v)
HearsAnswer heard.Refused byte v w = (byte ≡ 0) × (w ≡ silent v)
HearsAnswer (heard.Wrong (got.Login b)) byte v w = (b ≡ byte) × (byte ≢ 0) × (byte ≢ 1) × (w ≡ silent v)
HearsAnswer h byte v w = ⊥

-- a count, where its bytes were taken
abbrev pub HearsCount : Heard → ℕ → TrackerView → TrackerView → Type 0
HearsCount (heard.Released k) n v w = (n ≡ length v.batch) × (0 < length v.batch) × (k ≡ n) × (w ≡ record v { ring = w.ring; batch = [] }) × Releases v.batch v.ring w.ring
HearsCount (heard.Wrong (got.Count k)) n v w = (k ≡ n) × ((v.batch ≡ []) ⊎ (n ≢ length v.batch)) × (w ≡ silent v)
HearsCount heard.MediumFault n v w = (n ≡ length v.batch) × (0 < length v.batch) × (w ≡ silent (record v { ring = w.ring })) × FailsToRelease v.batch v.ring w.ring
HearsCount h n v w = ⊥

-- a command that wasn't to be obeyed
pub record HearsUnobeyed (v w : TrackerView) (piece : List ℕ) (n : ℕ) : Type 0 where
  pub within_piece : n ≤ length piece
  pub body : List ℕ
  pub verdict : down_verdict v.answered (v.have ++ take n piece) ≡ whole (order body) (length (v.have ++ take n piece))
  pub answered : v.answered ≡ true
  pub is : w ≡ silent v

-- the same, where commands may be obeyed or not
abbrev pub HearsSome : {S : Type 0} → ShellMeaning S → Bool → TrackerView → TrackerView → List ℕ → ℕ → Hearing → S → S → List ℕ → Type 0
HearsSome m obeys v w piece n (hearing.Done h) s t out = Hears m v w piece n h s t out × (h ≡ heard.Answer → obeys ≡ true)
HearsSome m obeys v w piece n hearing.Unobeyed s t out = HearsUnobeyed v w piece n × (t ≡ s) × (obeys ≡ false)

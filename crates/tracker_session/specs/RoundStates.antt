-- What a device says to the items of a stream down (this project's own; items, frames and counts are those of Teltonika, Data Sending
-- Protocols). It has one batch outstanding at a time, sends the next one after the login was accepted and after each count, and
-- answers each command.
use Rattle.std.specs.Prelude.{◌≡◌, ℕ, ◌+◌, ◌-◌, ◌<◌, Bool, true, false, List, [], ◌∷◌, ◌++◌, length, Option}
use Rattle.avl_values.specs.declared.order.Order.{Order}
use Rattle.frame_layout.specs.Values.{DownValue, answer, count, order}
use Rattle.flash_ring.specs.Held.{Held, closed_all}
use Rattle.tracker_session.specs.Batches.{frame_in}
use Rattle.tracker_session.specs.Responses.{ShellMeaning, answer_frame, shell_after}
use Rattle.tracker_session.specs.Trackers.{TrackerView}
use Rattle.tracker_session.specs.Turns.{batch_now}
use Rattle.tracker_session.specs.declared.round.Progress.{Progress}

-- A round as it begins: the device, in which order it sends, what its slots hold, how many batches it may send, and its shell.
pub record Round (S : Type 0) : Type 0 where
  pub imei : ℕ
  pub sends : Order
  pub slots : List (Option Held)
  pub most : ℕ
  pub shell : S

-- Where it stands: whether the login was accepted, the slots of the outstanding batch, how many batches may still be sent, how many
-- commands were obeyed, how many batches were counted, their slots in order, and the shell.
pub record RoundState (S : Type 0) : Type 0 where
  pub accepted : Bool
  pub batch : List ℕ
  pub left : ℕ
  pub orders : ℕ
  pub frames : ℕ
  pub closed : List ℕ
  pub shell : S

-- before the login's answer
abbrev pub starts : {S : Type 0} → Round S → RoundState S
starts r = record { accepted = false; batch = []; left = r.most; orders = 0; frames = 0; closed = []; shell = r.shell }

abbrev pub one_less : List ℕ → ℕ → ℕ
one_less [] n = n
one_less (k ∷ ks) n = n - 1

module _ {S : Type 0} (m : ShellMeaning S) (r : Round S) where
  -- the slots now: those of the batches that were counted are closed
  abbrev pub slots_now : RoundState S → List (Option Held)
  slots_now d = closed_all d.closed r.slots

  -- the next batch
  abbrev pub next_batch : RoundState S → List ℕ
  next_batch d = batch_now d.left r.sends (slots_now d)

  -- the login was accepted
  abbrev pub accepts : RoundState S → RoundState S
  accepts d = record d { accepted = true }

  -- the batch was counted
  abbrev pub counts : RoundState S → RoundState S
  counts d = record d { batch = []; frames = d.frames + 1; closed = d.closed ++ d.batch }

  -- the next batch is outstanding
  abbrev pub sends : RoundState S → RoundState S
  sends d = record d { batch = next_batch d; left = one_less (next_batch d) d.left }

  -- what is written for an item
  abbrev pub writes : RoundState S → DownValue → List ℕ
  writes d (answer b) = frame_in (slots_now (accepts d)) (next_batch (accepts d))
  writes d (count n) = frame_in (slots_now (counts d)) (next_batch (counts d))
  writes d (order body) = answer_frame m r.imei d.shell body

  -- how the round goes on after it
  abbrev pub next : RoundState S → DownValue → RoundState S
  next d (answer b) = sends (accepts d)
  next d (count n) = sends (counts d)
  next d (order body) = record d { orders = d.orders + 1; shell = shell_after m r.imei d.shell body }

  -- An item from which it goes on: the login's answer `01`, the outstanding batch's own count, or one of the first 16 commands.
  abbrev pub Fits : RoundState S → DownValue → Type 0
  Fits d (answer b) = (d.accepted ≡ false) × (b ≡ 1)
  Fits d (count n) = (d.accepted ≡ true) × (0 < length d.batch) × (n ≡ length d.batch)
  Fits d (order body) = (d.accepted ≡ true) × (d.orders < 16)

  -- of items one after the other: what is written for them, how the round goes on after them, and that it goes on from each

  abbrev pub text : RoundState S → List DownValue → List ℕ
  text d [] = []
  text d (v ∷ vs) = writes d v ++ text (next d v) vs

  abbrev pub after : RoundState S → List DownValue → RoundState S
  after d [] = d
  after d (v ∷ vs) = after (next d v) vs

  abbrev pub AllFit : RoundState S → List DownValue → Type 0
  AllFit d [] = Unit {0}
  AllFit d (v ∷ vs) = Fits d v × AllFit (next d v) vs

-- once the login was accepted a batch is outstanding
abbrev pub IsWaiting : {S : Type 0} → RoundState S → Type 0
IsWaiting d = d.accepted ≡ true → 0 < length d.batch

-- the medium calls for the batches that were counted: one for each slot, and one for each batch
abbrev pub release_calls : {S : Type 0} → RoundState S → ℕ
release_calls d = d.frames + length d.closed

-- the round of a tracker that may send N batches
abbrev pub round_by : {S : Type 0} → TrackerView → ℕ → S → Round S
round_by v most s = record { imei = v.imei; sends = v.order; slots = v.ring.slots; most = most; shell = s }

-- the round that a tracker begins
abbrev pub round_of : {S : Type 0} → TrackerView → Progress → S → Round S
round_of v p s = record { imei = v.imei; sends = v.order; slots = v.ring.slots; most = p.left; shell = s }

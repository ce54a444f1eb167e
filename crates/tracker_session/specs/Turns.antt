-- What a round does with what the tracker heard, one item at a time.
use Rattle.std.specs.Prelude.{◌≡◌, ◌⊎◌, ℕ, ◌+◌, ◌-◌, ◌*◌, ◌<◌, ◌≤◌, ◌^◌, ◌==◌, nat_lt, true, false, List, [], length, Option, Some, None, IfSome, Result, Ok, Err, if◌then◌else◌}
use Rattle.avl_values.specs.Causes.{Rose}
use Rattle.links.specs.Links.{LinkState, Moves, Traffic, WritesPart}
use Rattle.flash_ring.specs.Entries.{held_of}
use Rattle.flash_ring.specs.Held.{Held}
use Rattle.flash_ring.specs.Ring.{IsDurable}
use Rattle.avl_values.specs.declared.order.Order.{Order}
use Rattle.avl_values.specs.declared.errors.MediumFault.{MediumFault}
use Rattle.tracker_session.specs.Batches.{frame_in, next_slots}
use Rattle.tracker_session.specs.Hearing.{HearsSome}
use Rattle.tracker_session.specs.Responses.{ShellMeaning}
use Rattle.tracker_session.specs.Trackers.{IsTracker, TrackerView}
use Rattle.tracker_session.specs.declared.heard.Heard.{Heard}
use Rattle.tracker_session.specs.declared.heard.Heard.TheVariants as heard
use Rattle.tracker_session.specs.declared.heard.Hearing.{Hearing}
use Rattle.tracker_session.specs.declared.heard.Hearing.TheVariants as hearing
use Rattle.tracker_session.specs.declared.round.Progress.{Progress}
use Rattle.tracker_session.specs.declared.round_end.RoundEnd.{RoundEnd}
use Rattle.tracker_session.specs.declared.round_end.RoundEnd.TheVariants as end

-- the batch that may be sent now
abbrev pub batch_now : ℕ → Order → List (Option Held) → List ℕ
batch_now left order slots = if left == 0 then [] else next_slots order slots

-- how a turn ended the round, if it did
abbrev pub Ending : Type 0
Ending = Option (Result RoundEnd MediumFault)

-- How a batch went out: whole, or in part where the link failed; or there was none to send.
abbrev pub SendsBatch : Ending → TrackerView → TrackerView → Progress → Progress → Option Traffic → Option Traffic → Type 0
SendsBatch None v w p q x y = (0 < length (batch_now p.left v.order v.ring.slots)) × (w ≡ record v { batch = batch_now p.left v.order v.ring.slots }) × (p.left ≡ q.left + 1) × (q.orders ≡ p.orders) × (q.done ≡ p.done)
    × Moves [] (frame_in v.ring.slots (batch_now p.left v.order v.ring.slots)) x y
SendsBatch (Some (Ok (end.Done n))) v w p q x y = (batch_now p.left v.order v.ring.slots ≡ []) × (w ≡ v) × (q ≡ p) × (y ≡ x) × (n ≡ p.done) × ((p.left ≡ 0) ⊎ (held_of v.ring.slots ≡ []))
SendsBatch (Some (Ok end.Broken)) v w p q x y = (0 < length (batch_now p.left v.order v.ring.slots)) × (w ≡ record v { batch = batch_now p.left v.order v.ring.slots }) × WritesPart (frame_in v.ring.slots (batch_now p.left v.order v.ring.slots)) x y
SendsBatch (Some e) v w p q x y = ⊥

-- how the answer to a command went out
abbrev pub SendsAnswer : Ending → List ℕ → Progress → Progress → Option Traffic → Option Traffic → Type 0
SendsAnswer None bytes p q x y = (q ≡ record p { orders = p.orders + 1 }) × Moves [] bytes x y
SendsAnswer (Some (Ok end.Broken)) bytes p q x y = (q ≡ record p { orders = p.orders + 1 }) × WritesPart bytes x y
SendsAnswer (Some e) bytes p q x y = ⊥

-- a round ends as broken only where the link's count rose, and always where a call of it failed
pub record IsBroken (result : Ending) (old new : LinkState) : Type 0 where
  pub later : old.faults ≤ new.faults
  pub passed : (result ≡ Some (Ok end.Broken) → ⊥) → new.faults ≡ old.faults
  pub cause : result ≡ Some (Ok end.Broken) → Rose old.faults new.faults

-- a tracker after which nothing has changed, and what is left of the round and told of the link is as before
pub record IsQuiet (v w : TrackerView) (p q : Progress) (x y : Option Traffic) : Type 0 where
  pub view : w ≡ v
  pub progress : q ≡ p
  pub told : y ≡ x

-- What is done with what was heard: a batch is sent after the login was accepted and after each that was counted, and the answer to a
-- command that was obeyed. All else ends the round, but for too few bytes.
abbrev pub Reacts : Hearing → Ending → TrackerView → TrackerView → List ℕ → Progress → Progress → Option Traffic → Option Traffic → Type 0
Reacts (hearing.Done heard.More) None v w out p q x y = IsQuiet v w p q x y
Reacts (hearing.Done heard.Accepted) result v w out p q x y = SendsBatch result v w p q x y
Reacts (hearing.Done heard.Refused) (Some (Ok end.Refused)) v w out p q x y = IsQuiet v w p q x y
Reacts (hearing.Done (heard.Released k)) result v w out p q x y = SendsBatch result v w (record p { done = p.done + k }) q x y
Reacts (hearing.Done heard.Answer) result v w out p q x y = SendsAnswer result out p q x y × (w ≡ v)
Reacts (hearing.Done (heard.Wrong g)) (Some (Ok (end.WrongAnswer got))) v w out p q x y = IsQuiet v w p q x y × (got ≡ g)
Reacts (hearing.Done heard.MediumFault) (Some (Err fault)) v w out p q x y = IsQuiet v w p q x y
Reacts hearing.Unobeyed (Some (Ok end.TooManyCommands)) v w out p q x y = IsQuiet v w p q x y
Reacts h result v w out p q x y = ⊥

-- what a reaction needs
abbrev pub CanReact : Heard → TrackerView → Progress → Type 0
CanReact heard.Accepted v p = (v.talking ≡ true) × (v.answered ≡ true) × (v.batch ≡ [])
CanReact (heard.Released k) v p = (v.talking ≡ true) × (v.answered ≡ true) × (v.batch ≡ []) × (p.done + k < 2 ^ 32)
CanReact heard.Answer v p = p.orders < 16
CanReact h v p = Unit {0}

-- At most one item was heard, and what follows from it was done.
pub record Takes {S : Type 0} (m : ShellMeaning S) (result : Ending) (v w : TrackerView) (piece : List ℕ) (n : ℕ) (s t : S) (p q : Progress) (x y : Option Traffic) : Type 0 where
  pub hearing : Hearing
  pub heard : TrackerView
  pub out : List ℕ
  pub hears : HearsSome m (nat_lt p.orders 16) v heard piece n hearing s t out
  pub reacts : Reacts hearing result heard w out p q x y

-- a tracker that waits for an answer
pub record IsReady (v : TrackerView) : Type 0 where
  pub talking : v.talking ≡ true
  pub batch : v.answered ≡ true → 0 < length v.batch
  pub known : IsTracker v
  pub durable : IsDurable v.ring

-- what is left to hear: each item takes a batch or a command from it, and each byte of an unfinished item one
abbrev pub budget : TrackerView → Progress → ℕ
budget v p = 1300 * (p.left + (16 - p.orders)) + (1299 - length v.have)

-- the records that were counted, and those that are held
abbrev pub records_left : TrackerView → Progress → ℕ
records_left v p = p.done + length (held_of v.ring.slots)

pub record Lessens (v w : TrackerView) (p q : Progress) : Type 0 where
  pub budget : budget w q < budget v p
  pub orders : q.orders ≤ 16
  pub records : records_left w q ≡ records_left v p

-- where a talk has just begun
pub record Begins (v : TrackerView) (p : Progress) : Type 0 where
  pub answered : v.answered ≡ false
  pub batch : v.batch ≡ []
  pub have : v.have ≡ []
  pub orders : p.orders ≡ 0
  pub done : p.done ≡ 0

-- a round ends as broken only at the link's end, where its bytes are told, or where its count rose; and always where a call of it failed
pub record BreaksWith (result : Result RoundEnd MediumFault) (old new : LinkState) : Type 0 where
  pub later : old.faults ≤ new.faults
  pub passed : (result ≡ Ok end.Broken → ⊥) → new.faults ≡ old.faults
  pub cause : result ≡ Ok end.Broken → IfSome new.told (λ _. new.ended ≡ true) ⊎ Rose old.faults new.faults

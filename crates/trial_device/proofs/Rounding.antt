-- A `round` or `drain` line keeps its device's side sound.
use Rattle.std.proofs.Common.{◌≡◌, ◌⊎◌, inl, inr, ℕ, ◌+◌, ◌≤◌, ◌<◌, Bool, true, false, List, [], ◌++◌, length, Option, Some, None, Ok, Err, IsErr, Result, refl, sym, ap, ◌∙◌, subst, arith}
use Rattle.std.proofs.lemmas.Bool.{false≢true}
use Rattle.std.proofs.lemmas.List.Elements.{Contains-append_left, Contains-append_right}
use Rattle.acquisition.specs.Watching.{Watching}
use Rattle.avl_values.specs.Record.{Record}
use Rattle.avl_values.specs.declared.errors.MediumFault.{MediumFault}
use Rattle.flash_ring.specs.Entries.{held_of}
use Rattle.flash_ring.specs.Held.{Held}
use Rattle.avl_values.specs.declared.order.Order.TheVariants.{Oldest}
use Rattle.flash_ring.specs.Ring.{EachHolds, RingView}
use Rattle.flash_ring.proofs.Entries.{count_most, held_count}
use Rattle.medium_model.specs.CallsLeft.{Passes, less, unlimited}
use Rattle.tracker_session.specs.RingRounds.{IsReleased, IsRingEnd, RoundsRing}
use Rattle.tracker_session.specs.declared.round_end.RoundEnd.{RoundEnd}
use Rattle.tracker_session.specs.declared.round_end.RoundEnd.TheVariants as end
use Rattle.trial_model.specs.Decisions.{DeviceHistory, after_connection, unless_covered}
use Rattle.trial_model.specs.Load.{load_by}
use Rattle.trial_model.specs.declared.outcome.DeviceEnd.{DeviceEnd}
use Rattle.trial_model.specs.declared.outcome.DeviceEnd.TheVariants as End
use Rattle.trial_device.specs.Midway.{AreListsRight}
use Rattle.trial_device.specs.SideLines.{HasDrained, RoundsSide, armed_ring, end_of}
use Rattle.trial_device.specs.Sides.{AreHeldRight, IsElsewhere, IsSideSound, Side}
use Rattle.trial_device.proofs.Holding.{right-released}
use Rattle.trial_device.proofs.Images.{durable-each, each-weaker}
use Rattle.trial_device.proofs.Parts.{part-length}
use Rattle.trial_device.proofs.Powering.{ends-sound, history}

-- no connection raises the load
load-low : (drains : Bool) (e : DeviceEnd) (load : ℕ) → load_by drains (Some e) load ≤ load
load-low false (End.Done n) load = omega arith
load-low false End.Empty load = omega arith
load-low false End.Refused load = omega arith
load-low false End.Broken load = omega arith
load-low false (End.WrongAnswer got) load = omega arith
load-low false End.TooManyCommands load = omega arith
load-low false End.MediumFault load = omega arith
load-low true (End.Done n) load = omega arith
load-low true End.Empty load = omega arith
load-low true End.Refused load = omega arith
load-low true End.Broken load = omega arith
load-low true (End.WrongAnswer got) load = omega arith
load-low true End.TooManyCommands load = omega arith
load-low true End.MediumFault load = omega arith

-- a medium fault leaves it
load-fault : (drains : Bool) (result : Result RoundEnd MediumFault) (load : ℕ) → IsErr result → load ≤ load_by drains (Some (end_of result)) load
load-fault drains (Ok e) load fails = absurd (false≢true fails)
load-fault false (Err fault) load fails = omega arith
load-fault true (Err fault) load fails = omega arith

-- what is held at the end of a round fits the load after it
load-fits : (drains : Bool) (result : Result RoundEnd MediumFault) (load : ℕ) (v w : RingView) → IsRingEnd result v w → HasDrained drains (end_of result) w → length (held_of w.slots) ≤ length (held_of v.slots)
    → length (held_of v.slots) ≤ load → length (held_of w.slots) ≤ load_by drains (Some (end_of result)) load
load-fits false (Ok (end.Done n)) load v w ends drained less few = let is = ends in omega arith
load-fits false (Ok end.Empty) load v w ends drained less few = let none = ap length ends in omega arith
load-fits false (Ok end.Refused) load v w ends drained less few = omega arith
load-fits false (Ok end.Broken) load v w ends drained less few = omega arith
load-fits false (Ok (end.WrongAnswer got)) load v w ends drained less few = omega arith
load-fits false (Ok end.TooManyCommands) load v w ends drained less few = omega arith
load-fits false (Err fault) load v w ends drained less few = omega arith
load-fits true (Ok (end.Done n)) load v w ends drained less few = let none = ap length drained in omega arith
load-fits true (Ok end.Empty) load v w ends drained less few = let none = ap length ends in omega arith
load-fits true (Ok end.Refused) load v w ends drained less few = omega arith
load-fits true (Ok end.Broken) load v w ends drained less few = omega arith
load-fits true (Ok (end.WrongAnswer got)) load v w ends drained less few = omega arith
load-fits true (Ok end.TooManyCommands) load v w ends drained less few = omega arith
load-fits true (Err fault) load v w ends drained less few = omega arith

-- arming changes only the calls left
armed-slots : (fuse : Option ℕ) (v : RingView) → (armed_ring fuse v).slots ≡ v.slots
armed-slots None v = refl
armed-slots (Some k) v = refl

armed-next : (fuse : Option ℕ) (v : RingView) → (armed_ring fuse v).next ≡ v.next
armed-next None v = refl
armed-next (Some k) v = refl

armed-left : (fuse : Option ℕ) (v : RingView) → v.medium.left ≡ unlimited → fuse ≡ None → (armed_ring fuse v).medium.left ≡ unlimited
armed-left fuse v idle none = ap (λ (f : Option ℕ). (armed_ring f v).medium.left) none ∙ idle

up-if-not : (b : Bool) → (b ≡ true → ⊥) → b ≡ false
up-if-not true never = absurd (never refl)
up-if-not false never = refl

module _ (drains : Bool) (result : Result RoundEnd MediumFault) (frames : ℕ) (heard released : List Record) (h : DeviceHistory) (d e : Side) (s : IsSideSound heard h d) (r : RoundsSide drains result frames released d e) where
  abbrev load : ℕ
  load = load_by drains (Some (end_of result)) h.load

  abbrev v : RingView
  v = armed_ring d.fuse d.ring

  abbrev rounded : Side
  rounded = record d { ring = r.between }

  -- what was heard is elsewhere
  right-left : (left : List (Option Held)) → length (held_of left) ≤ load → IsReleased released v.slots left → AreHeldRight h.decisions load (IsElsewhere (heard ++ released) rounded) left
  right-left left few is =
      let right : AreHeldRight h.decisions h.load (IsElsewhere heard d) v.slots = subst (AreHeldRight h.decisions h.load (IsElsewhere heard d)) (sym (armed-slots d.fuse d.ring)) s.held in
      let so : (x : Record) → IsElsewhere heard d x → IsElsewhere (heard ++ released) rounded x = λ x gone. elim gone as (λ _. IsElsewhere (heard ++ released) rounded x) [
        | inl there ↦ inl (Contains-append_left heard released x there)
        | inr rest ↦ inr rest
      ] in
      right-released h.decisions h.load load (IsElsewhere heard d) (IsElsewhere (heard ++ released) rounded) released v.slots left right so (λ x gone. inl (Contains-append_right heard released x gone)) few is

  few-before : length (held_of v.slots) ≤ h.load
  few-before = subst (λ slots. length (held_of slots) ≤ h.load) (sym (armed-slots d.fuse d.ring)) s.held.few

  right-now : AreHeldRight h.decisions load (IsElsewhere (heard ++ released) rounded) r.between.slots
  right-now = right-left r.between.slots (load-fits drains result h.load v r.between r.ring.ends r.drained (part-length (held_of r.between.slots) (held_of v.slots) r.ring.slots.part) few-before) r.ring.slots

  images-now : (down : Bool) → r.between.down ≡ down → EachHolds r.between (AreHeldRight h.decisions load (IsElsewhere (heard ++ released) rounded))
  images-now false up = durable-each r.between (AreHeldRight h.decisions load (IsElsewhere (heard ++ released) rounded)) (r.ring.durable up) right-now
  images-now true down =
      let kept = load-fault drains result h.load (r.ring.down.1 down) in
      let before = few-before in
      each-weaker r.between (IsReleased released v.slots) (AreHeldRight h.decisions load (IsElsewhere (heard ++ released) rounded))
      (λ left is. right-left left (let less = part-length (held_of left) (held_of v.slots) is.part in omega arith) is) r.ring.images

  lists-now : AreListsRight (heard ++ released) h.decisions load rounded
  lists-now = record {
    acquired = s.acquired;
    some = s.some;
    slots = r.ring.size ∙ ap length (armed-slots d.fuse d.ring) ∙ s.slots;
    most = (let low = load-low drains (end_of result) h.load in let most = s.most in omega arith);
    images = images-now r.between.down refl;
    held = λ up. right-now;
    durable = r.ring.durable;
    next = λ up. (let same = r.ring.next ∙ armed-next d.fuse d.ring in let next = s.next in omega arith);
    cut_once = s.cut_once;
    overwritten_once = s.overwritten_once;
    cut_wherever = s.cut_wherever;
    cut_only = s.cut_only;
    overwritten = s.overwritten;
  }

  idle-now : d.fuse ≡ None → (r.between.down ≡ false) × (r.between.medium.left ≡ unlimited)
  idle-now none =
      let left = armed-left d.fuse d.ring s.idle none in
      let n = frames + length released in
      (up-if-not r.between.down (r.ring.counted.passes (subst (Passes n) (sym left) tt)), r.ring.counted.left ∙ ap (less n) left)

  -- A `round` or `drain` line of the device, in which these records were heard.
  pub side-rounded : (e.device ≡ d.device) × IsSideSound (heard ++ released) (after_connection drains (Some (end_of result)) h) e
  side-rounded =
      let ends = ends-sound (heard ++ released) h.decisions load d.fuse rounded e lists-now idle-now r.ends in
      let G : Option ℕ → Watching → DeviceHistory = λ fuse watching. history h.decisions load (unless_covered fuse watching) in
      let path = ap (λ w. G d.fuse w) s.watching ∙ ap (λ fuse. G fuse h.watching) s.fuse in
      (ends.0, subst (λ g. IsSideSound (heard ++ released) g e) path ends.1)

held-few : (slots : List (Option Held)) → length (held_of slots) ≤ length slots
held-few slots = let most = count_most Oldest 0 slots in omega (arith, held_count slots)

-- With more batches than slots, a round that ended Done has emptied the ring.
pub drained-by : (result : Result RoundEnd MediumFault) (most frames : ℕ) (released : List Record) (v w : RingView) → RoundsRing result frames released v w → length v.slots < most
    → ((n : ℕ) → result ≡ Ok (end.Done n) → (most ≤ n) ⊎ (held_of w.slots ≡ [])) → HasDrained true (end_of result) w
drained-by (Ok (end.Done n)) most frames released v w ring few drained = elim (drained n refl) as (λ _. held_of w.slots ≡ []) [
  | inl over ↦ absurd (let left = ring.ends in let all = held-few v.slots in omega arith)
  | inr gone ↦ gone
]
drained-by (Ok end.Empty) most frames released v w ring few drained = tt
drained-by (Ok end.Refused) most frames released v w ring few drained = tt
drained-by (Ok end.Broken) most frames released v w ring few drained = tt
drained-by (Ok (end.WrongAnswer got)) most frames released v w ring few drained = tt
drained-by (Ok end.TooManyCommands) most frames released v w ring few drained = tt
drained-by (Err failed) most frames released v w ring few drained = tt

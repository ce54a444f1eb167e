-- A device's side as a trial begins.
use Rattle.std.proofs.Common.{◌≡◌, ◌⊎◌, ℕ, zero, suc, ◌+◌, ◌*◌, ◌<◌, List, [], ◌∷◌, length, get_or, replicate, Option, Some, None, IsSome, refl, sym, ap, ◌∙◌, subst, arith, map}
use Rattle.std.specs.List.{Contains}
use Rattle.std.proofs.lemmas.Bool.{false≢true}
use Rattle.std.proofs.lemmas.List.{length-replicate}
use Rattle.std.proofs.lemmas.List.Elements.{All-nil}
use Rattle.acquisition.specs.Watching.{powered_up}
use Rattle.avl_values.specs.Record.{Record}
use Rattle.avl_values.specs.declared.order.Order.TheVariants.{Oldest}
use Rattle.medium_model.specs.Content.{Content, settled}
use Rattle.medium_model.specs.State.{IfTold}
use Rattle.flash_ring.specs.Entries.{entries_from, held_of, rec_of}
use Rattle.flash_ring.specs.Held.{Held, IsPart, next_of}
use Rattle.flash_ring.specs.Refusal.{RefusesOpen}
use Rattle.flash_ring.specs.declared.load.OpenFault.{OpenFault}
use Rattle.flash_ring.specs.declared.load.OpenFault.TheVariants as Open
use Rattle.flash_ring.specs.Slot.{IsFirstUnsound, slot_bytes, slots_of}
use Rattle.flash_ring.proofs.HeldRecords.{next_of-least}
use Rattle.flash_ring.proofs.Slots.{length-slots_of, slot_bytes-at, slot_of-closed, slots_of-at}
use Rattle.record_lists.proofs.EachOnce.{once-none}
use Rattle.trial_model.specs.Decisions.{before_all}
use Rattle.trial_model.specs.Script.{Device}
use Rattle.trial_device.specs.Sides.{IsElsewhere, IsSideSound, Side}
use Rattle.trial_device.specs.Starting.{StartsSide}

-- Nothing is held where no slot is open.

abbrev AreClosed : List (Option Held) → Type 0
AreClosed [] = Unit {0}
AreClosed (o ∷ slots) = (o ≡ None) × AreClosed slots

closed-entries : (k : ℕ) (slots : List (Option Held)) → AreClosed slots → entries_from Oldest k slots ≡ []
closed-entries k [] closed = refl
closed-entries k (None ∷ slots) closed = closed-entries (k + 1) slots closed.1
closed-entries k (Some h ∷ slots) closed = absurd (let e : Some h ≡ None = closed.0 in cc)

closed-next : (slots : List (Option Held)) → AreClosed slots → next_of slots ≡ 0
closed-next [] closed = refl
closed-next (None ∷ slots) closed = closed-next slots closed.1
closed-next (Some h ∷ slots) closed = absurd (let e : Some h ≡ None = closed.0 in cc)

all-closed : (slots : List (Option Held)) → ((k : ℕ) → k < length slots → get_or slots k None ≡ None) → AreClosed slots
all-closed [] each = tt
all-closed (o ∷ slots) each = (each 0 (omega arith), all-closed slots (λ k low. each (suc k) (omega arith)))

-- The gate of each slot of a formatted flash is closed.
zero-gate : (n k : ℕ) → get_or (slot_bytes k (replicate {A = ℕ} (272 * n) 0)) 0 0 ≡ 0
zero-gate n k = slot_bytes-at k 0 (replicate (272 * n) 0) (omega arith) ∙ zeros (272 * n) (272 * k + 0)
  where
    zeros : (n i : ℕ) → get_or (replicate {A = ℕ} n 0) i 0 ≡ 0
    zeros zero i = refl
    zeros (suc n) zero = refl
    zeros (suc n) (suc i) = zeros n i

gate-shut : (n k : ℕ) → get_or (slot_bytes k (replicate {A = ℕ} (272 * n) 0)) 0 0 ≡ 0xA5 → ⊥
gate-shut n k gate = no_gate (get_or (slot_bytes k (replicate {A = ℕ} (272 * n) 0)) 0 0) (zero-gate n k) gate
  where
    no_gate : (gate : ℕ) → gate ≡ 0 → gate ≡ 0xA5 → ⊥
    no_gate gate shut is = omega arith

formatted-closed : (n : ℕ) → AreClosed (slots_of n (replicate (272 * n) 0))
formatted-closed n =
    let zeros = replicate {A = ℕ} (272 * n) 0 in
    all-closed (slots_of n zeros) (λ k low. slots_of-at n k zeros None (omega (arith, length-slots_of n zeros)) ∙ slot_of-closed (slot_bytes k zeros) (gate-shut n k))

-- A formatted flash is opened, and holds nothing.
pub formatted-opens : (n : ℕ) (o : Option Content) (slots : List (Option Held)) (next : ℕ) → IsSome o → IfTold o (λ c. c ≡ settled (replicate (272 * n) 0)) → IfTold o (λ c. slots ≡ slots_of n c.reads) → next ≡ next_of slots
    → (held_of slots ≡ []) × (next ≡ 0)
formatted-opens n None slots next told zeros holds is = absurd (false≢true told)
formatted-opens n (Some c) slots next told zeros holds is =
    let same : slots ≡ slots_of n (replicate (272 * n) 0) = holds ∙ ap (λ (c : Content). slots_of n c.reads) zeros in
    let closed : AreClosed slots = subst AreClosed (sym same) (formatted-closed n) in
    (ap (λ es. map rec_of es) (closed-entries 0 slots closed), is ∙ closed-next slots closed)

-- nor is it refused, but where memory is
refused-only : (n : ℕ) (c : Content) (e : OpenFault) → c ≡ settled (replicate (272 * n) 0) → RefusesOpen n c.reads e → (e ≡ Open.MediumFault → ⊥) → e ≡ Open.NoMemory
refused-only n c Open.MediumFault zeros refused never = absurd (never refl)
refused-only n c (Open.WrongSize got wanted) zeros refused never = absurd (refused.2 (refused.0 ∙ ap (λ (c : Content). length c.reads) zeros ∙ length-replicate {A = ℕ} (272 * n) 0 ∙ sym refused.1))
refused-only n c (Open.BadSlot slot) zeros refused never =
    let P : Content → Type 0 = λ c. IsFirstUnsound n c.reads slot in
    let unsound = subst P zeros refused.1 in
    absurd (unsound.unsound (λ gate. absurd (gate-shut n slot gate)))
refused-only n c Open.NoMemory zeros refused never = refl

pub formatted-fault : (n : ℕ) (o : Option Content) (e : OpenFault) → IsSome o → IfTold o (λ c. c ≡ settled (replicate (272 * n) 0)) → IfTold o (λ c. RefusesOpen n c.reads e) → (e ≡ Open.MediumFault → ⊥) → e ≡ Open.NoMemory
formatted-fault n None e told zeros refused never = absurd (false≢true told)
formatted-fault n (Some c) e told zeros refused never = refused-only n c e zeros refused never

-- Before all lines nothing was decided.
pub side-starts : (device : Device) (d : Side) → StartsSide device d → (d.device ≡ device) × IsSideSound [] before_all d
side-starts device d s =
    let r = s.ring in
    let start : Side = record { device = device; ring = d.ring; watching = powered_up; fuse = None; acquired = []; cut = []; overwritten = [] } in
    let sound : IsSideSound [] before_all start = record {
      acquired = refl;
      some = s.some;
      slots = r.size;
      most = omega arith;
      durable = r.durable;
      held = record {
        decided = subst (λ (xs : List Record). IsPart xs []) (sym r.empty) tt;
        few = (let none = ap length r.empty in omega arith);
        next = (let low = next_of-least d.ring.next d.ring.slots r.durable.below in let is = r.next in omega arith);
        nothing_lost = All-nil (λ x. Contains (held_of d.ring.slots) x ⊎ IsElsewhere [] start x);
      };
      idle = r.left;
      next = (let is = r.next in omega arith);
      cut_once = once-none;
      overwritten_once = once-none;
      cut_wherever = λ k d low. absurd (omega arith);
      cut_only = λ k d low. absurd (omega arith);
      overwritten = record { evictions = []; each = tt; rising = tt };
      watching = refl;
      fuse = refl;
    } in
    (ap (λ (x : Side). x.device) s.is, subst (IsSideSound [] before_all) (sym s.is) sound)

-- What slots say of being full.
use Rattle.std.proofs.Common.{◌≡◌, ◌⊎◌, inl, inr, ℕ, ◌+◌, ◌<◌, ◌≤◌, Bool, true, false, List, [], ◌∷◌, length, drop, Option, Some, None, ◌==◌, eq-eqb, refl, sym, ap, ◌∙◌, subst, arith}
use Rattle.std.specs.List.{Contains}
use Rattle.std.proofs.lemmas.Bool.{false≢true}
use Rattle.std.proofs.lemmas.List.{length-drop}
use Rattle.avl_values.specs.Record.{Record}
use Rattle.avl_values.specs.declared.order.Order.TheVariants.{Oldest}
use Rattle.flash_ring.specs.Entries.{entries_from, held_of, with_room}
use Rattle.flash_ring.specs.Held.{Held, IsPart, is_full}
use Rattle.flash_ring.specs.Ring.{RingView}
use Rattle.flash_ring.proofs.Entries.{count_most, held_count, length-insert_in}
use Rattle.flash_ring.proofs.HeldRecords.{held_of-with_room}
use Rattle.tracker_session.specs.Keeping.{keep_calls}
use Rattle.trial_model.specs.Decisions.{store_cost}
use Rattle.record_lists.specs.EachOnce.{IsOnce}
use Rattle.trial_device.specs.Storing.{with_first, with_oldest}
use Rattle.trial_device.proofs.Onces.{either, first-keeps, first-once, first-or-rest}
use Rattle.trial_device.proofs.Parts.{part-drop, part-length, part-self}

all-full : (k : ℕ) (slots : List (Option Held)) → is_full slots ≡ true → length (entries_from Oldest k slots) ≡ length slots
all-full k [] full = refl
all-full k (None ∷ slots) full = absurd (false≢true full)
all-full k (Some h ∷ slots) full = let rest = all-full (k + 1) slots full in omega (arith, length-insert_in Oldest (record { slot = k; held = h }) (entries_from Oldest (k + 1) slots))

not-full : (k : ℕ) (slots : List (Option Held)) → is_full slots ≡ false → length (entries_from Oldest k slots) < length slots
not-full k [] full = absurd (false≢true (sym full))
not-full k (None ∷ slots) full = let rest = count_most Oldest (k + 1) slots in omega arith
not-full k (Some h ∷ slots) full = let rest = not-full (k + 1) slots full in omega (arith, length-insert_in Oldest (record { slot = k; held = h }) (entries_from Oldest (k + 1) slots))

-- every slot is open: room is made by giving up the oldest
pub record HasNoRoom (slots : List (Option Held)) : Type 0 where
  pub full : is_full slots ≡ true
  pub count : length (held_of slots) ≡ length slots
  pub rest : held_of (with_room slots) ≡ drop 1 (held_of slots)

pub record HasRoom (slots : List (Option Held)) : Type 0 where
  pub full : is_full slots ≡ false
  pub count : length (held_of slots) < length slots
  pub rest : held_of (with_room slots) ≡ held_of slots

pub room-cases : (slots : List (Option Held)) → HasNoRoom slots ⊎ HasRoom slots
room-cases slots = by-full (is_full slots) refl
  where
    by-full : (full : Bool) → is_full slots ≡ full → HasNoRoom slots ⊎ HasRoom slots
    by-full true full = inl (record { full = full; count = held_count slots ∙ all-full 0 slots full; rest = held_of-with_room slots full })
    by-full false full = inr (record { full = full; count = (let few = not-full 0 slots full in omega (arith, held_count slots)); rest = rw full refl })

-- with room made, a part is held
pub room-part : (slots : List (Option Held)) → IsPart (held_of (with_room slots)) (held_of slots)
room-part slots = elim (room-cases slots) as (λ _. IsPart (held_of (with_room slots)) (held_of slots)) [
  | inl full ↦ subst (λ xs. IsPart xs (held_of slots)) (sym full.rest) (part-drop (held_of slots))
  | inr room ↦ subst (λ xs. IsPart xs (held_of slots)) (sym room.rest) (part-self (held_of slots))
]

-- with room made, there is room for one more record
pub room-count : (slots : List (Option Held)) → 1 ≤ length slots → length (held_of (with_room slots)) + 1 ≤ length slots
room-count slots some = elim (room-cases slots) as (λ _. length (held_of (with_room slots)) + 1 ≤ length slots) [
  | inl full ↦ (let rest = ap length full.rest ∙ length-drop 1 (held_of slots) in let count = full.count in omega arith)
  | inr room ↦ (let same = ap length room.rest in let few = room.count in omega arith)
]

-- and no more than one record less is held
pub room-most : (slots : List (Option Held)) → length (held_of (with_room slots)) ≤ length (held_of slots)
room-most slots = part-length (held_of (with_room slots)) (held_of slots) (room-part slots)

-- the oldest record of a full ring is listed, if room was made for another
pub listed-or-held : (v : RingView) (listed : List Record) (r : Record) → Contains (held_of v.slots) r → Contains (held_of (with_room v.slots)) r ⊎ Contains (with_oldest v listed) r
listed-or-held v listed r has = elim (room-cases v.slots) as (λ _. Contains (held_of (with_room v.slots)) r ⊎ Contains (with_oldest v listed) r) [
  | inl full ↦ elim (first-or-rest (held_of v.slots) listed r has) as (λ _. Contains (held_of (with_room v.slots)) r ⊎ Contains (with_oldest v listed) r) [
    | inl later ↦ inl (subst (λ xs. Contains xs r) (sym full.rest) later)
    | inr first ↦ inr (rw full.full first)
  ]
  | inr room ↦ inl (subst (λ xs. Contains xs r) (sym room.rest) has)
]

pub oldest-keeps : (v : RingView) (listed : List Record) (r : Record) → Contains listed r → Contains (with_oldest v listed) r
oldest-keeps v listed r has = by-full (is_full v.slots) refl
  where
    by-full : (full : Bool) → is_full v.slots ≡ full → Contains (with_oldest v listed) r
    by-full true full = rw full (first-keeps (held_of v.slots) listed r has)
    by-full false full = rw full has

pub oldest-once : (v : RingView) (listed : List Record) → IsOnce listed → IsOnce (with_oldest v listed)
oldest-once v listed once = either (λ (xs : List Record). IsOnce xs) (is_full v.slots) (with_first (held_of v.slots) listed) listed (first-once (held_of v.slots) listed once) once

-- A store makes at least four calls of the medium, and no more than its cost by a load above what is held.
pub calls-low : (v : RingView) → 4 ≤ keep_calls v
calls-low v = either (λ n. 4 ≤ n + 4) (is_full v.slots) 2 0 (omega arith) (omega arith)

pub calls-high : (v : RingView) (slots load : ℕ) → length v.slots ≡ slots → length (held_of v.slots) ≤ load → load ≤ slots → keep_calls v ≤ store_cost slots load
calls-high v slots load size few most = elim (room-cases v.slots) as (λ _. keep_calls v ≤ store_cost slots load) [
  | inl full ↦ (let count = full.count in let is : (load == slots) ≡ true = eq-eqb load slots (omega arith) in rw full.full (rw is (omega arith)))
  | inr room ↦ rw room.full (either (λ n. 0 + 4 ≤ n) (load == slots) 6 4 (omega arith) (omega arith))
]

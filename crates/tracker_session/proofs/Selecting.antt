-- A selection is a batch, and there is none exactly where nothing is held.
use Rattle.std.proofs.Common.{◌≡◌, ℕ, List, [], ◌∷◌, length, Option, ap, refl, arith}
use Rattle.avl_values.specs.declared.order.Order.{Order}
use Rattle.flash_ring.specs.Entries.{held_of, selected}
use Rattle.flash_ring.specs.Held.{AreSound, Held}
use Rattle.flash_ring.proofs.HeldRecords.{selected-open}
use Rattle.flash_ring.proofs.Selections.{empty-selected, selected-batch, selected-empty, selected-few}
use Rattle.tracker_session.specs.Packs.{AreBatch}

pub batch-selected : (order : Order) (slots : List (Option Held)) → AreBatch slots (selected order 1265 slots)
batch-selected order slots = record { opens = selected-open order 1265 slots; recs = selected-batch order 1265 slots; few = omega (arith, selected-few order 1265 slots) }

empty : (ks : List ℕ) → length ks ≡ 0 → ks ≡ []
empty [] none = refl
empty (k ∷ ks) none = absurd (omega arith)

pub nothing-selected : (order : Order) (slots : List (Option Held)) (n : ℕ) → AreSound slots → n ≡ length (selected order 1265 slots) → (n ≡ 0 → held_of slots ≡ []) × (held_of slots ≡ [] → n ≡ 0)
nothing-selected order slots n sound is = (
  (λ none. selected-empty order 1265 slots sound (omega arith) (empty (selected order 1265 slots) (omega arith))),
  (λ none. omega (arith, ap length (empty-selected order 1265 slots none))),
)

-- Each entry of the table is right: 256 cases, computed.
use Rattle.std.proofs.Common.{◌≡◌, ℕ, zero, suc, ◌<◌, ◌⊎◌, Bool, true, false, refl, arith, ap, ◌∙◌, get_or, inl, inr}
use Rattle.std.specs.Prelude.{◌==◌, ◌&&◌}
use Rattle.std.proofs.lemmas.Bool.{eqb-true}
use Rattle.crc_field.specs.declared.table.TheConstants.{TABLE}
use Rattle.crc_field.specs.Crc.{after_bits}

abbrev is_right : ℕ → Bool
is_right k = get_or TABLE k 0 == after_bits 8 k

all_below : (ℕ → Bool) → ℕ → Bool
all_below p zero = true
all_below p (suc n) = p n && all_below p n

are_right : all_below is_right 256 ≡ true
unfolding all_below after_bits
are_right = refl

both-left : (a b : Bool) → (a && b) ≡ true → a ≡ true
both-left true b h = refl
both-left false b h = h

both-right : (a b : Bool) → (a && b) ≡ true → b ≡ true
both-right true b h = h
both-right false b h = cc

last_or_below : (n k : ℕ) → k < suc n → (k ≡ n) ⊎ (k < n)
last_or_below n k h = grind arith

below-all : (p : ℕ → Bool) (n k : ℕ) → all_below p n ≡ true → k < n → p k ≡ true
unfolding all_below
below-all p zero k h few = absurd (omega arith)
below-all p (suc n) k h few = elim (last_or_below n k few) [
  | inl same ↦ ap p same ∙ both-left (p n) (all_below p n) h
  | inr less ↦ below-all p n k (both-right (p n) (all_below p n) h) less
]

pub table-right : (k : ℕ) → k < 256 → get_or TABLE k 0 ≡ after_bits 8 k
table-right k few = eqb-true (get_or TABLE k 0) (after_bits 8 k) (below-all is_right 256 k are_right few)

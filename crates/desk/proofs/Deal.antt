-- The seats of a new desk, each with one number.
use Rattle.std.proofs.Common.{◌≡◌, ◌⊎◌, inl, inr, ⊎_elim, ℕ, zero, suc, ◌+◌, ◌<◌, List, [], ◌∷◌, ◌++◌, length, slice_get, Some, None, refl, sym, ap, ◌∙◌, subst, arith}
use Rattle.medium_model.specs.declared.medium.Medium.{Ghosts}
use Rattle.shelf.specs.Admits.{Shelved}
use Rattle.shelf.specs.Entries.{counting}
use Rattle.desk.specs.declared.desk.Desk.{Desk}
use Rattle.desk.specs.declared.desk.Seat.{Seat}
use Rattle.desk.specs.Views.{view}
use Rattle.desk.specs.Views.Stage.{Idle}
use Rattle.desk.specs.Steps.{Place, kept_half, given_half}
use Rattle.desk.specs.Desks.{IsNewSeat, AreNewSeats}
use Rattle.desk.proofs.Shelves.{some-same}

-- N seats were handed out, and the first seat has the numbers that are left
pub record IsDealing (o : Shelved) (seats given : ℕ) (m : Place) : Type 0 where
  pub left : ℕ
  pub sum : given + left ≡ seats
  pub is : m ≡ (view o [] (counting given left) Idle 0, [])

module _ (o : Shelved) (seats given : ℕ) (m : Place) (dealing : IsDealing o seats given m) where
  pub deal-next : (n : ℕ) (next : Place) → n ≡ given + 1 → given < seats → next ≡ (kept_half m.0, m.1) → IsDealing o seats n next
  deal-next n next one more kept = split dealing.left dealing.sum dealing.is
    where
      split : (left : ℕ) → given + left ≡ seats → m ≡ (view o [] (counting given left) Idle 0, []) → IsDealing o seats n next
      split zero sum is = absurd (omega arith)
      split (suc left) sum is =
          let number : suc given ≡ n = omega arith in
          let is_next : next ≡ (view o [] (counting (suc given) left) Idle 0, []) = kept ∙ ap (λ (p : Place). (kept_half p.0, p.1)) is in record {
            left = left;
            sum = omega arith;
            is = subst (λ (k : ℕ). next ≡ (view o [] (counting k left) Idle 0, [])) number is_next;
          }

  pub deal-given : (other : Place) → given < seats → other ≡ (given_half m.0, []) → other ≡ (view o [] (given ∷ []) Idle 0, [])
  deal-given other more was = split dealing.left dealing.sum dealing.is
    where
      split : (left : ℕ) → given + left ≡ seats → m ≡ (view o [] (counting given left) Idle 0, []) → other ≡ (view o [] (given ∷ []) Idle 0, [])
      split zero sum is = absurd (omega arith)
      split (suc left) sum is = was ∙ ap (λ (p : Place). (given_half p.0, [])) is

  pub deal-last : given + 1 ≡ seats → m ≡ (view o [] (given ∷ []) Idle 0, [])
  deal-last last = split dealing.left dealing.sum dealing.is
    where
      split : (left : ℕ) → given + left ≡ seats → m ≡ (view o [] (counting given left) Idle 0, []) → m ≡ (view o [] (given ∷ []) Idle 0, [])
      split zero sum is = absurd (omega arith)
      split (suc zero) sum is = is
      split (suc (suc left)) sum is = absurd (omega arith)

pub get-snoc : {A : Type 0} (xs : List A) (x y : A) (k : ℕ) → slice_get (xs ++ x ∷ []) k ≡ Some y → (slice_get xs k ≡ Some y) ⊎ ((k ≡ length xs) × (x ≡ y))
get-snoc [] x y zero at = inr (refl, some-same x y at)
get-snoc [] x y (suc k) at = absurd (let never : None ≡ Some y = at in cc)
get-snoc (z ∷ xs) x y zero at = inl at
get-snoc (z ∷ xs) x y (suc k) at = ⊎_elim (λ old. inl old) (λ (new : (k ≡ length xs) × (x ≡ y)). inr (ap suc new.0, new.1)) (get-snoc xs x y k at)

module _ {M : Type 0} {d : Ghosts M} where
  pub seats-snoc : (desk : Desk M) (seats : List (Seat M d)) (seat : Seat M d) → AreNewSeats desk seats → IsNewSeat desk (length seats) seat → AreNewSeats desk (seats ++ seat ∷ [])
  seats-snoc desk seats seat were is k s at = ⊎_elim
      (λ (old : slice_get seats k ≡ Some s). were k s old)
      (λ (new : (k ≡ length seats) × (seat ≡ s)).
      let P : ℕ × Seat M d → Type 0 = λ p. IsNewSeat desk p.0 p.1 in
      subst P (λ i. (sym new.0 i, new.1 i)) is)
      (get-snoc seats seat s k at)

-- Seats, or others, taken one after the other from the end of a list: what is true of each stays true of what is taken, and of
-- each that is left.
use Rattle.std.proofs.Common.{◌≡◌, ℕ, zero, suc, List, [], ◌∷◌, ◌++◌, length, slice_get, Option, Some, None, IfSome, option_to_list, refl, ap, ◌∙◌}
use Rattle.medium_model.specs.declared.medium.Medium.{Ghosts}
use Rattle.desk.specs.declared.desk.Desk.{Desk}
use Rattle.desk.specs.declared.desk.Seat.{Seat}
use Rattle.desk.specs.Desks.{AreNewSeats, AreSeatsOf}

pub get-front : {A : Type 0} (xs ys : List A) (k : ℕ) (x : A) → slice_get xs k ≡ Some x → slice_get (xs ++ ys) k ≡ Some x
get-front [] ys k x at = absurd (let never : None ≡ Some x = at in cc)
get-front (y ∷ xs) ys zero x at = at
get-front (y ∷ xs) ys (suc k) x at = get-front xs ys k x at

pub get-last : {A : Type 0} (xs : List A) (x : A) → slice_get (xs ++ x ∷ []) (length xs) ≡ Some x
get-last [] x = refl
get-last (y ∷ xs) x = get-last xs x

module _ {A : Type 0} (P : A → Type 0) where
  pub taken-has : (all left : List A) (taken : Option A) → all ≡ left ++ option_to_list taken → ((k : ℕ) (x : A) → slice_get all k ≡ Some x → P x) → IfSome taken P
  taken-has all left None is each = tt
  taken-has all left (Some x) is each = each (length left) x (ap (λ (l : List A). slice_get l (length left)) is ∙ get-last left x)

  pub left-have : (all left : List A) (taken : Option A) → all ≡ left ++ option_to_list taken → ((k : ℕ) (x : A) → slice_get all k ≡ Some x → P x) → (k : ℕ) (x : A) → slice_get left k ≡ Some x → P x
  left-have all left taken is each k x at = each k x (ap (λ (l : List A). slice_get l k) is ∙ get-front left (option_to_list taken) k x at)

pub new-seats : {M : Type 0} {d : Ghosts M} (desk : Desk M) (seats : List (Seat M d)) → AreNewSeats desk seats → AreSeatsOf desk seats
new-seats desk seats are k seat at = (are k seat at).of_desk

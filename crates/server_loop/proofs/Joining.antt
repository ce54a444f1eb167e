-- One seat for all workers, one more at a time.
use Rattle.std.proofs.Common.{◌≡◌, ⊎_elim, ℕ, zero, suc, ◌+◌, ◌==◌, ◌<◌, ◌≤◌, Bool, true, false, if◌then◌else◌, List, [], ◌∷◌, ◌++◌, length, slice_get, Option, Some, None, IfSome, IsSome, refl, sym, ap, subst, ◌∙◌, append_assoc, length-append, arith}
use Rattle.std.proofs.lemmas.Bool.Decides.{nat_tests}
use Rattle.std.proofs.lemmas.Option.{slice_get_within}
use Rattle.medium_model.specs.declared.medium.Medium.{Ghosts}
use Rattle.shelf.specs.Entries.{Entry, times, kept_if, calls_by, calls_of, counting}
use Rattle.desk.specs.declared.desk.Desk.{Desk}
use Rattle.desk.specs.declared.desk.Seat.{Seat}
use Rattle.desk.specs.Desks.{seen, numbers, IsSeatOf}
use Rattle.desk.specs.Seen.{AreJoined}
use Rattle.desk.proofs.Deal.{get-snoc}
use Rattle.desk.proofs.Shelves.{some-same}
use Rattle.desk.proofs.Taking.{get-front, get-last}
use Rattle.server_loop.specs.Staff.{AreJoinedIn, IsSeatOfAll, IsSeated, KeepCalls}
use Rattle.server_loop.specs.declared.worker.Worker.{Worker}
use Rattle.server_loop.proofs.Members.{times-one}

-- Numbers in a row.

counting-snoc : (i n : ℕ) → counting i n ++ (i + n) ∷ [] ≡ counting i (suc n)
counting-snoc i zero = let same : i + 0 ≡ i = omega arith in ap (λ (k : ℕ). k ∷ []) same
counting-snoc i (suc n) =
    let rest = counting-snoc (suc i) n in
    let same : i + suc n ≡ suc i + n = omega arith in
    ap (λ (k : ℕ). i ∷ (counting (suc i) n ++ k ∷ [])) same ∙ ap (λ (l : List ℕ). i ∷ l) rest

counting-has : (n i k : ℕ) → i ≤ n → n < i + k → 0 < times n (counting i k)
counting-has n i zero low high = absurd (omega arith)
counting-has n i (suc k) low high = split (n == i) refl (λ above. counting-has n (suc i) k above (omega arith))
  where
    split : (b : Bool) → (n == i) ≡ b → (suc i ≤ n → 0 < times n (counting (suc i) k)) → 0 < (if n == i then 1 else 0) + times n (counting (suc i) k)
    split true is later = subst (λ (b : Bool). 0 < (if b then 1 else 0) + times n (counting (suc i) k)) (sym is) (omega arith)
    split false is later =
        let apart : i < n = grind (arith, nat_tests, is, low) in
        let rest = later (omega arith) in
        omega (arith, rest)

pub length-counting : (i n : ℕ) → length (counting i n) ≡ n
length-counting i zero = refl
length-counting i (suc n) = ap suc (length-counting (suc i) n)

-- Calls under one of some numbers are among the calls under these.

one-of : (i : ℕ) (ns : List ℕ) (log : List Entry) → 0 < times i ns → calls_of i (calls_by ns log) ≡ calls_of i log
one-of i ns [] some = refl
one-of i ns (e ∷ log) some = split (times e.seat ns) (times e.seat (i ∷ [])) refl refl (one-of i ns log some)
  where
    split : (k j : ℕ) → times e.seat ns ≡ k → times e.seat (i ∷ []) ≡ j → calls_of i (calls_by ns log) ≡ calls_of i log → calls_of i (kept_if k e (calls_by ns log)) ≡ kept_if j e (calls_of i log)
    split (suc k) zero here is rest = ap (λ (j : ℕ). kept_if j e (calls_of i (calls_by ns log))) is ∙ rest
    split (suc k) (suc j) here is rest = ap (λ (j : ℕ). kept_if j e (calls_of i (calls_by ns log))) is ∙ ap (λ (l : List Entry). e ∷ l) rest
    split zero zero here is rest = rest
    split zero (suc j) here is rest = absurd (
        let own : e.seat ≡ i = times-one e.seat i (omega (arith, is)) in
        let none : times i ns ≡ 0 = ap (λ (m : ℕ). times m ns) (sym own) ∙ here in
        omega (arith, none, some))

same-one : (i : ℕ) (ns : List ℕ) (log seen_by : List Entry) → 0 < times i ns → calls_by ns log ≡ calls_by ns seen_by → calls_of i log ≡ calls_of i seen_by
same-one i ns log seen_by some same = sym (one-of i ns log some) ∙ (ap (λ (l : List Entry). calls_of i l) same ∙ one-of i ns seen_by some)

-- what comes next in a list
pub get-middle : {X : Type 0} (xs ys all : List X) (x : X) → xs ++ x ∷ ys ≡ all → slice_get all (length xs) ≡ Some x
get-middle {X = X} xs ys all x is = ap (λ (l : List X). slice_get l (length xs)) (sym is) ∙ (ap (λ (l : List X). slice_get l (length xs)) (sym (append_assoc xs (x ∷ []) ys)) ∙ get-front (xs ++ x ∷ []) ys (length xs) x (get-last xs x))

module _ {D M : Type 0} {d : Ghosts M} where
  pub seat-some : (desk : Desk M) (n : ℕ) (w : Worker D M d) → IsSeated desk n w → IsSome w.seat
  seat-some desk n w seated = subst (λ (z : Option (Seat M d)). IsSome z) (sym seated.is) refl

  pub seat-of : (desk : Desk M) (n : ℕ) (w : Worker D M d) (seat : Seat M d) → IsSeated desk n w → w.seat ≡ Some seat → IsSeatOf desk seat
  seat-of desk n w seat seated has = subst (λ (z : Seat M d). IsSeatOf desk z) (some-same seated.seat seat (sym seated.is ∙ has)) seated.of_desk

  -- the first worker's seat
  first-seat : (desk : Desk M) (ws : List (Worker D M d)) (w : Worker D M d) (seat result : Seat M d) → ws ≡ [] → w.seat ≡ Some seat → IsSeatOf desk seat → numbers seat ≡ length ws ∷ [] → result ≡ seat
      → IsSeatOfAll desk (ws ++ w ∷ []) result
  first-seat desk ws w seat result none has of_desk own is =
      let one : ws ++ w ∷ [] ≡ w ∷ [] = ap (λ (l : List (Worker D M d)). l ++ w ∷ []) none in
      let number : numbers seat ≡ 0 ∷ [] = own ∙ ap (λ (l : List (Worker D M d)). length l ∷ []) none in
      subst (λ (z : List (Worker D M d) × Seat M d). IsSeatOfAll desk z.0 z.1) (λ i. (sym one i, sym is i)) (record { of_desk = of_desk; all = number; keeps = keeps })
    where
      keeps : KeepCalls (seen seat) (w ∷ [])
      keeps zero x s at of = ap (λ (z : Seat M d). calls_of 0 (seen z)) (some-same seat s (sym has ∙ (ap (λ (z : Worker D M d). z.seat) (some-same w x at) ∙ of)))
      keeps (suc i) x s at of = absurd (let never : None ≡ Some x = at in cc)

  -- and a further one's, joined to it
  next-seat : (desk : Desk M) (ws : List (Worker D M d)) (w : Worker D M d) (before seat result : Seat M d) → IsSeatOfAll desk ws before → w.seat ≡ Some seat → numbers seat ≡ length ws ∷ []
      → IsSeatOf desk result → numbers result ≡ numbers before ++ numbers seat → AreJoined (seen before) (numbers before) (seen seat) (numbers seat) (seen result) → IsSeatOfAll desk (ws ++ w ∷ []) result
  next-seat desk ws w before seat result all has own of_desk sum joined = record {
    of_desk = of_desk;
    all =
        let long : length (ws ++ w ∷ []) ≡ suc (length ws) = length-append ws (w ∷ []) ∙ omega arith in
        let from : (0 + length ws) ∷ [] ≡ length ws ∷ [] = let same : 0 + length ws ≡ length ws = omega arith in ap (λ (n : ℕ). n ∷ []) same in
        sum ∙ ((λ i. all.all i ++ own i) ∙ (ap (λ (l : List ℕ). counting 0 (length ws) ++ l) (sym from) ∙ counting-snoc 0 (length ws) ∙ ap (λ (n : ℕ). counting 0 n) (sym long)));
    keeps = λ i x s at of. ⊎_elim
        (λ (old : slice_get ws i ≡ Some x).
        let low = slice_get_within ws i x old in
        let some : 0 < times i (numbers before) = subst (λ (l : List ℕ). 0 < times i l) (sym all.all) (counting-has i 0 (length ws) (omega arith) (omega (arith, low))) in
        same-one i (numbers before) (seen result) (seen before) some joined.calls ∙ all.keeps i x s old of)
        (λ (new : (i ≡ length ws) × (w ≡ x)).
        let same : seat ≡ s = some-same seat s (sym has ∙ (ap (λ (z : Worker D M d). z.seat) new.1 ∙ of)) in
        let number : numbers seat ≡ i ∷ [] = own ∙ ap (λ (n : ℕ). n ∷ []) (sym new.0) in
        subst (λ (l : List ℕ). calls_by l (seen result) ≡ calls_by l (seen seat)) number joined.other_calls ∙ ap (λ (z : Seat M d). calls_of i (seen z)) same)
        (get-snoc ws w x i at);
  }

  pub join-seat : (desk : Desk M) (ws : List (Worker D M d)) (w : Worker D M d) (before : Option (Seat M d)) (seat result : Seat M d) → AreJoinedIn desk ws before → IsSeated desk (length ws) w → w.seat ≡ Some seat
      → IsSeatOf desk result → (before ≡ None → result ≡ seat) → IfSome before (λ b. numbers result ≡ numbers b ++ numbers seat)
      → IfSome before (λ b. AreJoined (seen b) (numbers b) (seen seat) (numbers seat) (seen result)) → IsSeatOfAll desk (ws ++ w ∷ []) result
  join-seat desk ws w before seat result joined seated has of_desk none sum history =
      let same : seated.seat ≡ seat = some-same seated.seat seat (sym seated.is ∙ has) in
      let own : numbers seat ≡ length ws ∷ [] = subst (λ (z : Seat M d). numbers z ≡ length ws ∷ []) same seated.number in
      let there : IsSeatOf desk seat = subst (λ (z : Seat M d). IsSeatOf desk z) same seated.of_desk in
      by before joined none sum history own there
    where
      by : (before : Option (Seat M d)) → AreJoinedIn desk ws before → (before ≡ None → result ≡ seat) → IfSome before (λ b. numbers result ≡ numbers b ++ numbers seat)
          → IfSome before (λ b. AreJoined (seen b) (numbers b) (seen seat) (numbers seat) (seen result)) → numbers seat ≡ length ws ∷ [] → IsSeatOf desk seat → IsSeatOfAll desk (ws ++ w ∷ []) result
      by None joined none sum history own there = first-seat desk ws w seat result joined has there own (none refl)
      by (Some b) joined none sum history own there = next-seat desk ws w b seat result joined has own of_desk sum history

-- Slot after slot of zero bytes.
use Rattle.std.proofs.Common.{◌≡◌, ℕ, ◌+◌, ◌-◌, ◌*◌, List, ◌++◌, length, take, drop, replicate, Option, Some, None, sym, ◌∙◌, ap, subst, arith}
use Rattle.std.proofs.lemmas.List.{append-nil, take_all, drop_all, length-replicate, replicate-append-replicate}
use Rattle.medium_model.specs.Content.{Content, settled, written, filled, after_write, after_sync}
use Rattle.medium_model.specs.State.{IfTold, told}
use Rattle.medium_model.specs.PowerLoss.{EveryImage}
use Rattle.medium_model.proofs.Images.{image-settled}

-- what is written right after the end
written-behind : (at : ℕ) (bytes xs : List ℕ) → length xs ≡ at → written 0 at bytes xs ≡ xs ++ bytes
written-behind at bytes xs size =
    let front : filled 0 at xs ≡ xs =
    (let none : at - length xs ≡ 0 = omega arith in
    ap (λ m. take at xs ++ replicate m 0) none ∙ append-nil (take at xs) ∙ take_all at xs (omega arith)) in
    ap (λ f. f ++ (bytes ++ drop (at + length bytes) xs)) front
    ∙ ap (λ r. xs ++ (bytes ++ r)) (drop_all (at + length bytes) xs (omega arith))
    ∙ ap (λ b. xs ++ b) (append-nil bytes)

pub zeros-more : (slot : ℕ) (reads : List ℕ) → reads ≡ replicate (272 * slot) 0 → written 0 (272 * slot) (replicate 272 0) reads ≡ replicate (272 * (slot + 1)) 0
zeros-more slot reads is =
    let size : length reads ≡ 272 * slot = ap length is ∙ length-replicate {A = ℕ} (272 * slot) 0 in
    let sum : 272 * slot + 272 ≡ 272 * (slot + 1) = omega arith in
    written-behind (272 * slot) (replicate 272 0) reads size
    ∙ ap (λ r. r ++ replicate 272 0) is ∙ replicate-append-replicate {A = ℕ} (272 * slot) 272 0 ∙ ap (λ m. replicate m 0) sum

pub told-zeros : (old new : Option Content) (slot : ℕ) → IfTold old (λ c. c.reads ≡ replicate (272 * slot) 0) → new ≡ told (after_write (272 * slot) (replicate 272 0)) old
    → IfTold new (λ c. c.reads ≡ replicate (272 * (slot + 1)) 0)
told-zeros None new slot were wrote = let P : Option Content → Type 0 = λ o. IfTold o (λ c. c.reads ≡ replicate (272 * (slot + 1)) 0) in subst P (sym wrote) tt
told-zeros (Some c) new slot were wrote = let P : Option Content → Type 0 = λ o. IfTold o (λ c. c.reads ≡ replicate (272 * (slot + 1)) 0) in subst P (sym wrote) (zeros-more slot c.reads were)

pub synced-zeros : (old new : Option Content) (n : ℕ) → IfTold old (λ c. c.reads ≡ replicate n 0) → new ≡ told after_sync old
    → IfTold new (λ c. c ≡ settled (replicate n 0)) × EveryImage new (λ image. image ≡ replicate n 0)
synced-zeros None new n were done =
    let P : Option Content → Type 0 = λ o. IfTold o (λ c. c ≡ settled (replicate n 0)) × EveryImage o (λ image. image ≡ replicate n 0) in subst P (sym done) (tt, tt)
synced-zeros (Some c) new n were done =
    let P : Option Content → Type 0 = λ o. IfTold o (λ c. c ≡ settled (replicate n 0)) × EveryImage o (λ image. image ≡ replicate n 0) in
    subst P (sym done) (ap settled were, λ image im. image-settled c.reads image im ∙ were)

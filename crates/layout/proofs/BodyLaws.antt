-- A body that is all there is: what fills it, and what its whole verdict says of the bytes.
use Rattle.std.proofs.Common.{◌≡◌, ℕ, ◌+◌, ◌≤◌, List, [], ◌++◌, length, take, drop, sym, ap, subst, ◌∙◌, arith, length-drop, length-take}
use Rattle.std.proofs.Math.Seq.{take-length}
use Rattle.std.proofs.lemmas.List.{append-nil}
use Rattle.layout.specs.Rows.{Rows, done, whole, judge, body, Fills}
use Rattle.layout.proofs.Filling.{done_filled, fills_done}
use Rattle.layout.proofs.RowLaws.{filled, is_whole}
use Rattle.layout.proofs.WithinLaws.{around, inside}

pub body_fills : {V : Type 0} (rows : Rows V) (v : V) (bytes : List ℕ) → Fills rows v bytes → Fills (body (length bytes) rows) v bytes
body_fills rows v bytes fills = subst (Fills (body (length bytes) rows) v) (append-nil bytes) (around rows (λ x. done x) v v bytes [] fills (fills_done v))

pub body_judged : {V : Type 0} (rows : Rows V) (v : V) (bytes more : List ℕ) → Fills rows v bytes → judge (body (length bytes) rows) 0 (bytes ++ more) ≡ whole v (length bytes)
body_judged rows v bytes more fills =
    let n : 0 + length bytes ≡ length bytes = omega arith in
    is_whole (body (length bytes) rows) 0 v bytes more (body_fills rows v bytes fills) ∙ ap (λ k. whole v k) n

pub take_twice : (n : ℕ) (xs : List ℕ) → n ≤ length xs → take n (take n xs) ≡ take n xs
take_twice n xs h = let len : length (take n xs) ≡ n = omega (arith, length-take n xs) in ap (λ k. take k (take n xs)) (sym len) ∙ take-length (take n xs)

pub body_filled : {V : Type 0} (rows : Rows V) (total n : ℕ) (v : V) (bytes : List ℕ) → judge (body total rows) 0 bytes ≡ whole v n → (n ≡ total) × (total ≤ length bytes) × Fills rows v (take total bytes)
body_filled rows total n v bytes e =
    let f = filled (body total rows) 0 n v bytes e in
    let i = inside total rows (λ x. done x) v (take f.0 bytes) f.3 in
    let end = done_filled i.0 v (drop total (take f.0 bytes)) i.3 in
    let none = length-drop total (take f.0 bytes) in
    let len = length-take f.0 bytes in
    let k : f.0 ≡ total = omega (arith, ap length end.1, i.1, f.2) in
    let same : take total (take f.0 bytes) ≡ take total bytes = ap (λ m. take total (take m bytes)) k ∙ take_twice total bytes (omega (arith, f.2)) in
    (omega (arith, f.1), omega (arith, f.2), subst (Fills rows v) same (subst (λ x. Fills rows x (take total (take f.0 bytes))) end.0 i.2))

-- Elements of any length, after their ids and lengths.
use Rattle.std.proofs.Common.{◌≡◌, ℕ, zero, suc, ◌+◌, ◌*◌, ◌<◌, ◌≤◌, List, [], ◌∷◌, ◌++◌, length, get_or, take, drop, refl, sym, ap, ◌∙◌, arith, length-take, length-drop}
use Rattle.std.specs.List.{sum_by}
use Rattle.std.proofs.Math.Seq.{take-length}
use Rattle.std.proofs.lemmas.List.{take-append-le, drop-append-le, drop-drop}
use Rattle.std.proofs.lemmas.List.Sums.{sum_by-cons}
use Rattle.avl_values.specs.NxElements.{nx_size, nx_elements}

-- the sum of the lengths
abbrev pub sizes : List (ℕ × ℕ) → ℕ
sizes heads = sum_by (λ h. h.1) heads

pub nx-length : (heads : List (ℕ × ℕ)) (bytes : List ℕ) → length (nx_elements heads bytes) ≡ length heads
nx-length [] bytes = refl
nx-length (h ∷ hs) bytes = ap (λ n. suc n) (nx-length hs (drop h.1 bytes))

pub nx-size : (heads : List (ℕ × ℕ)) (bytes : List ℕ) → sizes heads ≤ length bytes → nx_size (nx_elements heads bytes) ≡ 4 * length heads + sizes heads
nx-size [] bytes h = refl
nx-size (h ∷ hs) bytes few =
    let s : sizes (h ∷ hs) ≡ h.1 + sizes hs = sum_by-cons (λ x. x.1) h hs in
    let d = length-drop h.1 bytes in
    let t = length-take h.1 bytes in
    let rest = nx-size hs (drop h.1 bytes) (omega arith) in
    let all = sum_by-cons (λ (e : ℕ × List ℕ). 4 + length e.1) (h.0, take h.1 bytes) (nx_elements hs (drop h.1 bytes)) in
    omega (arith, all, rest, s, t)

pub nx-push : (heads : List (ℕ × ℕ)) (bytes : List ℕ) (id : ℕ) (more : List ℕ) → sizes heads ≡ length bytes
    → nx_elements (heads ++ (id, length more) ∷ []) (bytes ++ more) ≡ nx_elements heads bytes ++ (id, more) ∷ []
nx-push [] [] id more h = ap (λ b. (id, b) ∷ []) (take-length more)
nx-push [] (b ∷ bs) id more h = absurd (omega (arith, h))
nx-push (h ∷ hs) bytes id more is =
    let s : sizes (h ∷ hs) ≡ h.1 + sizes hs = sum_by-cons (λ x. x.1) h hs in
    let fits : h.1 ≤ length bytes = omega arith in
    let d = length-drop h.1 bytes in
    let t = take-append-le h.1 bytes more fits in
    let r = drop-append-le h.1 bytes more fits in
    ap (λ b. (h.0, b) ∷ nx_elements (hs ++ (id, length more) ∷ []) (drop h.1 (bytes ++ more))) t
    ∙ ap (λ b. (h.0, take h.1 bytes) ∷ nx_elements (hs ++ (id, length more) ∷ []) b) r
    ∙ ap (λ es. (h.0, take h.1 bytes) ∷ es) (nx-push hs (drop h.1 bytes) id more (omega arith))

pub nx-at : (heads : List (ℕ × ℕ)) (bytes : List ℕ) (i : ℕ) → i < length heads
    → get_or (nx_elements heads bytes) i (0, []) ≡ ((get_or heads i (0, 0)).0, take (get_or heads i (0, 0)).1 (drop (sizes (take i heads)) bytes))
nx-at [] bytes i h = absurd (omega arith)
nx-at (h ∷ hs) bytes zero lt = refl
nx-at (h ∷ hs) bytes (suc i) lt =
    let s : sizes (h ∷ take i hs) ≡ h.1 + sizes (take i hs) = sum_by-cons (λ x. x.1) h (take i hs) in
    nx-at hs (drop h.1 bytes) i (omega arith)
    ∙ ap (λ b. ((get_or hs i (0, 0)).0, take (get_or hs i (0, 0)).1 b)) (drop-drop (sizes (take i hs)) h.1 bytes ∙ ap (λ n. drop n bytes) (sym s))

-- The laws of items, by induction on their rows.
use Rattle.std.proofs.Common.{◌≡◌, ℕ, ◌+◌, ◌<◌, ◌≤◌, ◌⊎◌, inl, inr, List, ◌++◌, length, take, drop, Option, Some, None, refl, sym, ap, ◌∙◌, arith, length-append, length-take, length-drop, append_assoc}
use Rattle.std.proofs.Math.Seq.{take-add, take-append_seam}
use Rattle.std.proofs.lemmas.Bool.{cases_lt}
use Rattle.std.proofs.lemmas.List.{take-append-le, drop-append-le}
use Rattle.avl_values.specs.declared.fault.FaultKind.{FaultKind}
use Rattle.layout.specs.Rows.{Rows, done, refuse, row, Verdict, whole, short, fault, judge, unless_fault, Fills}
use Rattle.layout.specs.Laws.{VerdictStays, WholeIsFilled, FilledIsWhole, NoneBeginsAnother}
use Rattle.layout.proofs.Filling.{fills_row, no_refusal}
use Rattle.layout.proofs.Judging.{judge_short, judge_long, judge_done, judge_refuse, judge_field}

-- A verdict stays.

unless_stays : {V : Type 0} (found : Option FaultKind) (place : ℕ) (v w : Verdict V) → (unless_fault found place v ≡ short → ⊥) → ((v ≡ short → ⊥) → w ≡ v) → unless_fault found place w ≡ unless_fault found place v
unless_stays None place v w come stay = stay come
unless_stays (Some kind) place v w come stay = refl

stays_row : {V : Type 0} (width : ℕ) (rule : List ℕ → Option FaultKind) (rest : List ℕ → Rows V) (place : ℕ) (bytes more : List ℕ)
    → ((field : List ℕ) (p : ℕ) (xs ys : List ℕ) → (judge (rest field) p xs ≡ short → ⊥) → judge (rest field) p (xs ++ ys) ≡ judge (rest field) p xs)
    → (judge (row width rule rest) place bytes ≡ short → ⊥) → (length bytes < width) ⊎ (width ≤ length bytes)
    → judge (row width rule rest) place (bytes ++ more) ≡ judge (row width rule rest) place bytes
stays_row width rule rest place bytes more ih come (inl few) = absurd (come (judge_short width rule rest place bytes few))
stays_row {V = V} width rule rest place bytes more ih come (inr fits) =
    let fits_more : width ≤ length (bytes ++ more) = simp length-append (omega arith) in
    let t = take-append-le width bytes more fits in
    let d = drop-append-le width bytes more fits in
    let F : List ℕ → List ℕ → Verdict V = λ f m. unless_fault (rule f) place (judge (rest f) (place + width) m) in
    let here = judge_long width rule rest place bytes fits in
    let come_here : F (take width bytes) (drop width bytes) ≡ short → ⊥ = λ e. come (here ∙ e) in
    judge_long width rule rest place (bytes ++ more) fits_more ∙ ap (λ f. F f (drop width (bytes ++ more))) t ∙ ap (λ m. F (take width bytes) m) d
    ∙ unless_stays (rule (take width bytes)) place _ _ come_here (ih (take width bytes) (place + width) (drop width bytes) more) ∙ sym here

pub stays : {V : Type 0} → VerdictStays V
stays (done v) place bytes more come = judge_done v place (bytes ++ more) ∙ sym (judge_done v place bytes)
stays (refuse kind) place bytes more come = judge_refuse kind place (bytes ++ more) ∙ sym (judge_refuse kind place bytes)
stays (row width rule rest) place bytes more come = stays_row width rule rest place bytes more (λ field. stays (rest field)) come (cases_lt (length bytes) width)

-- A whole verdict is an item.

abbrev FilledFrom : {V : Type 0} → Rows V → ℕ → ℕ → V → List ℕ → Type 0
FilledFrom rows place n v bytes = (k : ℕ) × (n ≡ place + k) × (k ≤ length bytes) × Fills rows v (take k bytes)

fills_done : {V : Type 0} (v w : V) (place n : ℕ) (bytes : List ℕ) → whole v place ≡ whole w n → FilledFrom (done v) place n w bytes
unfolding Fills
fills_done v w place n bytes e = let same : v ≡ w = cc in let at : place ≡ n = cc in (0, omega arith, omega arith, (same, refl))

unless_whole : {V : Type 0} (found : Option FaultKind) (place : ℕ) (verdict : Verdict V) (v : V) (n : ℕ) → unless_fault found place verdict ≡ whole v n → (found ≡ None) × (verdict ≡ whole v n)
unless_whole None place verdict v n e = (refl, e)
unless_whole (Some kind) place verdict v n e = absurd (cc)

filled_row : {V : Type 0} (width : ℕ) (rule : List ℕ → Option FaultKind) (rest : List ℕ → Rows V) (place n : ℕ) (v : V) (bytes : List ℕ)
    → ((field : List ℕ) (p m : ℕ) (w : V) (xs : List ℕ) → judge (rest field) p xs ≡ whole w m → FilledFrom (rest field) p m w xs)
    → judge (row width rule rest) place bytes ≡ whole v n → (length bytes < width) ⊎ (width ≤ length bytes)
    → FilledFrom (row width rule rest) place n v bytes
filled_row width rule rest place n v bytes ih is (inl few) = let e = judge_short width rule rest place bytes few in absurd (cc)
filled_row width rule rest place n v bytes ih is (inr fits) =
    let passed = unless_whole (rule (take width bytes)) place _ v n (sym (judge_long width rule rest place bytes fits) ∙ is) in
    let filled = ih (take width bytes) (place + width) n v (drop width bytes) passed.1 in
    let at = length-drop width bytes in
    let len = length-take width bytes in (
      width + filled.0,
      omega (arith, filled.1),
      omega (arith, filled.1, filled.2),
      fills_row width rule rest v (take width bytes) (take filled.0 (drop width bytes)) _ (take-add width filled.0 bytes) (omega arith) passed.0 filled.3,
    )

pub filled : {V : Type 0} → WholeIsFilled V
filled (done w) place n v bytes is = fills_done w v place n bytes (sym (judge_done w place bytes) ∙ is)
filled {V = V} (refuse kind) place n v bytes is = let e : judge {V = V} (refuse kind) place bytes ≡ fault kind place = judge_refuse kind place bytes in absurd (cc)
filled (row width rule rest) place n v bytes is = filled_row width rule rest place n v bytes (λ field. filled (rest field)) is (cases_lt (length bytes) width)

-- An item's verdict is whole.

whole_done : {V : Type 0} (w v : V) (place : ℕ) (bytes more : List ℕ) → Fills (done w) v bytes → judge (done w) place (bytes ++ more) ≡ whole v (place + length bytes)
unfolding Fills judge
whole_done w v place bytes more (same, none) =
    let len : length bytes ≡ 0 = ap length none in let at : place + length bytes ≡ place = omega arith in rw (at, same) refl

whole_row : {V : Type 0} (width : ℕ) (rule : List ℕ → Option FaultKind) (rest : List ℕ → Rows V) (place : ℕ) (v : V) (bytes more : List ℕ)
    → ((field : List ℕ) (p : ℕ) (w : V) (xs ys : List ℕ) → Fills (rest field) w xs → judge (rest field) p (xs ++ ys) ≡ whole w (p + length xs))
    → Fills (row width rule rest) v bytes → judge (row width rule rest) place (bytes ++ more) ≡ whole v (place + length bytes)
unfolding Fills
whole_row width rule rest place v bytes more ih (field, tail, is, len, passes, fills) =
    let joined : bytes ++ more ≡ field ++ (tail ++ more) = ap (λ b. b ++ more) is ∙ append_assoc field tail more in
    let n : place + width + length tail ≡ place + length bytes = omega (arith, ap length is, length-append field tail) in
    ap (λ b. judge (row width rule rest) place b) joined ∙ judge_field width rule rest place field (tail ++ more) len
    ∙ ap (λ o. unless_fault o place (judge (rest field) (place + width) (tail ++ more))) passes
    ∙ ih field (place + width) v tail more fills ∙ ap (λ m. whole v m) n

pub is_whole : {V : Type 0} → FilledIsWhole V
is_whole (done w) place v bytes more fills = whole_done w v place bytes more fills
is_whole (refuse kind) place v bytes more fills = absurd (no_refusal kind v bytes fills)
is_whole (row width rule rest) place v bytes more fills = whole_row width rule rest place v bytes more (λ field. is_whole (rest field)) fills

-- No item begins another.

pub none_begins : {V : Type 0} → NoneBeginsAnother V
none_begins rows v w a b x y fills_a fills_b same =
    let whole_a = is_whole rows 0 v a x fills_a in
    let whole_b = is_whole rows 0 w b y fills_b in
    let both : whole v (0 + length a) ≡ whole w (0 + length b) = sym whole_a ∙ ap (λ s. judge rows 0 s) same ∙ whole_b in
    let value : v ≡ w = cc in
    let n : 0 + length a ≡ 0 + length b = cc in
    let len : length a ≡ length b = omega arith in
    (sym (take-append_seam a x) ∙ ap (λ s. take (length a) s) same ∙ ap (λ k. take k (b ++ y)) len ∙ take-append_seam b y, value)

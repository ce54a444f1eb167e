-- What fills a body and what follows it.
use Rattle.std.proofs.Common.{◌≡◌, ℕ, ◌+◌, ◌-◌, ◌<◌, ◌≤◌, ◌⊎◌, inl, inr, List, ◌++◌, length, take, drop, Option, sym, ap, subst, ◌∙◌, arith, length-append, append_assoc}
use Rattle.std.proofs.Math.Seq.{take-append-add, drop-append-add}
use Rattle.std.proofs.lemmas.Bool.{cases_lt}
use Rattle.avl_values.specs.declared.fault.FaultKind.{FaultKind}
use Rattle.avl_values.specs.declared.fault.FaultKind.TheVariants.{Overrun, Excess}
use Rattle.layout.specs.Rows.{Rows, done, refuse, row, Fills, within}
use Rattle.layout.specs.Laws.{WithinFilled, FilledWithin}
use Rattle.layout.proofs.Judging.{within_full, within_excess, within_refuse, within_overrun, within_row}
use Rattle.layout.proofs.Filling.{fills_done, fills_row, no_refusal}

abbrev Inside : {V W : Type 0} → ℕ → Rows V → (V → Rows W) → W → List ℕ → Type 0
Inside {V} room rows after w bytes = (v : V) × (room ≤ length bytes) × Fills rows v (take room bytes) × Fills (after v) w (drop room bytes)

inside_done : {V W : Type 0} (room : ℕ) (v : V) (after : V → Rows W) (w : W) (bytes : List ℕ) → Fills (within room (done v) after) w bytes → (room ≡ 0) ⊎ (0 < room) → Inside room (done v) after w bytes
inside_done room v after w bytes fills (inl none) =
    let P : ℕ → Type 0 = λ r. Fills (within r (done v) after) w bytes → Inside r (done v) after w bytes in
    let at_none : P 0 = λ f. (v, omega arith, fills_done v, subst (λ r. Fills r w bytes) (within_full v after) f) in
    subst P (sym none) at_none fills
inside_done room v after w bytes fills (inr some) = absurd (no_refusal Excess w bytes (subst (λ r. Fills r w bytes) (within_excess room v after some) fills))

inside_fields : {V W : Type 0} (room width : ℕ) (rule : List ℕ → Option FaultKind) (rest : List ℕ → Rows V) (after : V → Rows W) (w : W) (bytes : List ℕ)
    → ((field : List ℕ) (r : ℕ) (xs : List ℕ) → Fills (within r (rest field) after) w xs → Inside r (rest field) after w xs) → width ≤ room
    → Fills (row width rule (λ field. within (room - width) (rest field) after)) w bytes → Inside room (row width rule rest) after w bytes
unfolding Fills
inside_fields {V = V} room width rule rest after w bytes ih fits (field, more, is, len, passes, fills) =
    let inner = ih field (room - width) more fills in
    let n : room ≡ length field + (room - width) = omega arith in
    let t : take room bytes ≡ field ++ take (room - width) more = ap (λ b. take room b) is ∙ ap (λ k. take k (field ++ more)) n ∙ take-append-add field more (room - width) in
    let d : drop room bytes ≡ drop (room - width) more = ap (λ b. drop room b) is ∙ ap (λ k. drop k (field ++ more)) n ∙ drop-append-add field more (room - width) in
    let long : room ≤ length bytes = omega (arith, ap length is, length-append field more, inner.1) in
    let back : Fills (after inner.0) w (drop room bytes) = subst (λ b. Fills (after inner.0) w b) (sym d) inner.3 in
    (inner.0, long, (field, take (room - width) more, t, len, passes, inner.2), back)

inside_row : {V W : Type 0} (room width : ℕ) (rule : List ℕ → Option FaultKind) (rest : List ℕ → Rows V) (after : V → Rows W) (w : W) (bytes : List ℕ)
    → ((field : List ℕ) (r : ℕ) (xs : List ℕ) → Fills (within r (rest field) after) w xs → Inside r (rest field) after w xs)
    → Fills (within room (row width rule rest) after) w bytes → (room < width) ⊎ (width ≤ room) → Inside room (row width rule rest) after w bytes
inside_row room width rule rest after w bytes ih fills (inl over) = absurd (no_refusal Overrun w bytes (subst (λ r. Fills r w bytes) (within_overrun room width rule rest after over) fills))
inside_row room width rule rest after w bytes ih fills (inr fits) =
    inside_fields room width rule rest after w bytes ih fits (subst (λ r. Fills r w bytes) (within_row room width rule rest after fits) fills)

none_or_some : (n : ℕ) → (n ≡ 0) ⊎ (0 < n)
none_or_some n = elim (cases_lt 0 n) [ inl some ↦ inr some | inr none ↦ inl (omega arith) ]

pub inside : {V W : Type 0} → WithinFilled V W
inside room (done v) after w bytes fills = inside_done room v after w bytes fills (none_or_some room)
inside room (refuse kind) after w bytes fills = absurd (no_refusal kind w bytes (subst (λ r. Fills r w bytes) (within_refuse room kind after) fills))
inside room (row width rule rest) after w bytes fills = inside_row room width rule rest after w bytes (λ field r xs. inside r (rest field) after w xs) fills (cases_lt room width)

-- And the other way round.

around_done : {V W : Type 0} (u v : V) (after : V → Rows W) (w : W) (front back : List ℕ) → Fills (done u) v front → Fills (after v) w back → Fills (within (length front) (done u) after) w (front ++ back)
unfolding Fills
around_done {V = V} u v after w front back (same, none) fills =
    let P : List ℕ → Type 0 = λ f. Fills (within (length f) (done u) after) w (f ++ back) in
    let Q : V → Type 0 = λ x. Fills (after x) w back in
    subst P (sym none) (subst (λ r. Fills r w back) (sym (within_full u after)) (subst Q (sym same) fills))

around_row : {V W : Type 0} (width : ℕ) (rule : List ℕ → Option FaultKind) (rest : List ℕ → Rows V) (after : V → Rows W) (v : V) (w : W) (front back : List ℕ)
    → ((field xs : List ℕ) → Fills (rest field) v xs → Fills (within (length xs) (rest field) after) w (xs ++ back))
    → Fills (row width rule rest) v front → Fills (within (length front) (row width rule rest) after) w (front ++ back)
unfolding Fills
around_row width rule rest after v w front back ih (field, more, is, len, passes, fills) =
    let n : length front ≡ width + length more = omega (arith, ap length is, length-append field more) in
    let m : length front - width ≡ length more = omega arith in
    let fits : width ≤ length front = omega arith in
    let joined : front ++ back ≡ field ++ (more ++ back) = ap (λ b. b ++ back) is ∙ append_assoc field more back in
    let inner : Fills (within (length front - width) (rest field) after) w (more ++ back) = subst (λ k. Fills (within k (rest field) after) w (more ++ back)) (sym m) (ih field more fills) in
    subst (λ r. Fills r w (front ++ back)) (sym (within_row (length front) width rule rest after fits))
    (fills_row width rule (λ f. within (length front - width) (rest f) after) w field (more ++ back) (front ++ back) joined len passes inner)

pub around : {V W : Type 0} → FilledWithin V W
around (done u) after v w front back fills behind = around_done u v after w front back fills behind
around (refuse kind) after v w front back fills behind = absurd (no_refusal kind v front fills)
around (row width rule rest) after v w front back fills behind =
    around_row width rule rest after v w front back (λ field xs f. around (rest field) after v w xs back f behind) fills

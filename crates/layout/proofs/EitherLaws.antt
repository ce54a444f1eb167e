-- What fills rows of which either may be, and the verdicts on a body of them.
use Rattle.std.proofs.Common.{◌≡◌, ℕ, ◌⊎◌, inl, inr, List, ◌++◌, length, take, Option, Some, None, refl, sym, ap, subst, ◌∙◌}
use Rattle.std.proofs.Math.Seq.{take-append_seam}
use Rattle.avl_values.specs.declared.fault.FaultKind.{FaultKind}
use Rattle.layout.specs.Next.{width_of, rule_of, rows_after}
use Rattle.layout.specs.Rows.{Rows, done, refuse, row, Fills}
use Rattle.layout.specs.EitherRows.{either_rest, either_rows, either_rule}

-- The next field of some rows.

width_same : (n w : ℕ) → Some n ≡ Some w → n ≡ w
width_same n w e = cc

abbrev FirstField : {V : Type 0} → Rows V → ℕ → V → List ℕ → Type 0
FirstField rows w v bytes = (field : List ℕ) × (more : List ℕ) × (bytes ≡ field ++ more) × (length field ≡ w) × (rule_of rows field ≡ None) × Fills (rows_after rows field) v more

first_take : {V : Type 0} (rows : Rows V) (w : ℕ) (v : V) (bytes : List ℕ) → width_of rows ≡ Some w → Fills rows v bytes → FirstField rows w v bytes
unfolding Fills
first_take (done x) w v bytes e fills = absurd (cc)
first_take (refuse kind) w v bytes e fills = absurd (cc)
first_take (row n rule rest) w v bytes e (field, more, is, len, passes, fills) = (field, more, is, len ∙ width_same n w e, passes, fills)

first_fill : {V : Type 0} (rows : Rows V) (w : ℕ) (v : V) (bytes : List ℕ) → width_of rows ≡ Some w → FirstField rows w v bytes → Fills rows v bytes
unfolding Fills
first_fill (done x) w v bytes e f = absurd (cc)
first_fill (refuse kind) w v bytes e f = absurd (cc)
first_fill (row n rule rest) w v bytes e (field, more, is, len, passes, fills) = (field, more, is, len ∙ sym (width_same n w e), passes, fills)

-- Either rows.

pub either_width : {V : Type 0} (rows others : Rows V) (w : ℕ) → width_of rows ≡ Some w → width_of (either_rows rows others) ≡ Some w
unfolding either_rows
either_width (done v) others w e = absurd (cc)
either_width (refuse kind) others w e = absurd (cc)
either_width (row n rule rest) others w e = e

pub either_rule_is : {V : Type 0} (rows others : Rows V) (w : ℕ) (field : List ℕ) → width_of rows ≡ Some w → rule_of (either_rows rows others) field ≡ either_rule (rule_of rows field) (rule_of others field)
unfolding either_rows
either_rule_is (done v) others w field e = absurd (cc)
either_rule_is (refuse kind) others w field e = absurd (cc)
either_rule_is (row n rule rest) others w field e = refl

pub either_rest_is : {V : Type 0} (rows others : Rows V) (w : ℕ) (field : List ℕ) → width_of rows ≡ Some w
    → rows_after (either_rows rows others) field ≡ either_rest (rule_of rows field) (rows_after rows field) (rows_after others field)
unfolding either_rows
either_rest_is (done v) others w field e = absurd (cc)
either_rest_is (refuse kind) others w field e = absurd (cc)
either_rest_is (row n rule rest) others w field e = refl

-- what fills the first rows fills either
pub first_fills : {V : Type 0} (rows others : Rows V) (w : ℕ) (v : V) (bytes : List ℕ) → width_of rows ≡ Some w → Fills rows v bytes → Fills (either_rows rows others) v bytes
first_fills {V = V} rows others w v bytes e fills =
    let (field, more, is, len, passes, behind) = first_take rows w v bytes e fills in
    let rule : rule_of (either_rows rows others) field ≡ None = either_rule_is rows others w field e ∙ ap (λ o. either_rule o (rule_of others field)) passes in
    let rest : rows_after (either_rows rows others) field ≡ rows_after rows field = either_rest_is rows others w field e ∙ ap (λ o. either_rest o (rows_after rows field) (rows_after others field)) passes in
    first_fill (either_rows rows others) w v bytes (either_width rows others w e) (field, more, is, len, rule, subst (λ (r : Rows V). Fills r v more) (sym rest) behind)

-- and so does what fills the others, where its first field breaks the first ones' rule
pub others_fill : {V : Type 0} (rows others : Rows V) (w : ℕ) (kind : FaultKind) (v : V) (bytes : List ℕ) → width_of rows ≡ Some w → width_of others ≡ Some w → rule_of rows (take w bytes) ≡ Some kind → Fills others v bytes
    → Fills (either_rows rows others) v bytes
others_fill {V = V} rows others w kind v bytes e other fails fills =
    let (field, more, is, len, passes, behind) = first_take others w v bytes other fills in
    let front : take w bytes ≡ field = ap (take w) is ∙ ap (λ k. take k (field ++ more)) (sym len) ∙ take-append_seam field more in
    let breaks : rule_of rows field ≡ Some kind = ap (rule_of rows) (sym front) ∙ fails in
    let rule : rule_of (either_rows rows others) field ≡ None = either_rule_is rows others w field e ∙ ap (λ o. either_rule o (rule_of others field)) breaks ∙ passes in
    let rest : rows_after (either_rows rows others) field ≡ rows_after others field = either_rest_is rows others w field e ∙ ap (λ o. either_rest o (rows_after rows field) (rows_after others field)) breaks in
    first_fill (either_rows rows others) w v bytes (either_width rows others w e) (field, more, is, len, rule, subst (λ (r : Rows V). Fills r v more) (sym rest) behind)

either_by : {V : Type 0} (rows others : Rows V) (w : ℕ) (v : V) (bytes field more : List ℕ) (found : Option FaultKind) → width_of rows ≡ Some w → width_of others ≡ Some w → bytes ≡ field ++ more → length field ≡ w → rule_of rows field ≡ found
    → either_rule found (rule_of others field) ≡ None → Fills (either_rest found (rows_after rows field) (rows_after others field)) v more → Fills rows v bytes ⊎ Fills others v bytes
either_by rows others w v bytes field more None e other is len found passes fills = inl (first_fill rows w v bytes e (field, more, is, len, found, fills))
either_by rows others w v bytes field more (Some kind) e other is len found passes fills = inr (first_fill others w v bytes other (field, more, is, len, passes, fills))

-- what fills either rows fills one of them
pub either_take : {V : Type 0} (rows others : Rows V) (w : ℕ) (v : V) (bytes : List ℕ) → width_of rows ≡ Some w → width_of others ≡ Some w → Fills (either_rows rows others) v bytes → Fills rows v bytes ⊎ Fills others v bytes
either_take {V = V} rows others w v bytes e other fills =
    let (field, more, is, len, passes, behind) = first_take (either_rows rows others) w v bytes (either_width rows others w e) fills in
    either_by rows others w v bytes field more (rule_of rows field) e other is len refl (sym (either_rule_is rows others w field e) ∙ passes)
    (subst (λ (r : Rows V). Fills r v more) (either_rest_is rows others w field e) behind)

-- The verdict, field by field, for code that goes over rows: `width_of`, `rule_of` and `rows_after` say what stands next.
use Rattle.std.proofs.Common.{◌≡◌, ℕ, ◌+◌, ◌-◌, ◌<◌, ◌≤◌, List, length, take, drop, Some, None, sym, ap, subst, ◌∙◌, arith}
use Rattle.avl_values.specs.declared.fault.FaultKind.{FaultKind}
use Rattle.avl_values.specs.declared.fault.FaultKind.TheVariants.{Overrun, Excess}
use Rattle.layout.specs.Rows.{Rows, done, refuse, row, whole, short, fault, judge, unless_fault, body}
use Rattle.layout.specs.Next.{width_of, rule_of, rows_after}
use Rattle.layout.proofs.Judging.{judge_short, judge_long, judge_done, judge_refuse, within_full, within_excess, within_overrun, within_row}

width_is : (n w : ℕ) → Some n ≡ Some w → n ≡ w
width_is n w e = cc

-- Rows alone.

pub step_short : {V : Type 0} (rows : Rows V) (w place : ℕ) (bytes : List ℕ) → width_of rows ≡ Some w → length bytes < w → judge rows place bytes ≡ short
step_short (done v) w place bytes e few = absurd (cc)
step_short (refuse kind) w place bytes e few = absurd (cc)
step_short (row n rule rest) w place bytes e few = judge_short n rule rest place bytes (omega (arith, width_is n w e))

pub step_on : {V : Type 0} (rows : Rows V) (w place : ℕ) (bytes : List ℕ) → width_of rows ≡ Some w → w ≤ length bytes → rule_of rows (take w bytes) ≡ None
    → judge rows place bytes ≡ judge (rows_after rows (take w bytes)) (place + w) (drop w bytes)
step_on (done v) w place bytes e fits passes = absurd (cc)
step_on (refuse kind) w place bytes e fits passes = absurd (cc)
step_on {V = V} (row n rule rest) w place bytes e fits passes =
    let P : ℕ → Type 0 = λ k. judge (row k rule rest) place bytes ≡ judge (rest (take w bytes)) (place + w) (drop w bytes) in
    subst P (sym (width_is n w e)) (judge_long w rule rest place bytes fits ∙ ap (λ o. unless_fault o place (judge (rest (take w bytes)) (place + w) (drop w bytes))) passes)

pub step_fault : {V : Type 0} (rows : Rows V) (w place : ℕ) (kind : FaultKind) (bytes : List ℕ) → width_of rows ≡ Some w → w ≤ length bytes → rule_of rows (take w bytes) ≡ Some kind
    → judge rows place bytes ≡ fault kind place
step_fault (done v) w place kind bytes e fits fails = absurd (cc)
step_fault (refuse k) w place kind bytes e fits fails = absurd (cc)
step_fault {V = V} (row n rule rest) w place kind bytes e fits fails =
    let P : ℕ → Type 0 = λ k. judge (row k rule rest) place bytes ≡ fault kind place in
    subst P (sym (width_is n w e)) (judge_long w rule rest place bytes fits ∙ ap (λ o. unless_fault o place (judge (rest (take w bytes)) (place + w) (drop w bytes))) fails)

-- Rows as a body with N bytes left.

pub body_width : {V : Type 0} (rows : Rows V) (w room : ℕ) → width_of rows ≡ Some w → w ≤ room → width_of (body room rows) ≡ Some w
body_width (done v) w room e fits = absurd (cc)
body_width (refuse kind) w room e fits = absurd (cc)
body_width (row n rule rest) w room e fits = ap width_of (within_row room n rule rest (λ v. done v) (omega (arith, width_is n w e))) ∙ e

body_rule : {V : Type 0} (rows : Rows V) (w room : ℕ) (field : List ℕ) → width_of rows ≡ Some w → w ≤ room → rule_of (body room rows) field ≡ rule_of rows field
body_rule (done v) w room field e fits = absurd (cc)
body_rule (refuse kind) w room field e fits = absurd (cc)
body_rule (row n rule rest) w room field e fits = ap (λ r. rule_of r field) (within_row room n rule rest (λ v. done v) (omega (arith, width_is n w e)))

body_rest : {V : Type 0} (rows : Rows V) (w room : ℕ) (field : List ℕ) → width_of rows ≡ Some w → w ≤ room → rows_after (body room rows) field ≡ body (room - w) (rows_after rows field)
body_rest (done v) w room field e fits = absurd (cc)
body_rest (refuse kind) w room field e fits = absurd (cc)
body_rest (row n rule rest) w room field e fits =
    ap (λ r. rows_after r field) (within_row room n rule rest (λ v. done v) (omega (arith, width_is n w e))) ∙ ap (λ k. body (room - k) (rest field)) (width_is n w e)

pub body_overrun : {V : Type 0} (rows : Rows V) (w room place : ℕ) (bytes : List ℕ) → width_of rows ≡ Some w → room < w → judge (body room rows) place bytes ≡ fault Overrun place
body_overrun (done v) w room place bytes e over = absurd (cc)
body_overrun (refuse kind) w room place bytes e over = absurd (cc)
body_overrun (row n rule rest) w room place bytes e over =
    ap (λ r. judge r place bytes) (within_overrun room n rule rest (λ v. done v) (omega (arith, width_is n w e))) ∙ judge_refuse Overrun place bytes

pub body_missing : {V : Type 0} (rows : Rows V) (w room place : ℕ) (bytes : List ℕ) → width_of rows ≡ Some w → w ≤ room → length bytes < w → judge (body room rows) place bytes ≡ short
body_missing rows w room place bytes e fits few = step_short (body room rows) w place bytes (body_width rows w room e fits) few

pub body_on : {V : Type 0} (rows : Rows V) (w room place : ℕ) (bytes : List ℕ) → width_of rows ≡ Some w → w ≤ room → w ≤ length bytes → rule_of rows (take w bytes) ≡ None
    → judge (body room rows) place bytes ≡ judge (body (room - w) (rows_after rows (take w bytes))) (place + w) (drop w bytes)
body_on rows w room place bytes e fits long passes =
    step_on (body room rows) w place bytes (body_width rows w room e fits) long (body_rule rows w room (take w bytes) e fits ∙ passes)
    ∙ ap (λ r. judge r (place + w) (drop w bytes)) (body_rest rows w room (take w bytes) e fits)

pub body_fault : {V : Type 0} (rows : Rows V) (w room place : ℕ) (kind : FaultKind) (bytes : List ℕ) → width_of rows ≡ Some w → w ≤ room → w ≤ length bytes → rule_of rows (take w bytes) ≡ Some kind
    → judge (body room rows) place bytes ≡ fault kind place
body_fault rows w room place kind bytes e fits long fails =
    step_fault (body room rows) w place kind bytes (body_width rows w room e fits) long (body_rule rows w room (take w bytes) e fits ∙ fails)

pub body_whole : {V : Type 0} (v : V) (room place : ℕ) (bytes : List ℕ) → room ≡ 0 → judge (body room (done v)) place bytes ≡ whole v place
body_whole v room place bytes none = ap (λ n. judge (body n (done v)) place bytes) none ∙ ap (λ r. judge r place bytes) (within_full v (λ x. done x)) ∙ judge_done v place bytes

pub body_excess : {V : Type 0} (v : V) (room place : ℕ) (bytes : List ℕ) → 0 < room → judge (body room (done v)) place bytes ≡ fault Excess place
body_excess v room place bytes some = ap (λ r. judge r place bytes) (within_excess room v (λ x. done x) some) ∙ judge_refuse Excess place bytes

use Rattle.std.proofs.Common.{◌≡◌, ◌==◌, ◌∙◌, ap, length, false, true, Ok, Err}
use Rattle.std.proofs.lemmas.Result.{err_from_is_err_and}
use Rattle.journey_script.specs.Lines.{first_of}
use Rattle.journey_script.specs.Table.{read_field, value_kind}
use Rattle.journey_script.proofs.FieldLemmas.{all_read, value_read, value_refused}
use Rattle.journey_script.proofs.fix_line.fix_values.Goals as goal

pub returns-in_err-value-clause-refused : goal.returns-in_err-value-clause-refused
returns-in_err-value-clause-refused c =
    let some : (length c.fields.fields == 0) ≡ false = cc in
    let is : Err c.in_err-value.field-0.0 ≡ read_field value_kind (first_of c.fields.fields) = c.in_err-value.ensures.number ∙ ap (read_field value_kind) c.next.ensures.field in
    let p = err_from_is_err_and c.from_residual.result c.from_residual.ensures.1 in
    rw (p.1, p.2) (value_refused _ _ _ _ c.fields.invariant some is)

pub fields-preserved : goal.fields-preserved
fields-preserved c =
    let some : (length c.fields.fields == 0) ≡ false = cc in
    let is : Ok c.in_ok-value.value ≡ read_field value_kind (first_of c.fields.fields) = c.in_ok-value.ensures.number ∙ ap (read_field value_kind) c.next.ensures.field in
    rw (c.in_ok-push.ensures.items, c.next.ensures.rest) (value_read _ _ _ _ c.fields.invariant some is)

pub returns-clause-values : goal.returns-clause-values
returns-clause-values c =
    let none : (length c.fields.fields == 0) ≡ true = cc in
    all_read _ _ _ c.fields.invariant none

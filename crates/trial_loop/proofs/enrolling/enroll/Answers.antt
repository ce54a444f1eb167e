use Rattle.std.proofs.Common.{◌≡◌, ◌≤◌, ℕ, length, Some, List, sym, ap, subst, ◌∙◌, arith}
use Rattle.std.specs.Prelude.{slice_get}
use Rattle.std.proofs.lemmas.List.{length-map}
use Rattle.std.proofs.lemmas.Option.{slice_get-map}
use Rattle.trial_model.specs.Script.{Device, devices_of, lines_of}
use Rattle.trial_model.specs.declared.script.ScriptLine.{ScriptLine}
use Rattle.journey_script.proofs.ScriptLaws.{script_laws}
use Rattle.trial_loop.specs.Enrolling.{FitsNext, enrolled_after}
use Rattle.trial_loop.proofs.EnrolledLines.{all-taken, next-enrolled, next-fits}
use Rattle.trial_loop.proofs.enrolling.enroll.Goals as goal

pub loop-i-init : goal.loop-i-init
loop-i-init c = record { is_script = c.len-i-end.ensures.is_script; so_far = c.new-devices.ensures.items }

pub enroll_line-requires : goal.enroll_line-requires
enroll_line-requires c =
    let inv = c.loop-i.invariant in
    let script = c.args.script.now in
    let at : slice_get (lines_of script) c.loop-i.i ≡ Some c.line_at.result = slice_get-map (λ (l : ℕ × ScriptLine). l.1) script c.loop-i.i ∙ c.line_at.ensures in
    subst (λ (ds : List Device). FitsNext ds c.line_at.result) (sym inv.so_far) (next-fits (lines_of script) c.loop-i.i c.line_at.result (script_laws script inv.is_script) at)

pub loop-i-preserved : goal.loop-i-preserved
loop-i-preserved c =
    let inv = c.loop-i.invariant in
    let script = c.args.script.now in
    let at : slice_get (lines_of script) c.loop-i.i ≡ Some c.line_at.result = slice_get-map (λ (l : ℕ × ScriptLine). l.1) script c.loop-i.i ∙ c.line_at.ensures in
    record {
      is_script = inv.is_script;
      so_far = c.in_ok-enroll_line.ensures ∙ ap (λ (ds : List Device). enrolled_after ds c.line_at.result) inv.so_far
          ∙ next-enrolled (lines_of script) c.loop-i.i c.line_at.result (script_laws script inv.is_script) at;
    }

pub returns : goal.returns
returns c =
    let lines = lines_of c.args.script.now in
    let all : length lines ≤ c.loop-i.i = omega (arith, length-map c.args.script.now (λ (l : ℕ × ScriptLine). l.1), c.len-i-end.ensures.len, c.loop-i-test.false) in
    record {
      devices = c.loop-i.invariant.so_far ∙ ap devices_of (all-taken lines c.loop-i.i all);
      is_script = c.loop-i.invariant.is_script;
    }

use Rattle.std.proofs.Common.{◌<◌, ◌∙◌, true, false, length, arith}
use Rattle.trial_model.specs.Script.{device_on, lines_of}
use Rattle.fmb_trial.proofs.DeviceLemmas.{counted_line}
use Rattle.fmb_trial.proofs.benches.device_count.Goals.{then-is_device_line, else-is_device_line}
use Rattle.fmb_trial.proofs.benches.device_count.Goals as goal

pub lines-preserved : goal.lines-preserved
lines-preserved c =
    let lines = lines_of c.args.script.now in
    let inside : c.lines.i < length c.args.script.now = omega (arith, c.len-i-end.ensures.len, c.lines-test.true) in
    elim c.if-is_device_line.branch [
      | then-is_device_line w ↦ record {
        few = omega (arith, w.count-is, c.lines.invariant.few);
        left = omega (
          arith,
          w.count-is,
          counted_line c.args.script.now (device_on lines) c.lines.i c.lines.count _ _ true inside c.line_at.ensures (c.is_device_line.ensures lines ∙ w.if-is_device_line.true) c.lines.invariant.left,
        );
      }
      | else-is_device_line w ↦ record {
        few = omega (arith, w.count-is, c.lines.invariant.few);
        left = omega (
          arith,
          w.count-is,
          counted_line c.args.script.now (device_on lines) c.lines.i c.lines.count _ _ false inside c.line_at.ensures (c.is_device_line.ensures lines ∙ w.if-is_device_line.false) c.lines.invariant.left,
        );
      }
    ]

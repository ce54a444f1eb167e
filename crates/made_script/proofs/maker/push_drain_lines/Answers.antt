use Rattle.std.proofs.Common.{◌+◌, arith}
use Rattle.made_script.specs.Made.{drain_lines}
use Rattle.made_script.proofs.Loops.{more_few, no_device, one_device}
use Rattle.made_script.proofs.maker.push_drain_lines.Goals as goal

pub loop-number-init : goal.loop-number-init
loop-number-init c = record { lines = no_device drain_lines c.args.draft.now; few = omega arith }

pub loop-number-preserved : goal.loop-number-preserved
loop-number-preserved c =
    let more = more_few c.loop-number.draft c.push_drains.new.draft (drain_lines (c.loop-number.number + 1)) 3 c.in_ok-push_drains.ensures (omega arith) in
    record {
      lines = one_device drain_lines c.args.draft.now c.loop-number.draft c.push_drains.new.draft c.loop-number.number c.loop-number.invariant.lines c.in_ok-push_drains.ensures;
      few = omega (arith, more, c.loop-number.invariant.few);
    }

use Rattle.std.proofs.Common.{◌+◌, arith}
use Rattle.made_script.specs.Made.{device_lines}
use Rattle.made_script.proofs.Loops.{more_few, no_device, one_device}
use Rattle.made_script.proofs.maker.push_device_lines.Goals as goal

pub loop-number-init : goal.loop-number-init
loop-number-init c = record { lines = no_device device_lines c.args.draft.now; few = omega arith }

pub loop-number-preserved : goal.loop-number-preserved
loop-number-preserved c =
    let more = more_few c.loop-number.draft c.push_device.new.draft (device_lines (c.loop-number.number + 1)) 3 c.in_ok-push_device.ensures (omega arith) in
    record {
      lines = one_device device_lines c.args.draft.now c.loop-number.draft c.push_device.new.draft c.loop-number.number c.loop-number.invariant.lines c.in_ok-push_device.ensures;
      few = omega (arith, more, c.loop-number.invariant.few);
    }

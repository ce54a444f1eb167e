use Rattle.std.proofs.Common.{ap, ◌∙◌}
use Rattle.command_layout.specs.CommandRows.{command_rows}
use Rattle.command_codecs.specs.Verdicts.{scan_verdict}
use Rattle.command_codecs.proofs.MachineSteps.{scanned}
use Rattle.command_codecs.proofs.scanning.scan_command.Goals as goal

pub returns : goal.returns
returns c =
    let w = c.args.way in
    let n = c.args.total in
    ap (scan_verdict n) c.of.ensures ∙ scanned w n c.args.have.now c.scan.result (c.scan.ensures (command_rows w n) c.first.ensures.stands)

use Rattle.std.proofs.Common.{refl}
use Rattle.record_layout.specs.PacketRows.{packet_rows}
use Rattle.record_codecs.proofs.MachineSteps.{scanned}
use Rattle.record_codecs.proofs.scanning.scan.Goals as goal

pub returns : goal.returns
returns c = scanned c.args.total c.args.have.now c.scan.result (c.scan.ensures packet_rows refl)

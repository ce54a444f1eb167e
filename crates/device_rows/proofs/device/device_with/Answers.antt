use Rattle.device_rows.proofs.Playing.{played-starts}
use Rattle.device_rows.proofs.device.device_with.Goals as goal

pub returns-in-Ok : goal.returns-in-Ok
returns-in-Ok c = played-starts _ c.in-Ok.side c.in-Ok.ensures c.requires.plain

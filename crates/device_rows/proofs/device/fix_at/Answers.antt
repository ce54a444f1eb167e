use Rattle.device_rows.proofs.Playing.{played-fixed}
use Rattle.device_rows.proofs.device.fix_at.Goals as goal

pub returns-in-Ok : goal.returns-in-Ok
returns-in-Ok g c = λ n played. played-fixed n c.fix-fix.result c.args.side.now c.fix.new.self played c.in-Ok.ensures

use Rattle.device_rows.proofs.Playing.{played-fused, played-powered}
use Rattle.device_rows.proofs.device.play_one.Goals as goal

pub returns-in-Fuse : goal.returns-in-Fuse
returns-in-Fuse g c = λ n played. played-fused n c.in-Fuse.calls c.args.side.now c.arm_fuse.new.self played c.arm_fuse.ensures

pub returns-in-Power : goal.returns-in-Power
returns-in-Power g c = λ n played. played-powered n c.args.side.now c.power.new.self played c.power.ensures

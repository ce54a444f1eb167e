-- A formatted flash is opened, or memory is refused.
use Rattle.trial_device.proofs.Starting.{formatted-fault, formatted-opens}
use Rattle.trial_device.proofs.flash.open.Goals as goal

pub no_memory-requires : goal.no_memory-requires
no_memory-requires g c =
    formatted-fault c.args.slots (g.B.Medium.state c.args.bench).content c.in-Err.fault (g.met.B.Bench.tells c.args.bench) c.requires.zeros c.in-Err.ensures.refused (c.in-Err.ensures.run_err.never c.requires.unarmed)

pub returns-in-Ok : goal.returns-in-Ok
returns-in-Ok g c =
    let opens = formatted-opens c.args.slots (g.B.Medium.state c.args.bench).content c.in-Ok.ring.slots c.in-Ok.ring.next (g.met.B.Bench.tells c.args.bench) c.requires.zeros c.in-Ok.ensures.holds c.in-Ok.ensures.next in
    record { size = c.in-Ok.ensures.size; durable = c.in-Ok.ensures.durable; empty = opens.0; next = opens.1; left = c.in-Ok.ensures.run.left c.requires.unarmed }

use Rattle.session_core.proofs.Working.{response_reads}
use Rattle.session_core.proofs.work.tell.Goals as goal

pub unreachable-requires : goal.unreachable-requires
unreachable-requires g c = let r = response_reads c.args.body.now c.requires in let b = c.in-Err.ensures.broken in absurd cc

use Rattle.std.proofs.Common.{arith}
use Rattle.fmb_drive.proofs.Halting.{halts_quiet, no_memory}
use Rattle.fmb_drive.proofs.Keeping.{gives_nothing, lost_cut}
use Rattle.fmb_drive.specs.Steps.{Gives}
use Rattle.fmb_drive.proofs.storing.print_lost.Goals as goal

pub returns-in_default-lost_text-clause-stopped : goal.returns-in_default-lost_text-clause-stopped
returns-in_default-lost_text-clause-stopped g c = λ address.
    halts_quiet address (Gives c.args.tracker.now.ring) _ _ _ _ _ _ c.args.tracker.now.ring (gives_nothing c.args.tracker.now.ring) (no_memory _ _ _ (omega arith))

pub returns-clause-stopped : goal.returns-clause-stopped
returns-clause-stopped g c = λ address.
    lost_cut address _ _ _ _ _ _ _ _ _ _ _ c.ring.ensures c.requires.own c.in-Some.ensures.full c.in-Some.ensures.oldest c.as_slice.ensures.value c.in-Ok.ensures c.print.ensures.front c.in-Err.ensures.cause.failed
    c.print.ensures.others

use Rattle.std.proofs.Common.{Some}
use Rattle.desk.specs.Desks.{IsSeatOf}
use Rattle.desk.proofs.Taking.{taken-has, left-have}
use Rattle.timings.proofs.desk_work.seated.Goals as goal

pub loop-number-preserved : goal.loop-number-preserved
loop-number-preserved g c = left-have (IsSeatOf c.args.desk.now) _ _ _ c.pop.ensures.items c.loop-number.invariant

pub new-requires : goal.new-requires
new-requires g c = taken-has (IsSeatOf c.args.desk.now) _ _ (Some c.in_ok-seat.seat) c.in_ok-seat.ensures.items c.loop-number.invariant

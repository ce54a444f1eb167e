use Rattle.trial_device.proofs.Fixing.{side-fixed}
use Rattle.trial_device.proofs.Powering.{side-fused, side-powered}
use Rattle.trial_device.proofs.Rounding.{side-rounded}
use Rattle.trial_device.proofs.Starting.{side-starts}
use Rattle.trial_device.proofs.laws.each_line_keeps_a_side_sound.Goals as goal

pub returns-clause-starts : goal.returns-clause-starts
returns-clause-starts c = side-starts

pub returns-clause-fixed : goal.returns-clause-fixed
returns-clause-fixed c = side-fixed

pub returns-clause-powered : goal.returns-clause-powered
returns-clause-powered c = side-powered

pub returns-clause-fused : goal.returns-clause-fused
returns-clause-fused c = side-fused

pub returns-clause-rounded : goal.returns-clause-rounded
returns-clause-rounded c = side-rounded

use Rattle.std.proofs.Common.{arith}
use Rattle.acquisition.proofs.Together.{fit_together}
use Rattle.acquisition.proofs.elements.values_fit.Goals as goal

pub returns-then-ios-values : goal.returns-then-ios-values
returns-then-ios-values c = (λ h. absurd (cc), λ fit. absurd (omega (arith, fit_together c.args.ios.now c.args.values.now fit)))

use Rattle.std.proofs.Common.{◌++◌, length, arith, ap}
use Rattle.acquisition.specs.Elements.{elements}
use Rattle.acquisition.proofs.Together.{fit_together}
use Rattle.acquisition.proofs.elements.elements.Goals as goal

pub loop-i-init : goal.loop-i-init
loop-i-init c =
    let ios = c.args.ios.now in
    let values = c.args.values.now in
    (fit_together ios values c.requires.fit, omega (arith, ap length c.new-out.ensures), record { fit = c.requires.fit; all = ap (λ o. o ++ elements ios values) c.new-out.ensures })

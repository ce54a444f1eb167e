-- A drain line opens a connection.
use Rattle.trial_model.specs.declared.script.ScriptLine.TheVariants as Line
use Rattle.trial_loop.specs.Loops.{PlaysNext}
use Rattle.trial_loop.proofs.Stepping.{connects-drain, if-ok}
use Rattle.trial_loop.proofs.state.Trial.drain.Goals as goal

pub returns : goal.returns
returns g c =
    if-ok _ (PlaysNext (Line.Drain c.args.imei c.args.piece) c.args.self) c.connect.result (λ new opened. connects-drain c.args.self new c.args.imei c.args.piece opened) c.connect.ensures

-- A round line opens a connection.
use Rattle.std.proofs.Common.{ℕ, false, Option, Some, sym, subst}
use Rattle.trial_model.specs.declared.script.ScriptLine.TheVariants as Line
use Rattle.trial_loop.specs.Loops.{Connects, PlaysNext}
use Rattle.trial_loop.proofs.Stepping.{connects-round, if-ok}
use Rattle.trial_loop.proofs.state.Trial.round.Goals as goal

pub connect-requires-clause-next : goal.connect-requires-clause-next
connect-requires-clause-next g c = (Line.Round c.args.imei c.args.piece c.args.up c.args.down, λ i. Some (record { imei = c.args.imei; drains = false; up = sym c.wide.ensures i; down = sym c.wide-2.ensures i }), c.requires)

pub returns : goal.returns
returns g c =
    if-ok _ (PlaysNext (Line.Round c.args.imei c.args.piece c.args.up c.args.down) c.args.self) c.connect.result
    (λ new opened. connects-round c.args.self new c.args.imei c.args.piece c.args.up c.args.down
    (subst (λ (z : Option ℕ × Option ℕ). Connects (record { imei = c.args.imei; drains = false; up = z.0; down = z.1 }) c.args.self new) (λ i. (c.wide.ensures i, c.wide-2.ensures i)) opened))
    c.connect.ensures

-- A fix of one device.
use Rattle.trial_model.specs.declared.script.ScriptLine.TheVariants as Line
use Rattle.trial_device.specs.Storing.{FixesSide}
use Rattle.trial_loop.proofs.OneSides.{CanFix}
use Rattle.trial_loop.proofs.Stepping.{device-goes, device-stays, fix-fits, is-at, on-ok}
use Rattle.trial_loop.proofs.state.Trial.fix.Goals as goal

fits : (g : _) (c : goal.After-index_mut g) → CanFix c.args.fix.now c.index_mut.result.now
fits g c = fix-fits _ c.args.self.now c.args.imei c.args.fix.now c.in-Some.place c.index_mut.result.now c.self.view_is c.requires
    (is-at c.args.imei c.self.inside.sides.items c.as_slice.result.now c.in-Some.place c.index_mut.result.now c.as_slice.ensures.value c.in-Some.ensures.found c.index_mut.ensures.value)

pub fix-requires-clause-values : goal.fix-requires-clause-values
fix-requires-clause-values g c = (fits g c).values

pub fix-requires-clause-durable : goal.fix-requires-clause-durable
fix-requires-clause-durable g c = (fits g c).durable

pub fix-requires-clause-idle : goal.fix-requires-clause-idle
fix-requires-clause-idle g c = (fits g c).idle

pub fix-requires-clause-short : goal.fix-requires-clause-short
fix-requires-clause-short g c = (fits g c).short

pub returns-in-None : goal.returns-in-None
returns-in-None g c = device-stays (Line.Fix c.args.imei c.args.fix.now) c.args.imei (FixesSide c.args.fix.now) (λ devices lines a b o same. (o, same)) _ c.args.self.now c.self.view_is c.as_slice.result.now c.as_slice.ensures.value c.in-None.ensures.none

pub returns-in-Some : goal.returns-in-Some
returns-in-Some g c =
    on-ok c.fix.result
    (device-goes (Line.Fix c.args.imei c.args.fix.now) c.args.imei (FixesSide c.args.fix.now) (λ devices lines a b o same. (o, same)) _ c.args.self.now c.self.view_is c.in-Some.place c.index_mut.result.now c.fix.new.self
    (is-at c.args.imei c.self.inside.sides.items c.as_slice.result.now c.in-Some.place c.index_mut.result.now c.as_slice.ensures.value c.in-Some.ensures.found c.index_mut.ensures.value))
    c.fix.ensures

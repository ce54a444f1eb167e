-- A power loss of one device.
use Rattle.trial_model.specs.declared.script.ScriptLine.TheVariants as Line
use Rattle.trial_model.specs.declared.script.Who.TheVariants as Who
use Rattle.trial_device.specs.SideLines.{PowersSide}
use Rattle.trial_loop.proofs.Stepping.{device-goes, device-stays, durable-sound, is-at, side-fits}
use Rattle.trial_loop.proofs.state.Trial.power.Goals as goal

pub power-requires : goal.power-requires
power-requires g c =
    durable-sound c.index_mut.result.now.ring (side-fits (Line.Power (Who.Device c.args.imei)) _ c.args.self.now c.args.imei c.in-Some.place c.index_mut.result.now c.self.view_is c.requires
    (is-at c.args.imei c.self.inside.sides.items c.as_slice.result.now c.in-Some.place c.index_mut.result.now c.as_slice.ensures.value c.in-Some.ensures.found c.index_mut.ensures.value)).durable

pub returns-in-Some : goal.returns-in-Some
returns-in-Some g c =
    device-goes (Line.Power (Who.Device c.args.imei)) c.args.imei PowersSide (λ devices lines a b o same. (o, same)) _ c.args.self.now c.self.view_is c.in-Some.place c.index_mut.result.now c.power.new.self
    (is-at c.args.imei c.self.inside.sides.items c.as_slice.result.now c.in-Some.place c.index_mut.result.now c.as_slice.ensures.value c.in-Some.ensures.found c.index_mut.ensures.value)
    c.power.ensures

pub returns-in_default : goal.returns-in_default
returns-in_default g c = device-stays (Line.Power (Who.Device c.args.imei)) c.args.imei PowersSide (λ devices lines a b o same. (o, same)) _ c.args.self.now c.self.view_is c.as_slice.result.now c.as_slice.ensures.value c.in_default.ensures.none

-- A fuse of one device.
use Rattle.trial_model.specs.declared.script.ScriptLine.TheVariants as Line
use Rattle.trial_model.specs.declared.script.Who.TheVariants as Who
use Rattle.trial_device.specs.Sides.{Side}
use Rattle.std.proofs.Common.{◌≡◌, Some}
use Rattle.trial_loop.proofs.Stepping.{device-goes, device-stays, is-at}
use Rattle.trial_loop.proofs.state.Trial.arm_fuse.Goals as goal

pub returns-in-Some : goal.returns-in-Some
returns-in-Some g c =
    device-goes (Line.Fuse (Who.Device c.args.imei) c.args.calls c.args.tear) c.args.imei (λ (d e : Side). e ≡ record d { fuse = Some c.args.calls }) (λ devices lines a b o same. (o, same)) _ c.args.self.now c.self.view_is c.in-Some.place c.index_mut.result.now c.arm_fuse.new.self
    (is-at c.args.imei c.self.inside.sides.items c.as_slice.result.now c.in-Some.place c.index_mut.result.now c.as_slice.ensures.value c.in-Some.ensures.found c.index_mut.ensures.value)
    c.arm_fuse.ensures

pub returns-in_default : goal.returns-in_default
returns-in_default g c = device-stays (Line.Fuse (Who.Device c.args.imei) c.args.calls c.args.tear) c.args.imei (λ (d e : Side). e ≡ record d { fuse = Some c.args.calls }) (λ devices lines a b o same. (o, same)) _ c.args.self.now c.self.view_is c.as_slice.result.now c.as_slice.ensures.value c.in_default.ensures.none

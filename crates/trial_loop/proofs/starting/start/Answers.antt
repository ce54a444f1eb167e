use Rattle.std.proofs.Common.{◌≡◌, ◌≤◌, List, Some, None, sym, ap, subst, ◌∙◌}
use Rattle.std.specs.Prelude.{slice_get}
use Rattle.std.specs.List.{AllZip}
use Rattle.acquisition.specs.Checking.{setting_fault}
use Rattle.journey_script.specs.Laws.{AreDistinct}
use Rattle.journey_script.proofs.ScriptLaws.{script_laws}
use Rattle.journey_script.proofs.SlotLaws.{slot_laws}
use Rattle.trial_device.specs.Sides.{Side}
use Rattle.trial_device.specs.Starting.{StartsSide}
use Rattle.trial_model.specs.Script.{Device, devices_of, lines_of}
use Rattle.trial_play.specs.Trials.{TrialState}
use Rattle.trial_wire.specs.Connections.{Connection}
use Rattle.trial_loop.specs.Loops.{KnowsMarked}
use Rattle.trial_loop.proofs.StartLemmas.{at-place}
use Rattle.trial_loop.proofs.starting.start.Goals as goal

pub sides_of-requires-clause-slots : goal.sides_of-requires-clause-slots
sides_of-requires-clause-slots g c =
    let script = c.args.script.now in
    let same : c.as_slice-2.result.now ≡ devices_of (lines_of script) = c.as_slice-2.ensures.value ∙ c.in_ok-enrolled.ensures.devices in
    λ n d at. at-place (λ (d : Device). (1 ≤ d.slots) × (d.slots ≤ 4096)) (devices_of (lines_of script)) (slot_laws script c.in_ok-enrolled.ensures.is_script) n d (subst (λ (ds : List Device). slice_get ds n ≡ Some d) same at)

pub sides_of-requires-clause-settings : goal.sides_of-requires-clause-settings
sides_of-requires-clause-settings g c =
    let script = c.args.script.now in
    let same : c.as_slice-2.result.now ≡ devices_of (lines_of script) = c.as_slice-2.ensures.value ∙ c.in_ok-enrolled.ensures.devices in
    let laws = script_laws script c.in_ok-enrolled.ensures.is_script in
    λ n d at. at-place (λ (d : Device). setting_fault d.codec d.settings ≡ None) (devices_of (lines_of script)) laws.settings n d (subst (λ (ds : List Device). slice_get ds n ≡ Some d) same at)

pub returns : goal.returns
returns g c =
    let script = c.args.script.now in
    let first : c.as_slice.result.now ≡ devices_of (lines_of script) = c.as_slice.ensures.value ∙ c.in_ok-enrolled.ensures.devices in
    let second : c.as_slice-2.result.now ≡ devices_of (lines_of script) = c.as_slice-2.ensures.value ∙ c.in_ok-enrolled.ensures.devices in
    let laws = script_laws script c.in_ok-enrolled.ensures.is_script in
    let sides : List Side = c.in_ok-sides.sides.items in
    let begun : List Connection → TrialState = λ connections. record { sides = sides; connections = connections; shelf = c.in_ok-shelf.shelf; fuse = None } in
    record {
      trial = record {
        sides = subst (λ (ds : List Device). AllZip StartsSide ds sides) second c.in_ok-sides.ensures;
        shelf = c.in_ok-shelf.ensures;
        is = ap begun c.new.ensures;
      };
      known = subst (λ (ds : List Device). KnowsMarked ds c.in_ok-known.known) first (c.in_ok-known.ensures (subst AreDistinct (sym first) laws.distinct));
    }

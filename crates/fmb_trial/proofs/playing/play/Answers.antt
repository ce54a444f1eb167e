use Rattle.std.proofs.Common.{◌≤◌, suc, length, map, arith}
use Rattle.std.proofs.lemmas.List.{length-map}
use Rattle.trial_play.specs.OnMedia.{BenchStates}
use Rattle.fmb_trial.proofs.DeviceLemmas.{same_count}
use Rattle.fmb_trial.proofs.ScriptLemmas.{played_back}
use Rattle.fmb_trial.proofs.playing.play.Goals as goal

pub returns-clause-played : goal.returns-clause-played
returns-clause-played g c =
    let back = c.in_ok-outcome.benches in
    let benches : BenchStates = record { server = g.H.Rig.Medium.state back.server; devices = map g.H.Rig.Medium.state back.devices.items } in
    let few : suc (length back.devices.items) ≤ suc c.device_count.result =
    omega (arith, c.device_count.ensures, same_count _ benches.devices c.in_ok-outcome.outcome.devices c.in_ok-outcome.ensures.on_media.flashes, length-map back.devices.items g.H.Rig.Medium.state) in
    played_back c.args.script.now c.in_ok-outcome.outcome benches c.device_count.result (g.H.Host.view c.args.host.now) (g.H.Host.view c.give_back.new.host)
    c.in_ok-outcome.ensures.kept c.in_ok-outcome.ensures.on_media c.device_count.ensures
    (c.give_back.ensures.returned (suc c.device_count.result) (g.H.Host.view c.args.host.now) few c.in_ok-benches.ensures.taken)

use Rattle.std.proofs.Common.{◌≡◌, false, map, ◌∙◌, ap}
use Rattle.std.proofs.lemmas.List.Elements.{All-same}
use Rattle.trial_device.specs.Sides.{Side}
use Rattle.trial_loop.specs.Loops.{LoopState}
use Rattle.trial_loop.proofs.outcome.finish.Goals as goal

pub device_outcomes-requires : goal.device_outcomes-requires
device_outcomes-requires g c =
    All-same (λ (d : Side). d.ring.down ≡ false) c.trial.inside.sides.items c.args.trial.trial.sides (ap (λ (t : LoopState). t.trial.sides) c.trial.view_is) c.requires.up

pub returns-clause-benches : goal.returns-clause-benches
returns-clause-benches g c =
    let server = c.into_medium.ensures ∙ ap (λ (t : LoopState). t.trial.shelf.medium) c.trial.view_is in
    let devices = c.in_ok-outcome.ensures.benches ∙ ap (λ (t : LoopState). map (λ (d : Side). d.ring.medium) t.trial.sides) c.trial.view_is in
    λ i. record { server = server i; devices = devices i }

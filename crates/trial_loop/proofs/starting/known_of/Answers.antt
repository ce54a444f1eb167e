use Rattle.std.proofs.Common.{ℕ, List, ◌++◌, sym, ap, ◌∙◌}
use Rattle.std.proofs.lemmas.List.{append-nil}
use Rattle.session_core.specs.Knowing.{holds}
use Rattle.trial_loop.proofs.StartLemmas.{holds-marked, marked-end}
use Rattle.trial_loop.proofs.starting.known_of.Goals as goal

pub returns : goal.returns
returns c =
    let known = c.loop-device.known in
    let all = sym (append-nil known) ∙ ap (λ (more : List ℕ). known ++ more) (sym (marked-end c.args.devices.now c.loop-device.device-index c.loop-device-test.false)) ∙ c.loop-device.invariant in
    λ apart imei. ap (λ (imeis : List ℕ). holds imeis imei) all ∙ holds-marked c.args.devices.now imei apart

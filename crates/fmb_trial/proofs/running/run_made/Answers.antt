use Rattle.std.proofs.Common.{true, refl}
use Rattle.made_script.specs.Made.{made}
use Rattle.fmb_trial.proofs.BenchLemmas.{spent_none}
use Rattle.fmb_trial.proofs.ScriptLemmas.{ran_wanting}
use Rattle.fmb_trial.proofs.running.run_made.Goals as goal

pub returns-in-Err-clause-ran : goal.returns-in-Err-clause-ran
returns-in-Err-clause-ran g c =
    ran_wanting (made c.args.seed c.args.devices c.args.fixes) true _ (g.H.Host.view c.args.host.now) (g.H.Host.view c.args.host.now) (g.H.Host.view c.give_up.new.host) refl
    (spent_none _ _ refl) c.give_up.ensures.status c.give_up.ensures.line c.give_up.ensures.others

use Rattle.fmb_trial.proofs.ScriptLemmas.{ran_finished}
use Rattle.fmb_trial.proofs.playing.run_script.Goals as goal

pub returns-in-Ok : goal.returns-in-Ok
returns-in-Ok g c =
    ran_finished c.args.script.now c.args.brief _ (g.H.Host.view c.args.host.now) (g.H.Host.view c.play.new.host) (g.H.Host.view c.finish.new.host)
    c.play.ensures.others c.in-Ok.outcome c.in-Ok.ensures.played c.finish.ensures

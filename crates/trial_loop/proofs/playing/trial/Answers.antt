-- The trial was played whole.
use Rattle.trial_loop.proofs.AllLines.{all-up, kept-by, media-by}
use Rattle.trial_loop.proofs.playing.trial.Goals as goal

pub finish-requires : goal.finish-requires
finish-requires g c = record { up = all-up c.args.script.now c.in_ok-trial.trial.trial c.in_ok-trial-2.trial.trial c.in_ok-trial.ensures.trial c.in_ok-trial-2.ensures.plays }

pub returns-clause-kept : goal.returns-clause-kept
returns-clause-kept g c =
    kept-by c.finish.result c.args.script.now c.in_ok-trial.trial.trial c.in_ok-trial-2.trial.trial (λ r. r.0) c.play_all.ensures.is_script c.in_ok-trial.ensures.trial c.in_ok-trial-2.ensures.plays c.finish.ensures.outcome

pub returns-clause-on_media : goal.returns-clause-on_media
returns-clause-on_media g c =
    media-by c.finish.result c.args.script.now c.in_ok-trial.trial.trial c.in_ok-trial-2.trial.trial (λ r. r.0) _ c.play_all.ensures.is_script c.in_ok-trial.ensures.trial c.in_ok-trial-2.ensures.plays c.finish.ensures.outcome c.finish.ensures.benches

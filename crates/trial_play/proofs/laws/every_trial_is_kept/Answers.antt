use Rattle.trial_play.proofs.OnMedia.{kept-on-media}
use Rattle.trial_play.proofs.Playing.{plays-sound}
use Rattle.trial_play.proofs.Starting.{starts-trial, trial-kept}
use Rattle.trial_play.proofs.laws.every_trial_is_kept.Goals as goal

pub returns-clause-starts : goal.returns-clause-starts
returns-clause-starts c = starts-trial

pub returns-clause-plays : goal.returns-clause-plays
returns-clause-plays c = plays-sound

pub returns-clause-kept : goal.returns-clause-kept
returns-clause-kept c = trial-kept

pub returns-clause-on_media : goal.returns-clause-on_media
returns-clause-on_media c = kept-on-media

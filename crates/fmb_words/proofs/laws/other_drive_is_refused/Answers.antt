use Rattle.fmb_words.proofs.WordsLemmas.{other_drive_refused}
use Rattle.fmb_words.proofs.laws.other_drive_is_refused.Goals as goal

pub returns : goal.returns
returns c = other_drive_refused

use Rattle.fmb_words.proofs.WordsLemmas.{other_refused}
use Rattle.fmb_words.proofs.laws.other_command_is_refused.Goals as goal

pub returns : goal.returns
returns c = other_refused

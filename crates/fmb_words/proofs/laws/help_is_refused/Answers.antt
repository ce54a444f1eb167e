use Rattle.fmb_words.proofs.WordsLemmas.{help_words_refused}
use Rattle.fmb_words.proofs.laws.help_is_refused.Goals as goal

pub returns : goal.returns
returns c = help_words_refused

use Rattle.fmb_words.proofs.WordsLemmas.{second_file_refused}
use Rattle.fmb_words.proofs.laws.second_file_is_refused.Goals as goal

pub returns : goal.returns
returns c = second_file_refused

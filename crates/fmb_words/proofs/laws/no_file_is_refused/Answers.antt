use Rattle.fmb_words.proofs.WordsLemmas.{no_file_refused}
use Rattle.fmb_words.proofs.laws.no_file_is_refused.Goals as goal

pub returns : goal.returns
returns c = no_file_refused

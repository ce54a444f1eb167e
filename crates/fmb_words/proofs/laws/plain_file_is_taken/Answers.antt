use Rattle.fmb_words.proofs.WordsLemmas.{plain_file_taken}
use Rattle.fmb_words.proofs.laws.plain_file_is_taken.Goals as goal

pub returns : goal.returns
returns c = plain_file_taken

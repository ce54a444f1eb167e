use Rattle.fmb_words.proofs.WordsLemmas.{plain_made_read}
use Rattle.fmb_words.proofs.laws.plain_made_is_read.Goals as goal

pub returns : goal.returns
returns c = plain_made_read

use Rattle.fmb_words.proofs.WordsLemmas.{plain_serve_read}
use Rattle.fmb_words.proofs.laws.plain_serve_is_read.Goals as goal

pub returns : goal.returns
returns c = plain_serve_read

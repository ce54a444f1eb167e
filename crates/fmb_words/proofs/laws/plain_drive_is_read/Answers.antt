use Rattle.fmb_words.proofs.WordsLemmas.{plain_drive_read}
use Rattle.fmb_words.proofs.laws.plain_drive_is_read.Goals as goal

pub returns : goal.returns
returns c = plain_drive_read

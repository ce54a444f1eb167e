use Rattle.std.proofs.Common.{◌∙◌, ap, option_map}
use Rattle.fmb_words.specs.Values.{made, serve}
use Rattle.fmb_words.specs.Words.{words_of}
use Rattle.fmb_words.proofs.WordsLemmas.{asks_read, plain_drive_read, plain_file_taken, plain_made_read, plain_serve_read}
use Rattle.fmb_words.proofs.words.read_words.Goals as goal

pub returns-clause-plain : goal.returns-clause-plain
returns-clause-plain c = λ file plain. (
  λ is. asks_read _ _ c.command_of.result c.command_of.ensures.read c.command_of.ensures.refused (ap words_of is ∙ (plain_file_taken file plain).0),
  λ is. asks_read _ _ c.command_of.result c.command_of.ensures.read c.command_of.ensures.refused (ap words_of is ∙ (plain_file_taken file plain).1),
  λ is. asks_read _ _ c.command_of.result c.command_of.ensures.read c.command_of.ensures.refused (ap words_of is ∙ (plain_file_taken file plain).2),
)

pub returns-clause-plain_made : goal.returns-clause-plain_made
returns-clause-plain_made c = λ seed devices fixes value hs hd hf is asks.
    asks_read _ _ c.command_of.result c.command_of.ensures.read c.command_of.ensures.refused
    (ap words_of is ∙ plain_made_read seed devices fixes hs hd hf ∙ ap (option_map made) asks)

pub returns-clause-plain_serve : goal.returns-clause-plain_serve
returns-clause-plain_serve c = λ rest address archive imeis workers sessions value is form asks.
    asks_read _ _ c.command_of.result c.command_of.ensures.read c.command_of.ensures.refused
    (ap words_of is ∙ plain_serve_read rest address archive imeis workers sessions form ∙ ap (option_map serve) asks)

pub returns-clause-plain_drive : goal.returns-clause-plain_drive
returns-clause-plain_drive c = λ address flash script h k l is.
    asks_read _ _ c.command_of.result c.command_of.ensures.read c.command_of.ensures.refused (ap words_of is ∙ plain_drive_read address flash script h k l)

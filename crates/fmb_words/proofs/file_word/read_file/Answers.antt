use Rattle.std.proofs.Common.{◌∙◌, option_map, sym, ap}
use Rattle.fmb_words.proofs.WordsLemmas.{error_refused, faulty_none, sound_file}
use Rattle.fmb_words.proofs.file_word.read_file.Goals as goal

pub returns-in_err-matches-clause-refused : goal.returns-in_err-matches-clause-refused
returns-in_err-matches-clause-refused c =
    λ is. faulty_none _ _ (error_refused _ c.in_err-matches.field-0.0 c.from_residual.result c.in_err-matches.ensures.kinds c.from_residual.ensures.1 is)

pub returns-clause-read : goal.returns-clause-read
returns-clause-read c =
    sound_file _ _ c.in_ok-matches.ensures.kinds ∙ sym c.in_ok-matches.ensures.file ∙ sym c.get_str.ensures ∙ ap (option_map (λ s. s.now)) c.unwrap.ensures

use Rattle.std.proofs.Common.{◌∙◌, ap, sym}
use Rattle.std.proofs.lemmas.Result.{IfOk-weaker}
use Rattle.fmb_words.specs.Words.{made_read}
use Rattle.fmb_words.proofs.WordsLemmas.{error_refused, faulty_made, sound_made}
use Rattle.fmb_words.proofs.made_words.read_made.Goals as goal

pub returns-in_err-matches-clause-refused : goal.returns-in_err-matches-clause-refused
returns-in_err-matches-clause-refused c =
    λ is. faulty_made _ (error_refused _ c.in_err-matches.field-0.0 c.from_residual.result c.in_err-matches.ensures.kinds c.from_residual.ensures.1 is)

pub returns-clause-read : goal.returns-clause-read
returns-clause-read c =
    IfOk-weaker c.asked_by.result _ _ (λ s is. sound_made _ c.in_ok-matches.ensures.kinds ∙ sym (ap made_read c.in_ok-matches.ensures.rows) ∙ is) c.asked_by.ensures.read

pub returns-clause-refused : goal.returns-clause-refused
returns-clause-refused c = λ is. sound_made _ c.in_ok-matches.ensures.kinds ∙ sym (ap made_read c.in_ok-matches.ensures.rows) ∙ c.asked_by.ensures.refused is

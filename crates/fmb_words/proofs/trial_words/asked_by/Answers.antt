use Rattle.std.proofs.Common.{◌≡◌, ◌∙◌, List, Option, Some, None, codes, option_map, refl, sym, ap}
use Rattle.clap.specs.Words.{Row, Text, first_of, found_of}
use Rattle.fmb_words.specs.Values.{trial}
use Rattle.fmb_words.specs.Words.{is_set, trial_read}
use Rattle.fmb_words.proofs.ServeReading.{value_given}
use Rattle.fmb_words.proofs.trial_words.asked_by.Goals as goal

-- what the two getters say
given : (rows : List Row) (file brief : Option Text) → first_of (codes "FILE") rows ≡ file → first_of (codes "brief") rows ≡ brief → trial_read rows ≡ option_map (λ f. trial f (is_set brief)) file
unfolding trial_read
given rows file brief f b = λ i. option_map (λ f. trial f (is_set (b i))) (f i)

pub returns-in_default-clause-refused : goal.returns-in_default-clause-refused
returns-in_default-clause-refused c = λ _. given _ None _ (value_given (found_of c.args.matches.now) (codes "FILE") c.get_str.result None c.get_str.ensures c.in_default.is) refl

pub returns-clause-read : goal.returns-clause-read
returns-clause-read c =
    given _ (Some c.in-Some.file.now) _ (value_given (found_of c.args.matches.now) (codes "FILE") c.get_str.result (Some c.in-Some.file) c.get_str.ensures c.in-Some.is)
    (value_given (found_of c.args.matches.now) (codes "brief") c.get_str-2.result c.get_str-2.result c.get_str-2.ensures refl)
    ∙ ap (λ b. Some (trial c.in-Some.file.now b)) (sym c.is_set-brief.ensures)

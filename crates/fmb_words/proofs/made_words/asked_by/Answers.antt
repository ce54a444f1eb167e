use Rattle.std.proofs.Common.{◌≡◌, ◌∙◌, List, Option, Some, None, codes, refl}
use Rattle.std.proofs.lemmas.Result.{IfOk-weaker}
use Rattle.clap.specs.Words.{Row, Text, first_of, found_of, rows_of}
use Rattle.fmb_words.specs.Words.{made_asked, made_given, made_read}
use Rattle.fmb_words.proofs.ServeReading.{value_given}
use Rattle.fmb_words.proofs.made_words.asked_by.Goals as goal

-- what the getters say
given : (rows : List Row) (seed devices fixes : Option Text) → first_of (codes "SEED") rows ≡ seed → first_of (codes "DEVICES") rows ≡ devices → first_of (codes "FIXES") rows ≡ fixes
    → made_read rows ≡ made_given seed devices fixes
unfolding made_read
given rows seed devices fixes s d f = λ i. made_given (s i) (d i) (f i)

pub returns-in_default-clause-refused : goal.returns-in_default-clause-refused
returns-in_default-clause-refused c = λ _. given _ None _ _ (value_given (found_of c.args.matches.now) (codes "SEED") c.get_str.result None c.get_str.ensures c.in_default.is) refl refl

pub returns-in_default-get_str-clause-refused : goal.returns-in_default-get_str-clause-refused
returns-in_default-get_str-clause-refused c = λ _.
    given _ (Some c.in-Some.seed.now) None _ (value_given (found_of c.args.matches.now) (codes "SEED") c.get_str.result (Some c.in-Some.seed) c.get_str.ensures c.in-Some.is)
    (value_given (found_of c.args.matches.now) (codes "DEVICES") c.get_str-2.result None c.get_str-2.ensures c.in_default-get_str.is) refl

pub returns-in_default-get_str-2-clause-refused : goal.returns-in_default-get_str-2-clause-refused
returns-in_default-get_str-2-clause-refused c = λ _.
    given _ (Some c.in-Some.seed.now) (Some c.in-Some-get_str.devices.now) None (value_given (found_of c.args.matches.now) (codes "SEED") c.get_str.result (Some c.in-Some.seed) c.get_str.ensures c.in-Some.is)
    (value_given (found_of c.args.matches.now) (codes "DEVICES") c.get_str-2.result (Some c.in-Some-get_str.devices) c.get_str-2.ensures c.in-Some-get_str.is)
    (value_given (found_of c.args.matches.now) (codes "FIXES") c.get_str-3.result None c.get_str-3.ensures c.in_default-get_str-2.is)

-- what all getters gave together
all_given : (c : goal.After-asked) → made_read (rows_of (found_of c.args.matches.now)) ≡ made_asked c.in-Some.seed.now c.in-Some-get_str.devices.now c.in-Some-get_str-2.fixes.now
all_given c =
    given _ (Some c.in-Some.seed.now) (Some c.in-Some-get_str.devices.now) (Some c.in-Some-get_str-2.fixes.now)
    (value_given (found_of c.args.matches.now) (codes "SEED") c.get_str.result (Some c.in-Some.seed) c.get_str.ensures c.in-Some.is)
    (value_given (found_of c.args.matches.now) (codes "DEVICES") c.get_str-2.result (Some c.in-Some-get_str.devices) c.get_str-2.ensures c.in-Some-get_str.is)
    (value_given (found_of c.args.matches.now) (codes "FIXES") c.get_str-3.result (Some c.in-Some-get_str-2.fixes) c.get_str-3.ensures c.in-Some-get_str-2.is)

pub returns-clause-read : goal.returns-clause-read
returns-clause-read c = IfOk-weaker c.asked.result _ _ (λ s is. all_given c ∙ is) c.asked.ensures.read

pub returns-clause-refused : goal.returns-clause-refused
returns-clause-refused c = λ is. all_given c ∙ c.asked.ensures.refused is

use Rattle.std.proofs.Common.{◌≡◌, ◌∙◌, ℕ, List, Bor, Some, None, codes, refl, map}
use Rattle.std.proofs.lemmas.Result.{IfOk-weaker}
use Rattle.clap.specs.Words.{found_of, rows_of}
use Rattle.fmb_words.specs.Words.{serve_asked, serve_read}
use Rattle.fmb_words.proofs.ServeReading.{given, value_given, values_given}
use Rattle.fmb_words.proofs.serve_words.asked_by.Goals as goal

pub returns-in_default-clause-refused : goal.returns-in_default-clause-refused
returns-in_default-clause-refused c = λ _. given _ None _ _ _ _ (value_given (found_of c.args.matches.now) (codes "ADDRESS") c.get_str.result None c.get_str.ensures c.in_default.is) refl refl refl refl

pub returns-in_default-get_str-clause-refused : goal.returns-in_default-get_str-clause-refused
returns-in_default-get_str-clause-refused c = λ _.
    given _ (Some c.in-Some.address.now) None _ _ _ (value_given (found_of c.args.matches.now) (codes "ADDRESS") c.get_str.result (Some c.in-Some.address) c.get_str.ensures c.in-Some.is)
    (value_given (found_of c.args.matches.now) (codes "ARCHIVE") c.get_str-2.result None c.get_str-2.ensures c.in_default-get_str.is) refl refl refl

pub returns-in_default-get_str-2-clause-refused : goal.returns-in_default-get_str-2-clause-refused
returns-in_default-get_str-2-clause-refused c = λ _.
    given _ (Some c.in-Some.address.now) (Some c.in-Some-get_str.archive.now) None _ _ (value_given (found_of c.args.matches.now) (codes "ADDRESS") c.get_str.result (Some c.in-Some.address) c.get_str.ensures c.in-Some.is)
    (value_given (found_of c.args.matches.now) (codes "ARCHIVE") c.get_str-2.result (Some c.in-Some-get_str.archive) c.get_str-2.ensures c.in-Some-get_str.is) refl
    (value_given (found_of c.args.matches.now) (codes "workers") c.get_str-3.result None c.get_str-3.ensures c.in_default-get_str-2.is) refl

pub returns-in_default-get_str-3-clause-refused : goal.returns-in_default-get_str-3-clause-refused
returns-in_default-get_str-3-clause-refused c = λ _.
    given _ (Some c.in-Some.address.now) (Some c.in-Some-get_str.archive.now) (Some c.in-Some-get_str-2.workers.now) None _
    (value_given (found_of c.args.matches.now) (codes "ADDRESS") c.get_str.result (Some c.in-Some.address) c.get_str.ensures c.in-Some.is)
    (value_given (found_of c.args.matches.now) (codes "ARCHIVE") c.get_str-2.result (Some c.in-Some-get_str.archive) c.get_str-2.ensures c.in-Some-get_str.is) refl
    (value_given (found_of c.args.matches.now) (codes "workers") c.get_str-3.result (Some c.in-Some-get_str-2.workers) c.get_str-3.ensures c.in-Some-get_str-2.is)
    (value_given (found_of c.args.matches.now) (codes "sessions") c.get_str-4.result None c.get_str-4.ensures c.in_default-get_str-3.is)

-- what all getters gave together
all_given : (c : goal.After-asked) → serve_read (rows_of (found_of c.args.matches.now))
    ≡ serve_asked c.in-Some.address.now c.in-Some-get_str.archive.now (map (λ (w : Bor (List ℕ)). w.now) c.unwrap_or-devices.result.now) c.in-Some-get_str-2.workers.now c.in-Some-get_str-3.sessions.now
all_given c =
    given _ (Some c.in-Some.address.now) (Some c.in-Some-get_str.archive.now) (Some c.in-Some-get_str-2.workers.now) (Some c.in-Some-get_str-3.sessions.now) _
    (value_given (found_of c.args.matches.now) (codes "ADDRESS") c.get_str.result (Some c.in-Some.address) c.get_str.ensures c.in-Some.is)
    (value_given (found_of c.args.matches.now) (codes "ARCHIVE") c.get_str-2.result (Some c.in-Some-get_str.archive) c.get_str-2.ensures c.in-Some-get_str.is)
    (values_given (found_of c.args.matches.now) (codes "IMEI") c.get_strs.result _ c.unwrap_or-devices.result c.get_strs.ensures c.unwrap_or-devices.ensures refl)
    (value_given (found_of c.args.matches.now) (codes "workers") c.get_str-3.result (Some c.in-Some-get_str-2.workers) c.get_str-3.ensures c.in-Some-get_str-2.is)
    (value_given (found_of c.args.matches.now) (codes "sessions") c.get_str-4.result (Some c.in-Some-get_str-3.sessions) c.get_str-4.ensures c.in-Some-get_str-3.is)

pub returns-clause-read : goal.returns-clause-read
returns-clause-read c = IfOk-weaker c.asked.result _ _ (λ s is. all_given c ∙ is) c.asked.ensures.read

pub returns-clause-refused : goal.returns-clause-refused
returns-clause-refused c = λ is. all_given c ∙ c.asked.ensures.refused is

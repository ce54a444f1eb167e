use Rattle.std.proofs.Common.{Some, None, codes, refl}
use Rattle.clap.specs.Words.{found_of}
use Rattle.fmb_words.proofs.DriveReading.{drive_asked}
use Rattle.fmb_words.proofs.ServeReading.{value_given}
use Rattle.fmb_words.proofs.drive_words.asked_by.Goals as goal

pub returns-in_default-clause-refused : goal.returns-in_default-clause-refused
returns-in_default-clause-refused c = λ _. drive_asked _ None _ _ (value_given (found_of c.args.matches.now) (codes "ADDRESS") c.get_str.result None c.get_str.ensures c.in_default.is) refl refl

pub returns-in_default-get_str-clause-refused : goal.returns-in_default-get_str-clause-refused
returns-in_default-get_str-clause-refused c = λ _.
    drive_asked _ (Some c.in-Some.address.now) None _ (value_given (found_of c.args.matches.now) (codes "ADDRESS") c.get_str.result (Some c.in-Some.address) c.get_str.ensures c.in-Some.is)
    (value_given (found_of c.args.matches.now) (codes "FLASH") c.get_str-2.result None c.get_str-2.ensures c.in_default-get_str.is) refl

pub returns-in_default-get_str-2-clause-refused : goal.returns-in_default-get_str-2-clause-refused
returns-in_default-get_str-2-clause-refused c = λ _.
    drive_asked _ (Some c.in-Some.address.now) (Some c.in-Some-get_str.flash.now) None (value_given (found_of c.args.matches.now) (codes "ADDRESS") c.get_str.result (Some c.in-Some.address) c.get_str.ensures c.in-Some.is)
    (value_given (found_of c.args.matches.now) (codes "FLASH") c.get_str-2.result (Some c.in-Some-get_str.flash) c.get_str-2.ensures c.in-Some-get_str.is)
    (value_given (found_of c.args.matches.now) (codes "SCRIPT") c.get_str-3.result None c.get_str-3.ensures c.in_default-get_str-2.is)

pub returns-clause-read : goal.returns-clause-read
returns-clause-read c =
    drive_asked _ (Some c.in-Some.address.now) (Some c.in-Some-get_str.flash.now) (Some c.in-Some-get_str-2.script.now) (value_given (found_of c.args.matches.now) (codes "ADDRESS") c.get_str.result (Some c.in-Some.address) c.get_str.ensures c.in-Some.is)
    (value_given (found_of c.args.matches.now) (codes "FLASH") c.get_str-2.result (Some c.in-Some-get_str.flash) c.get_str-2.ensures c.in-Some-get_str.is)
    (value_given (found_of c.args.matches.now) (codes "SCRIPT") c.get_str-3.result (Some c.in-Some-get_str-2.script) c.get_str-3.ensures c.in-Some-get_str-2.is)

use Rattle.std.proofs.Common.{refl, string_bytes, sym}
use Rattle.fmb_words.proofs.WordsLemmas.{none_refused}
use Rattle.fmb_words.proofs.words.command_of.Goals as goal

pub returns-in_default-as_str-clause-refused : goal.returns-in_default-as_str-clause-refused
returns-in_default-as_str-clause-refused c = λ _. (
  λ _. none_refused string_bytes c.args.words.now _ _ (sym c.in-Some.ensures.value) c.as_str.ensures.value c.in_default-as_str.not-show c.in_default-as_str.not-trial c.in_default-as_str.not-made c.in_default-as_str.not-serve c.in_default-as_str.not-drive,
  λ _. refl,
)

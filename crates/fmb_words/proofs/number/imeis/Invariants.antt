use Rattle.fmb_words.proofs.NumberLemmas.{Reads}
use Rattle.fmb_words.proofs.number.imeis.Given as goal

abbrev pub invariant-words : goal.invariant-words
invariant-words l = Reads (λ w. w.now) l.words l.word-index l.list.items

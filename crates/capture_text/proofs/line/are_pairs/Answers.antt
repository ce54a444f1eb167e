use Rattle.capture_text.proofs.LineLemmas.{decoded_digits, pairs_decode}
use Rattle.capture_text.proofs.line.are_pairs.Goals as goal

pub returns-then-digits-eq0 : goal.returns-then-digits-eq0
returns-then-digits-eq0 c = (
  λ all. pairs_decode c.args.digits.now c.if-digits-eq0.true (c.are_digits.ensures.0 all),
  λ ok. c.are_digits.ensures.1 (decoded_digits c.args.digits.now ok),
)

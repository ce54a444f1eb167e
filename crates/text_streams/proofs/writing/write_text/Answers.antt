use Rattle.std.proofs.Common.{◌∙◌, arith}
use Rattle.text_streams.proofs.WriteLemmas.{front_grows}
use Rattle.text_streams.proofs.writing.write_text.Goals as goal

pub loop-at-preserved : goal.loop-at-preserved
loop-at-preserved g c = (
  omega (arith, c.in_ok-at.ensures.bound),
  front_grows c.args.text.now c.loop-at.at c.in_ok-at.field-0 _ _ _ c.loop-at.invariant.1 c.in_ok-at.ensures.bytes,
  c.in_ok-at.ensures.cause.passed ∙ c.loop-at.invariant.2,
)

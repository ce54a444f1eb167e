use Rattle.std.proofs.Common.{◌-◌, length, drop, ◌∙◌, arith}
use Rattle.std.proofs.lemmas.List.{length-drop, length-take}
use Rattle.links.proofs.Moving.{part_then, all_parts}
use Rattle.links.proofs.sending.send.Goals as goal

pub loop-done-preserved : goal.loop-done-preserved
loop-done-preserved g c = (
  omega (arith, c.loop-done.invariant.0, c.in_ok-done.ensures.bound, length-take (length c.args.bytes.now - c.loop-done.done) (drop c.loop-done.done c.args.bytes.now), length-drop c.loop-done.done c.args.bytes.now),
  part_then c.loop-done.done c.in_ok-done.field-0 c.args.bytes.now _ _ _ c.loop-done.invariant.1 c.in_ok-done.ensures.wrote,
  c.in_ok-done.ensures.cause.passed ∙ c.loop-done.invariant.2,
  g.met.L.Link.follows_then _ _ _ c.loop-done.invariant.3 c.in_ok-done.ensures.follows,
)

pub returns-clause-whole : goal.returns-clause-whole
returns-clause-whole g c = all_parts c.loop-done.done c.args.bytes.now _ _ (omega (arith, c.loop-done.invariant.0, c.loop-done-test.false)) c.loop-done.invariant.1

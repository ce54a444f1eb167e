-- One span more was taken away.
use Rattle.std.proofs.Common.{◌∙◌, refl}
use Rattle.medium.proofs.Outside.{one-unmarked}
use Rattle.medium.proofs.spans.unmark.Goals as goal

pub loop-i-preserved : goal.loop-i-preserved
loop-i-preserved c =
    record {
      size = c.unmark_span.ensures.size ∙ c.loop-i.invariant.size;
      left = one-unmarked c.args.spans.now c.loop-i.i _ _ _ c.loop-i.marks c.unmark_span.new.marks c.loop-i-test.true refl refl c.unmark_span.ensures c.loop-i.invariant.left;
    }

-- One span more was copied.
use Rattle.std.proofs.Common.{◌∙◌, refl}
use Rattle.medium.proofs.Outside.{one-copied}
use Rattle.medium.proofs.spans.copy_spans.Goals as goal

pub loop-i-preserved : goal.loop-i-preserved
loop-i-preserved c =
    record {
      size = c.copy_span.ensures.size ∙ c.loop-i.invariant.size;
      left = one-copied c.args.spans.now c.loop-i.i _ _ _ c.args.from.now c.loop-i.into c.copy_span.new.into c.loop-i-test.true refl refl c.copy_span.ensures c.loop-i.invariant.left;
    }

-- The last span takes the other in.
use Rattle.std.proofs.Common.{sym, subst, List}
use Rattle.medium.specs.Buffer.{HasMore}
use Rattle.medium.specs.declared.spans.Span.{Span}
use Rattle.medium.proofs.Outside.{widened-more}
use Rattle.medium.proofs.spans.widen.Goals as goal

pub returns-in-Some : goal.returns-in-Some
returns-in-Some c =
    subst (λ (xs : List Span). HasMore c.args.span c.args.spans.now.items xs) (sym c.push.ensures.items)
    (widened-more c.pop.new.self.items c.args.spans.now.items c.in-Some.last c.args.span _ c.in-Some.ensures.items c.min.ensures c.max.ensures)

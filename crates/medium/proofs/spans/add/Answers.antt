-- One span more comes after the others.
use Rattle.std.proofs.Common.{sym, subst, List}
use Rattle.medium.specs.Buffer.{HasMore}
use Rattle.medium.specs.declared.spans.Span.{Span}
use Rattle.medium.proofs.Outside.{pushed-more}
use Rattle.medium.proofs.spans.add.Goals as goal

pub returns : goal.returns
returns c = subst (λ (xs : List Span). HasMore c.args.span c.args.spans.now.items xs) (sym c.push.ensures.items) (pushed-more c.args.spans.now.items c.args.span)

use Rattle.std.proofs.Common.{◌==◌, if◌then◌else◌, ap, subst, ◌∙◌}
use Rattle.fmb_host.specs.Host.{TakesBackMedium}
use Rattle.fmb_serve.proofs.serving.close.Goals as goal

pub returns : goal.returns
returns g c = record {
  printed = c.tell-printed.result;
  told_at = g.H.Host.view c.tell-printed.new.host;
  left_at = g.H.Host.view c.give_back.new.host;
  told = c.tell-printed.ensures;
  doors_back = c.give_back.ensures;
  medium_back = subst (λ m. TakesBackMedium (g.H.Host.view c.give_back.new.host) m (g.H.Host.view c.medium_back.new.self)) c.into_medium.ensures c.medium_back.ensures;
  says = c.status_after.ensures ∙ ap (λ s. if s == 0 then c.tell-printed.result else s) c.status_of-serving.ensures.status;
  reads = c.status_of-serving.ensures.reads;
}

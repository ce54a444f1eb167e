-- The laws of a wire's calls: none, one after the other, and what they tell.
use Rattle.std.proofs.Common.{[], ◌++◌, take, refl, sym, ap, ◌∙◌, append_assoc, append-nil, arith}
use Rattle.links.specs.Going.{same_traffic}
use Rattle.links.specs.Links.{IsLater}
use Rattle.trial_wire.specs.WireLinks.{Follows, WireState, link_state}

pub follows_none : (a : WireState) → Follows a a
follows_none a = record {
  known = refl;
  limit = refl;
  most = refl;
  sent = [];
  up = sym (append-nil a.up);
  taken = [];
  takes = sym (append-nil (take a.heard a.down));
  faults = omega arith;
  keeps = λ old start h. h;
}

pub follows_then : (a b c : WireState) → Follows a b → Follows b c → Follows a c
follows_then a b c f g = record {
  known = g.known ∙ f.known;
  limit = g.limit ∙ f.limit;
  most = g.most ∙ f.most;
  sent = f.sent ++ g.sent;
  up = g.up ∙ (ap (λ xs. xs ++ g.sent) f.up ∙ append_assoc a.up f.sent g.sent);
  taken = f.taken ++ g.taken;
  takes = g.takes ∙ (ap (λ xs. xs ++ g.taken) f.takes ∙ append_assoc (take a.heard a.down) f.taken g.taken);
  faults = omega (arith, f.faults, g.faults);
  keeps = λ old start h. g.keeps old start (f.keeps old start h);
}

pub follows_later : (a b : WireState) → Follows a b → IsLater (link_state a) (link_state b)
follows_later a b f = record {
  taken = f.taken;
  written = f.sent;
  moves = same_traffic (take b.heard b.down) b.up (take a.heard a.down ++ f.taken) (a.up ++ f.sent) f.takes f.up;
  faults = f.faults;
}

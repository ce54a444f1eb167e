use Rattle.std.proofs.Common.{◌≡◌, length, List, sym, ◌∙◌, subst, arith}
use Rattle.std.specs.List.{Contains}
use Rattle.trial_wire.specs.Connections.{Connection}
use Rattle.trial_loop.specs.Opened.{AreAt}
use Rattle.trial_loop.proofs.Opened.{at-more, at-push}
use Rattle.trial_loop.proofs.connections.Connections.push.Goals as goal

pub invariant_of-self : goal.invariant_of-self
invariant_of-self c = at-more c.self.inside.places.items c.note.new.places.items c.self.inside.all.items c.self.invariant c.note.ensures.kept

pub invariant_of-self-2 : goal.invariant_of-self-2
invariant_of-self-2 c =
    let long : c.len.result ≡ length c.self.inside.all.items = omega (arith, c.len.ensures, c.self.inside.all.ok.0) in
    subst (λ (ws : List Connection). AreAt c.note.new.places.items ws) (sym c.in_ok-push.ensures.items)
    (at-push c.self.inside.places.items c.note.new.places.items c.self.inside.all.items c.args.connection c.self.invariant c.note.ensures.kept
    (λ on. subst (Contains c.note.new.places.items) long (c.in_ok-note.ensures.noted (c.goes_on.ensures ∙ on))))

use Rattle.std.proofs.Common.{List, sym, subst}
use Rattle.trial_wire.specs.Connections.{Connection}
use Rattle.trial_loop.specs.Opened.{AreAt}
use Rattle.trial_loop.proofs.Opened.{cut-at-none}
use Rattle.trial_loop.proofs.connections.Connections.cut_all.Goals as goal

pub invariant_of-self : goal.invariant_of-self
invariant_of-self c = subst (λ (ws : List Connection). AreAt c.clear.new.self.items ws) (sym c.cut_at.ensures) (cut-at-none c.clear.new.self.items c.self.inside.all.items)

use Rattle.std.proofs.Common.{◌≡◌, ◌-◌, inl, inr, List, set, sym, ◌∙◌, ap, subst, arith}
use Rattle.trial_play.specs.ServerLines.{changed_at}
use Rattle.trial_wire.specs.Connections.{Connection, shut}
use Rattle.trial_loop.proofs.Opened.{changed-none, changed-set}
use Rattle.trial_loop.proofs.connections.Connections.close.Goals.{else-number-ge1-via-then-number-ge1+else-number-len, else-number-ge1-via-else-number-ge1}
use Rattle.trial_loop.proofs.connections.Connections.close.Goals as goal

pub returns-then-number-len : goal.returns-then-number-len
returns-then-number-len c =
    let items = c.self.inside.all.items in
    ap (λ (w : Connection). set items (c.args.number - 1) w) c.shut.ensures
    ∙ sym (changed-set shut c.args.number (c.args.number - 1) items c.index_mut.result.now (omega arith) (omega (arith, c.len.ensures, c.self.inside.all.ok.0)) c.index_mut.ensures.value)
    ∙ ap (changed_at shut c.args.number) c.self.view_is

pub returns-else-number-ge1 : goal.returns-else-number-ge1
returns-else-number-ge1 c =
    subst (λ (ws : List Connection). ws ≡ changed_at shut c.args.number ws) c.self.view_is
    (sym (changed-none shut c.args.number c.self.inside.all.items (elim c.else-number-ge1.branch [
      | else-number-ge1-via-then-number-ge1+else-number-len w ↦ inr (omega (arith, w.len.ensures, w.if-number-len.false, c.self.inside.all.ok.0))
      | else-number-ge1-via-else-number-ge1 w ↦ inl (omega (arith, w.if-number-ge1.false))
    ])))

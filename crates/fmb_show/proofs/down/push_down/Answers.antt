use Rattle.std.proofs.Common.{◌++◌, sym, subst, ap, ◌∙◌, arith, append-nil}
use Rattle.command_layout.specs.declared.way.Way.TheVariants.{Down}
use Rattle.item_streams.specs.Readers.{fresh}
use Rattle.frame_layout.proofs.Exports.{down_begins}
use Rattle.frame_layout.specs.DownRows.{down_rows}
use Rattle.frame_layout.specs.Readings.{IsFramedCommand}
use Rattle.frame_channel.specs.DownPushes.{IsLentDown, decided_down, lent_down}
use Rattle.frame_channel.specs.declared.down_item.DownItem.{DownItem}
use Rattle.frame_channel.specs.declared.down_item.DownItem.TheVariants.{More, Login, Count, Order}
use Rattle.fmb_show.specs.ItemLines.{command_line, down_lines}
use Rattle.fmb_show.proofs.StreamShows.{begins, shows_fault, shows_more}
use Rattle.fmb_show.proofs.down.push_down.Goals as goal
use Rattle.fmb_show.proofs.down.push_down.Goals.{then-after_answer, else-after_answer}

pub loop-at-init : goal.loop-at-init
loop-at-init c = elim c.if-after_answer.branch [
  | then-after_answer w ↦ begins down_rows lent_down down_lines c.args.after_answer c.args.bytes.now c.args.line c.args.out.now.items c.if-after_answer.down down_begins (w.down-is ∙ w.answers-down.ensures ∙ ap fresh (sym w.if-after_answer.true))
  | else-after_answer w ↦ begins down_rows lent_down down_lines c.args.after_answer c.args.bytes.now c.args.line c.args.out.now.items c.if-after_answer.down down_begins (w.down-is ∙ w.new-down.ensures ∙ ap fresh (sym w.if-after_answer.false))
]

pub loop-at-preserved-in-More : goal.loop-at-preserved-in-More
loop-at-preserved-in-More c =
    shows_more down_rows lent_down down_lines _ _ _ _ _ _ _ _ _ _ _ (decided_down More c.push-taken.new.self.body) down_begins c.loop-at.invariant c.push-taken.ensures.pushed (ap (λ i. decided_down i c.push-taken.new.self.body) c.in-More.is) tt
    (sym (append-nil c.loop-at.out.items))

pub loop-at-preserved-in-Continue-1 : goal.loop-at-preserved-in-Continue-1
loop-at-preserved-in-Continue-1 c =
    shows_more down_rows lent_down down_lines _ _ _ _ _ _ _ _ _ _ _ (decided_down (Login c.in-Login.byte) c.push-taken.new.self.body) down_begins c.loop-at.invariant c.push-taken.ensures.pushed
    (ap (λ i. decided_down i c.push-taken.new.self.body) c.in-Login.is) tt c.in_ok-push_line-in-Login.ensures.ok

pub loop-at-preserved-in-Continue-branch-2 : goal.loop-at-preserved-in-Continue-branch-2
loop-at-preserved-in-Continue-branch-2 c =
    shows_more down_rows lent_down down_lines _ _ _ _ _ _ _ _ _ _ _ (decided_down (Count c.in-Count.n) c.push-taken.new.self.body) down_begins c.loop-at.invariant c.push-taken.ensures.pushed
    (ap (λ i. decided_down i c.push-taken.new.self.body) c.in-Count.is) tt c.in_ok-push_line-in-Count.ensures.ok

pub push_command-requires : goal.push_command-requires
push_command-requires c =
    let body = c.push-taken.new.self.body in
    let lent : IsFramedCommand Down body = subst (λ (i : DownItem). IsLentDown i body) c.in-Order.is c.push-taken.ensures.lent in
    rw c.body.ensures (omega (arith, lent.fits))

pub loop-at-preserved : goal.loop-at-preserved
loop-at-preserved c =
    shows_more down_rows lent_down down_lines _ _ _ _ _ _ _ _ _ _ _ (decided_down Order c.push-taken.new.self.body) down_begins c.loop-at.invariant c.push-taken.ensures.pushed (ap (λ i. decided_down i c.push-taken.new.self.body) c.in-Order.is) tt
    (c.in_ok-push_command-in-Order.ensures ∙ ap (λ body. c.loop-at.out.items ++ command_line Down body c.args.line) c.body.ensures)

pub returns-in-Broken-clause-text : goal.returns-in-Broken-clause-text
returns-in-Broken-clause-text c =
    c.in_ok-push_line-in-Broken.ensures.ok
    ∙ (shows_fault down_rows lent_down down_lines _ _ _ _ _ _ _ _ _ _ c.in-Broken.fault down_begins c.loop-at.invariant c.push-taken.ensures.pushed (ap (λ i. decided_down i c.push-taken.new.self.body) c.in-Broken.is)).0

pub returns-in-Broken-clause-faulty : goal.returns-in-Broken-clause-faulty
returns-in-Broken-clause-faulty c =
    sym (shows_fault down_rows lent_down down_lines _ _ _ _ _ _ _ _ _ _ c.in-Broken.fault down_begins c.loop-at.invariant c.push-taken.ensures.pushed (ap (λ i. decided_down i c.push-taken.new.self.body) c.in-Broken.is)).1

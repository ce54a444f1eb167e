use Rattle.std.proofs.Common.{◌+◌, ◌∙◌, ap, arith}
use Rattle.layout.proofs.Numbers.{are_bytes}
use Rattle.item_streams.proofs.ReaderSteps.{decided}
use Rattle.frame_layout.specs.DownRows.{down_rows}
use Rattle.frame_channel.specs.DownPushes.{PushedDown, decided_down, lent_down}
use Rattle.frame_channel.proofs.LentBodies.{down_lent, undecided_down}
use Rattle.frame_channel.proofs.down.Down.push_counted.Goals as goal

pub returns-in_default : goal.returns-in_default
returns-in_default g c =
    let old = c.args.self.now in
    let new = c.take.new.self in
    let piece = c.args.piece.now in
    let answer = c.take.result in
    let pushed : PushedDown old new piece (c.loop-i.i + 1) answer =
    decided down_rows lent_down old c.loop-i.self new piece c.loop-i.i (decided_down answer new.body) c.loop-i-test.true c.loop-i.invariant.0 c.take.ensures.pushed (λ e. c.in_default.not-More (undecided_down answer new.body e)) in
    record { pushed = pushed; lent = down_lent old new piece (c.loop-i.i + 1) answer c.held.ensures.bytes (are_bytes piece (λ i. omega (arith, c.type_inv.piece i))) pushed; steps = c.take.ensures.step ∙ ap (λ n. n + 1) c.loop-i.invariant.1 ∙ omega arith }

use Rattle.std.proofs.Common.{◌+◌, ◌∙◌, ap, arith}
use Rattle.layout.proofs.Numbers.{are_bytes}
use Rattle.item_streams.proofs.ReaderSteps.{decided}
use Rattle.frame_layout.specs.UpRows.{up_rows}
use Rattle.frame_channel.specs.UpPushes.{PushedUp, decided_up, lent_up}
use Rattle.frame_channel.proofs.LentBodies.{up_lent, undecided_up}
use Rattle.frame_channel.proofs.up.Up.push_counted.Goals as goal

pub returns-in_default : goal.returns-in_default
returns-in_default g c =
    let old = c.args.self.now in
    let new = c.take.new.self in
    let piece = c.args.piece.now in
    let answer = c.take.result in
    let pushed : PushedUp old new piece (c.loop-i.i + 1) answer =
    decided up_rows lent_up old c.loop-i.self new piece c.loop-i.i (decided_up answer new.body) c.loop-i-test.true c.loop-i.invariant.0 c.take.ensures.pushed (λ e. c.in_default.not-More (undecided_up answer new.body e)) in
    record { pushed = pushed; lent = up_lent old new piece (c.loop-i.i + 1) answer c.held.ensures.bytes (are_bytes piece (λ i. omega (arith, c.type_inv.piece i))) pushed; steps = c.take.ensures.step ∙ ap (λ n. n + 1) c.loop-i.invariant.1 ∙ omega arith }

use Rattle.std.proofs.Common.{◌≡◌, List, ℕ, [], ◌∷◌, ◌++◌, false, true, sym, ap, subst, ◌∙◌, arith}
use Rattle.item_streams.specs.Readers.{Reader}
use Rattle.frame_channel.specs.DownPushes.{PushedByteDown}
use Rattle.frame_channel.specs.declared.down_item.DownItem.TheVariants.{More, Login, Count, Order}
use Rattle.frame_channel.proofs.DownSteps.{answer_byte, count_byte, has_few, on_byte, order_byte, seen}
use Rattle.frame_channel.proofs.down.Down.take.Goals as goal

pub push-requires : goal.push-requires
push-requires g c =
    let d = c.self.inside in
    let failed : d.failed ≡ false = ap (λ (s : Reader). s.failed) c.self.view_is ∙ c.requires in
    omega (arith, has_few d.machine d.after_answer d.buffer.items (c.self.invariant.taking failed))

pub returns-in-More-clause-pushed : goal.returns-in-More-clause-pushed
returns-in-More-clause-pushed g c =
    let d = c.self.inside in
    let failed : d.failed ≡ false = ap (λ (s : Reader). s.failed) c.self.view_is ∙ c.requires in
    let have = d.buffer.items in
    let last = d.last.items in
    let b = c.args.byte in
    let taking = c.self.invariant.taking failed in
    subst (λ (s : Reader). PushedByteDown s (seen c.push.new.self.items last d.after_answer d.failed) b More) c.self.view_is
    (subst (λ (x : List ℕ). PushedByteDown (seen have last d.after_answer d.failed) (seen x last d.after_answer d.failed) b More) (sym c.push.ensures.items)
    (on_byte have last b d.after_answer d.failed c.push-2.new.self (c.in-More.ensures.answers d.after_answer have taking)))

pub returns-in-Answer-clause-pushed : goal.returns-in-Answer-clause-pushed
returns-in-Answer-clause-pushed g c =
    let d = c.self.inside in
    let failed : d.failed ≡ false = ap (λ (s : Reader). s.failed) c.self.view_is ∙ c.requires in
    let have = d.buffer.items in
    let last = d.last.items in
    let b = c.args.byte in
    let taking = c.self.invariant.taking failed in
    subst (λ (s : Reader). PushedByteDown s (seen c.clear.new.self.items last true d.failed) b (Login c.in-Answer.answer)) c.self.view_is
    (subst (λ (x : List ℕ). PushedByteDown (seen have last d.after_answer d.failed) (seen x last true d.failed) b (Login c.in-Answer.answer)) (sym c.clear.ensures)
    (answer_byte have last b c.in-Answer.answer d.after_answer d.failed (c.in-Answer.ensures.answers d.after_answer have taking)))

pub returns-in-Count-clause-pushed : goal.returns-in-Count-clause-pushed
returns-in-Count-clause-pushed g c =
    let d = c.self.inside in
    let failed : d.failed ≡ false = ap (λ (s : Reader). s.failed) c.self.view_is ∙ c.requires in
    let have = d.buffer.items in
    let last = d.last.items in
    let b = c.args.byte in
    let taking = c.self.invariant.taking failed in
    subst (λ (s : Reader). PushedByteDown s (seen c.clear-in-Count.new.self.items last true d.failed) b (Count c.in-Count.count)) c.self.view_is
    (subst (λ (x : List ℕ). PushedByteDown (seen have last d.after_answer d.failed) (seen x last true d.failed) b (Count c.in-Count.count)) (sym c.clear-in-Count.ensures)
    (count_byte have last b c.in-Count.count d.after_answer d.failed (c.in-Count.ensures.answers d.after_answer have taking)))

pub returns-in-Order-clause-pushed : goal.returns-in-Order-clause-pushed
returns-in-Order-clause-pushed g c =
    let d = c.self.inside in
    let failed : d.failed ≡ false = ap (λ (s : Reader). s.failed) c.self.view_is ∙ c.requires in
    let have = d.buffer.items in
    let last = d.last.items in
    let b = c.args.byte in
    let taking = c.self.invariant.taking failed in
    let frame : c.swap.new.y.items ≡ have ++ b ∷ [] = ap (λ v. v.items) c.swap.ensures.y_after ∙ c.push.ensures.items in
    let old = seen have last d.after_answer d.failed in
    subst (λ (s : Reader). PushedByteDown s (seen c.clear-in-Order.new.self.items c.swap.new.y.items true d.failed) b Order) c.self.view_is
    (subst (λ (x : List ℕ). PushedByteDown old (seen x c.swap.new.y.items true d.failed) b Order) (sym c.clear-in-Order.ensures)
    (subst (λ (y : List ℕ). PushedByteDown old (seen [] y true d.failed) b Order) (sym frame)
    (order_byte have last b d.after_answer d.failed (c.in-Order.ensures.answers d.after_answer have taking))))

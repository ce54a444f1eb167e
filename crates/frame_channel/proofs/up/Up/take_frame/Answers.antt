use Rattle.std.proofs.Common.{◌+◌, List, ℕ, ap, drop, length, subst, sym, take, ◌∙◌}
use Rattle.std.proofs.lemmas.List.{with_items_is}
use Rattle.item_streams.specs.Readers.{Reader}
use Rattle.frame_channel.specs.UpPushes.{PushedUp}
use Rattle.frame_channel.specs.declared.up_item.UpItem.TheVariants.{Packet}
use Rattle.frame_channel.proofs.DataFrames.{taken}
use Rattle.frame_channel.proofs.up.Up.take_frame.Goals as goal

pub returns-clause-pushed : goal.returns-clause-pushed
returns-clause-pushed c piece next =
    let u = c.self.inside in
    let body = c.args.body.now in
    let n = length body in
    let size = c.put_body.ensures.len ∙ ap length c.deref_mut.ensures.value ∙ sym u.last.ok.0 in
    let holds = ap (λ (x : List ℕ). take n (drop 8 x)) (with_items_is u.last c.put_body.new.frame size) ∙ c.put_body.ensures.body in
    let is =
    ap (λ (x : List ℕ). (let s : Reader = record { have = take u.len u.buffer.items; after_first = u.after_login; failed = u.failed; body = x } in s)) holds
    ∙ ap (λ (s : Reader). (let t : Reader = record s { body = body } in t)) c.self.view_is in
    subst (λ (s : Reader). PushedUp c.args.self.now s piece (12 + n) (Packet c.args.head)) (sym is) (taken c.args.self.now c.args.head body piece next)

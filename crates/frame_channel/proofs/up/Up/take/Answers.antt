use Rattle.std.proofs.Common.{◌≡◌, ℕ, List, ◌+◌, ◌-◌, ◌≤◌, ◌++◌, ◌∷◌, [], false, true, take, set, sym, ap, subst, ◌∙◌, arith, length-append}
use Rattle.std.proofs.lemmas.List.{length-set, length-take-le}
use Rattle.item_streams.specs.Readers.{Reader}
use Rattle.frame_channel.specs.UpMachines.{HasTaken}
use Rattle.frame_channel.specs.UpItems.{frame_item}
use Rattle.frame_channel.specs.UpPushes.{PushedByteUp}
use Rattle.frame_channel.specs.declared.up_item.UpItem.{UpItem}
use Rattle.frame_channel.specs.declared.up_item.UpItem.TheVariants.{More, Login, Broken}
use Rattle.frame_channel.proofs.UpTakes.{broken_byte, frame_byte, frame_verdict_says, login_byte, on_byte, room_left, seen, written}
use Rattle.frame_channel.proofs.up.Up.take.Goals as goal

pub index_mut-requires : goal.index_mut-requires
index_mut-requires g c =
    let u = c.self.inside in
    let i = c.self.invariant in
    let failed : u.failed ≡ false = ap (λ (s : Reader). s.failed) c.self.view_is ∙ c.requires in
    omega (arith, room_left u.buffer.items u.len u.after_login u.machine i.room i.fits (i.taking failed), i.room)

pub invariant_of-self : goal.invariant_of-self
invariant_of-self g c =
    let u = c.self.inside in
    let i = c.self.invariant in
    let b = c.args.byte in
    let failed : u.failed ≡ false = ap (λ (s : Reader). s.failed) c.self.view_is ∙ c.requires in
    let taking = i.taking failed in
    let few = room_left u.buffer.items u.len u.after_login u.machine i.room i.fits taking in
    let on : HasTaken c.push.new.self u.after_login (take u.len u.buffer.items ++ b ∷ []) = c.in-More.ensures.answers u.after_login (take u.len u.buffer.items) taking in
    record {
      room = length-set u.buffer.items u.len b ∙ i.room;
      last_room = i.last_room;
      fits = omega arith;
      body_fits = i.body_fits;
      taking = λ up. subst (HasTaken c.push.new.self u.after_login) (sym (written u.buffer.items u.len b (omega (arith, i.room)))) on;
    }

pub overflow_sub-self : goal.overflow_sub-self
overflow_sub-self g c =
    let u = c.self.inside in
    let i = c.self.invariant in
    let b = c.args.byte in
    let failed : u.failed ≡ false = ap (λ (s : Reader). s.failed) c.self.view_is ∙ c.requires in
    let have = take u.len u.buffer.items in
    let says = frame_verdict_says u.after_login c.in-Frame.kind (have ++ b ∷ []) (c.in-Frame.ensures.answers u.after_login have (i.taking failed)) in
    omega (arith, says.1, length-append have (b ∷ []), length-take-le u.len u.buffer.items (omega (arith, i.room, i.fits)))

pub invariant_of-self-in-Broken : goal.invariant_of-self-in-Broken
invariant_of-self-in-Broken g c =
    let u = c.self.inside in
    let i = c.self.invariant in
    let failed : u.failed ≡ false = ap (λ (s : Reader). s.failed) c.self.view_is ∙ c.requires in
    let few = room_left u.buffer.items u.len u.after_login u.machine i.room i.fits (i.taking failed) in
    record {
      room = length-set u.buffer.items u.len c.args.byte ∙ i.room;
      last_room = i.last_room;
      fits = omega arith;
      body_fits = i.body_fits;
      taking = λ up. absurd (cc);
    }

pub returns-in-More-clause-pushed : goal.returns-in-More-clause-pushed
returns-in-More-clause-pushed g c =
    let u = c.self.inside in
    let i = c.self.invariant in
    let b = c.args.byte in
    let failed : u.failed ≡ false = ap (λ (s : Reader). s.failed) c.self.view_is ∙ c.requires in
    let taking = i.taking failed in
    let few = room_left u.buffer.items u.len u.after_login u.machine i.room i.fits taking in
    let on : HasTaken c.push.new.self u.after_login (take u.len u.buffer.items ++ b ∷ []) = c.in-More.ensures.answers u.after_login (take u.len u.buffer.items) taking in
    subst (λ (s : Reader). PushedByteUp s (seen (set u.buffer.items u.len b) u.last.items (u.len + 1) u.body_len u.after_login u.failed) b More) c.self.view_is
    (on_byte u.buffer.items u.last.items u.len u.body_len b u.after_login u.failed c.push.new.self (omega (arith, i.room)) on)

pub returns-in-Login-clause-pushed : goal.returns-in-Login-clause-pushed
returns-in-Login-clause-pushed g c =
    let u = c.self.inside in
    let i = c.self.invariant in
    let b = c.args.byte in
    let failed : u.failed ≡ false = ap (λ (s : Reader). s.failed) c.self.view_is ∙ c.requires in
    subst (λ (s : Reader). PushedByteUp s (seen (set u.buffer.items u.len b) u.last.items 0 u.body_len true u.failed) b (Login c.in-Login.imei)) c.self.view_is
    (login_byte u.buffer.items u.last.items u.len u.body_len b c.in-Login.imei u.after_login u.failed (c.in-Login.ensures.answers u.after_login (take u.len u.buffer.items) (i.taking failed)))

pub returns-in-Frame-clause-pushed : goal.returns-in-Frame-clause-pushed
returns-in-Frame-clause-pushed g c =
    let u = c.self.inside in
    let i = c.self.invariant in
    let b = c.args.byte in
    let kind = c.in-Frame.kind in
    let failed : u.failed ≡ false = ap (λ (s : Reader). s.failed) c.self.view_is ∙ c.requires in
    let taking = i.taking failed in
    let few = room_left u.buffer.items u.len u.after_login u.machine i.room i.fits taking in
    let have = take u.len u.buffer.items in
    let e = c.in-Frame.ensures.answers u.after_login have taking in
    let says = frame_verdict_says u.after_login kind (have ++ b ∷ []) e in
    let some : 12 ≤ u.len + 1 = omega (arith, says.1, length-append have (b ∷ []), length-take-le u.len u.buffer.items (omega (arith, i.room, i.fits))) in
    let old = seen u.buffer.items u.last.items u.len u.body_len u.after_login u.failed in
    let made : PushedByteUp old (seen c.swap.new.x.items c.swap.new.y.items 0 (u.len + 1 - 12) true u.failed) b (frame_item kind) =
    subst (λ (y : List ℕ). PushedByteUp old (seen c.swap.new.x.items y 0 (u.len + 1 - 12) true u.failed) b (frame_item kind)) (ap (λ v. v.items) (sym c.swap.ensures.y_after))
    (frame_byte u.buffer.items u.last.items u.len u.body_len b u.after_login u.failed kind (omega (arith, i.room)) e some) in
    subst (λ (item : UpItem). PushedByteUp c.args.self.now (seen c.swap.new.x.items c.swap.new.y.items 0 (u.len + 1 - 12) true u.failed) b item) (sym c.of_frame.ensures)
    (subst (λ (s : Reader). PushedByteUp s (seen c.swap.new.x.items c.swap.new.y.items 0 (u.len + 1 - 12) true u.failed) b (frame_item kind)) c.self.view_is made)

pub returns-in-Broken-clause-pushed : goal.returns-in-Broken-clause-pushed
returns-in-Broken-clause-pushed g c =
    let u = c.self.inside in
    let i = c.self.invariant in
    let b = c.args.byte in
    let failed : u.failed ≡ false = ap (λ (s : Reader). s.failed) c.self.view_is ∙ c.requires in
    let taking = i.taking failed in
    let few = room_left u.buffer.items u.len u.after_login u.machine i.room i.fits taking in
    subst (λ (s : Reader). PushedByteUp s (seen (set u.buffer.items u.len b) u.last.items (u.len + 1) u.body_len u.after_login true) b (Broken c.in-Broken.found)) c.self.view_is
    (broken_byte u.buffer.items u.last.items u.len u.body_len b u.after_login u.failed c.in-Broken.found (omega (arith, i.room)) (c.in-Broken.ensures.answers u.after_login (take u.len u.buffer.items) taking))

use Rattle.std.proofs.Common.{◌++◌, sym, subst, ap, ◌∙◌, arith, append-nil}
use Rattle.command_layout.specs.declared.way.Way.TheVariants.{Up}
use Rattle.frame_layout.proofs.Exports.{up_begins}
use Rattle.frame_layout.specs.UpRows.{up_rows}
use Rattle.frame_layout.specs.Readings.{IsFramedCommand, IsFramedPacket}
use Rattle.frame_channel.specs.UpPushes.{IsLentUp, decided_up, lent_up}
use Rattle.frame_channel.specs.declared.up_item.UpItem.{UpItem}
use Rattle.frame_channel.specs.declared.up_item.UpItem.TheVariants.{More, Login, Packet, Response}
use Rattle.fmb_show.specs.ItemLines.{command_line, up_lines}
use Rattle.show_lines.specs.PacketLines.{packet_lines}
use Rattle.fmb_show.proofs.StreamShows.{begins, shows_fault, shows_more}
use Rattle.fmb_show.proofs.up.push_up.Goals as goal

pub loop-at-init : goal.loop-at-init
loop-at-init c = begins up_rows lent_up up_lines c.args.after_login c.args.bytes.now c.args.line c.args.out.now.items _ up_begins c.begin.ensures

pub loop-at-preserved-in-More : goal.loop-at-preserved-in-More
loop-at-preserved-in-More c =
    shows_more up_rows lent_up up_lines _ _ _ _ _ _ _ _ _ _ _ (decided_up More c.push-taken.new.self.body) up_begins c.loop-at.invariant c.push-taken.ensures.pushed (ap (λ i. decided_up i c.push-taken.new.self.body) c.in-More.is) tt
    (sym (append-nil c.loop-at.out.items))

pub loop-at-preserved-in-Continue-1 : goal.loop-at-preserved-in-Continue-1
loop-at-preserved-in-Continue-1 c =
    shows_more up_rows lent_up up_lines _ _ _ _ _ _ _ _ _ _ _ (decided_up (Login c.in-Login.imei) c.push-taken.new.self.body) up_begins c.loop-at.invariant c.push-taken.ensures.pushed
    (ap (λ i. decided_up i c.push-taken.new.self.body) c.in-Login.is) tt c.in_ok-push_line-in-Login.ensures.ok

pub loop-at-preserved-in-Continue-branch-2 : goal.loop-at-preserved-in-Continue-branch-2
loop-at-preserved-in-Continue-branch-2 c =
    let head = c.in-Packet.head in
    let body = c.push-taken.new.self.body in
    let lent : IsFramedPacket head body = subst (λ (i : UpItem). IsLentUp i body) c.in-Packet.is c.push-taken.ensures.lent in
    shows_more up_rows lent_up up_lines _ _ _ _ _ _ _ _ _ _ _ (decided_up (Packet head) body) up_begins c.loop-at.invariant c.push-taken.ensures.pushed (ap (λ i. decided_up i body) c.in-Packet.is) tt
    (c.in_ok-push_packet_lines-in-Packet.ensures.ok lent.is.records (rw c.body.ensures lent.is.packet) ∙ ap (λ b. c.loop-at.out.items ++ packet_lines head b c.args.line) c.body.ensures)

pub push_command-requires : goal.push_command-requires
push_command-requires c =
    let body = c.push-taken.new.self.body in
    let lent : IsFramedCommand Up body = subst (λ (i : UpItem). IsLentUp i body) c.in-Response.is c.push-taken.ensures.lent in
    rw c.body-in-Response.ensures (omega (arith, lent.fits))

pub loop-at-preserved : goal.loop-at-preserved
loop-at-preserved c =
    shows_more up_rows lent_up up_lines _ _ _ _ _ _ _ _ _ _ _ (decided_up Response c.push-taken.new.self.body) up_begins c.loop-at.invariant c.push-taken.ensures.pushed (ap (λ i. decided_up i c.push-taken.new.self.body) c.in-Response.is) tt
    (c.in_ok-push_command-in-Response.ensures ∙ ap (λ body. c.loop-at.out.items ++ command_line Up body c.args.line) c.body-in-Response.ensures)

pub returns-in-Broken-clause-text : goal.returns-in-Broken-clause-text
returns-in-Broken-clause-text c =
    c.in_ok-push_line-in-Broken.ensures.ok
    ∙ (shows_fault up_rows lent_up up_lines _ _ _ _ _ _ _ _ _ _ c.in-Broken.fault up_begins c.loop-at.invariant c.push-taken.ensures.pushed (ap (λ i. decided_up i c.push-taken.new.self.body) c.in-Broken.is)).0

pub returns-in-Broken-clause-faulty : goal.returns-in-Broken-clause-faulty
returns-in-Broken-clause-faulty c =
    sym (shows_fault up_rows lent_up up_lines _ _ _ _ _ _ _ _ _ _ c.in-Broken.fault up_begins c.loop-at.invariant c.push-taken.ensures.pushed (ap (λ i. decided_up i c.push-taken.new.self.body) c.in-Broken.is)).1

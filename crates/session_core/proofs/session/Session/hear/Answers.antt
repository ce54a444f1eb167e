use Rattle.std.proofs.Common.{refl, ap, ◌∙◌}
use Rattle.frame_layout.specs.Values.{packet, response}
use Rattle.frame_channel.specs.UpPushes.{decided_up}
use Rattle.session_core.proofs.Hearing.{frame_stays}
use Rattle.session_core.proofs.session.Session.hear.Goals as goal

pub invariant_of-self-in-Packet : goal.invariant_of-self-in-Packet
invariant_of-self-in-Packet c =
    let body = c.push-n.new.self.body in
    (frame_stays _ _ _ _ _ (packet c.in-Packet.field-0 body) (ap (λ i. decided_up i body) c.in-Packet.is) refl c.push-n.ensures.pushed).1 ∙ c.self.invariant

pub invariant_of-self-in-Response : goal.invariant_of-self-in-Response
invariant_of-self-in-Response c =
    let body = c.push-n.new.self.body in
    (frame_stays _ _ _ _ _ (response body) (ap (λ i. decided_up i body) c.in-Response.is) refl c.push-n.ensures.pushed).1 ∙ c.self.invariant

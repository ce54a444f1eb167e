-- Each answer is the body's.
use Rattle.std.proofs.Common.{◌+◌, ◌∙◌, sym, ap, refl, arith, rules}
use Rattle.archive_journal.proofs.Packets.{not-body-short, not-body-length, not-body-imei, not-body-packet, body-is, packet-same}
use Rattle.archive_journal.proofs.body.read_body.Goals as goal

pub returns-then-body-lt14-clause-none : goal.returns-then-body-lt14-clause-none
returns-then-body-lt14-clause-none c = not-body-short _ (λ i. omega (arith, c.type_inv.body i)) (omega arith)

pub returns-then-body-read_length-clause-none : goal.returns-then-body-read_length-clause-none
returns-then-body-read_length-clause-none c = not-body-length _ (λ same. c.if-body-read_length.true (same ∙ ap (λ k. 4 + k) (sym c.read_length.ensures)))

pub returns-in_default-clause-none : goal.returns-in_default-clause-none
returns-in_default-clause-none c = not-body-imei _ c.in_default.ensures.none

pub returns-in-More-clause-none : goal.returns-in-More-clause-none
returns-in-More-clause-none c = not-body-packet _ _ (packet-same c.args.body.now _ _ _ _ c.in_ok-packet.ensures c.deref.ensures.value (search rules) c.in-More.ensures) refl

pub returns-clause-none : goal.returns-clause-none
returns-clause-none c = not-body-packet _ _ (packet-same c.args.body.now _ _ _ _ c.in_ok-packet.ensures c.deref.ensures.value (search rules) c.in-Broken.ensures) refl

pub returns-in-Whole-clause-well_formed : goal.returns-in-Whole-clause-well_formed
returns-in-Whole-clause-well_formed c =
    body-is _ _ (c.if-body-read_length.false ∙ ap (λ k. 4 + k) c.read_length.ensures) (let is = c.in-Some.ensures.some in let low = c.in-Some.ensures.below in omega arith)
    (packet-same c.args.body.now _ _ _ _ c.in_ok-packet.ensures c.deref.ensures.value (search rules) c.in-Whole.ensures) refl

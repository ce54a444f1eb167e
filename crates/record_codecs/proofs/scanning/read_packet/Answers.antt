use Rattle.std.proofs.Common.{arith}
use Rattle.layout.proofs.Numbers.{are_bytes}
use Rattle.record_layout.proofs.BodyLaws.{judged_body}
use Rattle.record_codecs.proofs.Accepted.{read_body}
use Rattle.record_codecs.proofs.scanning.read_packet.Goals as goal

pub returns-in-Some-clause-accepted : goal.returns-in-Some-clause-accepted
returns-in-Some-clause-accepted c = judged_body c.in-Some.head c.args.body.now (are_bytes _ (λ i. omega (arith, c.type_inv.body i))) c.in-Some.ensures

pub returns-in-None-clause-accepted : goal.returns-in-None-clause-accepted
returns-in-None-clause-accepted c = read_body c.args.body.now c.read_fields.result (are_bytes _ (λ i. omega (arith, c.type_inv.body i))) c.read_fields.ensures

use Rattle.std.proofs.Common.{arith}
use Rattle.std.proofs.lemmas.Grind.{common_steps}
use Rattle.layout.proofs.Numbers.{are_bytes}
use Rattle.frame_layout.proofs.writing.write_frame.Goals as goal

pub returns-clause-packet : goal.returns-clause-packet
returns-clause-packet c head is = record { is = grind (arith, common_steps); of_body = is; fits = omega arith; are_bytes = are_bytes _ (λ i. omega (arith, c.type_inv.body i)) }

pub returns-clause-response : goal.returns-clause-response
returns-clause-response c value is = record { is = grind (arith, common_steps); of_body = (value, is); fits = omega arith; are_bytes = are_bytes _ (λ i. omega (arith, c.type_inv.body i)) }

pub returns-clause-order : goal.returns-clause-order
returns-clause-order c value is = record { is = grind (arith, common_steps); of_body = (value, is); fits = omega arith; are_bytes = are_bytes _ (λ i. omega (arith, c.type_inv.body i)) }

use Rattle.std.proofs.Common.{arith}
use Rattle.layout.proofs.Numbers.{are_bytes}
use Rattle.frame_channel.proofs.known_bytes.known_bytes.Goals as goal

pub returns-clause-bytes : goal.returns-clause-bytes
returns-clause-bytes c = are_bytes _ (λ i. omega (arith, c.type_inv.bytes i))

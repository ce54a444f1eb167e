use Rattle.std.proofs.Common.{arith}
use Rattle.layout.proofs.Numbers.{are_bytes}
use Rattle.layout.proofs.put.put_all.Goals as goal

pub returns-clause-fit : goal.returns-clause-fit
returns-clause-fit g c = are_bytes _ (λ k. omega (arith, c.type_inv.bytes k))

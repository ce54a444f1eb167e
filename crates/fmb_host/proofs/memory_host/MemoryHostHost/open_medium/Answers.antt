use Rattle.std.proofs.Common.{◌≡◌}
use Rattle.fmb_host.proofs.Fresh.{fresh_first}
use Rattle.fmb_host.proofs.memory_host.MemoryHostHost.open_medium.Goals as goal

pub invariant_of-self : goal.invariant_of-self
invariant_of-self c = record { texts = c.self.invariant.texts; media = (fresh_first (λ medium. medium.faults ≡ 0) _ _ _ c.in-Some.ensures.first c.self.invariant.media).1; wires = c.self.invariant.wires; gates = c.self.invariant.gates }

use Rattle.std.proofs.Common.{◌≡◌}
use Rattle.fmb_host.proofs.Fresh.{fresh_first}
use Rattle.fmb_host.proofs.memory_host.MemoryHostHost.open_text.Goals as goal

pub invariant_of-self : goal.invariant_of-self
invariant_of-self c = record { texts = (fresh_first (λ text. text.faults ≡ 0) _ _ _ c.in-Some.ensures.first c.self.invariant.texts).1; media = c.self.invariant.media; wires = c.self.invariant.wires; gates = c.self.invariant.gates }

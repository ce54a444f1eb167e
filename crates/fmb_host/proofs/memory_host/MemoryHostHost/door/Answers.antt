use Rattle.fmb_host.specs.Host.{IsNewDoor}
use Rattle.fmb_host.specs.Memory.{gate_state}
use Rattle.fmb_host.proofs.Fresh.{fresh_first}
use Rattle.fmb_host.proofs.memory_host.MemoryHostHost.door.Goals as goal

pub invariant_of-self : goal.invariant_of-self
invariant_of-self c = record { texts = c.self.invariant.texts; media = c.self.invariant.media; wires = c.self.invariant.wires; gates = (fresh_first (λ door. IsNewDoor (gate_state door)) _ _ _ c.in-Some.ensures.first c.self.invariant.gates).1 }

pub returns-in-Some-clause-unused : goal.returns-in-Some-clause-unused
returns-in-Some-clause-unused c = (fresh_first (λ door. IsNewDoor (gate_state door)) _ _ _ c.in-Some.ensures.first c.self.invariant.gates).0

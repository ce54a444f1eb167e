use Rattle.fmb_host.specs.Host.{IsNewDoor}
use Rattle.fmb_host.specs.Memory.{gate_state}
use Rattle.fmb_host.proofs.Fresh.{fresh_added}
use Rattle.fmb_host.proofs.memory_host.MemoryHost.add_door.Goals as goal

pub invariant_of-self : goal.invariant_of-self
invariant_of-self c = record { texts = c.self.invariant.texts; media = c.self.invariant.media; wires = c.self.invariant.wires; gates = fresh_added (λ door. IsNewDoor (gate_state door)) c.add.result _ _ _ c.add.ensures.ok c.add.ensures.err c.self.invariant.gates c.requires }

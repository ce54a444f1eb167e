use Rattle.std.proofs.Common.{◌≡◌}
use Rattle.fmb_host.proofs.Fresh.{fresh_added}
use Rattle.fmb_host.proofs.memory_host.MemoryHost.add_medium.Goals as goal

pub invariant_of-self : goal.invariant_of-self
invariant_of-self c = record { texts = c.self.invariant.texts; media = fresh_added (λ medium. medium.faults ≡ 0) c.add.result _ _ _ c.add.ensures.ok c.add.ensures.err c.self.invariant.media c.requires; wires = c.self.invariant.wires; gates = c.self.invariant.gates }

use Rattle.doors.specs.Doors.{IsUnused}
use Rattle.links.specs.Memory.{link_state}
use Rattle.fmb_host.proofs.Fresh.{fresh_added}
use Rattle.fmb_host.proofs.memory_host.MemoryHost.add_link.Goals as goal

pub invariant_of-self : goal.invariant_of-self
invariant_of-self c = record { texts = c.self.invariant.texts; media = c.self.invariant.media; wires = fresh_added (λ link. IsUnused (link_state link)) c.add.result _ _ _ c.add.ensures.ok c.add.ensures.err c.self.invariant.wires c.requires; gates = c.self.invariant.gates }

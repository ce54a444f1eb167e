use Rattle.doors.specs.Doors.{IsUnused}
use Rattle.links.specs.Memory.{link_state}
use Rattle.fmb_host.proofs.Fresh.{fresh_first}
use Rattle.fmb_host.proofs.memory_host.MemoryHostHost.dial.Goals as goal

pub invariant_of-self : goal.invariant_of-self
invariant_of-self c = record { texts = c.self.invariant.texts; media = c.self.invariant.media; wires = (fresh_first (λ link. IsUnused (link_state link)) _ _ _ c.in-Some.ensures.first c.self.invariant.wires).1; gates = c.self.invariant.gates }

pub returns-in-Some-clause-unused : goal.returns-in-Some-clause-unused
returns-in-Some-clause-unused c = (fresh_first (λ link. IsUnused (link_state link)) _ _ _ c.in-Some.ensures.first c.self.invariant.wires).0

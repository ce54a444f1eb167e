use Rattle.std.proofs.Common.{refl, sym}
use Rattle.links.specs.Memory.{link_state}
use Rattle.fmb_host.proofs.Stocks.{queue_regains}
use Rattle.fmb_host.proofs.memory_host.MemoryHostHost.wire_back.Goals as goal

pub returns-clause-taken : goal.returns-clause-taken
returns-clause-taken c =
    let back = queue_regains link_state c.self.inside.wires c.give_back.new.self c.args.link c.give_back.ensures in
    rw (sym c.self.view_is) (record { wires = back; others = refl })

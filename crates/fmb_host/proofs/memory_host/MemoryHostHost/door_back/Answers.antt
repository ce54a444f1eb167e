use Rattle.std.proofs.Common.{◌∙◌}
use Rattle.fmb_host.proofs.Stocks.{takes_door}
use Rattle.fmb_host.proofs.memory_host.MemoryHostHost.door_back.Goals as goal

pub returns-clause-taken : goal.returns-clause-taken
returns-clause-taken c = takes_door c.args.self.now _ c.give_back.new.self c.args.door c.faults.result c.faults.ensures.count (c.self.view_is ∙ c.count_door.ensures) c.give_back.ensures

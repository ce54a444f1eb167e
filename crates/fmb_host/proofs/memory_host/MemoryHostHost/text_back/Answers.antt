use Rattle.std.proofs.Common.{◌∙◌}
use Rattle.fmb_host.proofs.Stocks.{takes_text}
use Rattle.fmb_host.proofs.memory_host.MemoryHostHost.text_back.Goals as goal

pub returns-clause-taken : goal.returns-clause-taken
returns-clause-taken c = takes_text c.args.self.now _ c.give_back.new.self c.args.text c.faults.result c.faults.ensures (c.self.view_is ∙ c.count_text.ensures) c.give_back.ensures

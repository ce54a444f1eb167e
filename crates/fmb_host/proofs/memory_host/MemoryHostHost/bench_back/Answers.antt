use Rattle.std.proofs.Common.{refl, sym}
use Rattle.medium.specs.Memory.{bench_state}
use Rattle.fmb_host.proofs.Stocks.{queue_regains}
use Rattle.fmb_host.proofs.memory_host.MemoryHostHost.bench_back.Goals as goal

pub returns-clause-taken : goal.returns-clause-taken
returns-clause-taken c =
    let back = queue_regains bench_state c.self.inside.benches c.give_back.new.self c.args.bench c.give_back.ensures in
    rw (sym c.self.view_is) (record { benches = back; others = refl })

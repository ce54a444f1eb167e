-- Each image of a tear goes on fitting the content, and what the power loss met is a failed write.
use Rattle.std.proofs.Common.{ap}
use Rattle.medium.specs.Buffer.{ReadyContent}
use Rattle.medium.proofs.Torn.{bench-spoiled, bench-written, torn-by_write}
use Rattle.medium.proofs.memory_bench.MemoryBenchMedium.write.Goals as goal

pub invariant_of-self : goal.invariant_of-self
invariant_of-self c =
    let left = c.spoil.ensures in
    bench-spoiled c.self.inside.content c.spoil.new.self c.self.inside.tears c.self.inside.tear c.self.inside.power c.args.at c.args.from.now c.self.invariant
    (ap (λ (h : ReadyContent). h.content.durable) left) (ap (λ (h : ReadyContent). h.content.dirty) left) (ap (λ (h : ReadyContent). h.ready) left)

pub invariant_of-self-2 : goal.invariant_of-self-2
invariant_of-self-2 c =
    let left = c.write.ensures in
    bench-written c.self.inside.content c.write.new.self c.self.inside.tears c.self.inside.tear c.self.inside.power c.args.at c.args.from.now c.self.invariant
    (ap (λ (h : ReadyContent). h.content.durable) left) (ap (λ (h : ReadyContent). h.content.dirty) left) (ap (λ (h : ReadyContent). h.ready) left)
    c.write-2.new.self c.write-2.ensures.tears c.write-2.ensures.room

pub returns-clause-torn : goal.returns-clause-torn
returns-clause-torn c = torn-by_write c.pass-2.result c.args.at c.args.from.now c.args.self.now.content c.pass-2.new.self.content cc

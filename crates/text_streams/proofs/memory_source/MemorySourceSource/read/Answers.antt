-- What was taken stood in front of what is left.
use Rattle.std.proofs.Common.{rules, ◌≡◌, min, length, take, drop}
use Rattle.text_streams.proofs.ReadLemmas.{moves_on}
use Rattle.text_streams.proofs.memory_source.MemorySourceSource.read.Goals as goal

pub returns-clause-bytes : goal.returns-clause-bytes
returns-clause-bytes c =
    let n = c.copy_from-count.result in
    let before = drop c.self.inside.at c.self.inside.bytes.items in
    let left : c.args.self.now.left ≡ before = search rules in
    let copied : take n c.copy_from-count.new.into ≡ take n before = search rules in
    let count : n ≡ min (length c.args.into.now) (length before) = search rules in
    let size : length c.copy_from-count.new.into ≡ length c.args.into.now = search rules in
    moves_on c.self.inside.bytes.items c.args.self.now.left c.copy_from-count.new.into c.self.inside.at n (length c.args.into.now) left copied count size

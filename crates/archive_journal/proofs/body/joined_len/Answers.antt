use Rattle.std.proofs.Common.{◌+◌, ◌≤◌, length, ap, arith, rules}
use Rattle.std.proofs.lemmas.List.Folds.{length-flat_map-take}
use Rattle.avl_values.specs.Record.{Record}
use Rattle.archive_journal.specs.Body.{joined}
use Rattle.archive_journal.proofs.body.joined_len.Goals as goal

pub overflow_add-len : goal.overflow_add-len
overflow_add-len c =
    let part = length-flat_map-take (λ (r : Record). r.bytes) c.args.records.now c.loop-record.record-index c.record-item.result c.loop-record-test.true in
    let here = ap (λ (r : Record). length r.bytes) c.record-item.is in
    let bytes = ap length c.bytes.ensures in
    let len = c.loop-record.invariant in
    let sum : c.loop-record.len + length c.bytes.result.now ≤ length (joined c.args.records.now) = omega arith in
    search rules

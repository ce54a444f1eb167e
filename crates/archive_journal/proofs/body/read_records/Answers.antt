-- When nothing is left, all records have been read.
use Rattle.std.proofs.Common.{sym, subst, arith}
use Rattle.layout.proofs.Numbers.{are_bytes}
use Rattle.archive_journal.specs.Entry.{IsEntry}
use Rattle.archive_journal.proofs.Packets.{whole-is, packet-entry, all-read}
use Rattle.archive_journal.proofs.body.read_records.Goals as goal

pub returns-clause-value : goal.returns-clause-value
returns-clause-value c =
    all-read c.args.head.codec c.args.packet.now _ _ c.in-None.ensures.steps.0 c.loop-record.invariant (whole-is c.args.packet.now c.args.head _ (are_bytes _ (λ i. omega (arith, c.type_inv.packet i))) c.requires)

pub returns-clause-entry : goal.returns-clause-entry
returns-clause-entry c =
    let w = whole-is c.args.packet.now c.args.head _ (are_bytes _ (λ i. omega (arith, c.type_inv.packet i))) c.requires in
    subst (IsEntry c.args.head.codec) (sym (all-read c.args.head.codec c.args.packet.now _ _ c.in-None.ensures.steps.0 c.loop-record.invariant w)) (packet-entry c.args.head.codec c.args.packet.now w)

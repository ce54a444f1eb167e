use Rattle.std.proofs.Common.{inl, inr, length, ◌∙◌, arith}
use Rattle.layout.proofs.Numbers.{are_bytes}
use Rattle.datagrams.specs.DatagramRows.{datagram_rows}
use Rattle.datagrams.proofs.DatagramReads.{datagram_read, datagram_there, never_short, no_datagram, stands_first, verdict_is}
use Rattle.datagrams.proofs.reading.read_datagram.Goals as goal

pub returns-then-bytes-lt2-clause-broken : goal.returns-then-bytes-lt2-clause-broken
returns-then-bytes-lt2-clause-broken c = no_datagram c.args.bytes.now (are_bytes _ (λ i. omega (arith, c.type_inv.bytes i))) (λ some. elim c.then-bytes-lt2.either [ inl few ↦ absurd (omega (arith, few, some)) | inr both ↦ both.1 ])

pub said_by-requires : goal.said_by-requires
said_by-requires c =
    let there = c.in-Whole.ensures (datagram_rows (length c.args.bytes.now)) (stands_first (length c.args.bytes.now) c.if-bytes-lt2.false) in
    (there.0, datagram_there there.0 c.args.bytes.now (are_bytes _ (λ i. omega (arith, c.type_inv.bytes i))) there.1)

pub unreachable-requires : goal.unreachable-requires
unreachable-requires c = never_short c.args.bytes.now (c.in-More.ensures (datagram_rows (length c.args.bytes.now)) (stands_first (length c.args.bytes.now) c.if-bytes-lt2.false))

pub returns-in-Whole-clause-value : goal.returns-in-Whole-clause-value
returns-in-Whole-clause-value c = datagram_read _ c.args.bytes.now c.said_by.ensures

pub returns-in-Broken-clause-broken : goal.returns-in-Broken-clause-broken
returns-in-Broken-clause-broken c = verdict_is c.args.bytes.now ∙ c.in-Broken.ensures (datagram_rows (length c.args.bytes.now)) (stands_first (length c.args.bytes.now) c.if-bytes-lt2.false)

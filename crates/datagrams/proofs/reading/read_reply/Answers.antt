use Rattle.std.proofs.Common.{arith}
use Rattle.datagrams.proofs.ReplyReads.{reply_not_five, reply_not_seven, reply_read, reply_said}
use Rattle.datagrams.proofs.reading.read_reply.Goals as goal

pub returns-then-bytes-ne-REPLY-clause-broken : goal.returns-then-bytes-ne-REPLY-clause-broken
returns-then-bytes-ne-REPLY-clause-broken c = reply_not_seven c.args.bytes.now (λ e. omega (arith, e, c.if-bytes-ne-REPLY.true))

pub returns-then-from_be_bytes-ne-REPLY_LENGTH-clause-broken : goal.returns-then-from_be_bytes-ne-REPLY_LENGTH-clause-broken
returns-then-from_be_bytes-ne-REPLY_LENGTH-clause-broken c =
    reply_not_five c.args.bytes.now c.from_be_bytes.result (omega (arith, c.if-bytes-ne-REPLY.false)) c.from_be_bytes.ensures (λ e. omega (arith, e, c.if-from_be_bytes-ne-REPLY_LENGTH.true))

pub returns-clause-value : goal.returns-clause-value
returns-clause-value c =
    reply_read _ c.args.bytes.now
    (reply_said c.args.bytes.now c.from_be_bytes.result c.from_be_bytes-2.result (λ i. omega (arith, c.type_inv.bytes i)) (omega (arith, c.if-bytes-ne-REPLY.false)) c.from_be_bytes.ensures (omega (arith, c.if-from_be_bytes-ne-REPLY_LENGTH.false))
    c.from_be_bytes-2.ensures)

pub returns-clause-reply : goal.returns-clause-reply
returns-clause-reply c =
    reply_said c.args.bytes.now c.from_be_bytes.result c.from_be_bytes-2.result (λ i. omega (arith, c.type_inv.bytes i)) (omega (arith, c.if-bytes-ne-REPLY.false)) c.from_be_bytes.ensures (omega (arith, c.if-from_be_bytes-ne-REPLY_LENGTH.false))
    c.from_be_bytes-2.ensures

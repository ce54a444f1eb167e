use Rattle.std.proofs.Common.{arith}
use Rattle.layout.proofs.Numbers.{are_bytes}
use Rattle.record_codecs.proofs.FrontRecords.{one_more}
use Rattle.record_codecs.proofs.scanning.behind_records.Goals as goal

pub loop-preserved : goal.loop-preserved
loop-preserved c =
    one_more c.args.codec c.loop.counter c.in_ok-length.length c.loop.rest.now c.split_at.result.1.now c.args.bytes.now (are_bytes _ (λ i. omega (arith, c.type_inv.bytes i))) c.loop.invariant
    c.in_ok-length.ensures.end c.split_at.ensures.back

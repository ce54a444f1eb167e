use Rattle.std.proofs.Common.{arith, ap, refl, take, drop, ◌∙◌}
use Rattle.layout.proofs.Numbers.{are_bytes}
use Rattle.frame_channel.proofs.DataFrames.{parts}
use Rattle.frame_channel.proofs.data_frame.split.Goals as goal

pub returns : goal.returns
returns c =
    let n = c.from_be_bytes-length.result in
    parts c.args.bytes.now c.split_at-2.result.0.now c.split_at-2.result.1.now n (are_bytes _ (λ i. omega (arith, c.type_inv.bytes i))) (c.if-not-tells.ensures refl)
    (c.split_at-2.ensures.front ∙ ap (take n) c.split_at.ensures.back) (c.split_at-2.ensures.back ∙ ap (drop n) c.split_at.ensures.back) c.split_at-2.ensures.front_len (omega (arith, c.if-length-gt65535.false))

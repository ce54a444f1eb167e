use Rattle.std.proofs.Common.{◌≡◌, ◌+◌, ◌*◌, ◌<◌, length, arith, ap, ◌∙◌}
use Rattle.avl_values.specs.Width.{bytes_of}
use Rattle.record_codecs.proofs.PartSteps.{few_pairs, skips_pairs, at_none}
use Rattle.record_codecs.proofs.part_walk.skip_pairs.Goals as goal

pub returns-in_err-size : goal.returns-in_err-size
returns-in_err-size c rows =
    let size : c.from.result ≡ bytes_of c.args.id + bytes_of c.args.value = omega arith in
    let over : length c.args.bytes.now < c.args.count * c.from.result = omega (arith, c.in_err-size.ensures) in
    let few : length c.args.bytes.now < c.args.count * (bytes_of c.args.id + bytes_of c.args.value) = omega (arith, ap (λ s. c.args.count * s) size) in
    at_none c.from_residual.result _ _ c.from_residual.ensures (few_pairs c.args.count c.args.id c.args.value rows c.args.bytes.now few)

pub returns : goal.returns
returns c rows =
    let size : c.from.result ≡ bytes_of c.args.id + bytes_of c.args.value = omega arith in
    let product : c.in_ok-size.size ≡ c.args.count * c.from.result = omega arith in
    skips_pairs (λ rest. rest.now) c.skip.result c.args.count c.in_ok-size.size c.args.id c.args.value rows c.args.bytes.now (product ∙ ap (λ s. c.args.count * s) size) c.skip.ensures

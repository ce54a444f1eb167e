use Rattle.std.proofs.Common.{◌≡◌, ◌*◌, ◌+◌, get_or, drop, ap, ◌∙◌, arith}
use Rattle.avl_values.specs.Width.{bytes_of}
use Rattle.avl_values.specs.declared.width.Width.TheVariants.{W1}
use Rattle.record_layout.specs.Table.{count_width, id_width}
use Rattle.record_codecs.specs.Elements.{all_widths, front_number, behind, behind_pairs}
use Rattle.record_codecs.proofs.Groups.{past_group}
use Rattle.record_codecs.proofs.elements.after_groups.Goals as goal

pub loop-width-preserved : goal.loop-width-preserved
loop-width-preserved c =
    let rest = c.loop-width.rest.now in
    let w = get_or all_widths c.loop-width.width-index W1 in
    let counted : c.split_number-count.result.0 ≡ front_number (count_width c.args.codec) rest = c.split_number-count.ensures.value ∙ ap (λ x. front_number x rest) c.count_width.ensures in
    let pairs : c.split_number-count.result.1.now ≡ behind (count_width c.args.codec) rest = c.split_number-count.ensures.back ∙ ap (λ x. behind x rest) c.count_width.ensures in
    let id : c.bytes.result ≡ bytes_of (id_width c.args.codec) = c.bytes.ensures ∙ ap bytes_of c.id_width.ensures in
    let size : c.from.result ≡ bytes_of (id_width c.args.codec) + bytes_of w = c.from.ensures ∙ ap (λ x. x + c.bytes-in-loop-width.result) id ∙ ap (λ x. bytes_of (id_width c.args.codec) + x) c.bytes-in-loop-width.ensures in
    let is : c.split_front.result.1.now ≡ behind_pairs c.args.codec w (front_number (count_width c.args.codec) rest) (behind (count_width c.args.codec) rest) =
    c.split_front.ensures.back ∙ ap (λ n. drop (n * c.from.result) c.split_number-count.result.1.now) counted
    ∙ ap (λ k. drop (front_number (count_width c.args.codec) rest * k) c.split_number-count.result.1.now) size
    ∙ ap (λ b. behind_pairs c.args.codec w (front_number (count_width c.args.codec) rest) b) pairs in
    c.loop-width.invariant ∙ past_group c.args.codec all_widths c.loop-width.width-index W1 rest c.split_front.result.1.now (omega (arith, c.loop-width-test.true)) is

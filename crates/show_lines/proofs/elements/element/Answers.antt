use Rattle.std.proofs.Common.{[], ◌∷◌, ◌∙◌, ap, decimal}
use Rattle.std.proofs.lemmas.Result.{on_ok_weaker}
use Rattle.avl_values.specs.Width.{bytes_of}
use Rattle.json.specs.Token.{begin_array, end_array, number}
use Rattle.show_lines.proofs.Sending.{after, array_begin_sent, array_end_sent, number_sent, said_as}
use Rattle.show_lines.proofs.elements.element.Goals as goal

pub returns : goal.returns
returns g c =
    let width = c.bytes.ensures ∙ ap bytes_of c.width.ensures in
    on_ok_weaker c.end_seq.result
    (λ sent.
    said_as (λ i. begin_array ∷ number (decimal (c.id.ensures i)) ∷ number (decimal (width i)) ∷ number (decimal (c.value.ensures.value i)) ∷ end_array ∷ [])
    (after (array_begin_sent _ _ _ c.in_ok-begin_seq.ensures) (after (number_sent _ _ _ c.in_ok-u64.ensures) (after (number_sent _ _ _ c.in_ok-u64-2.ensures) (after (number_sent _ _ _ c.in_ok-u64-3.ensures) (array_end_sent _ _ sent))))))
    c.end_seq.ensures

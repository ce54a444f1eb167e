use Rattle.std.proofs.lemmas.Result.{on_ok_weaker}
use Rattle.show_lines.proofs.Sending.{after, array_begin_sent, array_end_sent, number_sent}
use Rattle.show_lines.proofs.elements.nx_element.Goals as goal

pub returns : goal.returns
returns g c = on_ok_weaker c.end_seq.result
    (λ sent. after (array_begin_sent _ _ _ c.in_ok-begin_seq.ensures) (after (number_sent _ _ _ c.in_ok-u64.ensures) (after c.in_ok-hex.ensures.sent (array_end_sent _ _ sent))))
    c.end_seq.ensures

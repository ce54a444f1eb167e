use Rattle.std.proofs.Common.{ap}
use Rattle.std.proofs.lemmas.Result.{on_ok_weaker}
use Rattle.record_codecs.specs.Views.{nx_left}
use Rattle.show_lines.specs.Tokens.{nx_tokens, list_tokens}
use Rattle.show_lines.proofs.ListsSent.{front_more, front_none, list_sent}
use Rattle.show_lines.proofs.Sending.{said_as}
use Rattle.show_lines.proofs.elements.nx_elements.Goals as goal

pub loop-id-init : goal.loop-id-init
loop-id-init g c = front_none nx_tokens _ _

pub loop-id-preserved : goal.loop-id-preserved
loop-id-preserved g c = front_more nx_tokens _ (c.in-Some.id, c.in-Some.bytes.now) _ _ _ _ _ c.loop-id.invariant c.in-Some.ensures.steps c.in_ok-nx_element.ensures

pub returns : goal.returns
returns g c = on_ok_weaker c.end_seq.result
    (λ ends.
    said_as (ap (λ s. list_tokens nx_tokens (nx_left s)) c.into_iter-id-iterator.ensures.into_iter_gives)
    (list_sent nx_tokens _ _ _ _ _ _ _ c.in_ok-begin_seq.ensures c.loop-id.invariant c.in-None.ensures.steps.0 ends))
    c.end_seq.ensures

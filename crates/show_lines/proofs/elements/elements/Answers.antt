use Rattle.std.proofs.Common.{ap}
use Rattle.std.proofs.lemmas.Result.{on_ok_weaker}
use Rattle.record_codecs.specs.Views.{ios_left}
use Rattle.show_lines.specs.Tokens.{element_tokens, list_tokens}
use Rattle.show_lines.proofs.ListsSent.{front_more, front_none, list_sent}
use Rattle.show_lines.proofs.Sending.{said_as}
use Rattle.show_lines.proofs.elements.elements.Goals as goal

pub loop-io-init : goal.loop-io-init
loop-io-init g c = front_none element_tokens _ _

pub loop-io-preserved : goal.loop-io-preserved
loop-io-preserved g c = front_more element_tokens _ c.in-Some.io _ _ _ _ _ c.loop-io.invariant c.in-Some.ensures.steps c.in_ok-element.ensures

pub returns : goal.returns
returns g c = on_ok_weaker c.end_seq.result
    (λ ends.
    said_as (ap (λ s. list_tokens element_tokens (ios_left s)) c.into_iter-io-iterator.ensures.into_iter_gives)
    (list_sent element_tokens _ _ _ _ _ _ _ c.in_ok-begin_seq.ensures c.loop-io.invariant c.in-None.ensures.steps.0 ends))
    c.end_seq.ensures

use Rattle.std.proofs.lemmas.Result.{on_ok_weaker}
use Rattle.show_lines.proofs.Sending.{after, key_sent}
use Rattle.show_lines.proofs.command.CommandLineSerialize.serialize.Goals as goal

pub returns : goal.returns
returns g c = on_ok_weaker c.end.result
    (λ sent. (
      after c.in_ok-begin.ensures (after c.in_ok-number.ensures (after c.in_ok-imei_or_null.ensures (after c.in_ok-text.ensures (after c.in_ok-number-2.ensures
          (after c.in_ok-number-3.ensures (after (key_sent _ _ _ c.in_ok-key.ensures) (after c.in_ok-hex.ensures.sent (after c.in_ok-number_or_null.ensures sent)))))))),
      c.hex.ensures.bytes,
    ))
    c.end.ensures

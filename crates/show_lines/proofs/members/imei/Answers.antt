use Rattle.std.proofs.lemmas.Result.{on_ok_weaker}
use Rattle.show_lines.proofs.Sending.{after, key_sent}
use Rattle.show_lines.proofs.members.imei.Goals as goal

pub returns : goal.returns
returns g c = on_ok_weaker c.digits.result (λ sent. after (key_sent _ _ _ c.in_ok-key.ensures) sent) c.digits.ensures

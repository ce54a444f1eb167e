use Rattle.std.proofs.lemmas.Result.{on_ok_weaker}
use Rattle.show_lines.proofs.Sending.{after, key_sent, number_sent}
use Rattle.show_lines.proofs.members.number.Goals as goal

pub returns : goal.returns
returns g c = on_ok_weaker c.u64.result (λ sent. after (key_sent _ _ _ c.in_ok-key.ensures) (number_sent _ _ _ sent)) c.u64.ensures

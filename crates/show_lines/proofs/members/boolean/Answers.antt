use Rattle.std.proofs.lemmas.Result.{on_ok_weaker}
use Rattle.show_lines.proofs.Sending.{after, boolean_sent, key_sent}
use Rattle.show_lines.proofs.members.boolean.Goals as goal

pub returns : goal.returns
returns g c = on_ok_weaker c.bool.result (λ sent. after (key_sent _ _ _ c.in_ok-key.ensures) (boolean_sent _ _ _ sent)) c.bool.ensures

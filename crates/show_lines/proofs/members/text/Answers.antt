use Rattle.std.proofs.lemmas.Result.{on_ok_weaker}
use Rattle.show_lines.proofs.Sending.{after, key_sent, text_sent}
use Rattle.show_lines.proofs.members.text.Goals as goal

pub returns : goal.returns
returns g c = on_ok_weaker c.str.result (λ sent. after (key_sent _ _ _ c.in_ok-key.ensures) (text_sent _ _ _ sent)) c.str.ensures

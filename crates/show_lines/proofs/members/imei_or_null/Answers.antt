use Rattle.std.proofs.lemmas.Result.{on_ok_weaker}
use Rattle.show_lines.proofs.Sending.{after, key_sent, nothing_sent}
use Rattle.show_lines.proofs.members.imei_or_null.Goals as goal

pub returns-in-Some : goal.returns-in-Some
returns-in-Some g c = rw c.in-Some.is (on_ok_weaker c.digits.result (λ sent. after (key_sent _ _ _ c.in_ok-key.ensures) sent) c.digits.ensures)

pub returns-in-None : goal.returns-in-None
returns-in-None g c = rw c.in-None.is (on_ok_weaker c.unit.result (λ sent. after (key_sent _ _ _ c.in_ok-key.ensures) (nothing_sent _ _ sent)) c.unit.ensures)

use Rattle.std.proofs.lemmas.Result.{on_ok_weaker}
use Rattle.show_lines.proofs.Sending.{after}
use Rattle.show_lines.proofs.item.answer.Goals as goal

pub returns : goal.returns
returns g c = on_ok_weaker c.end.result (λ sent. after c.in_ok-begin.ensures (after c.in_ok-accepted.ensures (after c.in_ok-item.ensures sent))) c.end.ensures

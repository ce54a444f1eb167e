use Rattle.std.proofs.lemmas.Result.{on_ok_weaker}
use Rattle.show_lines.proofs.Sending.{after}
use Rattle.show_lines.proofs.item.count.Goals as goal

pub returns : goal.returns
returns g c = on_ok_weaker c.end.result (λ sent. after c.in_ok-begin.ensures (after c.in_ok-number.ensures (after c.in_ok-item.ensures sent))) c.end.ensures

use Rattle.std.proofs.lemmas.Result.{on_ok_weaker}
use Rattle.show_lines.proofs.Sending.{after}
use Rattle.show_lines.proofs.members.item.Goals as goal

pub returns : goal.returns
returns g c = on_ok_weaker c.number.result (λ sent. after c.in_ok-text.ensures sent) c.number.ensures

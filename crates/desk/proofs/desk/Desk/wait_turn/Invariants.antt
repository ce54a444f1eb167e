use Rattle.std.proofs.Common.{◌≡◌}
use Rattle.desk.specs.Steps.{Drawn}
use Rattle.desk.proofs.desk.Desk.wait_turn.Given as goal

abbrev pub invariant-loop : goal.invariant-loop
invariant-loop g l =
    (goal.iterator-loop g).can_next l.iterator' × (goal.iterator-loop g).is_finite l.iterator'
    × (l.token.table_id ≡ l.self.table.shared.table_id) × Drawn l.fn.token.me l.ticket l.token.me

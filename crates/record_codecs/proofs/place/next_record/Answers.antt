use Rattle.std.proofs.Common.{◌-◌, arith}
use Rattle.record_codecs.proofs.BodyTurns.{first_rows}
use Rattle.record_codecs.proofs.place.next_record.Goals as goal

pub returns-else-left-eq0-clause-rows : goal.returns-else-left-eq0-clause-rows
returns-else-left-eq0-clause-rows c = first_rows c.args.head c.args.left (c.args.left - 1) c.first-first.result (omega (arith, c.if-left-eq0.false)) c.first-first.ensures.rows

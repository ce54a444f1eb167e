-- The command is read, and its answer may pass up.
use Rattle.std.proofs.Common.{None, [], arith}
use Rattle.command_layout.specs.Values.{CommandValue}
use Rattle.tracker_session.proofs.Responding.{no-fault, response-few}
use Rattle.tracker_session.proofs.answering.answer.Goals as goal

pub unreachable-requires : goal.unreachable-requires
unreachable-requires g c = no-fault c.requires.value c.args.body.now c.in_default.field-0.kind c.in_default.field-0.place c.requires.is c.in_default.ensures.broken

pub write_response-requires-clause-fits : goal.write_response-requires-clause-fits
write_response-requires-clause-fits g c =
    let v : CommandValue = record { codec = c.in-Ok.command.codec; kind = 0x06; time = None; imei = c.own_where.result; text = c.deref.result.now } in
    response-few v c.deref.ensures.1

pub write_response-requires-else-is_own-clause-fits : goal.write_response-requires-else-is_own-clause-fits
write_response-requires-else-is_own-clause-fits g c =
    let v : CommandValue = record { codec = c.in-Ok.command.codec; kind = 0x11; time = None; imei = c.own_where-else-is_own.result; text = [] } in
    response-few v (omega arith)

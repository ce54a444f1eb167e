use Rattle.command_layout.specs.declared.way.Way.TheVariants.{Up}
use Rattle.frame_layout.specs.declared.body_kind.BodyKind.TheVariants.{Packet}
use Rattle.loopback_rows.proofs.device.framed.Goals as goal

pub write_frame-requires-clause-passes : goal.write_frame-requires-clause-passes
write_frame-requires-clause-passes c = (Up, Packet c.in-Ok._head, c.in-Ok.ensures.accepted)

-- Where a machine stands that takes a frame's body byte by byte.
use Rattle.std.specs.Prelude.{ℕ, List}
use Rattle.field_machine.specs.Machines as machine
use Rattle.field_machine.specs.declared.machine.Machine.{Machine}
use Rattle.command_layout.specs.declared.way.Way.{Way}
use Rattle.frame_layout.specs.FrameBodies.{body_kind_rows}
use Rattle.frame_channel.specs.BodyPlaces.{StandsAt, left_in}
use Rattle.frame_channel.specs.declared.body_place.BodyPlace.{BodyPlace}

-- The machine has taken these bytes of a body of `total` bytes that passes this way, and every answer so far was More.
abbrev pub HasTaken : Machine BodyPlace → Way → ℕ → List ℕ → Type 0
HasTaken m way total bytes = machine.HasTaken left_in StandsAt m total (body_kind_rows way total) bytes

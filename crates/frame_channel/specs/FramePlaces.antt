-- Where in the fields around a frame's body the next one stands.
use Rattle.std.specs.Prelude.{◌≡◌, ℕ, ◌<◌, ◌≤◌, ◌==◌, ◌&&◌, nat_le}
use Rattle.std.proofs.Common.{refl, ap}
use Rattle.avl_values.specs.declared.fault.FaultKind.TheVariants as kind
use Rattle.layout.specs.Fields.{fault_unless, number_row}
use Rattle.layout.specs.Next.{width_of}
use Rattle.layout.specs.Rows.{Rows, done}
use Rattle.field_machine.specs.Places.{Leaves, turns}
use Rattle.field_machine.specs.declared.left.Left.{Left}
use Rattle.field_machine.specs.declared.left.Left.TheVariants as left
use Rattle.command_layout.specs.declared.way.Way.{Way}
use Rattle.frame_layout.specs.FrameBodies.{longest_body}
use Rattle.frame_layout.specs.FrameRows.{crc_low_rows, crc_rows}
use Rattle.frame_layout.specs.declared.body_kind.BodyKind.{BodyKind}
use Rattle.frame_channel.specs.declared.frame_place.FramePart.{FramePart}
use Rattle.frame_channel.specs.declared.frame_place.FramePart.TheVariants as part
use Rattle.frame_channel.specs.declared.frame_place.FramePlace.{FramePlace}
use Rattle.frame_channel.specs.declared.frame_place.FramePlace.TheVariants as at

-- the length of a body of this way, which the head says
abbrev pub length_head : Way → Rows FramePart
length_head way = number_row 4 (λ n. fault_unless (nat_le 3 n && nat_le n (longest_body way)) kind.Length) (λ n. done (part.Body n))

-- four zero bytes, and the length
abbrev pub head_rows : Way → Rows FramePart
head_rows way = number_row 4 (λ n. fault_unless (n == 0) kind.Preamble) (λ _. length_head way)

-- the checksum, or its low half, and then the frame is whole

abbrev pub low_rows : BodyKind → ℕ → Rows FramePart
low_rows of_body crc = crc_low_rows (part.Whole of_body) crc

abbrev pub high_rows : BodyKind → ℕ → Rows FramePart
high_rows of_body crc = crc_rows (part.Whole of_body) crc

abbrev pub frame_left : FramePlace → Left FramePart
frame_left (at.Preamble way) = left.Field 4
frame_left (at.Length way) = left.Field 4
frame_left (at.CrcHigh of_body crc) = left.Field 2
frame_left (at.CrcLow of_body crc) = left.Field 2
frame_left (at.End said) = left.Nothing said

-- a length is one that a body may have, whichever way it passes
abbrev pub IsPart : FramePart → Type 0
IsPart (part.Body n) = (0 < n) × (n ≤ 65535)
IsPart (part.Whole of_body) = Unit {0}

-- the rows that are left
abbrev pub StandsInFrame : FramePlace → Rows FramePart → Type 0
StandsInFrame (at.Preamble way) here = here ≡ head_rows way
StandsInFrame (at.Length way) here = here ≡ length_head way
StandsInFrame (at.CrcHigh of_body crc) here = here ≡ high_rows of_body crc
StandsInFrame (at.CrcLow of_body crc) here = here ≡ low_rows of_body crc
StandsInFrame (at.End said) here = (here ≡ done said) × IsPart said

abbrev pub SaysPart : FramePart → FramePart → Type 0
SaysPart said v = (v ≡ said) × IsPart said

pub frame_leaves : (place : FramePlace) (here : Rows FramePart) → StandsInFrame place here → Leaves SaysPart (frame_left place) here
frame_leaves (at.Preamble way) here is = ap width_of is
frame_leaves (at.Length way) here is = ap width_of is
frame_leaves (at.CrcHigh of_body crc) here is = ap width_of is
frame_leaves (at.CrcLow of_body crc) here is = ap width_of is
frame_leaves (at.End said) here (is, fits) = (said, is, (refl, fits))

-- no field is of no bytes
pub frame_turns : (place : FramePlace) → turns (frame_left place) ≡ 0
frame_turns (at.Preamble way) = refl
frame_turns (at.Length way) = refl
frame_turns (at.CrcHigh of_body crc) = refl
frame_turns (at.CrcLow of_body crc) = refl
frame_turns (at.End said) = refl

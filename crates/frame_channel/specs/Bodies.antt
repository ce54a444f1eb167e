-- Where a reader stands inside a frame's body.
use Rattle.std.specs.Prelude.{◌≡◌, ℕ, ◌≤◌, List, length}
use Rattle.crc_field.specs.Crc.{crc_of}
use Rattle.layout.specs.Rows.{Rows, fault}
use Rattle.field_machine.specs.Parts.{InPart, LeftAfter}
use Rattle.command_layout.specs.declared.way.Way.{Way}
use Rattle.frame_layout.specs.FrameBodies.{body_kind_rows}
use Rattle.frame_layout.specs.FrameRows.{crc_rows}
use Rattle.frame_layout.specs.declared.body_kind.BodyKind.{BodyKind}
use Rattle.frame_channel.specs.BodyPlaces.{StandsAt, left_in}
use Rattle.frame_channel.specs.FrameVerdicts.{frame_verdict, way_rows}
use Rattle.frame_channel.specs.declared.body_reader.BodyReader.{BodyReader}
use Rattle.frame_channel.specs.declared.body_reader.BodyStep.{BodyStep}
use Rattle.frame_channel.specs.declared.body_reader.BodyStep.TheVariants as step

-- after a body stands its checksum
abbrev pub checked : BodyKind × List ℕ → Rows (BodyKind × List ℕ)
checked b = crc_rows b (crc_of b.1)

-- inside a body, of which some bytes were taken, and none of their fields failed
pub record InBody (way : Way) (r : BodyReader) (bytes : List ℕ) : Type 0 where
  pub part : InPart left_in StandsAt (way_rows way) (body_kind_rows way r.total) checked r.machine r.start r.total bytes
  pub few : r.total ≤ 65535
  pub crc : r.crc ≡ crc_of part.taken

-- the reader is inside some body
pub record IsInBody (r : BodyReader) : Type 0 where
  pub way : Way
  pub bytes : List ℕ
  pub has : InBody way r bytes

-- after the body the checksum's field is left, which knows the body; a fault of the body is that of the frame
abbrev pub BodyAnswers : Way → BodyReader → List ℕ → BodyStep → Type 0
BodyAnswers way r bytes step.More = InBody way r bytes
BodyAnswers way r bytes (step.Whole kind crc end) = (end ≡ length bytes) × ((body : List ℕ) × LeftAfter (way_rows way) bytes (crc_rows (kind, body) crc))
BodyAnswers way r bytes (step.Broken found) = frame_verdict way bytes ≡ fault found.kind found.place

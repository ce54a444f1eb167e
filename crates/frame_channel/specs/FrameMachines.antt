-- Where a machine stands that takes a frame byte by byte.
use Rattle.std.specs.Prelude.{◌≡◌, ℕ, List, length}
use Rattle.layout.specs.Rows.{Rows, done, whole, fault}
use Rattle.field_machine.specs.Parts.{InPart}
use Rattle.field_machine.specs.declared.machine.Machine.{Machine}
use Rattle.command_layout.specs.declared.way.Way.{Way}
use Rattle.frame_layout.specs.FrameBodies.{body_kind_rows}
use Rattle.frame_layout.specs.FrameRows.{body_rows}
use Rattle.frame_layout.specs.declared.body_kind.BodyKind.{BodyKind}
use Rattle.frame_channel.specs.Bodies.{InBody}
use Rattle.frame_channel.specs.FramePlaces.{StandsInFrame, frame_left}
use Rattle.frame_channel.specs.FrameVerdicts.{frame_verdict, way_rows}
use Rattle.frame_channel.specs.declared.frame_machine.FrameMachine.{FrameMachine}
use Rattle.frame_channel.specs.declared.frame_machine.FrameMachine.TheVariants as machine
use Rattle.frame_channel.specs.declared.frame_machine.FrameStep.{FrameStep}
use Rattle.frame_channel.specs.declared.frame_machine.FrameStep.TheVariants as step
use Rattle.frame_channel.specs.declared.frame_place.FramePart.{FramePart}
use Rattle.frame_channel.specs.declared.frame_place.FramePart.TheVariants as part
use Rattle.frame_channel.specs.declared.frame_place.FramePlace.{FramePlace}

-- after the length stand a body of N bytes and its checksum; and after a checksum the frame says the body
abbrev pub after_part : Way → List ℕ → FramePart → Rows (BodyKind × List ℕ)
after_part way body (part.Body n) = body_rows (body_kind_rows way) n
after_part way body (part.Whole kind) = done (kind, body)

-- in the fields before a body, or in those after it, which know it
pub record InFields (way : Way) (start : ℕ) (m : Machine FramePlace) (bytes : List ℕ) : Type 0 where
  pub total : ℕ
  pub rows : Rows FramePart
  pub body : List ℕ
  pub part : InPart frame_left StandsInFrame (way_rows way) rows (λ b. after_part way body b.0) m start total bytes

-- the machine has taken these bytes of a frame of this way, and no field of them failed
abbrev pub HasTaken : FrameMachine → Way → List ℕ → Type 0
HasTaken (machine.Fields of_way start m) way bytes = (of_way ≡ way) × InFields way start m bytes
HasTaken (machine.Body of_way r) way bytes = (of_way ≡ way) × InBody way r bytes

-- the machine has taken some bytes
pub record IsTaking (m : FrameMachine) : Type 0 where
  pub way : Way
  pub bytes : List ℕ
  pub has : HasTaken m way bytes

-- the answer is the verdict on all the bytes, and while that is short the machine goes on from them
abbrev pub Answers : FrameMachine → Way → List ℕ → FrameStep → Type 0
Answers m way bytes step.More = HasTaken m way bytes
Answers m way bytes (step.Whole kind) = (body : List ℕ) × (frame_verdict way bytes ≡ whole (kind, body) (length bytes))
Answers m way bytes (step.Broken found) = frame_verdict way bytes ≡ fault found.kind found.place

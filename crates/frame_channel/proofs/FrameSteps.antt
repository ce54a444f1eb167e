-- A frame, byte by byte.
use Rattle.std.proofs.Common.{◌≡◌, ℕ, ◌<◌, ◌≤◌, List, [], ◌++◌, length, refl, sym, ap, ◌∙◌, arith}
use Rattle.std.specs.Prelude.{◌==◌}
use Rattle.avl_values.specs.declared.fault.FaultKind.TheVariants.{Preamble}
use Rattle.layout.specs.Fields.{fault_unless, number}
use Rattle.layout.specs.Nested.{with_bytes}
use Rattle.layout.specs.Rows.{judge, short, unless_fault, within}
use Rattle.layout.proofs.Judging.{judge_field}
use Rattle.field_machine.specs.Parts.{LeftAfter}
use Rattle.field_machine.proofs.Parts.{part_short}
use Rattle.command_layout.specs.declared.way.Way.{Way}
use Rattle.command_layout.specs.declared.way.Way.TheVariants.{Up, Down}
use Rattle.frame_layout.specs.FrameBodies.{body_kind_rows, longest_body}
use Rattle.frame_layout.specs.FrameRows.{body_rows, crc_rows, frame_rows, length_rows}
use Rattle.frame_layout.specs.declared.body_kind.BodyKind.{BodyKind}
use Rattle.frame_layout.proofs.Lengths.{frame_few}
use Rattle.frame_channel.specs.Bodies.{checked}
use Rattle.frame_channel.specs.BodyLaws.{body_leaves}
use Rattle.frame_channel.specs.BodyPlaces.{SaysKind, StandsAt, left_in}
use Rattle.frame_channel.specs.FrameMachines.{HasTaken, after_part}
use Rattle.frame_channel.specs.FrameVerdicts.{frame_verdict, way_rows}
use Rattle.frame_channel.specs.FramePlaces.{SaysPart, StandsInFrame, frame_leaves, frame_left, head_rows, high_rows, length_head}
use Rattle.frame_channel.specs.declared.frame_machine.FrameMachine.{FrameMachine}
use Rattle.frame_channel.specs.declared.frame_machine.FrameMachine.TheVariants as machine

-- what a frame says: the kind of its body, and the body
abbrev pub Said : Type 0
Said = BodyKind × List ℕ

abbrev pub says : BodyKind → List ℕ → Said
says kind body = (kind, body)

-- the parts of a frame: what comes before the body, or the length alone; the body; the checksum

pub head_is : (way : Way) → way_rows way ≡ within 8 (with_bytes [] (head_rows way)) (λ b. after_part way [] b.0)
unfolding frame_rows length_rows within with_bytes
head_is way = refl

pub length_is : (way : Way) → length_rows (longest_body way) (body_kind_rows way) ≡ within 4 (with_bytes [] (length_head way)) (λ b. after_part way [] b.0)
unfolding length_rows within with_bytes
length_is way = refl

pub body_is : (way : Way) (total : ℕ) → body_rows (body_kind_rows way) total ≡ within total (with_bytes [] (body_kind_rows way total)) checked
unfolding body_rows
body_is way total = refl

pub check_is : (way : Way) (kind : BodyKind) (body : List ℕ) (crc : ℕ) → crc_rows (says kind body) crc ≡ within 4 (with_bytes [] (high_rows kind crc)) (λ b. after_part way body b.0)
unfolding within with_bytes
check_is way kind body crc = refl

-- what a machine has taken is short, and so has few bytes

pub has_short : (m : FrameMachine) (way : Way) (bytes : List ℕ) → HasTaken m way bytes → frame_verdict way bytes ≡ short
has_short (machine.Fields of_way start m) way bytes (same, h) = part_short (way_rows way) h.rows (λ b. after_part way h.body b.0) h.total frame_left SaysPart StandsInFrame frame_leaves m start bytes h.part
has_short (machine.Body of_way r) way bytes (same, h) = part_short (way_rows way) (body_kind_rows way r.total) checked r.total left_in SaysKind StandsAt body_leaves r.machine r.start bytes h.part

pub longest : (way : Way) → longest_body way ≤ 65535
longest Up = omega arith
longest Down = omega arith

pub has_few : (m : FrameMachine) (way : Way) (bytes : List ℕ) → HasTaken m way bytes → length bytes < 65547
has_few m way bytes h = omega (arith, frame_few (longest_body way) (body_kind_rows way) 0 bytes (has_short m way bytes h), longest way)

-- after four zero bytes the length is left

pub behind_preamble : (way : Way) (zeros more : List ℕ) → length zeros ≡ 4 → number zeros ≡ 0 → frame_verdict way (zeros ++ more) ≡ judge (length_rows (longest_body way) (body_kind_rows way)) 4 more
unfolding frame_rows
behind_preamble way zeros more four none =
    let rest = length_rows (longest_body way) (body_kind_rows way) in
    judge_field 4 (λ field. fault_unless (number field == 0) Preamble) (λ _. rest) 0 zeros more four
    ∙ ap (λ n. unless_fault (fault_unless (n == 0) Preamble) 0 (judge rest 4 more)) none

pub zeros_leave : (way : Way) (zeros : List ℕ) → length zeros ≡ 4 → number zeros ≡ 0 → LeftAfter (way_rows way) zeros (within 4 (with_bytes [] (length_head way)) (λ b. after_part way [] b.0))
zeros_leave way zeros four none = record {
  judged = λ more. behind_preamble way zeros more four none ∙ ap (λ r. judge r 4 more) (length_is way) ∙ ap (λ p. judge (within 4 (with_bytes [] (length_head way)) (λ b. after_part way [] b.0)) p more) (sym four);
}

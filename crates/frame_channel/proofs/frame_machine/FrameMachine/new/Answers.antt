use Rattle.std.proofs.Common.{[], refl}
use Rattle.field_machine.proofs.Parts.{first_part}
use Rattle.frame_channel.specs.FrameMachines.{after_part}
use Rattle.frame_channel.specs.FramePlaces.{SaysPart, StandsInFrame, frame_leaves, frame_left, head_rows}
use Rattle.frame_channel.specs.FrameVerdicts.{way_rows}
use Rattle.frame_channel.proofs.FrameSteps.{head_is}
use Rattle.frame_channel.proofs.frame_machine.FrameMachine.new.Goals as goal

pub returns : goal.returns
returns c =
    let way = c.args.way in
    let rows = head_rows way in
    (refl, record { total = 8; rows = rows; body = []; part = first_part (way_rows way) rows (λ b. after_part way [] b.0) 8 frame_left SaysPart StandsInFrame frame_leaves c.new.result _ (head_is way) (c.new.ensures rows refl) })

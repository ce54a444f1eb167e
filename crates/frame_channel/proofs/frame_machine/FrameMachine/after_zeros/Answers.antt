use Rattle.std.proofs.Common.{[], refl, sym}
use Rattle.field_machine.proofs.Parts.{part_begins}
use Rattle.frame_channel.specs.FrameMachines.{after_part}
use Rattle.frame_channel.specs.FramePlaces.{SaysPart, StandsInFrame, frame_leaves, frame_left, length_head}
use Rattle.frame_channel.specs.FrameVerdicts.{way_rows}
use Rattle.frame_channel.proofs.FrameSteps.{zeros_leave}
use Rattle.frame_channel.proofs.frame_machine.FrameMachine.after_zeros.Goals as goal

pub returns : goal.returns
returns c zeros four none =
    let way = c.args.way in
    let rows = length_head way in
    let part = part_begins (way_rows way) rows (λ b. after_part way [] b.0) 4 frame_left SaysPart StandsInFrame frame_leaves c.new.result 4 zeros (sym four) (zeros_leave way zeros four none) (c.new.ensures rows refl) in
    (refl, record { total = 4; rows = rows; body = []; part = part })

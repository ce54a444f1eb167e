use Rattle.std.proofs.Common.{arith, ap, subst}
use Rattle.field_machine.proofs.Parts.{follows_here, no_turn}
use Rattle.frame_channel.specs.FramePlaces.{StandsInFrame, frame_left, frame_turns, head_rows, high_rows, length_head, low_rows}
use Rattle.frame_channel.specs.declared.frame_place.FramePlace.{FramePlace}
use Rattle.frame_channel.proofs.frame_place.FramePlaceCursor.next.Goals as goal

pub returns-in-Preamble-clause-follows : goal.returns-in-Preamble-clause-follows
returns-in-Preamble-clause-follows c here field stand width reads =
    follows_here StandsInFrame (frame_left c.args.self) 4 c.args.value (head_rows c.in-Preamble.way) here field c.preamble.result (omega arith) (subst (λ (p : FramePlace). StandsInFrame p here) c.in-Preamble.is stand) (ap frame_left c.in-Preamble.is) width reads c.preamble.ensures

pub returns-in-Preamble-clause-turns : goal.returns-in-Preamble-clause-turns
returns-in-Preamble-clause-turns c = no_turn frame_left c.args.self c.preamble.result frame_turns

pub returns-in-Length-clause-follows : goal.returns-in-Length-clause-follows
returns-in-Length-clause-follows c here field stand width reads =
    follows_here StandsInFrame (frame_left c.args.self) 4 c.args.value (length_head c.in-Length.way) here field c.length.result (omega arith) (subst (λ (p : FramePlace). StandsInFrame p here) c.in-Length.is stand) (ap frame_left c.in-Length.is) width reads c.length.ensures

pub returns-in-Length-clause-turns : goal.returns-in-Length-clause-turns
returns-in-Length-clause-turns c = no_turn frame_left c.args.self c.length.result frame_turns

pub returns-in-CrcHigh-clause-follows : goal.returns-in-CrcHigh-clause-follows
returns-in-CrcHigh-clause-follows c here field stand width reads =
    follows_here StandsInFrame (frame_left c.args.self) 2 c.args.value (high_rows c.in-CrcHigh.kind c.in-CrcHigh.crc) here field c.crc_high.result (omega arith) (subst (λ (p : FramePlace). StandsInFrame p here) c.in-CrcHigh.is stand) (ap frame_left c.in-CrcHigh.is) width reads c.crc_high.ensures

pub returns-in-CrcHigh-clause-turns : goal.returns-in-CrcHigh-clause-turns
returns-in-CrcHigh-clause-turns c = no_turn frame_left c.args.self c.crc_high.result frame_turns

pub returns-in-CrcLow-clause-follows : goal.returns-in-CrcLow-clause-follows
returns-in-CrcLow-clause-follows c here field stand width reads =
    follows_here StandsInFrame (frame_left c.args.self) 2 c.args.value (low_rows c.in-CrcLow.kind c.in-CrcLow.crc) here field c.crc_low.result (omega arith) (subst (λ (p : FramePlace). StandsInFrame p here) c.in-CrcLow.is stand) (ap frame_left c.in-CrcLow.is) width reads c.crc_low.ensures

pub returns-in-CrcLow-clause-turns : goal.returns-in-CrcLow-clause-turns
returns-in-CrcLow-clause-turns c = no_turn frame_left c.args.self c.crc_low.result frame_turns

use Rattle.std.proofs.Common.{◌-◌, length}
use Rattle.frame_layout.specs.DownRows.{down_rows}
use Rattle.frame_channel.specs.DownPushes.{lent_down}
use Rattle.fmb_show.specs.ItemLines.{down_lines}
use Rattle.fmb_show.proofs.StreamShows.{HasShown}
use Rattle.fmb_show.proofs.down.push_down.Given as goal

abbrev pub invariant-loop-at : goal.invariant-loop-at
invariant-loop-at l = HasShown down_rows lent_down down_lines l.after_answer l.bytes l.at l.line l.fn.out.items l.out.items l.down

abbrev pub decreases-loop-at : goal.decreases-loop-at
decreases-loop-at l = length l.bytes - l.at

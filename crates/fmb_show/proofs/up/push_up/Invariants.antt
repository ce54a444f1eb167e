use Rattle.std.proofs.Common.{◌-◌, length}
use Rattle.frame_layout.specs.UpRows.{up_rows}
use Rattle.frame_channel.specs.UpPushes.{lent_up}
use Rattle.fmb_show.specs.ItemLines.{up_lines}
use Rattle.fmb_show.proofs.StreamShows.{HasShown}
use Rattle.fmb_show.proofs.up.push_up.Given as goal

abbrev pub invariant-loop-at : goal.invariant-loop-at
invariant-loop-at l = HasShown up_rows lent_up up_lines l.after_login l.bytes l.at l.line l.fn.out.items l.out.items l.up

abbrev pub decreases-loop-at : goal.decreases-loop-at
decreases-loop-at l = length l.bytes - l.at

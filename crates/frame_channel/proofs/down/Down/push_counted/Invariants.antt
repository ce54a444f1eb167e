use Rattle.std.proofs.Common.{◌≡◌, ◌+◌}
use Rattle.item_streams.proofs.ReaderSteps.{Going}
use Rattle.frame_layout.specs.DownRows.{down_rows}
use Rattle.frame_channel.specs.DownPushes.{lent_down}
use Rattle.frame_channel.proofs.down.Down.push_counted.Given as goal

abbrev pub invariant-loop-i : goal.invariant-loop-i
invariant-loop-i g l = Going down_rows lent_down l.fn.self l.self l.piece l.i × (l.steps ≡ l.fn.steps + l.i)

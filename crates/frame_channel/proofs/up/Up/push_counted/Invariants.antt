use Rattle.std.proofs.Common.{◌≡◌, ◌+◌}
use Rattle.item_streams.proofs.ReaderSteps.{Going}
use Rattle.frame_layout.specs.UpRows.{up_rows}
use Rattle.frame_channel.specs.UpPushes.{lent_up}
use Rattle.frame_channel.proofs.up.Up.push_counted.Given as goal

abbrev pub invariant-loop-i : goal.invariant-loop-i
invariant-loop-i g l = Going up_rows lent_up l.fn.self l.self l.piece l.i × (l.steps ≡ l.fn.steps + l.i)

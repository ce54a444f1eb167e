-- What a reader of a stream down answers, as a reader over the rows of the stream.
use Rattle.std.specs.Prelude.{ℕ, List}
use Rattle.item_streams.specs.Readers.{Decided, Pushed, PushedByte, Reader, broken, item, more}
use Rattle.frame_layout.specs.DownRows.{down_rows}
use Rattle.frame_layout.specs.Readings.{IsFramedCommand}
use Rattle.frame_layout.specs.Values.{DownValue, answer, count, order}
use Rattle.command_layout.specs.declared.way.Way.TheVariants as way
use Rattle.frame_channel.specs.declared.down_item.DownItem.{DownItem}
use Rattle.frame_channel.specs.declared.down_item.DownItem.TheVariants.{More, Login, Count, Order, Broken}

-- an answer, with the body that is lent then
abbrev pub decided_down : DownItem → List ℕ → Decided DownValue
decided_down More body = more
decided_down (Login n) body = item (answer n)
decided_down (Count n) body = item (count n)
decided_down Order body = item (order body)
decided_down (Broken found) body = broken found.kind found.place

-- the body that is lent after an item: that of a command's frame, and after another item the one before
abbrev pub lent_down : DownValue → List ℕ → List ℕ
lent_down (answer n) old = old
lent_down (count n) old = old
lent_down (order body) old = body

-- a push of a piece, and of one byte
abbrev pub PushedDown : Reader → Reader → List ℕ → ℕ → DownItem → Type 0
PushedDown old new piece n said = Pushed down_rows lent_down old new piece n (decided_down said new.body)

abbrev pub PushedByteDown : Reader → Reader → ℕ → DownItem → Type 0
PushedByteDown old new byte said = PushedByte down_rows lent_down old new byte (decided_down said new.body)

-- The body that is lent: after a command its body, within a frame's bound of 1,268 bytes.
abbrev pub IsLentDown : DownItem → List ℕ → Type 0
IsLentDown More body = Unit {0}
IsLentDown (Login n) body = Unit {0}
IsLentDown (Count n) body = Unit {0}
IsLentDown Order body = IsFramedCommand way.Down body
IsLentDown (Broken found) body = Unit {0}

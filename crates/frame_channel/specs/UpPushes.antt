-- What a reader of a stream up answers, as a reader over the rows of the stream.
use Rattle.std.specs.Prelude.{ℕ, List}
use Rattle.item_streams.specs.Readers.{Decided, Pushed, PushedByte, Reader, broken, item, more}
use Rattle.frame_layout.specs.Readings.{IsFramedCommand, IsFramedPacket}
use Rattle.frame_layout.specs.UpRows.{up_rows}
use Rattle.frame_layout.specs.Values.{UpValue, login, packet, response}
use Rattle.command_layout.specs.declared.way.Way.TheVariants as way
use Rattle.frame_channel.specs.declared.up_item.UpItem.{UpItem}
use Rattle.frame_channel.specs.declared.up_item.UpItem.TheVariants.{More, Login, Packet, Response, Broken}

-- an answer, with the body that is lent then
abbrev pub decided_up : UpItem → List ℕ → Decided UpValue
decided_up More body = more
decided_up (Login imei) body = item (login imei)
decided_up (Packet head) body = item (packet head body)
decided_up Response body = item (response body)
decided_up (Broken found) body = broken found.kind found.place

-- the body that is lent after an item: that of a frame, and after a login the one before
abbrev pub lent_up : UpValue → List ℕ → List ℕ
lent_up (login imei) old = old
lent_up (packet head body) old = body
lent_up (response body) old = body

-- a push of a piece, and of one byte
abbrev pub PushedUp : Reader → Reader → List ℕ → ℕ → UpItem → Type 0
PushedUp old new piece n said = Pushed up_rows lent_up old new piece n (decided_up said new.body)

abbrev pub PushedByteUp : Reader → Reader → ℕ → UpItem → Type 0
PushedByteUp old new byte said = PushedByte up_rows lent_up old new byte (decided_up said new.body)

-- The body that is lent: after a packet a data body that says this first, after a response its body, each within a frame's bound.
abbrev pub IsLentUp : UpItem → List ℕ → Type 0
IsLentUp More body = Unit {0}
IsLentUp (Login imei) body = Unit {0}
IsLentUp (Packet head) body = IsFramedPacket head body
IsLentUp Response body = IsFramedCommand way.Up body
IsLentUp (Broken found) body = Unit {0}

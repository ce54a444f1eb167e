-- The item that a whole frame up is.
use Rattle.frame_layout.specs.declared.body_kind.BodyKind.{BodyKind}
use Rattle.frame_layout.specs.declared.body_kind.BodyKind.TheVariants as kind
use Rattle.frame_channel.specs.declared.up_item.UpItem.{UpItem}
use Rattle.frame_channel.specs.declared.up_item.UpItem.TheVariants as item

abbrev pub frame_item : BodyKind → UpItem
frame_item (kind.Packet head) = item.Packet head
frame_item kind.Command = item.Response

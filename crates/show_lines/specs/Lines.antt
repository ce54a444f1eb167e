-- The line of an item.
use Rattle.std.specs.Prelude.{ℕ, List}
use Rattle.show_lines.specs.ItemTexts.{answer_text, count_text, datagram_text, fault_text, login_text, packet_text, reply_text, short_text}
use Rattle.show_lines.specs.Json.{as_line}
use Rattle.show_lines.specs.declared.item.Item.{Item}
use Rattle.show_lines.specs.declared.item.Item.TheVariants as Kind

abbrev pub item_text : Item → ℕ → List ℕ
item_text (Kind.Login imei) line = login_text imei line
item_text (Kind.Answer byte) line = answer_text byte line
item_text (Kind.Count count) line = count_text count line
item_text (Kind.Short have) line = short_text have line
item_text (Kind.Fault fault) line = fault_text fault line
item_text (Kind.Packet head) line = packet_text head line
item_text (Kind.Datagram packet unused avl_packet imei) line = datagram_text packet unused avl_packet imei line
item_text (Kind.Reply packet unused avl_packet count) line = reply_text packet unused avl_packet count line

abbrev pub item_line : Item → ℕ → List ℕ
item_line item line = as_line (item_text item line)

-- The tokens of an item are printed as its text.
use Rattle.std.proofs.Common.{◌≡◌, ℕ, List, [], ◌∷◌, ◌++◌, Bool, Option, Some, None, true, false, ◌==◌, codes, decimal, refl}
use Rattle.std.specs.Bool.{if◌then◌else◌}
use Rattle.std.specs.List.{concat}
use Rattle.avl_values.specs.declared.fault.Fault.{Fault}
use Rattle.command_layout.specs.Values.{CommandValue}
use Rattle.json.specs.Print.{print}
use Rattle.json.specs.Token.{begin_object, boolean, end_object, key, number}
use Rattle.json.proofs.OnLiterals.{json_on_literals}
use Rattle.layout.specs.Bytes.{AreBytes}
use Rattle.record_layout.specs.declared.head.PacketHead.{PacketHead}
use Rattle.show_lines.specs.ItemTexts.{answer_text, command_text, count_text, datagram_text, fault_text, login_text, packet_text, reply_text, short_text}
use Rattle.show_lines.specs.Lines.{item_text}
use Rattle.show_lines.specs.Tokens.{answer_tokens, command_tokens, count_tokens, datagram_tokens, fault_tokens, item_tokens, login_tokens, packet_tokens, reply_tokens, short_tokens, tokens_of}
use Rattle.show_lines.specs.declared.item.Item.{Item}
use Rattle.show_lines.specs.declared.item.Item.TheVariants as Kind
use Rattle.show_lines.proofs.Escapes.{hex_plain, imei_plain, name_plain}

login_printed : (imei line : ℕ) → print (login_tokens imei line) ≡ login_text imei line
unfolding json_on_literals login_text
login_printed imei line = rw (imei_plain imei) refl

-- with the two tests of the byte
answer_by : (one zero : Bool) (byte line : ℕ)
    → print (begin_object ∷ ((if one then key (codes "accepted") ∷ boolean true ∷ [] else if zero then key (codes "accepted") ∷ boolean false ∷ [] else key (codes "byte") ∷ number (decimal byte) ∷ [])
    ++ (item_tokens (codes "answer") line ++ end_object ∷ [])))
    ≡ concat (codes "{" ∷ (if one then codes "\"accepted\":true" else if zero then codes "\"accepted\":false" else codes "\"byte\":" ++ decimal byte)
    ∷ codes ",\"item\":\"answer\",\"line\":" ∷ decimal line ∷ codes "}" ∷ [])
unfolding json_on_literals
answer_by true zero byte line = refl
answer_by false true byte line = refl
answer_by false false byte line = refl

answer_printed : (byte line : ℕ) → print (answer_tokens byte line) ≡ answer_text byte line
unfolding answer_text
answer_printed byte line = answer_by (byte == 1) (byte == 0) byte line

count_printed : (count line : ℕ) → print (count_tokens count line) ≡ count_text count line
unfolding json_on_literals count_text
count_printed count line = refl

short_printed : (have line : ℕ) → print (short_tokens have line) ≡ short_text have line
unfolding json_on_literals short_text
short_printed have line = refl

fault_printed : (fault : Fault) (line : ℕ) → print (fault_tokens fault line) ≡ fault_text fault line
unfolding json_on_literals fault_text
fault_printed fault line = rw (name_plain fault.kind) refl

packet_printed : (head : PacketHead) (line : ℕ) → print (packet_tokens head line) ≡ packet_text head line
unfolding json_on_literals packet_text
packet_printed head line = refl

command_by : (codec kind : ℕ) (time imei : Option ℕ) (text : List ℕ) (line : ℕ) → AreBytes text
    → print (command_tokens (record { codec = codec; kind = kind; time = time; imei = imei; text = text }) line)
    ≡ command_text (record { codec = codec; kind = kind; time = time; imei = imei; text = text }) line
unfolding json_on_literals command_text
command_by codec kind None None text line bytes = rw (hex_plain text bytes) refl
command_by codec kind None (Some n) text line bytes = rw (imei_plain n, hex_plain text bytes) refl
command_by codec kind (Some t) None text line bytes = rw (hex_plain text bytes) refl
command_by codec kind (Some t) (Some n) text line bytes = rw (imei_plain n, hex_plain text bytes) refl

pub command_printed : (v : CommandValue) (line : ℕ) → AreBytes v.text → print (command_tokens v line) ≡ command_text v line
command_printed v line bytes = command_by v.codec v.kind v.time v.imei v.text line bytes

datagram_printed : (packet unused avl_packet imei line : ℕ) → print (datagram_tokens packet unused avl_packet imei line) ≡ datagram_text packet unused avl_packet imei line
unfolding json_on_literals datagram_text
datagram_printed packet unused avl_packet imei line = rw (imei_plain imei) refl

reply_printed : (packet unused avl_packet count line : ℕ) → print (reply_tokens packet unused avl_packet count line) ≡ reply_text packet unused avl_packet count line
unfolding json_on_literals reply_text
reply_printed packet unused avl_packet count line = refl

pub item_printed : (item : Item) (line : ℕ) → print (tokens_of item line) ≡ item_text item line
item_printed (Kind.Login imei) line = login_printed imei line
item_printed (Kind.Answer byte) line = answer_printed byte line
item_printed (Kind.Count count) line = count_printed count line
item_printed (Kind.Short have) line = short_printed have line
item_printed (Kind.Fault fault) line = fault_printed fault line
item_printed (Kind.Packet head) line = packet_printed head line
item_printed (Kind.Datagram packet unused avl_packet imei) line = datagram_printed packet unused avl_packet imei line
item_printed (Kind.Reply packet unused avl_packet count) line = reply_printed packet unused avl_packet count line

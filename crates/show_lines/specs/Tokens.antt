-- The tokens of each line.
use Rattle.std.specs.Prelude.{ℕ, ◌==◌, if◌then◌else◌, true, false, List, [], ◌∷◌, ◌++◌, codes, decimal, Option, Some, None}
use Rattle.std.specs.Fmt.{signed_decimal}
use Rattle.std.specs.List.{flat_map}
use Rattle.hex.specs.Hex.{encode_lower}
use Rattle.json.specs.Token.{Token, begin_array, begin_object, boolean, end_array, end_object, key, null, number, string}
use Rattle.avl_values.specs.Codec.{id_of}
use Rattle.avl_values.specs.FaultKind.{name_of, number_of}
use Rattle.avl_values.specs.Imei.{imei_text}
use Rattle.avl_values.specs.IoElement.{IoElement}
use Rattle.avl_values.specs.RecordValue.{RecordValue}
use Rattle.avl_values.specs.Width.{bytes_of}
use Rattle.avl_values.specs.declared.codec.Codec.{Codec}
use Rattle.avl_values.specs.declared.fault.Fault.{Fault}
use Rattle.command_layout.specs.Values.{CommandValue}
use Rattle.record_codecs.specs.Elements.{ios_of}
use Rattle.record_codecs.specs.Shown.{generation_in}
use Rattle.record_layout.specs.declared.head.PacketHead.{PacketHead}
use Rattle.show_lines.specs.declared.item.Item.{Item}
use Rattle.show_lines.specs.declared.item.Item.TheVariants as Kind

abbrev pub number_or_null : Option ℕ → Token
number_or_null None = null
number_or_null (Some n) = number (decimal n)

abbrev pub imei_or_null : Option ℕ → Token
imei_or_null None = null
imei_or_null (Some n) = string (imei_text n)

-- which item it is, and the line
abbrev pub item_tokens : List ℕ → ℕ → List Token
item_tokens item line = key (codes "item") ∷ string item ∷ key (codes "line") ∷ number (decimal line) ∷ []

abbrev pub login_tokens : ℕ → ℕ → List Token
login_tokens imei line =
    begin_object ∷ key (codes "imei") ∷ string (imei_text imei) ∷ (item_tokens (codes "login") line ++ end_object ∷ [])

abbrev pub answer_member_tokens : ℕ → List Token
answer_member_tokens byte =
    if byte == 1 then key (codes "accepted") ∷ boolean true ∷ []
    else if byte == 0 then key (codes "accepted") ∷ boolean false ∷ []
    else key (codes "byte") ∷ number (decimal byte) ∷ []

abbrev pub answer_tokens : ℕ → ℕ → List Token
answer_tokens byte line = begin_object ∷ (answer_member_tokens byte ++ (item_tokens (codes "answer") line ++ end_object ∷ []))

abbrev pub count_tokens : ℕ → ℕ → List Token
count_tokens count line =
    begin_object ∷ key (codes "count") ∷ number (decimal count) ∷ (item_tokens (codes "count") line ++ end_object ∷ [])

abbrev pub short_tokens : ℕ → ℕ → List Token
short_tokens have line =
    begin_object ∷ key (codes "have") ∷ number (decimal have) ∷ (item_tokens (codes "short") line ++ end_object ∷ [])

abbrev pub fault_tokens : Fault → ℕ → List Token
fault_tokens fault line =
    begin_object ∷ key (codes "fault") ∷ string (name_of fault.kind) ∷ (item_tokens (codes "fault") line
    ++ key (codes "number") ∷ number (decimal (number_of fault.kind)) ∷ key (codes "place") ∷ number (decimal fault.place) ∷ end_object ∷ [])

abbrev pub packet_tokens : PacketHead → ℕ → List Token
packet_tokens head line =
    begin_object ∷ key (codes "codec") ∷ number (decimal (id_of head.codec)) ∷ key (codes "count") ∷ number (decimal head.count)
    ∷ (item_tokens (codes "packet") line ++ end_object ∷ [])

abbrev pub command_tokens : CommandValue → ℕ → List Token
command_tokens v line =
    begin_object ∷ key (codes "codec") ∷ number (decimal v.codec) ∷ key (codes "imei") ∷ imei_or_null v.imei
    ∷ key (codes "item") ∷ string (codes "command") ∷ key (codes "kind") ∷ number (decimal v.kind)
    ∷ key (codes "line") ∷ number (decimal line) ∷ key (codes "text") ∷ string (encode_lower v.text)
    ∷ key (codes "time") ∷ number_or_null v.time ∷ end_object ∷ []

abbrev pub datagram_tokens : ℕ → ℕ → ℕ → ℕ → ℕ → List Token
datagram_tokens packet unused avl_packet imei line =
    begin_object ∷ key (codes "avl_packet") ∷ number (decimal avl_packet) ∷ key (codes "imei") ∷ string (imei_text imei)
    ∷ (item_tokens (codes "datagram") line
    ++ key (codes "packet") ∷ number (decimal packet) ∷ key (codes "unused") ∷ number (decimal unused) ∷ end_object ∷ [])

abbrev pub reply_tokens : ℕ → ℕ → ℕ → ℕ → ℕ → List Token
reply_tokens packet unused avl_packet count line =
    begin_object ∷ key (codes "avl_packet") ∷ number (decimal avl_packet) ∷ key (codes "count") ∷ number (decimal count)
    ∷ (item_tokens (codes "reply") line
    ++ key (codes "packet") ∷ number (decimal packet) ∷ key (codes "unused") ∷ number (decimal unused) ∷ end_object ∷ [])

abbrev pub tokens_of : Item → ℕ → List Token
tokens_of (Kind.Login imei) line = login_tokens imei line
tokens_of (Kind.Answer byte) line = answer_tokens byte line
tokens_of (Kind.Count count) line = count_tokens count line
tokens_of (Kind.Short have) line = short_tokens have line
tokens_of (Kind.Fault fault) line = fault_tokens fault line
tokens_of (Kind.Packet head) line = packet_tokens head line
tokens_of (Kind.Datagram packet unused avl_packet imei) line = datagram_tokens packet unused avl_packet imei line
tokens_of (Kind.Reply packet unused avl_packet count) line = reply_tokens packet unused avl_packet count line

abbrev pub element_tokens : IoElement → List Token
element_tokens e =
    begin_array ∷ number (decimal e.id) ∷ number (decimal (bytes_of e.width)) ∷ number (decimal e.value) ∷ end_array ∷ []

abbrev pub nx_tokens : ℕ × List ℕ → List Token
nx_tokens e = begin_array ∷ number (decimal e.0) ∷ string (encode_lower e.1) ∷ end_array ∷ []

abbrev pub list_tokens : {X : Type 0} → (X → List Token) → List X → List Token
list_tokens tokens xs = begin_array ∷ (flat_map tokens xs ++ end_array ∷ [])

abbrev pub record_tokens : Codec → RecordValue → ℕ → List Token
record_tokens codec v line =
    begin_object ∷ key (codes "altitude") ∷ number (signed_decimal v.altitude)
    ∷ key (codes "angle") ∷ number (decimal v.angle)
    ∷ key (codes "event") ∷ number (decimal v.event)
    ∷ key (codes "generation") ∷ number_or_null (generation_in codec v)
    ∷ key (codes "io") ∷ (list_tokens element_tokens (ios_of v)
    ++ key (codes "item") ∷ string (codes "record")
    ∷ key (codes "latitude") ∷ number (signed_decimal v.latitude)
    ∷ key (codes "line") ∷ number (decimal line)
    ∷ key (codes "longitude") ∷ number (signed_decimal v.longitude)
    ∷ key (codes "nx") ∷ (list_tokens nx_tokens v.nx
    ++ key (codes "priority") ∷ number (decimal v.priority)
    ∷ key (codes "satellites") ∷ number (decimal v.satellites)
    ∷ key (codes "speed") ∷ number (decimal v.speed)
    ∷ key (codes "time") ∷ number (decimal v.time) ∷ end_object ∷ []))

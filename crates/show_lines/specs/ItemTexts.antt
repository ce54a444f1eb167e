-- What is printed of each item of a capture but its records: one object of compact JSON with its keys in alphabetical order (this
-- project's own). `line` is the number of the line of the capture that the item's bytes are in.
use Rattle.std.specs.Prelude.{ℕ, ◌==◌, if◌then◌else◌, List, [], ◌∷◌, ◌++◌, codes, decimal, Option, option_map}
use Rattle.std.specs.List.{concat}
use Rattle.hex.specs.Hex.{encode_lower}
use Rattle.avl_values.specs.Codec.{id_of}
use Rattle.avl_values.specs.FaultKind.{name_of, number_of}
use Rattle.avl_values.specs.Imei.{imei_text}
use Rattle.avl_values.specs.declared.fault.Fault.{Fault}
use Rattle.command_layout.specs.Values.{CommandValue}
use Rattle.record_layout.specs.declared.head.PacketHead.{PacketHead}
use Rattle.show_lines.specs.Json.{in_quotes, or_null}

-- `{"imei":"356307042441013","item":"login","line":1}`
unfoldable pub login_text : ℕ → ℕ → List ℕ
login_text imei line = concat
    (codes "{\"imei\":" ∷ in_quotes (imei_text imei)
    ∷ codes ",\"item\":\"login\",\"line\":" ∷ decimal line ∷ codes "}" ∷ [])

-- whether the login was accepted, by the bytes 1 and 0, and any other byte as it is
abbrev pub answer_member : ℕ → List ℕ
answer_member byte =
    if byte == 1 then codes "\"accepted\":true"
    else if byte == 0 then codes "\"accepted\":false"
    else codes "\"byte\":" ++ decimal byte

-- `{"accepted":true,"item":"answer","line":1}`, `{"byte":2,"item":"answer","line":1}`
unfoldable pub answer_text : ℕ → ℕ → List ℕ
answer_text byte line = concat
    (codes "{" ∷ answer_member byte
    ∷ codes ",\"item\":\"answer\",\"line\":" ∷ decimal line ∷ codes "}" ∷ [])

-- `{"count":1,"item":"count","line":1}`
unfoldable pub count_text : ℕ → ℕ → List ℕ
count_text count line = concat
    (codes "{\"count\":" ∷ decimal count
    ∷ codes ",\"item\":\"count\",\"line\":" ∷ decimal line ∷ codes "}" ∷ [])

-- N bytes of an item that is unfinished: `{"have":20,"item":"short","line":1}`
unfoldable pub short_text : ℕ → ℕ → List ℕ
short_text have line = concat
    (codes "{\"have\":" ∷ decimal have
    ∷ codes ",\"item\":\"short\",\"line\":" ∷ decimal line ∷ codes "}" ∷ [])

-- `{"fault":"CrcMismatch","item":"fault","line":1,"number":10,"place":64}`
unfoldable pub fault_text : Fault → ℕ → List ℕ
fault_text fault line = concat
    (codes "{\"fault\":" ∷ in_quotes (name_of fault.kind)
    ∷ codes ",\"item\":\"fault\",\"line\":" ∷ decimal line
    ∷ codes ",\"number\":" ∷ decimal (number_of fault.kind)
    ∷ codes ",\"place\":" ∷ decimal fault.place ∷ codes "}" ∷ [])

-- `{"codec":8,"count":1,"item":"packet","line":1}`
unfoldable pub packet_text : PacketHead → ℕ → List ℕ
packet_text head line = concat
    (codes "{\"codec\":" ∷ decimal (id_of head.codec)
    ∷ codes ",\"count\":" ∷ decimal head.count
    ∷ codes ",\"item\":\"packet\",\"line\":" ∷ decimal line ∷ codes "}" ∷ [])

-- the digits of an IMEI in quotes, `null` where there is none
abbrev pub imei_or_null : Option ℕ → List ℕ
imei_or_null imei = or_null (option_map (λ n. in_quotes (imei_text n)) imei)

-- `{"codec":12,"imei":null,"item":"command","kind":5,"line":1,"text":"676574696e666f","time":null}`
unfoldable pub command_text : CommandValue → ℕ → List ℕ
command_text v line = concat
    (codes "{\"codec\":" ∷ decimal v.codec
    ∷ codes ",\"imei\":" ∷ imei_or_null v.imei
    ∷ codes ",\"item\":\"command\",\"kind\":" ∷ decimal v.kind
    ∷ codes ",\"line\":" ∷ decimal line
    ∷ codes ",\"text\":" ∷ in_quotes (encode_lower v.text)
    ∷ codes ",\"time\":" ∷ or_null (option_map decimal v.time) ∷ codes "}" ∷ [])

-- `{"avl_packet":5,"imei":"352093086403655","item":"datagram","line":1,"packet":51966,"unused":1}`
unfoldable pub datagram_text : ℕ → ℕ → ℕ → ℕ → ℕ → List ℕ
datagram_text packet unused avl_packet imei line = concat
    (codes "{\"avl_packet\":" ∷ decimal avl_packet
    ∷ codes ",\"imei\":" ∷ in_quotes (imei_text imei)
    ∷ codes ",\"item\":\"datagram\",\"line\":" ∷ decimal line
    ∷ codes ",\"packet\":" ∷ decimal packet
    ∷ codes ",\"unused\":" ∷ decimal unused ∷ codes "}" ∷ [])

-- `{"avl_packet":5,"count":1,"item":"reply","line":2,"packet":51966,"unused":1}`
unfoldable pub reply_text : ℕ → ℕ → ℕ → ℕ → ℕ → List ℕ
reply_text packet unused avl_packet count line = concat
    (codes "{\"avl_packet\":" ∷ decimal avl_packet
    ∷ codes ",\"count\":" ∷ decimal count
    ∷ codes ",\"item\":\"reply\",\"line\":" ∷ decimal line
    ∷ codes ",\"packet\":" ∷ decimal packet
    ∷ codes ",\"unused\":" ∷ decimal unused ∷ codes "}" ∷ [])

-- Teltonika's worked examples, and small items, as lemmas that compute.
use Rattle.std.proofs.Common.{◌≡◌, ℕ, List, [], ◌∷◌, ◌++◌, Some, None, codes, refl}
use Rattle.std.specs.Fmt.{digits}
use Rattle.avl_values.specs.Imei.{decimal_places}
use Rattle.avl_values.specs.declared.codec.Codec.TheVariants.{C8, C8E, C16}
use Rattle.avl_values.specs.declared.fault.FaultKind.TheVariants.{CrcMismatch}
use Rattle.hex.specs.Hex.{encode_with}
use Rattle.layout.specs.Rows.{judge}
use Rattle.record_layout.specs.RecordRows.{parts_rows}
use Rattle.record_layout.specs.RecordsOf.{records_of}
use Rattle.show_lines.specs.ItemTexts.{answer_text, command_text, count_text, datagram_text, fault_text, login_text, packet_text, reply_text, short_text}
use Rattle.show_lines.specs.Json.{as_line}
use Rattle.show_lines.specs.PacketLines.{packet_lines}
use Rattle.show_lines.specs.RecordText.{record_text}
use Rattle.show_lines.specs.RecordValues.{value_in}

login : as_line (login_text 356307042441013 1) ≡ codes "{\"imei\":\"356307042441013\",\"item\":\"login\",\"line\":1}\n"
unfolding login_text decimal_places digits
login = refl

accepted : as_line (answer_text 1 1) ≡ codes "{\"accepted\":true,\"item\":\"answer\",\"line\":1}\n"
unfolding answer_text digits
accepted = refl

refused : as_line (answer_text 0 1) ≡ codes "{\"accepted\":false,\"item\":\"answer\",\"line\":1}\n"
unfolding answer_text digits
refused = refl

other_answer : as_line (answer_text 2 1) ≡ codes "{\"byte\":2,\"item\":\"answer\",\"line\":1}\n"
unfolding answer_text digits
other_answer = refl

count : as_line (count_text 1 1) ≡ codes "{\"count\":1,\"item\":\"count\",\"line\":1}\n"
unfolding count_text digits
count = refl

short : as_line (short_text 20 1) ≡ codes "{\"have\":20,\"item\":\"short\",\"line\":1}\n"
unfolding short_text digits
short = refl

fault : as_line (fault_text (record { kind = CrcMismatch; place = 64 }) 1) ≡ codes "{\"fault\":\"CrcMismatch\",\"item\":\"fault\",\"line\":1,\"number\":10,\"place\":64}\n"
unfolding fault_text digits
fault = refl

getinfo : as_line (command_text (record { codec = 12; kind = 5; time = None; imei = None; text = codes "getinfo" }) 1)
    ≡ codes "{\"codec\":12,\"imei\":null,\"item\":\"command\",\"kind\":5,\"line\":1,\"text\":\"676574696e666f\",\"time\":null}\n"
unfolding command_text encode_with digits
getinfo = refl

getver : as_line (command_text (record { codec = 14; kind = 5; time = None; imei = Some 352093081452251; text = codes "getver" }) 1)
    ≡ codes "{\"codec\":14,\"imei\":\"352093081452251\",\"item\":\"command\",\"kind\":5,\"line\":1,\"text\":\"676574766572\",\"time\":null}\n"
unfolding command_text encode_with decimal_places digits
getver = refl

datagram_head : as_line (datagram_text 0xcafe 1 5 352093086403655 1) ≡ codes "{\"avl_packet\":5,\"imei\":\"352093086403655\",\"item\":\"datagram\",\"line\":1,\"packet\":51966,\"unused\":1}\n"
unfolding datagram_text decimal_places digits
datagram_head = refl

reply : as_line (reply_text 0xcafe 1 5 1 2) ≡ codes "{\"avl_packet\":5,\"count\":1,\"item\":\"reply\",\"line\":2,\"packet\":51966,\"unused\":1}\n"
unfolding reply_text digits
reply = refl

abbrev codec_8_body : List ℕ
codec_8_body = 0x08 ∷ 0x01 ∷ 0x00 ∷ 0x00 ∷ 0x01 ∷ 0x6b ∷ 0x40 ∷ 0xd8 ∷ 0xea ∷ 0x30 ∷ 0x01 ∷ 0x00 ∷ 0x00 ∷ 0x00 ∷ 0x00 ∷ 0x00 ∷ 0x00 ∷ 0x00 ∷ 0x00 ∷ 0x00 ∷ 0x00 ∷ 0x00 ∷
    0x00 ∷ 0x00 ∷ 0x00 ∷ 0x00 ∷ 0x01 ∷ 0x05 ∷ 0x02 ∷ 0x15 ∷ 0x03 ∷ 0x01 ∷ 0x01 ∷ 0x01 ∷ 0x42 ∷ 0x5e ∷ 0x0f ∷ 0x01 ∷ 0xf1 ∷ 0x00 ∷ 0x00 ∷ 0x60 ∷ 0x1a ∷ 0x01 ∷
    0x4e ∷ 0x00 ∷ 0x00 ∷ 0x00 ∷ 0x00 ∷ 0x00 ∷ 0x00 ∷ 0x00 ∷ 0x00 ∷ 0x01 ∷ []

codec_8 : packet_lines (record { codec = C8; count = 1 }) codec_8_body 1
    ≡ codes "{\"codec\":8,\"count\":1,\"item\":\"packet\",\"line\":1}\n"
    ++ codes "{\"altitude\":0,\"angle\":0,\"event\":1,\"generation\":null,\"io\":[[21,1,3],[1,1,1],[66,2,24079],[241,4,24602],[78,8,0]],\"item\":\"record\",\"latitude\":0,\"line\":1,\"longitude\":0,\"nx\":[],\"priority\":1,\"satellites\":0,\"speed\":0,\"time\":1560161086000}\n"
unfolding packet_text record_text value_in judge parts_rows records_of digits
codec_8 = refl

abbrev codec_8_extended_body : List ℕ
codec_8_extended_body = 0x8e ∷ 0x01 ∷ 0x00 ∷ 0x00 ∷ 0x01 ∷ 0x6b ∷ 0x41 ∷ 0x2c ∷ 0xee ∷ 0x00 ∷ 0x01 ∷ 0x00 ∷ 0x00 ∷ 0x00 ∷ 0x00 ∷ 0x00 ∷ 0x00 ∷ 0x00 ∷ 0x00 ∷ 0x00 ∷ 0x00 ∷ 0x00 ∷
    0x00 ∷ 0x00 ∷ 0x00 ∷ 0x00 ∷ 0x00 ∷ 0x01 ∷ 0x00 ∷ 0x05 ∷ 0x00 ∷ 0x01 ∷ 0x00 ∷ 0x01 ∷ 0x01 ∷ 0x00 ∷ 0x01 ∷ 0x00 ∷ 0x11 ∷ 0x00 ∷ 0x1d ∷ 0x00 ∷ 0x01 ∷ 0x00 ∷
    0x10 ∷ 0x01 ∷ 0x5e ∷ 0x2c ∷ 0x88 ∷ 0x00 ∷ 0x02 ∷ 0x00 ∷ 0x0b ∷ 0x00 ∷ 0x00 ∷ 0x00 ∷ 0x00 ∷ 0x35 ∷ 0x44 ∷ 0xc8 ∷ 0x7a ∷ 0x00 ∷ 0x0e ∷ 0x00 ∷ 0x00 ∷ 0x00 ∷
    0x00 ∷ 0x1d ∷ 0xd7 ∷ 0xe0 ∷ 0x6a ∷ 0x00 ∷ 0x00 ∷ 0x01 ∷ []

codec_8_extended : packet_lines (record { codec = C8E; count = 1 }) codec_8_extended_body 1
    ≡ codes "{\"codec\":142,\"count\":1,\"item\":\"packet\",\"line\":1}\n"
    ++ codes "{\"altitude\":0,\"angle\":0,\"event\":1,\"generation\":null,\"io\":[[1,1,1],[17,2,29],[16,4,22949000],[11,8,893700218],[14,8,500686954]],\"item\":\"record\",\"latitude\":0,\"line\":1,\"longitude\":0,\"nx\":[],\"priority\":1,\"satellites\":0,\"speed\":0,\"time\":1560166592000}\n"
unfolding packet_text record_text value_in judge parts_rows records_of digits
codec_8_extended = refl

abbrev codec_16_body : List ℕ
codec_16_body = 0x10 ∷ 0x02 ∷ 0x00 ∷ 0x00 ∷ 0x01 ∷ 0x6b ∷ 0xdb ∷ 0xc7 ∷ 0x83 ∷ 0x30 ∷ 0x00 ∷ 0x00 ∷ 0x00 ∷ 0x00 ∷ 0x00 ∷ 0x00 ∷ 0x00 ∷ 0x00 ∷ 0x00 ∷ 0x00 ∷ 0x00 ∷ 0x00 ∷
    0x00 ∷ 0x00 ∷ 0x00 ∷ 0x00 ∷ 0x00 ∷ 0x0b ∷ 0x05 ∷ 0x04 ∷ 0x02 ∷ 0x00 ∷ 0x01 ∷ 0x00 ∷ 0x00 ∷ 0x03 ∷ 0x00 ∷ 0x02 ∷ 0x00 ∷ 0x0b ∷ 0x00 ∷ 0x27 ∷ 0x00 ∷ 0x42 ∷
    0x56 ∷ 0x3a ∷ 0x00 ∷ 0x00 ∷ 0x00 ∷ 0x00 ∷ 0x01 ∷ 0x6b ∷ 0xdb ∷ 0xc7 ∷ 0x87 ∷ 0x18 ∷ 0x00 ∷ 0x00 ∷ 0x00 ∷ 0x00 ∷ 0x00 ∷ 0x00 ∷ 0x00 ∷ 0x00 ∷ 0x00 ∷ 0x00 ∷
    0x00 ∷ 0x00 ∷ 0x00 ∷ 0x00 ∷ 0x00 ∷ 0x00 ∷ 0x00 ∷ 0x0b ∷ 0x05 ∷ 0x04 ∷ 0x02 ∷ 0x00 ∷ 0x01 ∷ 0x00 ∷ 0x00 ∷ 0x03 ∷ 0x00 ∷ 0x02 ∷ 0x00 ∷ 0x0b ∷ 0x00 ∷ 0x26 ∷
    0x00 ∷ 0x42 ∷ 0x56 ∷ 0x3a ∷ 0x00 ∷ 0x00 ∷ 0x02 ∷ []

codec_16 : packet_lines (record { codec = C16; count = 2 }) codec_16_body 1
    ≡ codes "{\"codec\":16,\"count\":2,\"item\":\"packet\",\"line\":1}\n"
    ++ codes "{\"altitude\":0,\"angle\":0,\"event\":11,\"generation\":5,\"io\":[[1,1,0],[3,1,0],[11,2,39],[66,2,22074]],\"item\":\"record\",\"latitude\":0,\"line\":1,\"longitude\":0,\"nx\":[],\"priority\":0,\"satellites\":0,\"speed\":0,\"time\":1562760414000}\n"
    ++ codes "{\"altitude\":0,\"angle\":0,\"event\":11,\"generation\":5,\"io\":[[1,1,0],[3,1,0],[11,2,38],[66,2,22074]],\"item\":\"record\",\"latitude\":0,\"line\":1,\"longitude\":0,\"nx\":[],\"priority\":0,\"satellites\":0,\"speed\":0,\"time\":1562760415000}\n"
unfolding packet_text record_text value_in judge parts_rows records_of digits
codec_16 = refl

abbrev datagram_body : List ℕ
datagram_body = 0x08 ∷ 0x01 ∷ 0x00 ∷ 0x00 ∷ 0x01 ∷ 0x6b ∷ 0x4f ∷ 0x81 ∷ 0x5b ∷ 0x30 ∷ 0x01 ∷ 0x00 ∷ 0x00 ∷ 0x00 ∷ 0x00 ∷ 0x00 ∷ 0x00 ∷ 0x00 ∷ 0x00 ∷ 0x00 ∷ 0x00 ∷ 0x00 ∷
    0x00 ∷ 0x00 ∷ 0x00 ∷ 0x00 ∷ 0x01 ∷ 0x03 ∷ 0x02 ∷ 0x15 ∷ 0x03 ∷ 0x01 ∷ 0x01 ∷ 0x01 ∷ 0x42 ∷ 0x5d ∷ 0xbc ∷ 0x00 ∷ 0x00 ∷ 0x01 ∷ []

datagram : packet_lines (record { codec = C8; count = 1 }) datagram_body 1
    ≡ codes "{\"codec\":8,\"count\":1,\"item\":\"packet\",\"line\":1}\n"
    ++ codes "{\"altitude\":0,\"angle\":0,\"event\":1,\"generation\":null,\"io\":[[21,1,3],[1,1,1],[66,2,23996]],\"item\":\"record\",\"latitude\":0,\"line\":1,\"longitude\":0,\"nx\":[],\"priority\":1,\"satellites\":0,\"speed\":0,\"time\":1560407006000}\n"
unfolding packet_text record_text value_in judge parts_rows records_of digits
datagram = refl

-- Bodies of frames and what fills their rows.
use Rattle.std.proofs.Common.{◌≡◌, ℕ, ◌≤◌, ◌==◌, inl, inr, Bool, true, false, List, [], ◌∷◌, length, take, Option, Some, None, refl, sym, ap, subst, ◌∙◌, arith, length-append, if◌then◌else◌}
use Rattle.std.specs.List.{flat_map}
use Rattle.std.proofs.lemmas.Bool.Decides.{nat_tests}
use Rattle.avl_values.specs.Codec.{codec_of}
use Rattle.avl_values.specs.declared.codec.Codec.TheVariants.{C8, C8E, C16}
use Rattle.avl_values.specs.declared.fault.FaultKind.TheVariants.{UnknownCodec}
use Rattle.layout.specs.Bytes.{AreBytes}
use Rattle.layout.specs.Fields.{number}
use Rattle.layout.specs.Next.{width_of, rule_of}
use Rattle.layout.specs.Rows.{Fills}
use Rattle.layout.proofs.Following.{follow_rule, follow_width}
use Rattle.layout.proofs.EitherLaws.{either_take, either_width, first_fills, others_fill}
use Rattle.layout.proofs.MappedLaws.{map_fill, map_take}
use Rattle.layout.specs.Rows.{done}
use Rattle.layout.specs.MappedRows.{map_value}
use Rattle.record_layout.specs.declared.head.PacketHead.{PacketHead}
use Rattle.record_layout.specs.Packet.{IsPacket}
use Rattle.record_layout.specs.PacketRows.{codec_rule, packet_rows}
use Rattle.record_layout.proofs.PacketFills.{fills_packet, packet_fills}
use Rattle.command_layout.specs.declared.way.Way.{Way}
use Rattle.command_layout.specs.declared.way.Way.TheVariants.{Up, Down}
use Rattle.command_layout.specs.CommandRows.{command_rows}
use Rattle.command_layout.specs.Spelling.{IsCommand}
use Rattle.command_layout.specs.Table.{CommandRow, IsOf, row_of}
use Rattle.command_layout.specs.Values.{CommandValue}
use Rattle.command_layout.proofs.CommandFills.{command_fills, command_size, fills_command}
use Rattle.frame_layout.specs.FrameBodies.{command_body_rows, body_kind_rows}
use Rattle.record_layout.specs.Body.{IsBody}
use Rattle.frame_layout.specs.Items.{IsFrameBody}
use Rattle.frame_layout.specs.declared.body_kind.BodyKind.{BodyKind}
use Rattle.frame_layout.specs.declared.body_kind.BodyKind.TheVariants.{Packet, Command}

-- Data bodies.

pub body_fills : (head : PacketHead) (body : List ℕ) → IsBody head body → Fills packet_rows head body
body_fills head body is =
    subst (λ n. Fills packet_rows (let h : PacketHead = record { codec = head.codec; count = n } in h) body) (sym is.count) (packet_fills head.codec is.records body is.packet)

pub filled_body : (head : PacketHead) (body : List ℕ) → AreBytes body → Fills packet_rows head body → IsBody head body
filled_body head body p fills = let f = fills_packet head body p fills in record { records = f.records; packet = f.packet; count = f.count }

-- The first field of either body is the codec id.

packet_width : width_of packet_rows ≡ Some 1
unfolding packet_rows
packet_width = refl

command_width : (way : Way) (total : ℕ) → width_of (command_rows way total) ≡ Some 1
unfolding command_rows
command_width way total = refl

pub data_width : width_of (map_value Packet packet_rows) ≡ Some 1
data_width = follow_width packet_rows (λ head. done (Packet head)) 1 packet_width

pub order_width : (way : Way) (total : ℕ) → width_of (command_body_rows way total) ≡ Some 1
order_width way total = follow_width (command_rows way total) (λ _. done Command) 1 (command_width way total)

pub kind_width : (way : Way) (total : ℕ) → width_of (body_kind_rows way total) ≡ Some 1
kind_width Up total = either_width (map_value Packet packet_rows) (command_body_rows Up total) 1 data_width
kind_width Down total = order_width Down total

packet_rule : (field : List ℕ) → rule_of packet_rows field ≡ codec_rule (codec_of (number field))
unfolding packet_rows
packet_rule field = refl

-- whether a body of this codec id is a data body
pub data_rule : (field : List ℕ) → rule_of (map_value Packet packet_rows) field ≡ codec_rule (codec_of (number field))
data_rule field = follow_rule packet_rows (λ head. done (Packet head)) 1 field packet_width ∙ packet_rule field

-- no codec id of a command is one of records
apart_by : (id : ℕ) (r : CommandRow) (a b c : Bool) → (id == 0x08) ≡ a → (id == 0x8e) ≡ b → (id == 0x10) ≡ c → row_of Up id ≡ Some r
    → (if a then Some C8 else if b then Some C8E else if c then Some C16 else None) ≡ None
apart_by id r true b c ea eb ec e = let same : id ≡ 0x08 = grind (arith, nat_tests) in let none : row_of Up 0x08 ≡ Some r = subst (λ n. row_of Up n ≡ Some r) same e in absurd (cc)
apart_by id r false true c ea eb ec e = let same : id ≡ 0x8e = grind (arith, nat_tests) in let none : row_of Up 0x8e ≡ Some r = subst (λ n. row_of Up n ≡ Some r) same e in absurd (cc)
apart_by id r false false true ea eb ec e = let same : id ≡ 0x10 = grind (arith, nat_tests) in let none : row_of Up 0x10 ≡ Some r = subst (λ n. row_of Up n ≡ Some r) same e in absurd (cc)
apart_by id r false false false ea eb ec e = refl

apart : (id : ℕ) (v : CommandValue) (found : Option CommandRow) → row_of Up id ≡ found → IsOf found v → codec_of id ≡ None
apart id v (Some r) e is = apart_by id r (id == 0x08) (id == 0x8e) (id == 0x10) refl refl refl e
apart id v None e is = absurd is

no_data : (v : CommandValue) (body : List ℕ) → IsCommand Up v body → rule_of (map_value Packet packet_rows) (take 1 body) ≡ Some UnknownCodec
no_data v body is =
    let front : take 1 body ≡ v.codec ∷ [] = ap (take 1) is.is in
    let n : number (v.codec ∷ []) ≡ v.codec = omega arith in
    data_rule (take 1 body) ∙ ap (λ f. codec_rule (codec_of (number f))) front ∙ ap (λ k. codec_rule (codec_of k)) n ∙ ap codec_rule (apart v.codec v (row_of Up v.codec) refl is.well_formed)

-- Bodies of both ways.

pub kind_fill : (way : Way) (kind : BodyKind) (body : List ℕ) → IsFrameBody way kind body → Fills (body_kind_rows way (length body)) kind body
kind_fill Up (Packet head) body is =
    first_fills (map_value Packet packet_rows) (command_body_rows Up (length body)) 1 (Packet head) body data_width (map_fill Packet packet_rows head body (body_fills head body is))
kind_fill Down (Packet head) body is = absurd is
kind_fill Up Command body is =
    others_fill (map_value Packet packet_rows) (command_body_rows Up (length body)) 1 UnknownCodec Command body data_width (order_width Up (length body)) (no_data is.0 body is.1)
    (map_fill (λ _. Command) (command_rows Up (length body)) is.0 body (command_fills Up is.0 body is.1))
kind_fill Down Command body is = map_fill (λ _. Command) (command_rows Down (length body)) is.0 body (command_fills Down is.0 body is.1)

command_taken : (way : Way) (n : ℕ) (kind : BodyKind) (body : List ℕ) → AreBytes body → Fills (command_body_rows way n) kind body → (Command ≡ kind) × ((v : CommandValue) × IsCommand way v body)
command_taken way n kind body p fills = let t = map_take (λ _. Command) (command_rows way n) kind body fills in (t.1, (t.0, fills_command way n t.0 body p t.2))

pub kind_taken : (way : Way) (n : ℕ) (kind : BodyKind) (body : List ℕ) → AreBytes body → Fills (body_kind_rows way n) kind body → IsFrameBody way kind body
kind_taken Up n kind body p fills = elim (either_take (map_value Packet packet_rows) (command_body_rows Up n) 1 kind body data_width (order_width Up n) fills) [
  | inl f ↦ let t = map_take Packet packet_rows kind body f in subst (λ k. IsFrameBody Up k body) t.1 (filled_body t.0 body p t.2)
  | inr f ↦ let t = command_taken Up n kind body p f in subst (λ k. IsFrameBody Up k body) t.0 t.1
]
kind_taken Down n kind body p fills = let t = command_taken Down n kind body p fills in subst (λ k. IsFrameBody Down k body) t.0 t.1

-- a body has at least three bytes

packet_size : (head : PacketHead) (records : List (List ℕ)) (body : List ℕ) → IsPacket head.codec records body → 3 ≤ length body
packet_size head records body is = omega (arith, ap length is.is, length-append (flat_map (λ (r : List ℕ). r) records) (length records ∷ []))

command_least : (way : Way) (v : CommandValue) (body : List ℕ) → IsCommand way v body → 3 ≤ length body
command_least way v body is = omega (arith, ap length is.is, command_size v)

pub kind_size : (way : Way) (kind : BodyKind) (body : List ℕ) → IsFrameBody way kind body → 3 ≤ length body
kind_size Up (Packet head) body is = packet_size head is.records body is.packet
kind_size Down (Packet head) body is = absurd is
kind_size Up Command body is = command_least Up is.0 body is.1
kind_size Down Command body is = command_least Down is.0 body is.1

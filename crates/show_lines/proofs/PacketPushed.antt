-- The lines of a packet's records are appended one by one.
use Rattle.std.proofs.Common.{◌≡◌, ℕ, List, [], ◌∷◌, ◌++◌, map, refl, ap, sym, ◌∙◌, append_assoc, subst}
use Rattle.std.specs.List.{AllByRecursion, flat_map}
use Rattle.avl_values.specs.RecordValue.{RecordValue}
use Rattle.avl_values.specs.declared.codec.Codec.{Codec}
use Rattle.record_layout.specs.Packet.{IsPacket}
use Rattle.record_layout.specs.RecordsOf.{records_of}
use Rattle.record_layout.specs.SomeRecord.{IsSomeRecord}
use Rattle.record_layout.specs.Spelling.{IsRecord}
use Rattle.record_layout.specs.declared.head.PacketHead.{PacketHead}
use Rattle.record_layout.proofs.ReadLaws.{records_read}
use Rattle.show_lines.specs.Extends.{Extends}
use Rattle.show_lines.specs.ItemTexts.{packet_text}
use Rattle.show_lines.specs.Json.{as_line}
use Rattle.show_lines.specs.PacketLines.{packet_lines, record_line}
use Rattle.show_lines.specs.RecordText.{record_text}
use Rattle.show_lines.proofs.Values.{value_read}

-- the line of a record in this codec
abbrev pub line_in : Codec → ℕ → List ℕ → List ℕ
line_in codec line bytes = record_line line (record { codec = codec; bytes = bytes })

-- the lines of the records that are left are missing, and nothing else
pub record Missing (codec : Codec) (line : ℕ) (left : List (List ℕ)) (now whole : List ℕ) : Type 0 where
  pub each : AllByRecursion (IsSomeRecord codec) left
  pub is : now ++ flat_map (line_in codec line) left ≡ whole

pub one_less : (codec : Codec) (line : ℕ) (r : List ℕ) (left rest : List (List ℕ)) (now new whole : List ℕ) → Missing codec line left now whole → left ≡ r ∷ rest
    → ((v : RecordValue) → IsRecord codec v r → new ≡ now ++ as_line (record_text codec v line)) → Missing codec line rest new whole
one_less codec line r left rest now new whole missing step pushed =
    let each = subst (AllByRecursion (IsSomeRecord codec)) step missing.each in
    let one = each.0 in
    let appended : new ≡ now ++ line_in codec line r = pushed one.value one.is ∙ ap (λ v. now ++ as_line (record_text codec v line)) (sym (value_read codec one.value r one.is)) in
    record {
      each = each.1;
      is = ap (λ t. t ++ flat_map (line_in codec line) rest) appended ∙ append_assoc now (line_in codec line r) (flat_map (line_in codec line) rest)
          ∙ ap (λ rs. now ++ flat_map (line_in codec line) rs) (sym step) ∙ missing.is;
    }

-- all lines but the first are missing

of_codec : (codec : Codec) (line : ℕ) (rs : List (List ℕ)) → flat_map (record_line line) (map (λ r. record { codec = codec; bytes = r }) rs) ≡ flat_map (line_in codec line) rs
of_codec codec line [] = refl
of_codec codec line (r ∷ rs) = ap (λ t. line_in codec line r ++ t) (of_codec codec line rs)

pub all_missing : (head : PacketHead) (body : List ℕ) (line : ℕ) (rs : List (List ℕ)) (old now : List ℕ) → IsPacket head.codec rs body → now ≡ old ++ as_line (packet_text head line)
    → Missing head.codec line rs now (old ++ packet_lines head body line)
all_missing head body line rs old now packet pushed =
    let lines : flat_map (line_in head.codec line) rs ≡ flat_map (record_line line) (records_of body) = sym (ap (flat_map (record_line line)) (records_read head.codec rs body packet) ∙ of_codec head.codec line rs) in
    record {
      each = packet.each;
      is = ap (λ t. t ++ flat_map (line_in head.codec line) rs) pushed ∙ append_assoc old (as_line (packet_text head line)) (flat_map (line_in head.codec line) rs) ∙ ap (λ t. old ++ (as_line (packet_text head line) ++ t)) lines;
    }

-- what was there stays
pub extends_more : (old now new : List ℕ) → Extends old now → Extends now new → Extends old new
extends_more old now new first second =
    record { more = first.more ++ second.more; is = second.is ∙ ap (λ t. t ++ second.more) first.is ∙ append_assoc old first.more second.more }

-- Each entry of a file has a record. This is so of any list of numbers, bytes or not.
use Rattle.std.proofs.Common.{◌≡◌, ℕ, zero, suc, ◌<◌, ◌≤◌, Bool, true, false, ◌==◌, not, if◌then◌else◌, List, [], ◌∷◌, ◌++◌, length, drop, take, map, Option, Some, None, sym, ◌∙◌, ap, refl, subst, arith}
use Rattle.std.specs.List.{All}
use Rattle.std.proofs.lemmas.List.Elements.{All-nil, All-cons}
use Rattle.std.proofs.lemmas.Bool.Decides.{nat_tests}
use Rattle.std.proofs.lemmas.List.{length-map, take_all}
use Rattle.avl_values.specs.Codec.{codec_of}
use Rattle.avl_values.specs.Record.{Record}
use Rattle.avl_values.specs.declared.codec.Codec.{Codec}
use Rattle.avl_values.specs.declared.fault.FaultKind.{FaultKind}
use Rattle.avl_values.specs.declared.fault.FaultKind.TheVariants.{NoRecords}
use Rattle.layout.specs.Fields.{fault_unless, number, number_row, times}
use Rattle.layout.specs.Rows.{Rows, whole, Fills}
use Rattle.layout.proofs.Filling.{row_filled}
use Rattle.record_layout.specs.PacketRows.{packet_rows, packet_verdict, codec_rule, with_codec, after_codec, last_count}
use Rattle.record_layout.specs.RecordRows.{record_rows}
use Rattle.record_layout.specs.RecordsOf.{records_in, records_by, records_of}
use Rattle.record_layout.specs.declared.head.PacketHead.{PacketHead}
use Rattle.record_layout.proofs.PacketFills.{one_byte}
use Rattle.record_layout.proofs.ReadLaws.{packet_filled}
use Rattle.archive_journal.specs.Body.{EntryValue, packet_in, is_body, entry_in}
use Rattle.archive_journal.specs.Entries.{size_at, body_at, is_entry, entries_in, entries_of}
use Rattle.archive_journal.proofs.Packets.{body-whole, is_whole-true}
use Rattle.archive_journal.proofs.Walks.{entry-parts}

-- a number of one byte at the front
record HasByte {V : Type 0} (rule : ℕ → Option FaultKind) (rest : ℕ → Rows V) (v : V) (bytes : List ℕ) : Type 0 where
  first : ℕ
  more : List ℕ
  is : bytes ≡ first ∷ more
  passes : rule first ≡ None
  fills : Fills (rest first) v more

has-byte : {V : Type 0} → (rule : ℕ → Option FaultKind) (rest : ℕ → Rows V) (v : V) (bytes : List ℕ) → Fills (number_row 1 rule rest) v bytes → HasByte rule rest v bytes
has-byte rule rest v bytes fills =
    let one = row_filled 1 (λ field. rule (number field)) (λ field. rest (number field)) v bytes fills in
    record { first = number one.0; more = one.1; is = one.2 ∙ ap (λ f. f ++ one.1) (one_byte one.0 one.3); passes = one.4; fills = one.5 }

length-records_in : (codec : Codec) (n : ℕ) (bytes : List ℕ) → length (records_in codec n bytes) ≡ n
length-records_in codec zero bytes = refl
length-records_in codec (suc n) bytes = ap suc (length-records_in codec n _)

some-from : (n : ℕ) (b : Bool) → (n == 0) ≡ b → fault_unless (not b) NoRecords ≡ None → 1 ≤ n
some-from n true is passes = absurd (let never : Some NoRecords ≡ None = passes in cc)
some-from n false is passes = grind (arith, nat_tests, is)

records-some : (id : ℕ) (found : Option Codec) (head : PacketHead) (more : List ℕ) → codec_of id ≡ found → codec_rule found ≡ None → Fills (with_codec found) head more → 1 ≤ length (records_of (id ∷ more))
unfolding records_of
records-some id None head more is passes fills = absurd (cc)
records-some id (Some codec) head more is passes fills =
    let n = has-byte (λ k. fault_unless (not (k == 0)) NoRecords) (λ k. times k (record_rows codec) (last_count (record { codec = codec; count = k }))) head more fills in
    let P : List ℕ → Type 0 = λ l. 1 ≤ length (records_of (id ∷ l)) in
    let Q : Option Codec → Type 0 = λ c. 1 ≤ length (records_by c n.first n.more) in
    let count : length (records_by (Some codec) n.first n.more) ≡ n.first = length-map (records_in codec n.first n.more) (λ r. let x : Record = record { codec = codec; bytes = r } in x) ∙ length-records_in codec n.first n.more in
    let some = some-from n.first (n.first == 0) refl n.passes in
    subst P (sym n.is) (subst Q (sym is) (omega arith))

pub packet-some : (head : PacketHead) (packet : List ℕ) → Fills packet_rows head packet → 1 ≤ length (records_of packet)
unfolding packet_rows
packet-some head packet fills =
    let first = has-byte (λ k. codec_rule (codec_of k)) (λ k. with_codec (codec_of k)) head packet fills in
    let P : List ℕ → Type 0 = λ l. 1 ≤ length (records_of l) in
    subst P (sym first.is) (records-some first.first (codec_of first.first) head first.more refl first.passes first.fills)

-- a well-formed body has a record
pub body-some : (body : List ℕ) → is_body body ≡ true → 1 ≤ length (entry_in body).records
body-some body is =
    let packet = packet_in body in
    let w = is_whole-true _ (body-whole body is) in
    let filled = packet_filled (length packet) w.1 w.0 packet w.2 in
    packet-some w.0 packet (subst (Fills packet_rows w.0) (take_all (length packet) packet (omega arith)) filled.2)

entries_in-some : (n : ℕ) (bytes : List ℕ) → All (λ (e : EntryValue). 1 ≤ length e.records) (entries_in n bytes)
entries_in-some zero bytes = All-nil (λ (e : EntryValue). 1 ≤ length e.records)
entries_in-some (suc n) bytes = split (is_entry bytes) refl (entries_in-some n (drop (size_at bytes) bytes))
  where
    split : (b : Bool) → is_entry bytes ≡ b → All (λ (e : EntryValue). 1 ≤ length e.records) (entries_in n (drop (size_at bytes) bytes))
        → All (λ (e : EntryValue). 1 ≤ length e.records) (if b then entry_in (body_at bytes) ∷ entries_in n (drop (size_at bytes) bytes) else [])
    split true is rest = All-cons (λ (e : EntryValue). 1 ≤ length e.records) (entry_in (body_at bytes)) (entries_in n (drop (size_at bytes) bytes)) (body-some (body_at bytes) (entry-parts bytes is).body) rest
    split false is rest = All-nil (λ (e : EntryValue). 1 ≤ length e.records)

pub entries-some : (file : List ℕ) → All (λ (e : EntryValue). 1 ≤ length e.records) (entries_of file)
unfolding entries_of
entries-some file = entries_in-some (length file) (drop 8 file)

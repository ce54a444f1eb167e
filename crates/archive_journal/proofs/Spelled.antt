-- A body that is made of records.
use Rattle.std.proofs.Common.{◌≡◌, ℕ, ◌+◌, ◌<◌, ◌≤◌, ◌^◌, true, List, [], ◌∷◌, ◌++◌, length, map, sym, ◌∙◌, ap, refl, arith, append_assoc}
use Rattle.std.specs.Int.{w32, w64, to_be_bytes}
use Rattle.std.specs.List.{flat_map, AllByRecursion}
use Rattle.avl_values.specs.Codec.{id_of}
use Rattle.avl_values.specs.Record.{Record}
use Rattle.avl_values.specs.declared.codec.Codec.{Codec}
use Rattle.std.proofs.lemmas.List.{append-nil, length-map}
use Rattle.std.proofs.lemmas.Nat.{from_be_bytes-to_be_bytes_4, from_be_bytes-to_be_bytes_8}
use Rattle.layout.specs.Rows.{whole}
use Rattle.record_layout.specs.Packet.{IsPacket, packet_bytes}
use Rattle.record_layout.specs.PacketRows.{packet_verdict}
use Rattle.record_layout.specs.RecordsOf.{records_of}
use Rattle.record_layout.specs.SomeRecord.{IsSomeRecord}
use Rattle.record_layout.proofs.ReadLaws.{packet_whole_verdict, records_read}
use Rattle.archive_journal.specs.Body.{joined, body_bytes, packet_in, imei_in, length_in, is_body, is_whole, entry_in}
use Rattle.archive_journal.specs.Entry.{IsIn, IsEntry}
use Rattle.archive_journal.proofs.Packets.{in_codec, body-is}

-- a body's parts
laid_out : (len imei records all : List ℕ) (id count : ℕ) (a b c d e f : List ℕ) → a ≡ [] → b ≡ a ++ len → c ≡ b ++ imei → d ≡ c ++ id ∷ [] → e ≡ d ++ count ∷ [] → f ≡ e ++ records → records ≡ all
    → f ≡ len ++ (imei ++ (id ∷ count ∷ all))
laid_out len imei records all id count a b c d e f is_a is_b is_c is_d is_e is_f is_all =
    is_f ∙ ap (λ xs. e ++ xs) is_all ∙ ap (λ xs. xs ++ all) (is_e ∙ ap (λ xs. xs ++ count ∷ []) (is_d ∙ ap (λ xs. xs ++ id ∷ []) (is_c ∙ ap (λ xs. xs ++ imei) (is_b ∙ ap (λ xs. xs ++ len) is_a))))
    ∙ append_assoc ((len ++ imei) ++ id ∷ []) (count ∷ []) all ∙ append_assoc (len ++ imei) (id ∷ []) (count ∷ all) ∙ append_assoc len imei (id ∷ count ∷ all)

pub body-laid : (imei len id count : ℕ) (codec : Codec) (records : List Record) (all a b c d e f : List ℕ) → a ≡ [] → b ≡ a ++ to_be_bytes w32 len → c ≡ b ++ to_be_bytes w64 imei → d ≡ c ++ id ∷ [] → e ≡ d ++ count ∷ []
    → f ≡ e ++ all → all ≡ joined records → len ≡ 10 + length (joined records) → id ≡ id_of codec → count ≡ length records → f ≡ body_bytes imei codec records
unfolding body_bytes
body-laid imei len id count codec records all a b c d e f is_a is_b is_c is_d is_e is_f is_all is_len is_id is_count =
    laid_out (to_be_bytes w32 len) (to_be_bytes w64 imei) all (joined records) id count a b c d e f is_a is_b is_c is_d is_e is_f is_all
    ∙ ap (λ n. to_be_bytes w32 n ++ (to_be_bytes w64 imei ++ (id ∷ count ∷ joined records))) is_len
    ∙ ap (λ i. to_be_bytes w32 (10 + length (joined records)) ++ (to_be_bytes w64 imei ++ (i ∷ count ∷ joined records))) is_id
    ∙ ap (λ n. to_be_bytes w32 (10 + length (joined records)) ++ (to_be_bytes w64 imei ++ (id_of codec ∷ n ∷ joined records))) is_count

-- What a body that is made of records says.

record_again : (codec : Codec) (r : Record) → IsIn codec r → (let x : Record = record { codec = codec; bytes = r.bytes } in x) ≡ r
record_again codec r is = ap (λ c. record { codec = c; bytes = r.bytes }) (sym is.codec_is)

all_again : (codec : Codec) (records : List Record) → AllByRecursion (IsIn codec) records → in_codec codec (map (λ r. r.bytes) records) ≡ records
all_again codec [] all = refl
all_again codec (r ∷ records) all = ap (λ (x : Record). x ∷ in_codec codec (map (λ r. r.bytes) records)) (record_again codec r all.0) ∙ ap (λ (l : List Record). r ∷ l) (all_again codec records all.1)

each_sound : (codec : Codec) (records : List Record) → AllByRecursion (IsIn codec) records → AllByRecursion (IsSomeRecord codec) (map (λ r. r.bytes) records)
each_sound codec [] all = tt
each_sound codec (r ∷ records) all = (all.0.sound, each_sound codec records all.1)

joined-is : (records : List Record) → joined records ≡ flat_map (λ r. r) (map (λ r. r.bytes) records)
joined-is [] = refl
joined-is (r ∷ records) = ap (λ (l : List ℕ). r.bytes ++ l) (joined-is records)

packet-written : (imei : ℕ) (codec : Codec) (records : List Record) → packet_in (body_bytes imei codec records) ≡ packet_bytes codec (map (λ r. r.bytes) records)
unfolding body_bytes
packet-written imei codec records =
    ap (λ (l : List ℕ). id_of codec ∷ length records ∷ (l ++ length records ∷ [])) (joined-is records)
    ∙ ap (λ n. id_of codec ∷ n ∷ (flat_map (λ r. r) (map (λ r. r.bytes) records) ++ n ∷ [])) (sym (length-map records (λ r. r.bytes)))

is_packet : (imei : ℕ) (codec : Codec) (records : List Record) → IsEntry codec records → IsPacket codec (map (λ r. r.bytes) records) (packet_in (body_bytes imei codec records))
is_packet imei codec records is =
    let some = is.some in
    let few = is.few in
    let count : length (map (λ (r : Record). r.bytes) records) ≡ length records = length-map records (λ r. r.bytes) in
    record { is = packet-written imei codec records; each = each_sound codec records is.each; some = omega arith; few = omega arith }

imei-written : (imei : ℕ) (codec : Codec) (records : List Record) → imei < 10 ^ 15 → imei_in (body_bytes imei codec records) ≡ imei
unfolding body_bytes imei_in
imei-written imei codec records low = from_be_bytes-to_be_bytes_8 imei (omega arith)

length-written : (imei : ℕ) (codec : Codec) (records : List Record) → length (joined records) ≤ 2 ^ 31 → length_in (body_bytes imei codec records) ≡ 10 + length (joined records)
unfolding body_bytes length_in
length-written imei codec records few = from_be_bytes-to_be_bytes_4 (10 + length (joined records)) (omega arith)

pub length-body : (imei : ℕ) (codec : Codec) (records : List Record) → length (body_bytes imei codec records) ≡ 14 + length (joined records)
unfolding body_bytes
length-body imei codec records = omega arith

whole-written : (imei : ℕ) (codec : Codec) (records : List Record) → IsEntry codec records
    → packet_verdict (length (packet_in (body_bytes imei codec records))) (packet_in (body_bytes imei codec records)) ≡ whole (record { codec = codec; count = length (map (λ (r : Record). r.bytes) records) }) (length (packet_in (body_bytes imei codec records)))
whole-written imei codec records is =
    let p = packet_in (body_bytes imei codec records) in
    ap (λ (l : List ℕ). packet_verdict (length p) l) (sym (append-nil p)) ∙ packet_whole_verdict codec (map (λ r. r.bytes) records) p [] (is_packet imei codec records is)

pub body-written : (imei : ℕ) (codec : Codec) (records : List Record) → imei < 10 ^ 15 → IsEntry codec records → length (joined records) ≤ 2 ^ 31 → is_body (body_bytes imei codec records) ≡ true
body-written imei codec records low is few =
    let len = length-written imei codec records few in
    let all = length-body imei codec records in
    let value = imei-written imei codec records low in
    body-is (body_bytes imei codec records) _ (omega arith) (omega arith) refl (ap is_whole (whole-written imei codec records is))

pub entry-written : (imei : ℕ) (codec : Codec) (records : List Record) → imei < 10 ^ 15 → IsEntry codec records → length (joined records) ≤ 2 ^ 31 → entry_in (body_bytes imei codec records) ≡ record { imei = imei; records = records }
entry-written imei codec records low is few =
    ap (λ i. record { imei = i; records = records_of (packet_in (body_bytes imei codec records)) }) (imei-written imei codec records low)
    ∙ ap (λ (l : List Record). record { imei = imei; records = l }) (records_read codec _ _ (is_packet imei codec records is) ∙ all_again codec records is.each)

-- A whole data body and its records.
use Rattle.std.proofs.Common.{◌≡◌, ◌≢◌, ℕ, ◌+◌, ◌<◌, ◌≤◌, ◌^◌, Bool, true, false, List, [], ◌∷◌, ◌++◌, length, get_or, take, drop, map, sym, ◌∙◌, ap, refl, subst, arith, length-take, length-drop, length-append}
use Rattle.std.specs.List.{AllByRecursion, flat_map}
use Rattle.std.proofs.lemmas.Bool.Decides.{nat_tests}
use Rattle.std.proofs.lemmas.List.{take_all, length-map, append-nil}
use Rattle.avl_values.specs.Record.{Record}
use Rattle.avl_values.specs.declared.codec.Codec.{Codec}
use Rattle.layout.specs.Bytes.{AreBytes}
use Rattle.layout.specs.Rows.{Verdict, whole, short, fault}
use Rattle.layout.proofs.Numbers.{are_bytes, bytes-append, bytes-take, bytes-drop}
use Rattle.record_layout.specs.Body.{IsBody}
use Rattle.record_layout.specs.Packet.{IsPacket}
use Rattle.record_layout.specs.PacketRows.{packet_verdict}
use Rattle.record_layout.specs.RecordsOf.{records_of}
use Rattle.record_layout.specs.SomeRecord.{IsSomeRecord}
use Rattle.record_layout.specs.declared.head.PacketHead.{PacketHead}
use Rattle.record_layout.proofs.ReadLaws.{whole_packet, records_read}
use Rattle.archive_journal.specs.Body.{packet_in, is_whole, is_body, length_in, imei_in}
use Rattle.archive_journal.proofs.Bodies.{body-length}
use Rattle.archive_journal.specs.Entry.{IsIn, IsEntry}

abbrev pub in_codec : Codec → List (List ℕ) → List Record
in_codec codec rs = map (λ r. record { codec = codec; bytes = r }) rs

-- a whole data body, its records, and how they are read
pub record IsWhole (codec : Codec) (packet : List ℕ) : Type 0 where
  pub rs : List (List ℕ)
  pub is : IsPacket codec rs packet
  pub read : records_of packet ≡ in_codec codec rs

pub whole-is : (packet : List ℕ) (head : PacketHead) (n : ℕ) → AreBytes packet → packet_verdict (length packet) packet ≡ whole head n → IsWhole head.codec packet
whole-is packet head n bytes is =
    let w = whole_packet (length packet) n head packet bytes is in
    let P : List ℕ → Type 0 = λ p. IsPacket head.codec w.0 p in
    let packet_is = subst P (take_all (length packet) packet (omega arith)) w.3 in
    record { rs = w.0; is = packet_is; read = records_read head.codec w.0 packet packet_is }

-- what `read_packet` accepts is such a body
pub accepted-whole : (head : PacketHead) (packet : List ℕ) → IsBody head packet → IsWhole head.codec packet
accepted-whole head packet b = record { rs = b.records; is = b.packet; read = records_read head.codec b.records packet b.packet }

each-in : (codec : Codec) (rs : List (List ℕ)) → AllByRecursion (IsSomeRecord codec) rs → AllByRecursion (IsIn codec) (in_codec codec rs)
each-in codec [] all = tt
each-in codec (r ∷ rs) all = (record { codec_is = refl; sound = all.0 }, each-in codec rs all.1)

pub packet-entry : (codec : Codec) (packet : List ℕ) → IsWhole codec packet → IsEntry codec (records_of packet)
packet-entry codec packet w =
    let some = w.is.some in
    let few = w.is.few in
    let count : length (records_of packet) ≡ length w.rs = ap length w.read ∙ length-map w.rs (λ r. let x : Record = record { codec = codec; bytes = r } in x) in
    record { some = omega arith; few = omega arith; each = subst (AllByRecursion (IsIn codec)) (sym w.read) (each-in codec w.rs w.is.each) }

-- records that are read as bytes, and put under their codec again
again : (codec : Codec) (rs : List (List ℕ)) → in_codec codec (map (λ r. r.bytes) (in_codec codec rs)) ≡ in_codec codec rs
again codec [] = refl
again codec (r ∷ rs) = ap (λ (l : List Record). record { codec = codec; bytes = r } ∷ l) (again codec rs)

pub packet-again : (codec : Codec) (packet : List ℕ) → IsWhole codec packet → in_codec codec (map (λ r. r.bytes) (records_of packet)) ≡ records_of packet
packet-again codec packet w = ap (λ (l : List Record). in_codec codec (map (λ r. r.bytes) l)) w.read ∙ again codec w.rs ∙ sym w.read

-- a data body has at least three bytes
pub whole-long : (codec : Codec) (packet : List ℕ) → IsWhole codec packet → 3 ≤ length packet
whole-long codec packet w =
    let joined = flat_map (λ r. r) w.rs in
    omega (arith, ap length w.is.is, length-append joined (length w.rs ∷ []))

-- so a body that has none isn't well formed
pub is_whole-true : (v : Verdict PacketHead) → is_whole v ≡ true → (head : PacketHead) × (n : ℕ) × (v ≡ whole head n)
is_whole-true (whole head n) is = (head, n, refl)
is_whole-true short is = absurd (let no : false ≡ true = is in cc)
is_whole-true (fault kind place) is = absurd (let no : false ≡ true = is in cc)

pub body-whole : (body : List ℕ) → is_body body ≡ true → is_whole (packet_verdict (length (packet_in body)) (packet_in body)) ≡ true
unfolding is_body
body-whole body is = grind (arith, nat_tests, is)

pub body-imei : (body : List ℕ) → is_body body ≡ true → imei_in body < 10 ^ 15
unfolding is_body
body-imei body is = grind (arith, nat_tests, is)

pub body-long : (body : List ℕ) → AreBytes body → is_body body ≡ true → 14 ≤ length body
body-long body bytes is =
    let w = is_whole-true _ (body-whole body is) in
    let packet = packet_in body in
    let packet_bytes : AreBytes packet = bytes-append (drop 12 body) (take 1 (drop 13 body)) (bytes-drop 12 body bytes) (bytes-take 1 (drop 13 body) (bytes-drop 13 body bytes)) in
    let long = whole-long w.0.codec packet (whole-is packet w.0 w.1 packet_bytes w.2) in
    omega (arith, length-append (drop 12 body) (take 1 (drop 13 body)), length-drop 12 body, length-take 1 (drop 13 body), length-drop 13 body)

-- Bodies that aren't well formed, each for its reason, and those that are.

not-true : (b : Bool) → (b ≡ true → ⊥) → b ≡ false
not-true true never = absurd (never refl)
not-true false never = refl

pub not-body-short : (body : List ℕ) → ((i : ℕ) → get_or body i 0 < 256) → length body < 14 → is_body body ≡ false
not-body-short body bytes short_one = not-true (is_body body) (λ is. let long = body-long body (are_bytes body bytes) is in omega arith)

pub not-body-length : (body : List ℕ) → length body ≢ 4 + length_in body → is_body body ≡ false
not-body-length body other = not-true (is_body body) (λ is. other (body-length body is))

pub not-body-imei : (body : List ℕ) → 10 ^ 15 ≤ imei_in body → is_body body ≡ false
not-body-imei body high = not-true (is_body body) (λ is. let low = body-imei body is in omega arith)

pub not-body-packet : (body : List ℕ) (v : Verdict PacketHead) → v ≡ packet_verdict (length (packet_in body)) (packet_in body) → is_whole v ≡ false → is_body body ≡ false
not-body-packet body v is other = not-true (is_body body) (λ well. let both : true ≡ false = sym (body-whole body well) ∙ ap is_whole (sym is) ∙ other in cc)

pub body-is : (body : List ℕ) (v : Verdict PacketHead) → length body ≡ 4 + length_in body → imei_in body < 10 ^ 15 → v ≡ packet_verdict (length (packet_in body)) (packet_in body) → is_whole v ≡ true → is_body body ≡ true
unfolding is_body
body-is body v len imei is yes_whole =
    let w : is_whole (packet_verdict (length (packet_in body)) (packet_in body)) ≡ true = ap is_whole (sym is) ∙ yes_whole in
    grind (arith, nat_tests, len, imei, w)

-- the same of a packet that was built from a body
pub packet-same : (body packet items : List ℕ) (total : ℕ) (v : Verdict PacketHead) → items ≡ packet_in body → packet ≡ items → total ≡ length items → v ≡ packet_verdict total packet
    → v ≡ packet_verdict (length (packet_in body)) (packet_in body)
packet-same body packet items total v is same count verdict = verdict ∙ ap (λ (n : ℕ). packet_verdict n packet) (count ∙ ap length is) ∙ ap (λ (p : List ℕ). packet_verdict (length (packet_in body)) p) (same ∙ is)

-- where no record is left
pub all-read : (codec : Codec) (packet : List ℕ) (read : List Record) (left : List (List ℕ)) → left ≡ [] → read ++ in_codec codec left ≡ in_codec codec (map (λ r. r.bytes) (records_of packet)) → IsWhole codec packet
    → read ≡ records_of packet
all-read codec packet read left none is w =
    sym (append-nil read) ∙ ap (λ (l : List (List ℕ)). read ++ in_codec codec l) (sym none) ∙ is ∙ packet-again codec packet w

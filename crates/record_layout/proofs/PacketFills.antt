-- Data bodies and what fills their rows.
use Rattle.std.proofs.Common.{◌≡◌, ℕ, zero, suc, ◌<◌, List, [], ◌∷◌, ◌++◌, length, Bool, true, false, not, Option, Some, None, refl, sym, ap, subst, ◌∙◌, arith, append_assoc, ◌==◌, if◌then◌else◌}
use Rattle.std.specs.List.{flat_map, AllByRecursion}
use Rattle.std.proofs.lemmas.Bool.Decides.{nat_tests}
use Rattle.avl_values.specs.Codec.{codec_of, id_of}
use Rattle.avl_values.specs.declared.codec.Codec.{Codec}
use Rattle.avl_values.specs.declared.codec.Codec.TheVariants.{C8, C8E, C16}
use Rattle.avl_values.specs.declared.fault.FaultKind.{FaultKind}
use Rattle.avl_values.specs.declared.fault.FaultKind.TheVariants.{NoRecords, CountMismatch}
use Rattle.layout.specs.Rows.{Rows, done, Fills}
use Rattle.layout.specs.Bytes.{AreBytes}
use Rattle.layout.specs.Fields.{number, number_row, times, fault_unless}
use Rattle.layout.proofs.Filling.{fills_done, done_filled, fills_row, row_filled}
use Rattle.layout.proofs.Numbers.{bytes-back}
use Rattle.record_layout.specs.declared.head.PacketHead.{PacketHead}
use Rattle.record_layout.specs.RecordRows.{record_rows}
use Rattle.record_layout.specs.PacketRows.{last_count, after_codec, codec_rule, with_codec, packet_rows}
use Rattle.record_layout.specs.SomeRecord.{IsSomeRecord}
use Rattle.record_layout.specs.Packet.{IsPacket, packet_bytes}
use Rattle.record_layout.proofs.Fitting.{exactly, is_exactly, passed}
use Rattle.record_layout.proofs.RecordFills.{record_fill, record_take}

-- Fields of one byte.

number-one : (b : ℕ) → number (b ∷ []) ≡ b
number-one b = omega arith

pub one_byte : (field : List ℕ) → length field ≡ 1 → field ≡ number field ∷ []
one_byte [] h = absurd (omega arith)
one_byte (b ∷ []) h = ap (λ x. x ∷ []) (sym (number-one b))
one_byte (b ∷ c ∷ bs) h = absurd (omega arith)

fills_byte : {V : Type 0} (rule : ℕ → Option FaultKind) (rest : ℕ → Rows V) (v : V) (b : ℕ) (more : List ℕ) → rule b ≡ None → Fills (rest b) v more → Fills (number_row 1 rule rest) v (b ∷ more)
fills_byte rule rest v b more passes fills =
    fills_row 1 _ _ v (b ∷ []) more (b ∷ more) refl refl (ap rule (number-one b) ∙ passes) (subst (λ k. Fills (rest k) v more) (sym (number-one b)) fills)

record TakenByte {V : Type 0} (rule : ℕ → Option FaultKind) (rest : ℕ → Rows V) (v : V) (bytes : List ℕ) : Type 0 where
  pub first : ℕ
  pub more : List ℕ
  pub is : bytes ≡ first ∷ more
  pub passes : rule first ≡ None
  pub fills : Fills (rest first) v more

byte_take : {V : Type 0} (rule : ℕ → Option FaultKind) (rest : ℕ → Rows V) (v : V) (bytes : List ℕ) → Fills (number_row 1 rule rest) v bytes → TakenByte rule rest v bytes
byte_take rule rest v bytes fills =
    let one = row_filled 1 (λ field. rule (number field)) (λ field. rest (number field)) v bytes fills in
    record { first = number one.0; more = one.1; is = one.2 ∙ ap (λ f. f ++ one.1) (one_byte one.0 one.3); passes = one.4; fills = one.5 }

-- The records.

records_fill : {V : Type 0} (codec : Codec) (rs : List (List ℕ)) (rest : Rows V) (v : V) (more : List ℕ) → AllByRecursion (IsSomeRecord codec) rs → Fills rest v more
    → Fills (times (length rs) (record_rows codec) rest) v (flat_map (λ r. r) rs ++ more)
records_fill codec [] rest v more each fills = fills
records_fill codec (r ∷ rs) rest v more each fills =
    let rows = times (length rs) (record_rows codec) rest in
    subst (Fills (record_rows codec rows) v) (sym (append_assoc r (flat_map (λ x. x) rs) more)) (record_fill codec r rows v _ each.0 (records_fill codec rs rest v more each.1 fills))

record TakenRecords {V : Type 0} (codec : Codec) (n : ℕ) (rest : Rows V) (v : V) (bytes : List ℕ) : Type 0 where
  pub rs : List (List ℕ)
  pub more : List ℕ
  pub is : bytes ≡ flat_map (λ r. r) rs ++ more
  pub len : length rs ≡ n
  pub each : AllByRecursion (IsSomeRecord codec) rs
  pub fills : Fills rest v more

records_take : {V : Type 0} (codec : Codec) (n : ℕ) (rest : Rows V) (v : V) (bytes : List ℕ) → AreBytes bytes → Fills (times n (record_rows codec) rest) v bytes → TakenRecords codec n rest v bytes
records_take codec zero rest v bytes p fills = record { rs = []; more = bytes; is = refl; len = refl; each = tt; fills = fills }
records_take codec (suc n) rest v bytes p fills =
    let one = record_take codec (times n (record_rows codec) rest) v bytes p fills in
    let t = records_take codec n rest v one.more (bytes-back one.front one.more (subst AreBytes one.is p)) one.fills in
    record {
      rs = one.front ∷ t.rs;
      more = t.more;
      is = one.is ∙ ap (λ b. one.front ++ b) t.is ∙ sym (append_assoc one.front (flat_map (λ x. x) t.rs) t.more);
      len = ap (λ k. suc k) t.len;
      each = (one.some, t.each);
      fills = t.fills;
    }

-- The whole.

pub codec-id : (codec : Codec) → codec_of (id_of codec) ≡ Some codec
codec-id C8 = refl
codec-id C8E = refl
codec-id C16 = refl

some_rule : (n : ℕ) → 0 < n → fault_unless (not (n == 0)) NoRecords ≡ None
some_rule n h = let b : (n == 0) ≡ false = grind (arith, nat_tests) in ap (λ x. fault_unless (not x) NoRecords) b

some_from : (n : ℕ) → fault_unless (not (n == 0)) NoRecords ≡ None → 0 < n
some_from n e = let t = passed (not (n == 0)) NoRecords e in grind (arith, nat_tests)

-- the second number of records

last_fill : (head : PacketHead) → Fills (last_count head) head (head.count ∷ [])
last_fill head = fills_byte (λ n. fault_unless (n == head.count) CountMismatch) (λ _. done head) head head.count [] (exactly head.count head.count CountMismatch refl) (fills_done head)

last_take : (says head : PacketHead) (bytes : List ℕ) → Fills (last_count says) head bytes → (says ≡ head) × (bytes ≡ says.count ∷ [])
last_take says head bytes fills =
    let last = byte_take (λ n. fault_unless (n == says.count) CountMismatch) (λ _. done says) head bytes fills in
    let end = done_filled says head last.more last.fills in
    (end.0, last.is ∙ ap (λ b. last.first ∷ b) end.1 ∙ ap (λ k. k ∷ []) (is_exactly last.first says.count CountMismatch last.passes))

pub packet_fills : (codec : Codec) (rs : List (List ℕ)) (bytes : List ℕ) → IsPacket codec rs bytes → Fills packet_rows (record { codec = codec; count = length rs }) bytes
unfolding packet_rows
packet_fills codec rs bytes packet =
    let n = length rs in
    let head : PacketHead = record { codec = codec; count = n } in
    let records = records_fill codec rs (last_count head) head (n ∷ []) packet.each (last_fill head) in
    let behind : Fills (after_codec codec) head (n ∷ (flat_map (λ r. r) rs ++ n ∷ [])) =
    fills_byte (λ k. fault_unless (not (k == 0)) NoRecords) (λ k. times k (record_rows codec) (last_count (record { codec = codec; count = k }))) head n _ (some_rule n packet.some) records in
    let id = codec-id codec in
    subst (Fills packet_rows head) (sym packet.is)
    (fills_byte (λ k. codec_rule (codec_of k)) (λ k. with_codec (codec_of k)) head (id_of codec) _ (ap codec_rule id) (subst (λ c. Fills (with_codec c) head (n ∷ (flat_map (λ r. r) rs ++ n ∷ []))) (sym id) behind))

pub record FilledPacket (head : PacketHead) (bytes : List ℕ) : Type 0 where
  pub records : List (List ℕ)
  pub packet : IsPacket head.codec records bytes
  pub count : head.count ≡ length records

-- the codec whose id a byte is
id_by : (id : ℕ) (a b c : Bool) (codec : Codec) → (id == 0x08) ≡ a → (id == 0x8e) ≡ b → (id == 0x10) ≡ c
    → (if a then Some C8 else if b then Some C8E else if c then Some C16 else None) ≡ Some codec → id ≡ id_of codec
id_by id true b c codec p q r e = let k : C8 ≡ codec = cc in let n : id ≡ 0x08 = grind (arith, nat_tests) in n ∙ ap id_of k
id_by id false true c codec p q r e = let k : C8E ≡ codec = cc in let n : id ≡ 0x8e = grind (arith, nat_tests) in n ∙ ap id_of k
id_by id false false true codec p q r e = let k : C16 ≡ codec = cc in let n : id ≡ 0x10 = grind (arith, nat_tests) in n ∙ ap id_of k
id_by id false false false codec p q r e = absurd (cc)

pub id_from : (id : ℕ) (codec : Codec) → codec_of id ≡ Some codec → id ≡ id_of codec
id_from id codec e = id_by id (id == 0x08) (id == 0x8e) (id == 0x10) codec refl refl refl e

after_take : (codec : Codec) (head : PacketHead) (bytes : List ℕ) → AreBytes bytes → Fills (after_codec codec) head bytes
    → (records : List (List ℕ)) × (head ≡ record { codec = codec; count = length records }) × (bytes ≡ length records ∷ (flat_map (λ r. r) records ++ length records ∷ [])) × AllByRecursion (IsSomeRecord codec) records
    × (0 < length records) × (length records < 256)
after_take codec head bytes p fills =
    let first = byte_take (λ k. fault_unless (not (k == 0)) NoRecords) (λ k. times k (record_rows codec) (last_count (record { codec = codec; count = k }))) head bytes fills in
    let q : AreBytes (first.first ∷ first.more) = subst AreBytes first.is p in
    let rs = records_take codec first.first _ head first.more q.1 first.fills in
    let says : PacketHead = record { codec = codec; count = first.first } in
    let end = last_take says head rs.more rs.fills in
    let len : length rs.rs ≡ first.first = rs.len in
    let fm = flat_map (λ (r : List ℕ). r) rs.rs in
    let is : bytes ≡ length rs.rs ∷ (fm ++ length rs.rs ∷ []) =
    first.is ∙ ap (λ b. first.first ∷ b) (rs.is ∙ ap (λ b. fm ++ b) end.1) ∙ ap (λ k. k ∷ (fm ++ k ∷ [])) (sym len) in
    (rs.rs, sym end.0 ∙ ap (λ k. record { codec = codec; count = k }) (sym len), is, rs.each, subst (λ k. 0 < k) (sym len) (some_from first.first first.passes), subst (λ k. k < 256) (sym len) q.0)

by_codec : (id : ℕ) (found : Option Codec) (head : PacketHead) (more bytes : List ℕ) → codec_of id ≡ found → bytes ≡ id ∷ more → AreBytes more → codec_rule found ≡ None → Fills (with_codec found) head more → FilledPacket head bytes
by_codec id None head more bytes e is p passes fills = absurd (cc)
by_codec id (Some codec) head more bytes e is p passes fills =
    let a = after_take codec head more p fills in
    let join : bytes ≡ packet_bytes codec a.0 = is ∙ ap (λ k. k ∷ more) (id_from id codec e) ∙ ap (λ b. id_of codec ∷ b) a.2 in
    let made : FilledPacket (record { codec = codec; count = length a.0 }) bytes = record { records = a.0; packet = record { is = join; each = a.3; some = a.4; few = a.5 }; count = refl } in
    subst (λ h. FilledPacket h bytes) (sym a.1) made

pub fills_packet : (head : PacketHead) (bytes : List ℕ) → AreBytes bytes → Fills packet_rows head bytes → FilledPacket head bytes
unfolding packet_rows
fills_packet head bytes p fills =
    let first = byte_take (λ k. codec_rule (codec_of k)) (λ k. with_codec (codec_of k)) head bytes fills in
    let q : AreBytes (first.first ∷ first.more) = subst AreBytes first.is p in
    by_codec first.first (codec_of first.first) head first.more bytes refl first.is q.1 first.passes first.fills

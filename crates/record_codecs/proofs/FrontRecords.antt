-- Records at the front of some bytes, and a body that is made of them.
use Rattle.std.proofs.Common.{◌≡◌, ℕ, ◌+◌, ◌<◌, ◌≤◌, List, [], ◌∷◌, ◌++◌, length, take, drop, get_or, Some, refl, sym, ap, subst, ◌∙◌, arith, append_assoc, length-append}
use Rattle.std.proofs.lemmas.List.{append-nil, take-append-drop}
use Rattle.std.specs.List.{flat_map, AllByRecursion}
use Rattle.avl_values.specs.Codec.{id_of}
use Rattle.avl_values.specs.declared.codec.Codec.{Codec}
use Rattle.layout.specs.Bytes.{AreBytes}
use Rattle.layout.specs.Rows.{whole, judge}
use Rattle.layout.proofs.Numbers.{bytes-back, bytes-take}
use Rattle.layout.proofs.RowLaws.{filled}
use Rattle.record_layout.specs.Packet.{IsPacket}
use Rattle.record_layout.specs.PacketRows.{packet_verdict}
use Rattle.record_layout.specs.RecordRows.{lone_record}
use Rattle.record_layout.specs.RecordsOf.{first_record}
use Rattle.record_layout.specs.SomeRecord.{IsSomeRecord}
use Rattle.record_layout.specs.declared.head.PacketHead.{PacketHead}
use Rattle.record_layout.proofs.ReadLaws.{packet_whole_verdict}
use Rattle.record_layout.proofs.RecordFills.{lone_take}
use Rattle.record_codecs.specs.FrontRecords.{BeginWithRecords}
use Rattle.record_codecs.proofs.RecordSteps.{found_whole}

-- the record at the front is one
front_is_some : (codec : Codec) (n : ℕ) (bytes : List ℕ) → AreBytes bytes → Some n ≡ first_record codec bytes → IsSomeRecord codec (take n bytes)
front_is_some codec n bytes p found =
    let f = filled (lone_record codec) 0 n (tt {0}) bytes (found_whole (judge (lone_record codec) 0 bytes) n found) in
    let k : f.0 ≡ n = omega (arith, f.1) in
    subst (λ m. IsSomeRecord codec (take m bytes)) k (lone_take codec (tt {0}) (take f.0 bytes) (bytes-take f.0 bytes p) f.3)

-- one record more

each_more : (codec : Codec) (rs : List (List ℕ)) (r : List ℕ) → AllByRecursion (IsSomeRecord codec) rs → IsSomeRecord codec r → AllByRecursion (IsSomeRecord codec) (rs ++ r ∷ [])
each_more codec [] r each some = (some, tt)
each_more codec (x ∷ xs) r each some = (each.0, each_more codec xs r each.1 some)

joined_more : (rs : List (List ℕ)) (r more : List ℕ) → flat_map (λ x. x) rs ++ (r ++ more) ≡ flat_map (λ x. x) (rs ++ r ∷ []) ++ more
joined_more [] r more = ap (λ b. b ++ more) (sym (append-nil r))
joined_more (x ∷ xs) r more =
    append_assoc x (flat_map (λ (y : List ℕ). y) xs) (r ++ more) ∙ ap (λ b. x ++ b) (joined_more xs r more) ∙ sym (append_assoc x (flat_map (λ (y : List ℕ). y) (xs ++ r ∷ [])) more)

pub none_yet : (codec : Codec) (bytes : List ℕ) → BeginWithRecords codec 0 bytes bytes
none_yet codec bytes = record { records = []; counted = refl; each = tt; is = refl }

pub one_more : (codec : Codec) (i n : ℕ) (rest behind bytes : List ℕ) → AreBytes bytes → BeginWithRecords codec i rest bytes → Some n ≡ first_record codec rest → behind ≡ drop n rest
    → BeginWithRecords codec (i + 1) behind bytes
one_more codec i n rest behind bytes p b found is =
    let r = take n rest in
    let there : AreBytes rest = bytes-back (flat_map (λ (x : List ℕ). x) b.records) rest (subst AreBytes b.is p) in
    let parts : rest ≡ r ++ behind = sym (take-append-drop n rest) ∙ ap (λ t. r ++ t) (sym is) in
    record {
      records = b.records ++ r ∷ [];
      counted = omega (arith, length-append b.records (r ∷ []), b.counted);
      each = each_more codec b.records r b.each (front_is_some codec n rest there found);
      is = b.is ∙ ap (λ t. flat_map (λ (x : List ℕ). x) b.records ++ t) parts ∙ joined_more b.records r behind;
    }

-- a body of records is whole

one_byte : (bytes : List ℕ) (n : ℕ) → length bytes ≡ 1 → get_or bytes 0 0 ≡ n → bytes ≡ n ∷ []
one_byte [] n len first = absurd (omega arith)
one_byte (b ∷ []) n len first = ap (λ x. x ∷ []) first
one_byte (b ∷ c ∷ more) n len first = absurd (omega arith)

front_two : (body : List ℕ) (rest : List ℕ) → 2 ≤ length body → rest ≡ drop 2 body → body ≡ get_or body 0 0 ∷ get_or body 1 0 ∷ rest
front_two [] rest some is = absurd (omega arith)
front_two (a ∷ []) rest some is = absurd (omega arith)
front_two (a ∷ b ∷ more) rest some is = ap (λ t. a ∷ b ∷ t) (sym is)

pub packet_is_whole : (codec : Codec) (count : ℕ) (records behind body : List ℕ) → 2 ≤ length body → get_or body 0 0 ≡ id_of codec → get_or body 1 0 ≡ count → records ≡ drop 2 body
    → BeginWithRecords codec count behind records → 0 < count → count < 256 → length behind ≡ 1 → get_or behind 0 0 ≡ count
    → packet_verdict (length body) body ≡ whole (record { codec = codec; count = count }) (length body)
packet_is_whole codec count records behind body some id counted rest b more few one last =
    let n = length b.records in
    let end : behind ≡ n ∷ [] = one_byte behind n one (last ∙ sym b.counted) in
    let packet : IsPacket codec b.records body = record {
      is = front_two body records some rest ∙ ap (λ x. x ∷ get_or body 1 0 ∷ records) id ∙ ap (λ x. id_of codec ∷ x ∷ records) (counted ∙ sym b.counted)
          ∙ ap (λ t. id_of codec ∷ n ∷ t) (b.is ∙ ap (λ t. flat_map (λ (x : List ℕ). x) b.records ++ t) end);
      each = b.each;
      some = omega (arith, b.counted);
      few = omega (arith, b.counted);
    } in
    let head : ℕ → PacketHead = λ k. record { codec = codec; count = k } in
    ap (packet_verdict (length body)) (sym (append-nil body)) ∙ packet_whole_verdict codec b.records body [] packet ∙ ap (λ k. whole (head k) (length body)) b.counted

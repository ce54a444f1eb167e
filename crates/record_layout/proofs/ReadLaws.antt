-- The laws of data bodies.
use Rattle.std.proofs.Common.{◌≡◌, ℕ, suc, ◌+◌, ◌≤◌, List, [], ◌∷◌, ◌++◌, length, take, drop, map, Some, refl, sym, ap, subst, ◌∙◌, arith, append_assoc}
use Rattle.std.specs.List.{flat_map, AllByRecursion}
use Rattle.std.proofs.Math.Seq.{take-append_seam, drop-append_seam}
use Rattle.avl_values.specs.Record.{Record}
use Rattle.avl_values.specs.declared.codec.Codec.{Codec}
use Rattle.layout.specs.Rows.{whole, body, Fills}
use Rattle.layout.proofs.BodyLaws.{body_filled, body_judged}
use Rattle.layout.proofs.Numbers.{bytes-take}
use Rattle.layout.proofs.RowLaws.{stays, is_whole, none_begins}
use Rattle.record_layout.specs.declared.head.PacketHead.{PacketHead}
use Rattle.record_layout.specs.Laws.{WholeIsPacket, PacketIsWhole, PacketVerdictStays, NoPacketBeginsAnother, RecordsAreRead}
use Rattle.record_layout.specs.PacketRows.{packet_rows, packet_verdict}
use Rattle.record_layout.specs.RecordRows.{lone_record}
use Rattle.record_layout.specs.RecordsOf.{end_of, first_record, or_none, records_in, records_by, records_of}
use Rattle.record_layout.specs.SomeRecord.{IsSomeRecord}
use Rattle.record_layout.proofs.PacketFills.{codec-id, packet_fills, fills_packet}
use Rattle.record_layout.proofs.RecordFills.{lone_fill}

-- Verdicts on a body.

pub packet_filled : (total n : ℕ) (head : PacketHead) (bytes : List ℕ) → packet_verdict total bytes ≡ whole head n → (n ≡ total) × (total ≤ length bytes) × Fills packet_rows head (take total bytes)
unfolding packet_verdict
packet_filled total n head bytes e = body_filled packet_rows total n head bytes e

pub packet_whole : (head : PacketHead) (bytes more : List ℕ) → Fills packet_rows head bytes → packet_verdict (length bytes) (bytes ++ more) ≡ whole head (length bytes)
unfolding packet_verdict
packet_whole head bytes more fills = body_judged packet_rows head bytes more fills

pub whole_packet : WholeIsPacket
whole_packet total n head bytes p e =
    let f = packet_filled total n head bytes e in
    let packet = fills_packet head (take total bytes) (bytes-take total bytes p) f.2 in
    (packet.records, f.0, f.1, packet.packet, packet.count)

pub packet_whole_verdict : PacketIsWhole
packet_whole_verdict codec records bytes more packet = packet_whole (record { codec = codec; count = length records }) bytes more (packet_fills codec records bytes packet)

pub packet_stays : PacketVerdictStays
unfolding packet_verdict
packet_stays total bytes more come = stays (body total packet_rows) 0 bytes more come

-- The records of a packet.

pub first_is : (codec : Codec) (r more : List ℕ) → IsSomeRecord codec r → first_record codec (r ++ more) ≡ Some (length r)
first_is codec r more some =
    let n : 0 + length r ≡ length r = omega arith in
    ap end_of (is_whole (lone_record codec) 0 (tt {0}) r more (lone_fill codec r some)) ∙ ap (λ k. Some k) n

pub records_in_front : (codec : Codec) (rs : List (List ℕ)) (more : List ℕ) → AllByRecursion (IsSomeRecord codec) rs → records_in codec (length rs) (flat_map (λ r. r) rs ++ more) ≡ rs
records_in_front codec [] more each = refl
records_in_front codec (r ∷ rs) more each =
    let back = flat_map (λ (x : List ℕ). x) rs ++ more in
    let join = append_assoc r (flat_map (λ (x : List ℕ). x) rs) more in
    let R : List ℕ → List (List ℕ) = λ bytes. records_in codec (suc (length rs)) bytes in
    let S : ℕ → List (List ℕ) = λ k. take k (r ++ back) ∷ records_in codec (length rs) (drop k (r ++ back)) in
    ap R join ∙ ap (λ o. S (or_none o)) (first_is codec r back each.0)
    ∙ ap (λ f. f ∷ records_in codec (length rs) (drop (length r) (r ++ back))) (take-append_seam r back)
    ∙ ap (λ b. r ∷ records_in codec (length rs) b) (drop-append_seam r back)
    ∙ ap (λ s. r ∷ s) (records_in_front codec rs more each.1)

pub records_read : RecordsAreRead
unfolding records_of
records_read codec records bytes packet =
    let n = length records in
    ap records_of packet.is ∙ ap (λ c. records_by c n (flat_map (λ r. r) records ++ n ∷ [])) (codec-id codec)
    ∙ ap (λ rs. map (λ r. record { codec = codec; bytes = r }) rs) (records_in_front codec records (n ∷ []) packet.each)

strip : (codec : Codec) (rs : List (List ℕ)) → map (λ (r : Record). r.bytes) (map (λ r. record { codec = codec; bytes = r }) rs) ≡ rs
strip codec [] = refl
strip codec (r ∷ rs) = ap (λ s. r ∷ s) (strip codec rs)

pub none_begins_packet : NoPacketBeginsAnother
none_begins_packet c d rs ss a b x y p q same =
    let both = none_begins packet_rows (record { codec = c; count = length rs }) (record { codec = d; count = length ss }) a b x y (packet_fills c rs a p) (packet_fills d ss b q) same in
    let B : List Record → List (List ℕ) = λ l. map (λ (r : Record). r.bytes) l in (
      both.0,
      ap (λ (h : PacketHead). h.codec) both.1,
      sym (strip c rs) ∙ ap B (sym (records_read c rs a p) ∙ ap records_of both.0 ∙ records_read d ss b q) ∙ strip d ss,
    )

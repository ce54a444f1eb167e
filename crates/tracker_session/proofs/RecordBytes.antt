-- Records, data bodies and logins are bytes.
use Rattle.std.proofs.Common.{◌≡◌, ℕ, zero, suc, ◌+◌, ◌<◌, ◌/◌, ◌%◌, List, [], ◌∷◌, ◌++◌, length, refl, sym, subst, arith}
use Rattle.std.specs.Int.{bytes_high_first, to_be_bytes, w16, w32}
use Rattle.std.specs.List.{AllByRecursion, flat_map}
use Rattle.avl_values.specs.Codec.{id_of}
use Rattle.avl_values.specs.Imei.{decimal_places}
use Rattle.avl_values.specs.Width.{limit}
use Rattle.avl_values.specs.declared.codec.Codec.{Codec}
use Rattle.avl_values.specs.declared.codec.Codec.TheVariants.{C8, C8E, C16}
use Rattle.avl_values.specs.declared.width.Width.{Width}
use Rattle.layout.specs.Bytes.{AreBytes}
use Rattle.layout.proofs.Numbers.{bytes-append, spell_bytes}
use Rattle.record_layout.specs.Packet.{IsPacket}
use Rattle.record_layout.specs.SomeRecord.{IsSomeRecord}
use Rattle.record_layout.specs.Spelling.{AllFit, PartFits, PartValue, PartValues, joined, pair_bytes, part_bytes, part_values, spell, triple_bytes}
use Rattle.record_layout.specs.Table.{parts_of}
use Rattle.record_layout.specs.declared.part.Part.{Part}
use Rattle.record_layout.specs.declared.part.Part.TheVariants.{Plain, Total, Pairs, Triples}
use Rattle.frame_layout.specs.Items.{frame_of, login_of}

spell-bytes : (w : Width) (n : ℕ) → AreBytes (spell w n)
spell-bytes w n = spell_bytes _ n

pairs-bytes : (id value : Width) (es : List (ℕ × ℕ)) → AreBytes (flat_map (pair_bytes id value) es)
pairs-bytes id value [] = tt
pairs-bytes id value (e ∷ es) = bytes-append (pair_bytes id value e) (flat_map (pair_bytes id value) es) (bytes-append (spell id e.0) (spell value e.1) (spell-bytes id e.0) (spell-bytes value e.1)) (pairs-bytes id value es)

triples-bytes : (id len : Width) (es : List (ℕ × List ℕ)) → AllByRecursion (λ e. (e.0 < limit id) × (length e.1 < limit len) × AreBytes e.1) es → AreBytes (flat_map (triple_bytes id len) es)
triples-bytes id len [] fits = tt
triples-bytes id len (e ∷ es) fits =
    bytes-append (triple_bytes id len e) (flat_map (triple_bytes id len) es)
    (bytes-append (spell id e.0) (spell len (length e.1) ++ e.1) (spell-bytes id e.0) (bytes-append (spell len (length e.1)) e.1 (spell-bytes len (length e.1)) fits.0.2)) (triples-bytes id len es fits.1)

part-bytes : (p : Part) (v : PartValue p) → PartFits p v → AreBytes (part_bytes p v)
part-bytes (Plain field width) n fits = spell-bytes width n
part-bytes (Total width) n fits = spell-bytes width n
part-bytes (Pairs count id value) es fits = bytes-append (spell count (length es)) (flat_map (pair_bytes id value) es) (spell-bytes count (length es)) (pairs-bytes id value es)
part-bytes (Triples count id len) es fits = bytes-append (spell count (length es)) (flat_map (triple_bytes id len) es) (spell-bytes count (length es)) (triples-bytes id len es fits.1)

joined-bytes : (ps : List Part) (vs : PartValues ps) → AllFit ps vs → AreBytes (joined ps vs)
joined-bytes [] vs fits = tt
joined-bytes (p ∷ ps) vs fits = bytes-append (part_bytes p vs.0) (joined ps vs.1) (part-bytes p vs.0 fits.0) (joined-bytes ps vs.1 fits.1)

pub record-bytes : (codec : Codec) (bytes : List ℕ) → IsSomeRecord codec bytes → AreBytes bytes
record-bytes codec bytes r = subst AreBytes (sym r.is.is) (joined-bytes (parts_of codec) (part_values codec r.value) r.is.fits)

records-bytes : (codec : Codec) (records : List (List ℕ)) → AllByRecursion (IsSomeRecord codec) records → AreBytes (flat_map (λ (r : List ℕ). r) records)
records-bytes codec [] each = tt
records-bytes codec (r ∷ records) each = bytes-append r (flat_map (λ (r : List ℕ). r) records) (record-bytes codec r each.0) (records-bytes codec records each.1)

id-byte : (codec : Codec) → id_of codec < 256
id-byte C8 = omega arith
id-byte C8E = omega arith
id-byte C16 = omega arith

-- a data body
pub packet-bytes : (codec : Codec) (records : List (List ℕ)) (bytes : List ℕ) → IsPacket codec records bytes → AreBytes bytes
packet-bytes codec records bytes p =
    subst AreBytes (sym p.is) (id-byte codec, (p.few, bytes-append (flat_map (λ (r : List ℕ). r) records) (length records ∷ []) (records-bytes codec records p.each) (p.few, tt)))

-- A frame of bytes, whatever its checksum is.

abbrev framed : List ℕ → ℕ → List ℕ
framed body crc = bytes_high_first 4 0 ++ (to_be_bytes w32 (length body) ++ (body ++ (bytes_high_first 2 0 ++ to_be_bytes w16 crc)))

framed-bytes : (body : List ℕ) (crc : ℕ) → AreBytes body → AreBytes (framed body crc)
framed-bytes body crc p =
    let low = bytes-append (bytes_high_first 2 0) (to_be_bytes w16 crc) (spell_bytes 2 0) (spell_bytes 2 crc) in
    let after_length = bytes-append body (bytes_high_first 2 0 ++ to_be_bytes w16 crc) p low in
    bytes-append (bytes_high_first 4 0) (to_be_bytes w32 (length body) ++ (body ++ (bytes_high_first 2 0 ++ to_be_bytes w16 crc))) (spell_bytes 4 0)
    (bytes-append (to_be_bytes w32 (length body)) (body ++ (bytes_high_first 2 0 ++ to_be_bytes w16 crc)) (spell_bytes 4 (length body)) after_length)

frame-is : (body : List ℕ) → (crc : ℕ) × (frame_of body ≡ framed body crc)
frame-is body = (_, refl)

pub frame-bytes : (body : List ℕ) → AreBytes body → AreBytes (frame_of body)
frame-bytes body p = let f = frame-is body in subst AreBytes (sym f.1) (framed-bytes body f.0 p)

places-bytes : (places n : ℕ) → AreBytes (decimal_places places n)
unfolding decimal_places
places-bytes zero n = tt
places-bytes (suc places) n = bytes-append (decimal_places places (n / 10)) ((48 + n % 10) ∷ []) (places-bytes places (n / 10)) ((omega arith), tt)

-- a login
pub login-bytes : (imei : ℕ) → AreBytes (login_of imei)
login-bytes imei = ((omega arith), ((omega arith), places-bytes 15 imei))

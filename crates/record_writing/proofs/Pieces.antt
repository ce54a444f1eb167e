-- The pieces of a record are its spelling.
use Rattle.std.proofs.Common.{◌≡◌, ℕ, ◌+◌, ◌^◌, ◌<◌, ◌≤◌, List, [], ◌∷◌, ◌++◌, length, refl, sym, suc, if◌then◌else◌, ap, ◌∙◌, arith, append_assoc, FitsSigned, ℤ, All}
use Rattle.std.specs.Int.{w16, w32, cast_unsigned}
use Rattle.std.proofs.lemmas.Int.{ints}
use Rattle.std.proofs.lemmas.List.{append-nil}
use Rattle.avl_values.specs.IoElement.{IoElement}
use Rattle.avl_values.specs.RecordValue.{pairs_of, value_of}
use Rattle.avl_values.specs.Width.{is_width, limit, bytes_of}
use Rattle.avl_values.specs.declared.avl_record.AvlRecord.{AvlRecord}
use Rattle.avl_values.specs.declared.codec.Codec.{Codec}
use Rattle.avl_values.specs.declared.codec.Codec.TheVariants.{C8, C8E, C16}
use Rattle.avl_values.specs.declared.width.Width.{Width}
use Rattle.avl_values.specs.declared.width.Width.TheVariants.{W1, W2, W4, W8}
use Rattle.record_layout.specs.Spelling.{spelled, total_of, part_values, AllFit, HasNoOther, IsRecord, spell}
use Rattle.record_layout.specs.Table.{count_width, id_width, parts_of}
use Rattle.record_writing.specs.Refusal.{HasNarrowIds}
use Rattle.record_writing.proofs.Groups.{triples_count}
use Rattle.avl_values.specs.NxElements.{nx_size}
use Rattle.std.proofs.lemmas.List.Sums.{sum_by-cons}
use Rattle.record_writing.specs.Length.{record_length, pairs_length, ios_length, shortest_length}
use Rattle.record_writing.specs.Pieces.{head_bytes, HeadFits, event_bytes, event_length, EventFits, group_bytes, elements_bytes, elements_length, ElementsFit, nx_bytes}

-- each element has one of the four widths
one_more : (w : Width) (a b c d : List (ℕ × ℕ)) (e : ℕ × ℕ)
    → length (if is_width w W1 then e ∷ a else a) + length (if is_width w W2 then e ∷ b else b) + length (if is_width w W4 then e ∷ c else c) + length (if is_width w W8 then e ∷ d else d)
    ≡ suc (length a + length b + length c + length d)
one_more W1 a b c d e = omega arith
one_more W2 a b c d e = omega arith
one_more W4 a b c d e = omega arith
one_more W8 a b c d e = omega arith

pub of_widths : (ios : List IoElement) → length (pairs_of W1 ios) + length (pairs_of W2 ios) + length (pairs_of W4 ios) + length (pairs_of W8 ios) ≡ length ios
of_widths [] = refl
of_widths (io ∷ ios) = one_more io.width (pairs_of W1 ios) (pairs_of W2 ios) (pairs_of W4 ios) (pairs_of W8 ios) (io.id, io.value) ∙ ap (λ n. suc n) (of_widths ios)

-- the length of a record is the sum of its pieces' lengths
pub length_pieces : (codec : Codec) (r : AvlRecord) → record_length codec (value_of r) ≡ 24 + event_length codec + elements_length codec r
length_pieces C8 r = omega arith
length_pieces C8E r = omega arith
length_pieces C16 r = omega arith

regroup : (a b c d e : List ℕ) → a ++ (b ++ (c ++ (d ++ e))) ≡ (a ++ (b ++ (c ++ d))) ++ e
regroup a b c d e = simp append_assoc

total_is : (r : AvlRecord) → total_of (value_of r) ≡ length r.ios.items + length r.nx
total_is r = omega (arith, of_widths r.ios.items)

abbrev spelled_with : Codec → AvlRecord → ℕ → List ℕ → List ℕ
spelled_with codec r total groups = head_bytes r ++ (event_bytes codec r ++ (spell (count_width codec) total ++ groups))

regrouped : (codec : Codec) (r : AvlRecord)
    → spelled_with codec r (total_of (value_of r)) (group_bytes codec W1 r.ios.items ++ (group_bytes codec W2 r.ios.items ++ (group_bytes codec W4 r.ios.items ++ (group_bytes codec W8 r.ios.items ++ nx_bytes codec r.nx))))
    ≡ head_bytes r ++ (event_bytes codec r ++ elements_bytes codec r)
regrouped codec r =
    let ios = r.ios.items in
    let groups = group_bytes codec W1 ios ++ (group_bytes codec W2 ios ++ (group_bytes codec W4 ios ++ (group_bytes codec W8 ios ++ nx_bytes codec r.nx))) in
    ap (λ t. spelled_with codec r t groups) (total_is r)
    ∙ ap (λ g. spelled_with codec r (length ios + length r.nx) g) (regroup (group_bytes codec W1 ios) (group_bytes codec W2 ios) (group_bytes codec W4 ios) (group_bytes codec W8 ios) (nx_bytes codec r.nx))

pub spelled_pieces : (codec : Codec) (r : AvlRecord) → spelled codec (value_of r) ≡ head_bytes r ++ (event_bytes codec r ++ elements_bytes codec r)
spelled_pieces C8 r = regrouped C8 r
spelled_pieces C8E r = ap (λ x. spelled_with C8E r (total_of (value_of r)) (group_bytes C8E W1 r.ios.items ++ (group_bytes C8E W2 r.ios.items ++ (group_bytes C8E W4 r.ios.items ++ (group_bytes C8E W8 r.ios.items ++ x))))) (append-nil (nx_bytes C8E r.nx)) ∙ regrouped C8E r
spelled_pieces C16 r = regrouped C16 r

unsigned_32 : (z : ℤ) → FitsSigned w32 z → cast_unsigned w32 z < 2 ^ 32
unsigned_32 z h = omega (arith, ints)

unsigned_16 : (z : ℤ) → FitsSigned w16 z → cast_unsigned w16 z < 2 ^ 16
unsigned_16 z h = omega (arith, ints)

-- Pieces that fit are a record that fits.
pub all_fit : (codec : Codec) (r : AvlRecord) → HeadFits r → EventFits codec r → ElementsFit codec r → AllFit (parts_of codec) (part_values codec (value_of r))
all_fit C8 r h e x =
    let g = h.gps in
    let total : total_of (value_of r) < 2 ^ 8 = omega (arith, x.total, total_is r) in
    (h.time, (h.priority, (unsigned_32 r.gps.longitude g.longitude, (unsigned_32 r.gps.latitude g.latitude, (unsigned_16 r.gps.altitude g.altitude, (g.angle, (g.satellites, (g.speed, (e.event, (total, (x.groups.ones, (x.groups.twos, (x.groups.fours, (x.groups.eights, tt))))))))))))))
all_fit C8E r h e x =
    let g = h.gps in
    let total : total_of (value_of r) < 2 ^ 16 = omega (arith, x.total, total_is r) in
    (h.time, (h.priority, (unsigned_32 r.gps.longitude g.longitude, (unsigned_32 r.gps.latitude g.latitude, (unsigned_16 r.gps.altitude g.altitude, (g.angle, (g.satellites, (g.speed, (e.event, (total, (x.groups.ones, (x.groups.twos, (x.groups.fours, (x.groups.eights, (x.nx, tt)))))))))))))))
all_fit C16 r h e x =
    let g = h.gps in
    let total : total_of (value_of r) < 2 ^ 8 = omega (arith, x.total, total_is r) in
    (h.time, (h.priority, (unsigned_32 r.gps.longitude g.longitude, (unsigned_32 r.gps.latitude g.latitude, (unsigned_16 r.gps.altitude g.altitude, (g.angle, (g.satellites, (g.speed, (e.event, (e.generation, (total, (x.groups.ones, (x.groups.twos, (x.groups.fours, (x.groups.eights, tt)))))))))))))))

-- the pieces of a value that a codec has are its record
pub pieces_are_record : (codec : Codec) (r : AvlRecord) (bytes : List ℕ) → bytes ≡ head_bytes r ++ (event_bytes codec r ++ elements_bytes codec r) → HeadFits r → EventFits codec r → ElementsFit codec r → HasNoOther codec (value_of r)
    → IsRecord codec (value_of r) bytes
pieces_are_record codec r bytes is head event elements other = record {
  is = is ∙ sym (spelled_pieces codec r);
  fits = all_fit codec r head event elements;
  longitude = head.gps.longitude;
  latitude = head.gps.latitude;
  altitude = head.gps.altitude;
  no_other = other;
}

pub narrow_ids : (codec : Codec) (r : AvlRecord) → HasNarrowIds codec r → id_width codec ≡ W1 → All (λ (io : IoElement). io.id < 256) r.ios.items
narrow_ids C8 r narrow e = narrow.1
narrow_ids C8E r narrow e = absurd (cc)
narrow_ids C16 r narrow e = absurd (cc)

-- a record that has room has few elements
pub few_elements : (codec : Codec) (r : AvlRecord) → length r.ios.items ≤ 112 → HasNoOther codec (value_of r) → elements_length codec r ≤ 255 → length r.ios.items + length r.nx < limit (count_width codec)
few_elements C8 r ios other room = let none = ap length other.0 in omega (arith, none)
few_elements C8E r ios other room = omega (arith, triples_count r.nx)
few_elements C16 r ios other room = let none = ap length other in omega (arith, none)

pub fits_count : (codec : Codec) (n : ℕ) → n < limit (count_width codec) → n < 2 ^ 16
fits_count C8 n h = omega arith
fits_count C8E n h = h
fits_count C16 n h = omega arith

-- The elements of all widths take a sum over the elements.

more_length : (id w : Width) (a b c d : List (ℕ × ℕ)) (e : ℕ × ℕ)
    → pairs_length id W1 (if is_width w W1 then e ∷ a else a) + pairs_length id W2 (if is_width w W2 then e ∷ b else b) + pairs_length id W4 (if is_width w W4 then e ∷ c else c) + pairs_length id W8 (if is_width w W8 then e ∷ d else d)
    ≡ (bytes_of id + bytes_of w) + (pairs_length id W1 a + pairs_length id W2 b + pairs_length id W4 c + pairs_length id W8 d)
more_length id W1 a b c d e = omega (arith, sum_by-cons (λ (p : ℕ × ℕ). bytes_of id + 1) e a)
more_length id W2 a b c d e = omega (arith, sum_by-cons (λ (p : ℕ × ℕ). bytes_of id + 2) e b)
more_length id W4 a b c d e = omega (arith, sum_by-cons (λ (p : ℕ × ℕ). bytes_of id + 4) e c)
more_length id W8 a b c d e = omega (arith, sum_by-cons (λ (p : ℕ × ℕ). bytes_of id + 8) e d)

groups_room : (id : Width) (ios : List IoElement) → pairs_length id W1 (pairs_of W1 ios) + pairs_length id W2 (pairs_of W2 ios) + pairs_length id W4 (pairs_of W4 ios) + pairs_length id W8 (pairs_of W8 ios) ≡ ios_length id ios
groups_room id [] = refl
groups_room id (io ∷ ios) =
    more_length id io.width (pairs_of W1 ios) (pairs_of W2 ios) (pairs_of W4 ios) (pairs_of W8 ios) (io.id, io.value)
    ∙ ap (λ n. (bytes_of id + bytes_of io.width) + n) (groups_room id ios) ∙ sym (sum_by-cons (λ (x : IoElement). bytes_of id + bytes_of x.width) io ios)

pub length_summed : (codec : Codec) (r : AvlRecord) → HasNoOther codec (value_of r) → record_length codec (value_of r) ≡ shortest_length codec + ios_length (id_width codec) r.ios.items + nx_size r.nx
length_summed C8 r other = let none : nx_size r.nx ≡ 0 = ap nx_size other.0 in omega (arith, none, groups_room W1 r.ios.items)
length_summed C8E r other = omega (arith, groups_room W2 r.ios.items)
length_summed C16 r other = let none : nx_size r.nx ≡ 0 = ap nx_size other in omega (arith, none, groups_room W2 r.ios.items)

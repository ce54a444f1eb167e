-- The fields and elements of a record, read from its spelling.
use Rattle.std.proofs.Common.{◌≡◌, ℕ, suc, ◌+◌, ◌*◌, ◌<◌, List, [], ◌∷◌, ◌++◌, length, take, drop, refl, sym, ap, ◌∙◌, arith, append_assoc, length-append}
use Rattle.std.specs.Int.{w16, w32, cast_signed, cast_unsigned}
use Rattle.std.specs.List.{flat_map, AllByRecursion}
use Rattle.std.proofs.Math.Seq.{take-append_seam, drop-append_seam}
use Rattle.std.proofs.lemmas.Int.{to_z-of_z}
use Rattle.std.proofs.lemmas.List.{append-nil}
use Rattle.avl_values.specs.IoElement.{IoElement}
use Rattle.avl_values.specs.RecordValue.{RecordValue}
use Rattle.avl_values.specs.Width.{bytes_of, limit}
use Rattle.avl_values.specs.declared.codec.Codec.{Codec}
use Rattle.avl_values.specs.declared.codec.Codec.TheVariants.{C8, C8E, C16}
use Rattle.avl_values.specs.declared.width.Width.{Width}
use Rattle.avl_values.specs.declared.width.Width.TheVariants.{W1, W2, W4, W8}
use Rattle.layout.specs.Bytes.{AreBytes}
use Rattle.layout.specs.Fields.{number}
use Rattle.record_layout.specs.Spelling.{spell, pair_bytes, triple_bytes, IsRecord}
use Rattle.record_layout.proofs.Table.{length-spell, number-spell}
use Rattle.record_layout.specs.Table.{count_width, id_width}
use Rattle.record_codecs.specs.Elements.{all_widths, front_number, behind, pairs_in, behind_pairs, groups_in, behind_groups, nx_in, nx_of, elements, ios_of}
use Rattle.record_codecs.specs.Shown.{elements_from}

-- Fields at their places.

pub time_is : (codec : Codec) (v : RecordValue) (bytes : List ℕ) → IsRecord codec v bytes → number (take 8 (drop 0 bytes)) ≡ v.time
time_is C8 v bytes r = ap (λ b. number (take 8 (drop 0 b))) r.is ∙ number-spell W8 v.time r.fits.0
time_is C8E v bytes r = ap (λ b. number (take 8 (drop 0 b))) r.is ∙ number-spell W8 v.time r.fits.0
time_is C16 v bytes r = ap (λ b. number (take 8 (drop 0 b))) r.is ∙ number-spell W8 v.time r.fits.0

pub priority_is : (codec : Codec) (v : RecordValue) (bytes : List ℕ) → IsRecord codec v bytes → number (take 1 (drop 8 bytes)) ≡ v.priority
priority_is C8 v bytes r = ap (λ b. number (take 1 (drop 8 b))) r.is ∙ number-spell W1 v.priority r.fits.1.0
priority_is C8E v bytes r = ap (λ b. number (take 1 (drop 8 b))) r.is ∙ number-spell W1 v.priority r.fits.1.0
priority_is C16 v bytes r = ap (λ b. number (take 1 (drop 8 b))) r.is ∙ number-spell W1 v.priority r.fits.1.0

longitude_number : (codec : Codec) (v : RecordValue) (bytes : List ℕ) → IsRecord codec v bytes → number (take 4 (drop 9 bytes)) ≡ cast_unsigned w32 v.longitude
longitude_number C8 v bytes r = ap (λ b. number (take 4 (drop 9 b))) r.is ∙ number-spell W4 (cast_unsigned w32 v.longitude) r.fits.1.1.0
longitude_number C8E v bytes r = ap (λ b. number (take 4 (drop 9 b))) r.is ∙ number-spell W4 (cast_unsigned w32 v.longitude) r.fits.1.1.0
longitude_number C16 v bytes r = ap (λ b. number (take 4 (drop 9 b))) r.is ∙ number-spell W4 (cast_unsigned w32 v.longitude) r.fits.1.1.0

pub longitude_is : (codec : Codec) (v : RecordValue) (bytes : List ℕ) → IsRecord codec v bytes → cast_signed w32 (number (take 4 (drop 9 bytes))) ≡ v.longitude
longitude_is codec v bytes r = ap (cast_signed w32) (longitude_number codec v bytes r) ∙ to_z-of_z w32 v.longitude r.longitude

latitude_number : (codec : Codec) (v : RecordValue) (bytes : List ℕ) → IsRecord codec v bytes → number (take 4 (drop 13 bytes)) ≡ cast_unsigned w32 v.latitude
latitude_number C8 v bytes r = ap (λ b. number (take 4 (drop 13 b))) r.is ∙ number-spell W4 (cast_unsigned w32 v.latitude) r.fits.1.1.1.0
latitude_number C8E v bytes r = ap (λ b. number (take 4 (drop 13 b))) r.is ∙ number-spell W4 (cast_unsigned w32 v.latitude) r.fits.1.1.1.0
latitude_number C16 v bytes r = ap (λ b. number (take 4 (drop 13 b))) r.is ∙ number-spell W4 (cast_unsigned w32 v.latitude) r.fits.1.1.1.0

pub latitude_is : (codec : Codec) (v : RecordValue) (bytes : List ℕ) → IsRecord codec v bytes → cast_signed w32 (number (take 4 (drop 13 bytes))) ≡ v.latitude
latitude_is codec v bytes r = ap (cast_signed w32) (latitude_number codec v bytes r) ∙ to_z-of_z w32 v.latitude r.latitude

altitude_number : (codec : Codec) (v : RecordValue) (bytes : List ℕ) → IsRecord codec v bytes → number (take 2 (drop 17 bytes)) ≡ cast_unsigned w16 v.altitude
altitude_number C8 v bytes r = ap (λ b. number (take 2 (drop 17 b))) r.is ∙ number-spell W2 (cast_unsigned w16 v.altitude) r.fits.1.1.1.1.0
altitude_number C8E v bytes r = ap (λ b. number (take 2 (drop 17 b))) r.is ∙ number-spell W2 (cast_unsigned w16 v.altitude) r.fits.1.1.1.1.0
altitude_number C16 v bytes r = ap (λ b. number (take 2 (drop 17 b))) r.is ∙ number-spell W2 (cast_unsigned w16 v.altitude) r.fits.1.1.1.1.0

pub altitude_is : (codec : Codec) (v : RecordValue) (bytes : List ℕ) → IsRecord codec v bytes → cast_signed w16 (number (take 2 (drop 17 bytes))) ≡ v.altitude
altitude_is codec v bytes r = ap (cast_signed w16) (altitude_number codec v bytes r) ∙ to_z-of_z w16 v.altitude r.altitude

pub angle_is : (codec : Codec) (v : RecordValue) (bytes : List ℕ) → IsRecord codec v bytes → number (take 2 (drop 19 bytes)) ≡ v.angle
angle_is C8 v bytes r = ap (λ b. number (take 2 (drop 19 b))) r.is ∙ number-spell W2 v.angle r.fits.1.1.1.1.1.0
angle_is C8E v bytes r = ap (λ b. number (take 2 (drop 19 b))) r.is ∙ number-spell W2 v.angle r.fits.1.1.1.1.1.0
angle_is C16 v bytes r = ap (λ b. number (take 2 (drop 19 b))) r.is ∙ number-spell W2 v.angle r.fits.1.1.1.1.1.0

pub satellites_is : (codec : Codec) (v : RecordValue) (bytes : List ℕ) → IsRecord codec v bytes → number (take 1 (drop 21 bytes)) ≡ v.satellites
satellites_is C8 v bytes r = ap (λ b. number (take 1 (drop 21 b))) r.is ∙ number-spell W1 v.satellites r.fits.1.1.1.1.1.1.0
satellites_is C8E v bytes r = ap (λ b. number (take 1 (drop 21 b))) r.is ∙ number-spell W1 v.satellites r.fits.1.1.1.1.1.1.0
satellites_is C16 v bytes r = ap (λ b. number (take 1 (drop 21 b))) r.is ∙ number-spell W1 v.satellites r.fits.1.1.1.1.1.1.0

pub speed_is : (codec : Codec) (v : RecordValue) (bytes : List ℕ) → IsRecord codec v bytes → number (take 2 (drop 22 bytes)) ≡ v.speed
speed_is C8 v bytes r = ap (λ b. number (take 2 (drop 22 b))) r.is ∙ number-spell W2 v.speed r.fits.1.1.1.1.1.1.1.0
speed_is C8E v bytes r = ap (λ b. number (take 2 (drop 22 b))) r.is ∙ number-spell W2 v.speed r.fits.1.1.1.1.1.1.1.0
speed_is C16 v bytes r = ap (λ b. number (take 2 (drop 22 b))) r.is ∙ number-spell W2 v.speed r.fits.1.1.1.1.1.1.1.0

pub event_is : (codec : Codec) (v : RecordValue) (bytes : List ℕ) → IsRecord codec v bytes → front_number (id_width codec) (drop 24 bytes) ≡ v.event
event_is C8 v bytes r = ap (λ b. number (take 1 (drop 24 b))) r.is ∙ number-spell W1 v.event r.fits.1.1.1.1.1.1.1.1.0
event_is C8E v bytes r = ap (λ b. number (take 2 (drop 24 b))) r.is ∙ number-spell W2 v.event r.fits.1.1.1.1.1.1.1.1.0
event_is C16 v bytes r = ap (λ b. number (take 2 (drop 24 b))) r.is ∙ number-spell W2 v.event r.fits.1.1.1.1.1.1.1.1.0

pub generation_is : (v : RecordValue) (bytes : List ℕ) → IsRecord C16 v bytes → number (take 1 (drop 26 bytes)) ≡ v.generation
generation_is v bytes r = ap (λ b. number (take 1 (drop 26 b))) r.is ∙ number-spell W1 v.generation r.fits.1.1.1.1.1.1.1.1.1.0

-- A number in front of other bytes.

take_spell : (w : Width) (n : ℕ) (more : List ℕ) → take (bytes_of w) (spell w n ++ more) ≡ spell w n
take_spell w n more = ap (λ k. take k (spell w n ++ more)) (sym (length-spell w n)) ∙ take-append_seam (spell w n) more

drop_spell : (w : Width) (n : ℕ) (more : List ℕ) → behind w (spell w n ++ more) ≡ more
drop_spell w n more = ap (λ k. drop k (spell w n ++ more)) (sym (length-spell w n)) ∙ drop-append_seam (spell w n) more

front_spell : (w : Width) (n : ℕ) (more : List ℕ) → n < limit w → front_number w (spell w n ++ more) ≡ n
front_spell w n more fits = ap number (take_spell w n more) ∙ number-spell w n fits

-- Pairs, and groups of them.

abbrev PairFits : Width → Width → ℕ × ℕ → Type 0
PairFits id value e = (e.0 < limit id) × (e.1 < limit value)

pairs_length : (id w : Width) (es : List (ℕ × ℕ)) → length (flat_map (pair_bytes id w) es) ≡ length es * (bytes_of id + bytes_of w)
pairs_length id w [] = omega arith
pairs_length id w (e ∷ es) =
    let rest = pairs_length id w es in
    let a = length-append (spell id e.0 ++ spell w e.1) (flat_map (pair_bytes id w) es) in
    let b = length-append (spell id e.0) (spell w e.1) in
    let n : suc (length es) * (bytes_of id + bytes_of w) ≡ (bytes_of id + bytes_of w) + length es * (bytes_of id + bytes_of w) = omega arith in
    omega (arith, a, b, n, rest, length-spell id e.0, length-spell w e.1)

pairs_read : (codec : Codec) (w : Width) (es : List (ℕ × ℕ)) (more : List ℕ) → AllByRecursion (PairFits (id_width codec) w) es → pairs_in codec w (length es) (flat_map (pair_bytes (id_width codec) w) es ++ more) ≡ elements w es
pairs_read codec w [] more fit = refl
pairs_read codec w (e ∷ es) more fit =
    let i = id_width codec in
    let fm = flat_map (pair_bytes i w) es ++ more in
    let join : flat_map (pair_bytes i w) (e ∷ es) ++ more ≡ spell i e.0 ++ (spell w e.1 ++ fm) =
    append_assoc (spell i e.0 ++ spell w e.1) (flat_map (pair_bytes i w) es) more ∙ append_assoc (spell i e.0) (spell w e.1) fm in
    let past = drop_spell i e.0 (spell w e.1 ++ fm) in
    let E : ℕ → ℕ → IoElement = λ a b. record { id = a; width = w; value = b } in
    ap (λ b. pairs_in codec w (suc (length es)) b) join
    ∙ ap (λ b. E (front_number i (spell i e.0 ++ (spell w e.1 ++ fm))) (front_number w b) ∷ pairs_in codec w (length es) (behind w b)) past
    ∙ ap (λ b. E (front_number i (spell i e.0 ++ (spell w e.1 ++ fm))) (front_number w (spell w e.1 ++ fm)) ∷ pairs_in codec w (length es) b) (drop_spell w e.1 fm)
    ∙ ap (λ a. E a (front_number w (spell w e.1 ++ fm)) ∷ pairs_in codec w (length es) fm) (front_spell i e.0 (spell w e.1 ++ fm) fit.0.0)
    ∙ ap (λ b. E e.0 b ∷ pairs_in codec w (length es) fm) (front_spell w e.1 fm fit.0.1)
    ∙ ap (λ l. E e.0 e.1 ∷ l) (pairs_read codec w es more fit.1)

past_pairs : (codec : Codec) (w : Width) (es : List (ℕ × ℕ)) (more : List ℕ) → behind_pairs codec w (length es) (flat_map (pair_bytes (id_width codec) w) es ++ more) ≡ more
past_pairs codec w es more =
    let f = flat_map (pair_bytes (id_width codec) w) es in
    ap (λ k. drop k (f ++ more)) (sym (pairs_length (id_width codec) w es)) ∙ drop-append_seam f more

abbrev group_bytes : Codec → Width → List (ℕ × ℕ) → List ℕ
group_bytes codec w es = spell (count_width codec) (length es) ++ flat_map (pair_bytes (id_width codec) w) es

group_join : (codec : Codec) (w : Width) (es : List (ℕ × ℕ)) (more : List ℕ) → group_bytes codec w es ++ more ≡ spell (count_width codec) (length es) ++ (flat_map (pair_bytes (id_width codec) w) es ++ more)
group_join codec w es more = append_assoc (spell (count_width codec) (length es)) (flat_map (pair_bytes (id_width codec) w) es) more

group_read : (codec : Codec) (w : Width) (ws : List Width) (es : List (ℕ × ℕ)) (more : List ℕ) → length es < limit (count_width codec) → AllByRecursion (PairFits (id_width codec) w) es
    → groups_in codec (w ∷ ws) (group_bytes codec w es ++ more) ≡ elements w es ++ groups_in codec ws more
group_read codec w ws es more few fit =
    let c = count_width codec in
    let f = flat_map (pair_bytes (id_width codec) w) es ++ more in
    let G : ℕ → List ℕ → List IoElement = λ n b. pairs_in codec w n b ++ groups_in codec ws (behind_pairs codec w n b) in
    ap (groups_in codec (w ∷ ws)) (group_join codec w es more) ∙ ap (λ b. G (front_number c (spell c (length es) ++ f)) b) (drop_spell c (length es) f)
    ∙ ap (λ n. G n f) (front_spell c (length es) f few)
    ∙ ap (λ l. l ++ groups_in codec ws (behind_pairs codec w (length es) f)) (pairs_read codec w es more fit) ∙ ap (λ b. elements w es ++ groups_in codec ws b) (past_pairs codec w es more)

group_past : (codec : Codec) (w : Width) (ws : List Width) (es : List (ℕ × ℕ)) (more : List ℕ) → length es < limit (count_width codec) → behind_groups codec (w ∷ ws) (group_bytes codec w es ++ more) ≡ behind_groups codec ws more
group_past codec w ws es more few =
    let c = count_width codec in
    let f = flat_map (pair_bytes (id_width codec) w) es ++ more in
    ap (behind_groups codec (w ∷ ws)) (group_join codec w es more)
    ∙ ap (λ b. behind_groups codec ws (behind_pairs codec w (front_number c (spell c (length es) ++ f)) b)) (drop_spell c (length es) f)
    ∙ ap (λ n. behind_groups codec ws (behind_pairs codec w n f)) (front_spell c (length es) f few) ∙ ap (behind_groups codec ws) (past_pairs codec w es more)

-- the four groups, and what follows them
abbrev four_groups : Codec → List (ℕ × ℕ) → List (ℕ × ℕ) → List (ℕ × ℕ) → List (ℕ × ℕ) → List ℕ → List ℕ
four_groups codec a b c d more = group_bytes codec W1 a ++ (group_bytes codec W2 b ++ (group_bytes codec W4 c ++ (group_bytes codec W8 d ++ more)))

record GroupsFit (codec : Codec) (a b c d : List (ℕ × ℕ)) : Type 0 where
  pub few_a : length a < limit (count_width codec)
  pub few_b : length b < limit (count_width codec)
  pub few_c : length c < limit (count_width codec)
  pub few_d : length d < limit (count_width codec)
  pub fit_a : AllByRecursion (PairFits (id_width codec) W1) a
  pub fit_b : AllByRecursion (PairFits (id_width codec) W2) b
  pub fit_c : AllByRecursion (PairFits (id_width codec) W4) c
  pub fit_d : AllByRecursion (PairFits (id_width codec) W8) d

four_read : (codec : Codec) (a b c d : List (ℕ × ℕ)) (more : List ℕ) → GroupsFit codec a b c d
    → groups_in codec all_widths (four_groups codec a b c d more) ≡ elements W1 a ++ (elements W2 b ++ (elements W4 c ++ (elements W8 d ++ [])))
four_read codec a b c d more fit =
    group_read codec W1 (W2 ∷ W4 ∷ W8 ∷ []) a _ fit.few_a fit.fit_a
    ∙ ap (λ l. elements W1 a ++ l) (group_read codec W2 (W4 ∷ W8 ∷ []) b _ fit.few_b fit.fit_b
    ∙ ap (λ l. elements W2 b ++ l) (group_read codec W4 (W8 ∷ []) c _ fit.few_c fit.fit_c ∙ ap (λ l. elements W4 c ++ l) (group_read codec W8 [] d more fit.few_d fit.fit_d)))

four_past : (codec : Codec) (a b c d : List (ℕ × ℕ)) (more : List ℕ) → GroupsFit codec a b c d → behind_groups codec all_widths (four_groups codec a b c d more) ≡ more
four_past codec a b c d more fit =
    group_past codec W1 (W2 ∷ W4 ∷ W8 ∷ []) a _ fit.few_a ∙ group_past codec W2 (W4 ∷ W8 ∷ []) b _ fit.few_b ∙ group_past codec W4 (W8 ∷ []) c _ fit.few_c ∙ group_past codec W8 [] d more fit.few_d

-- what a record has after its head
tail_of : Codec → RecordValue → List ℕ
tail_of C8 v = []
tail_of C8E v = (spell W2 (length v.nx) ++ flat_map (triple_bytes W2 W2) v.nx) ++ []
tail_of C16 v = []

groups_of : (codec : Codec) (v : RecordValue) (bytes : List ℕ) → IsRecord codec v bytes → (drop (elements_from codec) bytes ≡ four_groups codec v.ones v.twos v.fours v.eights (tail_of codec v)) × GroupsFit codec v.ones v.twos v.fours v.eights
unfolding tail_of
groups_of C8 v bytes r =
    let f = r.fits.1.1.1.1.1.1.1.1.1.1 in
    (ap (drop 26) r.is, record { few_a = f.0.0; few_b = f.1.0.0; few_c = f.1.1.0.0; few_d = f.1.1.1.0.0; fit_a = f.0.1; fit_b = f.1.0.1; fit_c = f.1.1.0.1; fit_d = f.1.1.1.0.1 })
groups_of C8E v bytes r =
    let f = r.fits.1.1.1.1.1.1.1.1.1.1 in
    (ap (drop 28) r.is, record { few_a = f.0.0; few_b = f.1.0.0; few_c = f.1.1.0.0; few_d = f.1.1.1.0.0; fit_a = f.0.1; fit_b = f.1.0.1; fit_c = f.1.1.0.1; fit_d = f.1.1.1.0.1 })
groups_of C16 v bytes r =
    let f = r.fits.1.1.1.1.1.1.1.1.1.1.1 in
    (ap (drop 28) r.is, record { few_a = f.0.0; few_b = f.1.0.0; few_c = f.1.1.0.0; few_d = f.1.1.1.0.0; fit_a = f.0.1; fit_b = f.1.0.1; fit_c = f.1.1.0.1; fit_d = f.1.1.1.0.1 })

pub ios_are : (codec : Codec) (v : RecordValue) (bytes : List ℕ) → IsRecord codec v bytes → groups_in codec all_widths (drop (elements_from codec) bytes) ≡ ios_of v
ios_are codec v bytes r =
    let g = groups_of codec v bytes r in
    ap (groups_in codec all_widths) g.0 ∙ four_read codec v.ones v.twos v.fours v.eights (tail_of codec v) g.1
    ∙ ap (λ l. elements W1 v.ones ++ (elements W2 v.twos ++ (elements W4 v.fours ++ l))) (append-nil (elements W8 v.eights))

-- Elements of any length.

abbrev TripleFits : ℕ × List ℕ → Type 0
TripleFits e = (e.0 < limit W2) × (length e.1 < limit W2) × AreBytes e.1

triples_read : (es : List (ℕ × List ℕ)) (more : List ℕ) → AllByRecursion TripleFits es → nx_in (length es) (flat_map (triple_bytes W2 W2) es ++ more) ≡ es
triples_read [] more fit = refl
triples_read (e ∷ es) more fit =
    let fm = flat_map (triple_bytes W2 W2) es ++ more in
    let sl = spell W2 (length e.1) in
    let join : flat_map (triple_bytes W2 W2) (e ∷ es) ++ more ≡ spell W2 e.0 ++ (sl ++ (e.1 ++ fm)) =
    append_assoc (spell W2 e.0 ++ (sl ++ e.1)) (flat_map (triple_bytes W2 W2) es) more ∙ append_assoc (spell W2 e.0) (sl ++ e.1) fm ∙ ap (λ b. spell W2 e.0 ++ b) (append_assoc sl e.1 fm) in
    let N : ℕ → ℕ → List ℕ → List (ℕ × List ℕ) = λ id len b. (id, take len b) ∷ nx_in (length es) (drop len b) in
    let all = spell W2 e.0 ++ (sl ++ (e.1 ++ fm)) in
    ap (nx_in (suc (length es))) join
    ∙ ap (λ b. N (front_number W2 all) (front_number W2 b) (behind W2 b)) (drop_spell W2 e.0 (sl ++ (e.1 ++ fm)))
    ∙ ap (λ b. N (front_number W2 all) (front_number W2 (sl ++ (e.1 ++ fm))) b) (drop_spell W2 (length e.1) (e.1 ++ fm))
    ∙ ap (λ n. N n (front_number W2 (sl ++ (e.1 ++ fm))) (e.1 ++ fm)) (front_spell W2 e.0 (sl ++ (e.1 ++ fm)) fit.0.0)
    ∙ ap (λ n. N e.0 n (e.1 ++ fm)) (front_spell W2 (length e.1) (e.1 ++ fm) fit.0.1)
    ∙ ap (λ b. (e.0, b) ∷ nx_in (length es) (drop (length e.1) (e.1 ++ fm))) (take-append_seam e.1 fm)
    ∙ ap (λ b. e ∷ nx_in (length es) b) (drop-append_seam e.1 fm)
    ∙ ap (λ l. e ∷ l) (triples_read es more fit.1)

nx_tail : (codec : Codec) (v : RecordValue) (bytes : List ℕ) → IsRecord codec v bytes → nx_of codec (tail_of codec v) ≡ v.nx
unfolding tail_of
nx_tail C8 v bytes r = sym r.no_other.0
nx_tail C8E v bytes r =
    let f = r.fits.1.1.1.1.1.1.1.1.1.1.1.1.1.1.0 in
    let fm = flat_map (triple_bytes W2 W2) v.nx ++ [] in
    let sn = spell W2 (length v.nx) in
    ap (nx_of C8E) (append_assoc sn (flat_map (triple_bytes W2 W2) v.nx) []) ∙ ap (λ b. nx_in (front_number W2 (sn ++ fm)) b) (drop_spell W2 (length v.nx) fm)
    ∙ ap (λ n. nx_in n fm) (front_spell W2 (length v.nx) fm f.0) ∙ triples_read v.nx [] f.1
nx_tail C16 v bytes r = sym r.no_other

pub nx_are : (codec : Codec) (v : RecordValue) (bytes : List ℕ) → IsRecord codec v bytes → nx_of codec (behind_groups codec all_widths (drop (elements_from codec) bytes)) ≡ v.nx
nx_are codec v bytes r =
    let g = groups_of codec v bytes r in
    ap (λ b. nx_of codec (behind_groups codec all_widths b)) g.0 ∙ ap (nx_of codec) (four_past codec v.ones v.twos v.fours v.eights (tail_of codec v) g.1) ∙ nx_tail codec v bytes r

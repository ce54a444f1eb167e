-- Records of a batch, put into a data body one after the other.
use Rattle.std.proofs.Common.{◌≡◌, ℕ, suc, ◌+◌, ◌<◌, ◌≤◌, List, [], ◌∷◌, ◌++◌, length, take, drop, map, get_or, Option, Some, None, IfSome, append_assoc, refl, sym, ap, subst, ◌∙◌, arith, lit<, length-append}
use Rattle.std.specs.List.{Contains, cons_option, flat_map}
use Rattle.std.proofs.lemmas.List.{take_more, map-append, take_all, take-append-drop, length-take-le, length-map}
use Rattle.std.proofs.lemmas.List.Elements.{filter_map-append, Contains-append_left, Contains-append_right}
use Rattle.avl_values.specs.declared.codec.Codec.{Codec}
use Rattle.avl_values.specs.Record.{Record}
use Rattle.record_layout.specs.Packet.{IsPacket, packet_bytes}
use Rattle.record_writing.specs.Packing.{Packing}
use Rattle.command_layout.specs.declared.way.Way.{Way}
use Rattle.command_layout.specs.declared.way.Way.TheVariants.{Up}
use Rattle.frame_layout.specs.Items.{IsFrameBody}
use Rattle.frame_layout.specs.declared.body_kind.BodyKind.{BodyKind}
use Rattle.frame_layout.specs.declared.body_kind.BodyKind.TheVariants.{Packet}
use Rattle.flash_ring.specs.Held.{Held, rec_at, rec_in}
use Rattle.flash_ring.specs.Images.{AreOpen}
use Rattle.flash_ring.specs.Records.{bytes_of, recs_in}
use Rattle.flash_ring.proofs.Closes.{has_slot-at}
use Rattle.tracker_session.specs.Batches.{body_of, bytes_in}
use Rattle.tracker_session.specs.Packs.{AreBatch, CanAdd, IsBodyOf, with_bytes}

-- the record of an open slot
pub record HasRecord (slots : List (Option Held)) (k : ℕ) : Type 0 where
  pub rec : Record
  pub at : rec_at slots k ≡ Some rec

pub open-rec : (slots : List (Option Held)) (batch : List ℕ) (i : ℕ) → AreOpen batch slots → i < length batch → HasRecord slots (get_or batch i 0)
open-rec slots batch i opens low = let h = opens (get_or batch i 0) (has_slot-at batch i low) in record { rec = h.0.rec; at = ap rec_in h.1 }

-- one more record of a batch
pub recs-more : (slots : List (Option Held)) (batch : List ℕ) (i : ℕ) (r : Record) → i < length batch → rec_at slots (get_or batch i 0) ≡ Some r
    → recs_in slots (take (i + 1) batch) ≡ recs_in slots (take i batch) ++ r ∷ []
recs-more slots batch i r low at =
    ap (recs_in slots) (take_more batch i 0 low)
    ∙ filter_map-append (rec_at slots) (take i batch) (get_or batch i 0 ∷ [])
    ∙ ap (λ (x : Option Record). recs_in slots (take i batch) ++ cons_option x []) at

size-append : (rs ss : List Record) → bytes_of (rs ++ ss) ≡ bytes_of rs + bytes_of ss
size-append [] ss = omega arith
size-append (r ∷ rs) ss = omega (arith, size-append rs ss)

pub flat-size : (rs : List Record) → length (flat_map (λ (x : List ℕ). x) (map bytes_in rs)) ≡ bytes_of rs
flat-size [] = refl
flat-size (r ∷ rs) = omega (arith, length-append r.bytes (flat_map (λ (x : List ℕ). x) (map bytes_in rs)), flat-size rs)

pub packed-length : (c : Codec) (rs : List Record) → length (packet_bytes c (map bytes_in rs)) ≡ bytes_of rs + 3
packed-length c rs = omega (arith, length-append (flat_map (λ (x : List ℕ). x) (map bytes_in rs)) (length (map bytes_in rs) ∷ []), flat-size rs)

pub few-recs : (slots : List (Option Held)) (ks : List ℕ) → length (recs_in slots ks) ≤ length ks
few-recs slots [] = omega arith
few-recs slots (k ∷ ks) =
    let rest = few-recs slots ks in
    elim (rec_at slots k) as (λ o. length (cons_option o (recs_in slots ks)) ≤ suc (length ks)) [ None ↦ omega arith | Some r ↦ omega arith ]

-- the batch in front of a record, the record, and the batch after it
recs-split : (slots : List (Option Held)) (batch : List ℕ) (i : ℕ) (r : Record) → i < length batch → rec_at slots (get_or batch i 0) ≡ Some r
    → recs_in slots batch ≡ recs_in slots (take i batch) ++ (r ∷ recs_in slots (drop (i + 1) batch))
recs-split slots batch i r low at =
    ap (recs_in slots) (sym (take-append-drop (i + 1) batch))
    ∙ filter_map-append (rec_at slots) (take (i + 1) batch) (drop (i + 1) batch)
    ∙ ap (λ (rs : List Record). rs ++ recs_in slots (drop (i + 1) batch)) (recs-more slots batch i r low at)
    ∙ append_assoc (recs_in slots (take i batch)) (r ∷ []) (recs_in slots (drop (i + 1) batch))

pub rec-codec : (slots : List (Option Held)) (batch : List ℕ) (is : AreBatch slots batch) (i : ℕ) (r : Record) → i < length batch → rec_at slots (get_or batch i 0) ≡ Some r → r.codec ≡ is.recs.codec
rec-codec slots batch is i r low at =
    let front = recs_in slots (take i batch) in
    let back = recs_in slots (drop (i + 1) batch) in
    let has : Contains (front ++ (r ∷ back)) r = Contains-append_right front (r ∷ back) r (Contains-append_left (r ∷ []) back r (0, lit< tt, refl)) in
    is.recs.one_codec r (let P : List Record → Type 0 = λ rs. Contains rs r in subst P (sym (recs-split slots batch i r low at)) has)

-- a body of the batch's codec, and of its first i records
abbrev pub packed : (slots : List (Option Held)) → List ℕ → Codec → ℕ → Packing
packed slots batch codec i = record { codec = codec; records = map bytes_in (recs_in slots (take i batch)) }

bytes-more : (rs : List Record) (r : Record) → map bytes_in rs ++ r.bytes ∷ [] ≡ map bytes_in (rs ++ r ∷ [])
bytes-more rs r = sym (map-append bytes_in rs (r ∷ []))

pub can-add : (slots : List (Option Held)) (batch : List ℕ) (is : AreBatch slots batch) (codec : Codec) (i : ℕ) → codec ≡ is.recs.codec → i < length batch → CanAdd (packed slots batch codec i) slots (get_or batch i 0)
can-add slots batch is codec i same low =
    let h = open-rec slots batch i is.opens low in
    let rs = recs_in slots (take i batch) in
    let all = recs-split slots batch i h.rec low h.at in
    let short : length (packet_bytes codec (map bytes_in (rs ++ h.rec ∷ []))) ≤ 1268 =
    omega (arith, packed-length codec (rs ++ h.rec ∷ []), size-append rs (h.rec ∷ []), size-append rs (h.rec ∷ recs_in slots (drop (i + 1) batch)), ap bytes_of all, is.recs.fits) in
    record {
      rec = h.rec;
      at = h.at;
      codec = rec-codec slots batch is i h.rec low h.at ∙ sym same;
      room = record {
        few = omega (arith, length-map rs bytes_in, few-recs slots (take i batch), length-take-le i batch (omega arith), is.few);
        short = (let P : List (List ℕ) → Type 0 = λ x. length (packet_bytes codec x) ≤ 1268 in subst P (sym (bytes-more rs h.rec)) short);
      };
    }

pub packed-more : (slots : List (Option Held)) (batch : List ℕ) (is : AreBatch slots batch) (codec : Codec) (i : ℕ) → i < length batch → with_bytes (rec_at slots (get_or batch i 0)) (packed slots batch codec i) ≡ packed slots batch codec (i + 1)
packed-more slots batch is codec i low =
    let h = open-rec slots batch i is.opens low in
    let rs = recs_in slots (take i batch) in
    let of : List (List ℕ) → Packing = λ x. record { codec = codec; records = x } in
    ap (λ (o : Option Record). with_bytes o (packed slots batch codec i)) h.at
    ∙ ap of (bytes-more rs h.rec ∙ ap (map bytes_in) (sym (recs-more slots batch i h.rec low h.at)))

pub first-codec : (slots : List (Option Held)) (batch : List ℕ) (is : AreBatch slots batch) (codec : Codec) → 0 < length batch → IfSome (rec_at slots (get_or batch 0 0)) (λ r. codec ≡ r.codec) → codec ≡ is.recs.codec
first-codec slots batch is codec some first =
    let h = open-rec slots batch 0 is.opens some in
    let P : Option Record → Type 0 = λ o. IfSome o (λ r. codec ≡ r.codec) in
    subst P h.at first ∙ rec-codec slots batch is 0 h.rec some h.at

pub first-open : (slots : List (Option Held)) (batch : List ℕ) → AreBatch slots batch → 0 < length batch → rec_at slots (get_or batch 0 0) ≡ None → ⊥
first-open slots batch is some none = let at = (open-rec slots batch 0 is.opens some).at in absurd cc

body-of : (codec : Codec) (rs : List Record) → ((r : Record) → Contains rs r → r.codec ≡ codec) → 0 < length rs → packet_bytes codec (map bytes_in rs) ≡ body_of rs
body-of codec [] of some = absurd (omega arith)
body-of codec (r ∷ rs) of some = ap (λ (c : Codec). packet_bytes c (map bytes_in (r ∷ rs))) (sym (of r (Contains-append_left (r ∷ []) rs r (0, lit< tt, refl))))

pub body-done : (slots : List (Option Held)) (batch : List ℕ) (is : AreBatch slots batch) (codec : Codec) (i : ℕ) (bytes : List ℕ) → codec ≡ is.recs.codec → i ≡ length batch → 0 < length batch
    → IsPacket codec (map bytes_in (recs_in slots (take i batch))) bytes → IsBodyOf (recs_in slots batch) bytes
body-done slots batch is codec i bytes same all some packet =
    let whole : take i batch ≡ batch = take_all i batch (omega arith) in
    let P : Codec × List ℕ → Type 0 = λ z. IsPacket z.0 (map bytes_in (recs_in slots z.1)) bytes in
    let p = subst P (λ k. (same k, whole k)) packet in
    let some_recs : 0 < length (recs_in slots batch) = omega (arith, p.some, length-map (recs_in slots batch) bytes_in) in
    let at = body-of is.recs.codec (recs_in slots batch) is.recs.one_codec some_recs in
    record { codec = is.recs.codec; is = p.is ∙ at; packet = p; few = omega (arith, ap length p.is, packed-length is.recs.codec (recs_in slots batch), is.recs.fits) }

pub some-packed : (slots : List (Option Held)) (batch : List ℕ) (is : AreBatch slots batch) (codec : Codec) (i : ℕ) → 0 < length batch → length batch ≤ i → 0 < length (packed slots batch codec i).records
some-packed slots batch is codec i some all =
    let h = open-rec slots batch 0 is.opens some in
    let e = recs-split slots batch 0 h.rec some h.at in
    let whole : take i batch ≡ batch = take_all i batch all in
    omega (arith, ap (λ (ks : List ℕ). length (map bytes_in (recs_in slots ks))) whole, length-map (recs_in slots batch) bytes_in, ap length e, length-append (recs_in slots (take 0 batch)) (h.rec ∷ recs_in slots (drop (0 + 1) batch)))

-- a batch's body may pass up
pub body-passes : (records : List Record) (bytes : List ℕ) → IsBodyOf records bytes → (way : Way) × (kind : BodyKind) × IsFrameBody way kind bytes
body-passes records bytes is =
    (Up, Packet (record { codec = is.codec; count = length (map bytes_in records) }), record { records = map bytes_in records; packet = is.packet; count = refl })

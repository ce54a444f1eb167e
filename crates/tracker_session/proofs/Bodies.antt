-- The data body of a batch, and the frame of it.
use Rattle.std.proofs.Common.{◌≡◌, ℕ, ◌+◌, ◌<◌, ◌==◌, if◌then◌else◌, true, false, List, [], ◌∷◌, ◌++◌, length, map, Option, Some, None, slice_get, slice_index_or, refl, sym, ap, subst, ◌∙◌, append-nil, arith, lit<}
use Rattle.std.proofs.lemmas.Bool.Decides.{nat_tests}
use Rattle.std.proofs.lemmas.List.{length-map}
use Rattle.std.specs.List.{All, AllByRecursion, Contains, cons_option, flat_map}
use Rattle.std.proofs.lemmas.Bool.{false≢true}
use Rattle.std.proofs.lemmas.List.Elements.{All-append, All-nil, Contains-append_left, Contains-append_right}
use Rattle.avl_values.specs.Record.{Record}
use Rattle.avl_values.specs.declared.codec.Codec.{Codec}
use Rattle.avl_values.specs.declared.codec.Codec.TheVariants.{C8}
use Rattle.avl_values.specs.declared.order.Order.{Order}
use Rattle.layout.specs.Bytes.{AreBytes}
use Rattle.layout.proofs.Numbers.{bytes-append}
use Rattle.record_layout.specs.Packet.{IsPacket}
use Rattle.record_layout.specs.RecordsOf.{records_of}
use Rattle.record_layout.specs.SomeRecord.{IsSomeRecord}
use Rattle.record_layout.specs.declared.head.PacketHead.{PacketHead}
use Rattle.record_layout.proofs.ReadLaws.{records_read}
use Rattle.frame_layout.specs.Items.{count_bytes, frame_of}
use Rattle.flash_ring.specs.Entries.{held_of, selected}
use Rattle.flash_ring.specs.Held.{AreSound, Held, closed_all, rec_at, rec_in}
use Rattle.flash_ring.specs.Images.{AreOpen, has_slot}
use Rattle.flash_ring.specs.Records.{IsBatch, recs_in}
use Rattle.flash_ring.proofs.Batches.{held_of-open}
use Rattle.flash_ring.proofs.Closes.{has-here, has-there}
use Rattle.flash_ring.proofs.HeldRecords.{selected-open}
use Rattle.flash_ring.proofs.Selections.{selected-batch}
use Rattle.tracker_session.specs.Batches.{batch_frame, body_of, bytes_in}
use Rattle.tracker_session.specs.RoundStates.{one_less}
use Rattle.tracker_session.specs.Sending.{AreSentBodies}
use Rattle.tracker_session.specs.Talks.{AreDecided, counts_by, records_by}
use Rattle.tracker_session.specs.Turns.{batch_now}
use Rattle.tracker_session.proofs.BatchSteps.{packed-length}
use Rattle.tracker_session.proofs.RecordBytes.{frame-bytes, packet-bytes}
use Rattle.tracker_session.proofs.Releasing.{count-recs, opened-before}

-- the body of a batch of records, and none of none
abbrev pub bodies_of : List Record → List (List ℕ)
bodies_of [] = []
bodies_of (r ∷ rs) = body_of (r ∷ rs) ∷ []

pub frame-bodies : (rs : List Record) → batch_frame rs ≡ flat_map frame_of (bodies_of rs)
frame-bodies [] = refl
frame-bodies (r ∷ rs) = sym (append-nil (frame_of (body_of (r ∷ rs))))

-- what each record of some slots has
recs-each : (P : Record → Type 0) (slots : List (Option Held)) (ks : List ℕ) → ((k : ℕ) (h : Held) → slice_get slots k ≡ Some (Some h) → P h.rec) → AllByRecursion P (recs_in slots ks)
recs-each P slots [] f = tt
recs-each P slots (k ∷ ks) f =
    let rest = recs-each P slots ks f in
    elim (slice_get slots k) as (λ o. slice_get slots k ≡ o → AllByRecursion P (cons_option (rec_in o) (recs_in slots ks))) [ None ↦ λ e. rest | Some None ↦ λ e. rest | Some (Some h) ↦ λ e. (f k h e, rest) ] refl

-- a record of the body's codec
abbrev IsOf : Codec → Record → Type 0
IsOf codec r = (r.codec ≡ codec) × IsSomeRecord r.codec r.bytes

batch-of : (codec : Codec) (rs : List Record) → ((r : Record) → Contains rs r → r.codec ≡ codec) → AllByRecursion (λ r. IsSomeRecord r.codec r.bytes) rs → AllByRecursion (IsOf codec) rs
batch-of codec [] one each = tt
batch-of codec (r ∷ rs) one each =
    ((one r (first r rs), each.0), batch-of codec rs (λ x has. one x (later r rs x has)) each.1)
  where
    first : (r : Record) (rs : List Record) → Contains (r ∷ rs) r
    first r rs = Contains-append_left (r ∷ []) rs r (0, lit< tt, refl)

    later : (r : Record) (rs : List Record) (x : Record) → Contains rs x → Contains (r ∷ rs) x
    later r rs x has = Contains-append_right (r ∷ []) rs x has

each-bytes : (codec : Codec) (rs : List Record) → AllByRecursion (IsOf codec) rs → AllByRecursion (IsSomeRecord codec) (map bytes_in rs)
each-bytes codec [] each = tt
each-bytes codec (r ∷ rs) each = ((let P : Codec → Type 0 = λ c. IsSomeRecord c r.bytes in subst P each.0.0 each.0.1), each-bytes codec rs each.1)

same-records : (codec : Codec) (rs : List Record) → AllByRecursion (IsOf codec) rs → map (λ (b : List ℕ). (let one : Record = record { codec = codec; bytes = b } in one)) (map bytes_in rs) ≡ rs
same-records codec [] each = refl
same-records codec (r ∷ rs) each =
    ap (λ (c : Codec). (let one : Record = record { codec = c; bytes = r.bytes } in one) ∷ map (λ (b : List ℕ). (let one : Record = record { codec = codec; bytes = b } in one)) (map bytes_in rs)) (sym each.0.0)
    ∙ ap (λ (xs : List Record). r ∷ xs) (same-records codec rs each.1)

-- A batch of sound records that makes one data body.
pub record IsSoundBatch (rs : List Record) : Type 0 where
  pub batch : IsBatch 1265 rs
  pub sound : AllByRecursion (λ r. IsSomeRecord r.codec r.bytes) rs

is-packet : (r : Record) (rs : List Record) → IsSoundBatch (r ∷ rs) → IsPacket r.codec (map bytes_in (r ∷ rs)) (body_of (r ∷ rs))
is-packet r rs s =
    let own : r.codec ≡ s.batch.codec = (batch-of s.batch.codec (r ∷ rs) s.batch.one_codec s.sound).0.0 in
    let each = batch-of r.codec (r ∷ rs) (λ x has. s.batch.one_codec x has ∙ sym own) s.sound in
    record { is = refl; each = each-bytes r.codec (r ∷ rs) each; some = omega (arith, length-map rs bytes_in); few = omega (arith, length-map (r ∷ rs) bytes_in, s.batch.few) }

-- Its body may be in a frame up, and its records are read from it.
pub bodies-sent : (rs : List Record) → IsSoundBatch rs → AreSentBodies (bodies_of rs)
bodies-sent [] s = tt
bodies-sent (r ∷ rs) s =
    let packet = is-packet r rs s in
    let records = map bytes_in (r ∷ rs) in
    let head : PacketHead = record { codec = r.codec; count = length records } in (
      record {
        head = head;
        frame = record {
          is = refl;
          of_body = record { records = records; packet = packet; count = refl };
          fits = omega (arith, packed-length r.codec (r ∷ rs), s.batch.fits);
          are_bytes = packet-bytes r.codec records (body_of (r ∷ rs)) packet;
        };
      },
      tt,
    )

body-records : (r : Record) (rs : List Record) → IsSoundBatch (r ∷ rs) → records_of (body_of (r ∷ rs)) ≡ r ∷ rs
body-records r rs s =
    let own : r.codec ≡ s.batch.codec = (batch-of s.batch.codec (r ∷ rs) s.batch.one_codec s.sound).0.0 in
    let each = batch-of r.codec (r ∷ rs) (λ x has. s.batch.one_codec x has ∙ sym own) s.sound in
    records_read r.codec (map bytes_in (r ∷ rs)) (body_of (r ∷ rs)) (is-packet r rs s) ∙ same-records r.codec (r ∷ rs) each

pub bodies-records : (rs : List Record) → IsSoundBatch rs → records_by (bodies_of rs) ≡ rs
bodies-records [] s = refl
bodies-records (r ∷ rs) s = append-nil (records_of (body_of (r ∷ rs))) ∙ body-records r rs s

-- its own count
pub bodies-counts : (rs : List Record) → IsSoundBatch rs → 0 < length rs → counts_by (bodies_of rs) ≡ count_bytes (length rs)
bodies-counts [] s some = absurd (omega arith)
bodies-counts (r ∷ rs) s some = append-nil (count_bytes (length (records_of (body_of (r ∷ rs))))) ∙ ap (λ (xs : List Record). count_bytes (length xs)) (body-records r rs s)

pub bodies-one : (rs : List Record) → 0 < length rs → length (bodies_of rs) ≡ 1
bodies-one [] some = absurd (omega arith)
bodies-one (r ∷ rs) some = refl

all-of : (P : Record → Type 0) (rs : List Record) → AllByRecursion P rs → All P rs
all-of P [] each = All-nil P
all-of P (r ∷ rs) each = All-append P (r ∷ []) rs (one r each.0) (all-of P rs each.1)
  where
    one : (r : Record) → P r → All P (r ∷ [])
    one r p = λ k d low. (let none : k ≡ 0 = omega arith in subst (λ (n : ℕ). P (slice_index_or (r ∷ []) n d)) (sym none) p)

pub bodies-decided : (listed rs : List Record) → IsSoundBatch rs → AllByRecursion (Contains listed) rs → AreDecided listed (bodies_of rs)
bodies-decided listed [] s each = tt
bodies-decided listed (r ∷ rs) s each = ((let P : List Record → Type 0 = λ xs. All (Contains listed) xs in subst P (sym (body-records r rs s)) (all-of (Contains listed) (r ∷ rs) each)), tt)

-- Lists of bodies, joined.

pub sent-append : (xs ys : List (List ℕ)) → AreSentBodies xs → AreSentBodies ys → AreSentBodies (xs ++ ys)
sent-append [] ys p q = q
sent-append (x ∷ xs) ys p q = (p.0, sent-append xs ys p.1 q)

pub decided-append : (listed : List Record) (xs ys : List (List ℕ)) → AreDecided listed xs → AreDecided listed ys → AreDecided listed (xs ++ ys)
decided-append listed [] ys p q = q
decided-append listed (x ∷ xs) ys p q = (p.0, decided-append listed xs ys p.1 q)

pub frames-bytes : (bodies : List (List ℕ)) → AreSentBodies bodies → AreBytes (flat_map frame_of bodies)
frames-bytes [] p = tt
frames-bytes (b ∷ bodies) p = bytes-append (frame_of b) (flat_map frame_of bodies) (frame-bytes b p.0.frame.are_bytes) (frames-bytes bodies p.1)

-- The next batch of slots of which some are closed.

pub sound-closed : (ks : List ℕ) (slots : List (Option Held)) → AreSound slots → AreSound (closed_all ks slots)
sound-closed ks slots sound = record { each = λ k h is. sound.each k h (opened-before ks slots k h is) }

-- a batch that is selected now
pub record IsPicked (left : ℕ) (order : Order) (slots : List (Option Held)) (batch : List ℕ) : Type 0 where
  pub opens : AreOpen batch slots
  pub sound : IsSoundBatch (recs_in slots batch)
  pub held : AllByRecursion (Contains (held_of slots)) (recs_in slots batch)
  pub less : length (bodies_of (recs_in slots batch)) + one_less batch left ≡ left

pub recs-some : (slots : List (Option Held)) (batch : List ℕ) → AreOpen batch slots → 0 < length batch → 0 < length (recs_in slots batch)
recs-some slots batch opens some = omega (arith, count-recs slots batch opens)

no-batch : (left : ℕ) (order : Order) (slots : List (Option Held)) → IsPicked left order slots []
no-batch left order slots = record {
  opens = λ j has. absurd (false≢true has);
  sound = record { batch = record { codec = C8; one_codec = λ r has. absurd (omega (arith, has.1)); fits = omega arith; few = omega arith }; sound = tt };
  held = tt;
  less = omega arith;
}

picked : (left : ℕ) (order : Order) (slots : List (Option Held)) → AreSound slots → 0 < left → IsPicked left order slots (selected order 1265 slots)
picked left order slots sound some =
    let batch = selected order 1265 slots in
    let opens = selected-open order 1265 slots in
    record {
      opens = opens;
      sound = record { batch = selected-batch order 1265 slots; sound = recs-each (λ r. IsSomeRecord r.codec r.bytes) slots batch (λ k h is. (sound.each k h is).whole) };
      held = recs-each (Contains (held_of slots)) slots batch (λ k h is. held_of-open k slots h is);
      less = takes batch opens;
    }
  where
    takes : (ks : List ℕ) → AreOpen ks slots → length (bodies_of (recs_in slots ks)) + one_less ks left ≡ left
    takes [] opens = omega arith
    takes (k ∷ ks) opens = let one = bodies-one (recs_in slots (k ∷ ks)) (recs-some slots (k ∷ ks) opens (omega arith)) in let low = some in omega arith

pub picks : (left : ℕ) (order : Order) (slots : List (Option Held)) → AreSound slots → IsPicked left order slots (batch_now left order slots)
picks left order slots sound = elim (left == 0) as (λ b. (left == 0) ≡ b → IsPicked left order slots (if b then [] else selected order 1265 slots)) [
  | true ↦ λ e. no-batch left order slots
  | false ↦ λ e. picked left order slots sound (grind (arith, nat_tests))
] refl

-- the records of open slots, by the slots before some were closed
pub recs-closed : (ks batch : List ℕ) (slots : List (Option Held)) → AreOpen batch (closed_all ks slots) → recs_in (closed_all ks slots) batch ≡ recs_in slots batch
recs-closed ks [] slots opens = refl
recs-closed ks (k ∷ batch) slots opens =
    let h = opens k (has-here k k (has_slot batch k) refl) in
    let at : rec_at (closed_all ks slots) k ≡ Some h.0.rec = ap rec_in h.1 in
    let before : rec_at slots k ≡ Some h.0.rec = ap rec_in (opened-before ks slots k h.0 h.1) in
    ap (λ (o : Option Record). cons_option o (recs_in (closed_all ks slots) batch)) (at ∙ sym before)
    ∙ ap (λ (xs : List Record). cons_option (rec_at slots k) xs) (recs-closed ks batch slots (λ j has. opens j (has-there k j (has_slot batch j) has)))

-- What a run of gates that are closed leaves, before and after the sync.
use Rattle.std.proofs.Common.{◌≡◌, ◌≢◌, ◌⊎◌, inl, inr, ℕ, zero, suc, ◌+◌, ◌*◌, ◌<◌, ◌≤◌, ◌==◌, ◌||◌, Bool, true, false, IsTrue, List, [], ◌∷◌, ◌++◌, length, get_or, set, take, replicate, Option, Some, None, slice_get, sym, ◌∙◌, ap, refl, subst, arith, mul-le-mul_left, length-set, get_or-set_same, get_or-set_other}
use Rattle.std.proofs.lemmas.Bool.{cases_lt, cases_eq, eq-eqb, false≢true}
use Rattle.std.proofs.lemmas.Bool.Decides.{eqb_tells}
use Rattle.std.proofs.lemmas.List.{ext_get_or, get_or_past, take_more, take_all}
use Rattle.std.proofs.lemmas.Option.{get_or_from_slice_get, slice_get_within, slice_get-get_or, slice_get_past}
use Rattle.medium_model.specs.CallsLeft.{CallsLeft, unknown, unlimited, after, exhausted, Passes, Fails}
use Rattle.medium_model.specs.Content.{Content, written, after_write, after_sync}
use Rattle.medium_model.specs.State.{MediumState, IfTold, TornWrite, Counted, told}
use Rattle.medium_model.specs.PowerLoss.{IsImage, EveryImage}
use Rattle.medium_model.proofs.Images.{SameOutside, written-outside, counted-then}
use Rattle.medium_model.proofs.Images.{holds-map as images-map}
use Rattle.medium_model.proofs.Written.{length-written, get_or-written_before, get_or-written_there, get_or-written_behind}
use Rattle.flash_ring.specs.Held.{Held, closed_all}
use Rattle.flash_ring.specs.Slot.{slot_of, slot_bytes, slots_of, IsFlash, HoldsSound}
use Rattle.flash_ring.specs.Images.{IsSettled, HoldsWith, MayClose, OthersStay, AreOpen, has_slot, reached}
use Rattle.medium_model.specs.Images.{IsEither, unchanged, changed}
use Rattle.flash_ring.proofs.Slots.{slot_bytes-at, slot_bytes-same, slots_of-at, length-slots_of, slot_of-closed, gate-open}
use Rattle.flash_ring.proofs.Stores.{settled_images}
use Rattle.flash_ring.proofs.Writes.{flash-set, slots-set, others-outside}

-- lists of slots
pub has-cases : (x j : ℕ) (rest : Bool) → IsTrue ((x == j) || rest) → (x ≡ j) ⊎ IsTrue rest
has-cases x j rest is = elim (eqb_tells x j) as (λ _. (x ≡ j) ⊎ IsTrue rest) [
  | inl same ↦ inl same.1
  | inr other ↦ let P : Bool → Type 0 = λ b. IsTrue (b || rest) in inr (subst P other.0 is)
]

pub has-here : (x j : ℕ) (rest : Bool) → x ≡ j → IsTrue ((x == j) || rest)
has-here x j rest same = let P : Bool → Type 0 = λ b. IsTrue (b || rest) in subst P (sym (eq-eqb x j same)) refl

pub has-there : (x j : ℕ) (rest : Bool) → IsTrue rest → IsTrue ((x == j) || rest)
has-there x j rest is = elim (x == j) as (λ b. IsTrue (b || rest)) [ true ↦ refl | false ↦ is ]

pub has_slot-push_old : (ks : List ℕ) (k j : ℕ) → IsTrue (has_slot ks j) → IsTrue (has_slot (ks ++ k ∷ []) j)
has_slot-push_old [] k j is = absurd (false≢true is)
has_slot-push_old (x ∷ ks) k j is = elim (has-cases x j (has_slot ks j) is) as (λ _. IsTrue (has_slot (x ∷ ks ++ k ∷ []) j)) [
  | inl same ↦ has-here x j (has_slot (ks ++ k ∷ []) j) same
  | inr later ↦ has-there x j (has_slot (ks ++ k ∷ []) j) (has_slot-push_old ks k j later)
]

pub has_slot-push_new : (ks : List ℕ) (k : ℕ) → IsTrue (has_slot (ks ++ k ∷ []) k)
has_slot-push_new [] k = has-here k k false refl
has_slot-push_new (x ∷ ks) k = has-there x k (has_slot (ks ++ k ∷ []) k) (has_slot-push_new ks k)

pub has_slot-take : (m : ℕ) (ks : List ℕ) (j : ℕ) → IsTrue (has_slot (take m ks) j) → IsTrue (has_slot ks j)
has_slot-take zero ks j is = absurd (false≢true is)
has_slot-take (suc m) [] j is = is
has_slot-take (suc m) (x ∷ ks) j is = elim (has-cases x j (has_slot (take m ks) j) is) as (λ _. IsTrue (has_slot (x ∷ ks) j)) [
  | inl same ↦ has-here x j (has_slot ks j) same
  | inr later ↦ has-there x j (has_slot ks j) (has_slot-take m ks j later)
]

-- a test that isn't true
not_true : (b : Bool) → (IsTrue b → ⊥) → b ≡ false
not_true true no_way = absurd (no_way refl)
not_true false no_way = refl

decided : (b : Bool) → IsTrue b ⊎ (IsTrue b → ⊥)
decided true = inl refl
decided false = inr (λ is. false≢true is)

pub closed_all-push : (ks : List ℕ) (k : ℕ) (slots : List (Option Held)) → closed_all (ks ++ k ∷ []) slots ≡ set (closed_all ks slots) k None
closed_all-push [] k slots = refl
closed_all-push (x ∷ ks) k slots = closed_all-push ks k (set slots x None)

pub length-closed_all : (ks : List ℕ) (slots : List (Option Held)) → length (closed_all ks slots) ≡ length slots
length-closed_all [] slots = refl
length-closed_all (k ∷ ks) slots = length-closed_all ks (set slots k None) ∙ length-set slots k None

-- N gates have been written, and nothing was synced since.
pub record GatesShut (n : ℕ) (before : List (Option Held)) (ks : List ℕ) (base : List ℕ) (c : Content) : Type 0 where
  pub flash : IsFlash n base
  pub holds : slots_of n base ≡ before
  pub durable : c.durable ≡ base
  pub ends : length c.dirty ≤ length base
  pub gates : (p : ℕ) → get_or c.dirty p false ≡ true → (k : ℕ) × IsTrue (has_slot ks k) × (p ≡ 272 * k)

-- and what is read has them closed
pub record ReadsShut (n : ℕ) (before : List (Option Held)) (ks : List ℕ) (base : List ℕ) (reads : List ℕ) : Type 0 where
  pub flash : IsFlash n reads
  pub holds : slots_of n reads ≡ closed_all ks before
  pub others : (j : ℕ) → (IsTrue (has_slot ks j) → ⊥) → slot_bytes j reads ≡ slot_bytes j base

-- each image
module _ (n : ℕ) (before : List (Option Held)) (ks : List ℕ) (base : List ℕ) (c : Content)
    (shut : GatesShut n before ks base c) (opens : AreOpen ks before) (image : List ℕ) (im : IsImage c image) where
  image_size : length image ≡ length base
  image_size = let same = ap length shut.durable in omega (arith, im.no_shorter, im.no_longer, shut.ends)

  -- a byte that is no written gate
  image_same : (p : ℕ) → ((k : ℕ) → IsTrue (has_slot ks k) → p ≡ 272 * k → ⊥) → get_or image p 0 ≡ get_or base p 0
  image_same p no_gate = elim (cases_lt p (length base)) as (λ _. get_or image p 0 ≡ get_or base p 0) [
    | inl low ↦
        (let clean : get_or c.dirty p false ≡ false = not_true (get_or c.dirty p false) (λ dirty. let g = shut.gates p dirty in no_gate g.0 g.1 g.2) in
        im.stays p (let same = ap length shut.durable in omega arith) clean ∙ ap (λ (b : List ℕ). get_or b p 0) shut.durable)
    | inr past ↦ get_or_past image p 0 (omega (arith, image_size)) ∙ sym (get_or_past base p 0 past)
  ]

  -- a slot that isn't released
  image_other : (j : ℕ) → (IsTrue (has_slot ks j) → ⊥) → slot_bytes j image ≡ slot_bytes j base
  image_other j out = slot_bytes-same j image base image_size (λ p low. image_same (272 * j + p) (λ k is at.
      let same : k ≡ j = omega arith in
      out (let P : ℕ → Type 0 = λ i. IsTrue (has_slot ks i) in subst P same is)))

  -- a released slot with its gate open
  image_open : (j : ℕ) → get_or (slot_bytes j image) 0 0 ≡ get_or (slot_bytes j base) 0 0 → slot_bytes j image ≡ slot_bytes j base
  image_open j gate = slot_bytes-same j image base image_size (λ p low. elim (cases_eq p 0) as (λ _. get_or image (272 * j + p) 0 ≡ get_or base (272 * j + p) 0) [
    | inl first ↦
        (let at : 272 * j + p ≡ 272 * j + 0 = omega arith in
        ap (λ q. get_or image q 0) at ∙ sym (slot_bytes-at j 0 image (omega arith)) ∙ gate ∙ slot_bytes-at j 0 base (omega arith) ∙ ap (λ q. get_or base q 0) (sym at))
    | inr later ↦ image_same (272 * j + p) (λ k is at. omega arith)
  ])

  image_slot : (j : ℕ) → j < n → (slot_bytes j image ≡ slot_bytes j base) ⊎ (IsTrue (has_slot ks j) × (get_or (slot_bytes j image) 0 0 ≢ 0xA5))
  image_slot j low = elim (decided (has_slot ks j)) as (λ _. (slot_bytes j image ≡ slot_bytes j base) ⊎ (IsTrue (has_slot ks j) × (get_or (slot_bytes j image) 0 0 ≢ 0xA5))) [
    | inl is ↦ elim (cases_eq (get_or (slot_bytes j image) 0 0) 0xA5) as (λ _. (slot_bytes j image ≡ slot_bytes j base) ⊎ (IsTrue (has_slot ks j) × (get_or (slot_bytes j image) 0 0 ≢ 0xA5))) [
      | inl gate ↦
          (let held = opens j is in
          let was : slot_of (slot_bytes j base) ≡ Some held.0 = sym (slots_of-at n j base None low) ∙ ap (λ (s : List (Option Held)). get_or s j None) shut.holds ∙ get_or_from_slice_get before j (Some held.0) None held.1 in
          inl (image_open j (gate ∙ sym (gate-open (slot_bytes j base) held.0 was))))
      | inr closed ↦ inr (is, closed)
    ]
    | inr out ↦ inl (image_other j out)
  ]

  pub image-shut : HoldsWith n (MayClose ks before) image
  image-shut =
      let count : length before ≡ n = ap length (sym shut.holds) ∙ length-slots_of n base in
      record {
        sound = record {
          size = image_size ∙ shut.flash.size;
          sound = λ k low gate. elim (image_slot k low) as (λ _. HoldsSound (slot_of (slot_bytes k image))) [
            | inl same ↦ subst HoldsSound (ap slot_of (sym same)) (shut.flash.sound k low (ap (λ (b : List ℕ). get_or b 0 0) (sym same) ∙ gate))
            | inr closed ↦ absurd (closed.1 gate)
          ];
        };
        holds = record {
          size = length-slots_of n image ∙ sym count;
          each = λ j. elim (cases_lt j n) as (λ _. (slice_get (slots_of n image) j ≡ slice_get before j) ⊎ (IsTrue (has_slot ks j) × (slice_get (slots_of n image) j ≡ Some None))) [
            | inl low ↦
                (let here : slice_get (slots_of n image) j ≡ Some (slot_of (slot_bytes j image)) = slice_get-get_or (slots_of n image) j None (omega (arith, length-slots_of n image)) ∙ ap Some (slots_of-at n j image None low) in
                elim (image_slot j low) as (λ _. (slice_get (slots_of n image) j ≡ slice_get before j) ⊎ (IsTrue (has_slot ks j) × (slice_get (slots_of n image) j ≡ Some None))) [
                  | inl same ↦
                      inl (here ∙ ap Some (ap slot_of same ∙ sym (slots_of-at n j base None low) ∙ ap (λ (s : List (Option Held)). get_or s j None) shut.holds)
                      ∙ sym (slice_get-get_or before j None (omega arith)))
                  | inr closed ↦ inr (closed.0, here ∙ ap Some (slot_of-closed (slot_bytes j image) closed.1))
                ])
            | inr past ↦ inl (slice_get_past (slots_of n image) j (omega (arith, length-slots_of n image)) ∙ sym (slice_get_past before j (omega arith)))
          ];
        };
      }

-- One gate more.
module _ (n : ℕ) (before : List (Option Held)) (ks : List ℕ) (base : List ℕ) (c d : Content) (k : ℕ) (low : k < n)
    (shut : GatesShut n before ks base c) where
  gate_fits : 272 * k + 1 ≤ length base
  gate_fits = let size = shut.flash.size in let m : 272 * (k + 1) ≤ 272 * n = mul-le-mul_left 272 (omega arith) in omega (arith, m)

  pub gates-more : d.durable ≡ c.durable → d.dirty ≡ written false (272 * k) (replicate 1 true) c.dirty → GatesShut n before (ks ++ k ∷ []) base d
  gates-more durable dirty = record {
    flash = shut.flash;
    holds = shut.holds;
    durable = durable ∙ shut.durable;
    ends = let m = ap length dirty ∙ length-written false (272 * k) (replicate 1 true) c.dirty in omega (arith, shut.ends, gate_fits, m);
    gates = λ p marked.
        let now = ap (λ (b : List Bool). get_or b p false) (sym dirty) ∙ marked in
        let Goal : Type 0 = (j : ℕ) × IsTrue (has_slot (ks ++ k ∷ []) j) × (p ≡ 272 * j) in
        let old = λ (was : get_or c.dirty p false ≡ true). let g = shut.gates p was in
        let goal : Goal = (g.0, has_slot-push_old ks k g.0 g.1, g.2) in goal in
        elim (cases_lt p (272 * k)) as (λ _. Goal) [
          | inl below ↦ old (sym (get_or-written_before false (272 * k) (replicate 1 true) c.dirty p below) ∙ now)
          | inr from ↦ elim (cases_eq p (272 * k)) as (λ _. Goal) [
            | inl here ↦ (k, has_slot-push_new ks k, here)
            | inr other ↦ old (sym (get_or-written_behind false (272 * k) (replicate 1 true) c.dirty p (omega arith)) ∙ now)
          ]
        ];
  }

  module _ (reads : List ℕ) (was : ReadsShut n before ks base reads) where
    reads-outside : SameOutside (272 * k) 1 reads (written 0 (272 * k) (0 ∷ []) reads)
    reads-outside = written-outside (272 * k) (0 ∷ []) reads (let size = shut.flash.size in omega (arith, gate_fits, was.flash.size))

    reads_others : (j : ℕ) → j < n → j ≢ k → slot_bytes j (written 0 (272 * k) (0 ∷ []) reads) ≡ slot_bytes j reads
    reads_others j _ other = others-outside k (272 * k) 1 reads _ (omega arith) (omega arith) reads-outside j other

    shut_gate : get_or (slot_bytes k (written 0 (272 * k) (0 ∷ []) reads)) 0 0 ≢ 0xA5
    shut_gate gate =
        let zero_there : get_or (slot_bytes k (written 0 (272 * k) (0 ∷ []) reads)) 0 0 ≡ 0 =
        slot_bytes-at k 0 (written 0 (272 * k) (0 ∷ []) reads) (omega arith) ∙ get_or-written_there 0 (272 * k) (0 ∷ []) reads 0 (omega arith) in
        omega (arith, zero_there, gate)

    pub reads-more : ReadsShut n before (ks ++ k ∷ []) base (written 0 (272 * k) (0 ∷ []) reads)
    reads-more = record {
      flash = flash-set n k reads _ (closed_all ks before) was.flash was.holds low reads-outside.size reads_others (λ gate. absurd (shut_gate gate));
      holds =
          slots-set n k reads _ (closed_all ks before) was.flash was.holds low reads-outside.size reads_others (λ gate. absurd (shut_gate gate)) None (slot_of-closed _ shut_gate)
          ∙ sym (closed_all-push ks k before);
      others = λ j out.
          let other : j ≢ k = λ same. out (let P : ℕ → Type 0 = λ i. IsTrue (has_slot (ks ++ k ∷ []) i) in subst P (sym same) (has_slot-push_new ks k)) in
          others-outside k (272 * k) 1 reads _ (omega arith) (omega arith) reads-outside j other ∙ was.others j (λ is. out (has_slot-push_old ks k j is));
    }

-- The same where the content is told.
abbrev pub Shut : ℕ → List (Option Held) → List ℕ → Option Content → Option Content → Type 0
Shut n before ks None now = now ≡ None
Shut n before ks (Some first) now = (c : Content) × (now ≡ Some c) × GatesShut n before ks first.reads c × ReadsShut n before ks first.reads c.reads

pub shut-more : (n : ℕ) (before : List (Option Held)) (ks : List ℕ) (told0 told1 told2 : Option Content) (k : ℕ) → k < n → Shut n before ks told0 told1
    → told2 ≡ told (after_write (272 * k) (0 ∷ [])) told1 → Shut n before (ks ++ k ∷ []) told0 told2
shut-more n before ks None told1 told2 k low was wrote = wrote ∙ ap (told (after_write (272 * k) (0 ∷ []))) was
shut-more n before ks (Some first) told1 told2 k low (c, is, gates, reads) wrote = (
  after_write (272 * k) (0 ∷ []) c,
  wrote ∙ ap (told (after_write (272 * k) (0 ∷ []))) is,
  gates-more n before ks first.reads c (after_write (272 * k) (0 ∷ []) c) k low gates refl refl,
  reads-more n before ks first.reads c (after_write (272 * k) (0 ∷ []) c) k low gates c.reads reads,
)

pub shut-images : (n : ℕ) (before : List (Option Held)) (ks : List ℕ) (told0 told1 told2 : Option Content) → AreOpen ks before → Shut n before ks told0 told1 → told2 ≡ told1
    → EveryImage told2 (HoldsWith n (MayClose ks before))
shut-images n before ks None told1 told2 opens was same = let P : Option Content → Type 0 = λ o. EveryImage o (HoldsWith n (MayClose ks before)) in subst P (sym (same ∙ was)) tt
shut-images n before ks (Some first) told1 told2 opens (c, is, gates, reads) same =
    let P : Option Content → Type 0 = λ o. EveryImage o (HoldsWith n (MayClose ks before)) in
    subst P (sym (same ∙ is)) (image-shut n before ks first.reads c gates opens)

pub shut-torn : (n : ℕ) (before : List (Option Held)) (ks : List ℕ) (told0 told1 told2 : Option Content) (k : ℕ) → k < n → AreOpen (ks ++ k ∷ []) before → Shut n before ks told0 told1
    → TornWrite (272 * k) 1 told1 told2 → EveryImage told2 (HoldsWith n (MayClose (ks ++ k ∷ []) before))
shut-torn n before ks None told1 told2 k low opens was torn =
    let P : Option Content → Type 0 = λ o. EveryImage o (HoldsWith n (MayClose (ks ++ k ∷ []) before)) in
    let Q : Option Content → Type 0 = λ o. TornWrite (272 * k) 1 o told2 in
    subst P (sym (subst Q was torn)) tt
shut-torn n before ks (Some first) told1 told2 k low opens (c, is, gates, reads) torn =
    let P : Option Content → Type 0 = λ o. EveryImage o (HoldsWith n (MayClose (ks ++ k ∷ []) before)) in
    let Q : Option Content → Type 0 = λ o. TornWrite (272 * k) 1 o told2 in
    let t = subst Q is torn in
    subst P (sym t.1) (image-shut n before (ks ++ k ∷ []) first.reads t.0 (gates-more n before ks first.reads c t.0 k low gates t.2.durable t.2.dirty) opens)

pub shut-settled : (n : ℕ) (before : List (Option Held)) (ks : List ℕ) (told0 told1 told2 : Option Content) → Shut n before ks told0 told1 → told2 ≡ told after_sync told1
    → IfTold told2 (IsSettled n (closed_all ks before))
shut-settled n before ks None told1 told2 was done =
    let P : Option Content → Type 0 = λ o. IfTold o (IsSettled n (closed_all ks before)) in subst P (sym (done ∙ ap (told after_sync) was)) tt
shut-settled n before ks (Some first) told1 told2 (c, is, gates, reads) done =
    let P : Option Content → Type 0 = λ o. IfTold o (IsSettled n (closed_all ks before)) in
    subst P (sym (done ∙ ap (told after_sync) is)) (record { rest = refl; sound = reads.flash; holds = reads.holds })

pub shut-others : (n : ℕ) (before : List (Option Held)) (ks : List ℕ) (told0 told1 told2 : Option Content) → Shut n before ks told0 told1 → told2 ≡ told after_sync told1
    → OthersStay ks told0 told2
shut-others n before ks None told1 told2 was done = tt
shut-others n before ks (Some first) told1 told2 (c, is, gates, reads) done =
    let P : Option Content → Type 0 = λ o. OthersStay ks (Some first) o in
    subst P (sym (done ∙ ap (told after_sync) is)) (λ j out. reads.others j out)

-- A part of what may be closed.
pub closes-more : (ks more : List ℕ) (before left : List (Option Held)) → ((j : ℕ) → IsTrue (has_slot ks j) → IsTrue (has_slot more j)) → MayClose ks before left → MayClose more before left
closes-more ks more before left so may = record {
  size = may.size;
  each = λ j. elim (may.each j) as (λ _. (slice_get left j ≡ slice_get before j) ⊎ (IsTrue (has_slot more j) × (slice_get left j ≡ Some None))) [
    | inl same ↦ inl same
    | inr closed ↦ inr (so j closed.0, closed.1)
  ];
}

-- the power loss met gate i, or the sync after the last one
pub closes-reached : (left : CallsLeft) (i : ℕ) (ks : List ℕ) (before slots : List (Option Held)) → (Fails i left → ⊥) → (Passes (i + 1) left → ⊥)
    → MayClose (take (i + 1) ks) before slots → MayClose (reached left ks) before slots
closes-reached unknown i ks before slots not_before here may = closes-more (take (i + 1) ks) ks before slots (has_slot-take (i + 1) ks) may
closes-reached unlimited i ks before slots not_before here may = absurd (here tt)
closes-reached (after m) i ks before slots not_before here may =
    let same : m ≡ i = omega arith in
    let P : ℕ → Type 0 = λ q. MayClose (take (q + 1) ks) before slots in subst P (sym same) may
closes-reached exhausted i ks before slots not_before here may =
    let none : i ≡ 0 = omega arith in
    let P : ℕ → Type 0 = λ q. MayClose (take (q + 1) ks) before slots in subst P none may

-- every call passed
pub closes-whole : (left : CallsLeft) (ks : List ℕ) (before slots : List (Option Held)) → (Fails (length ks + 1) left → ⊥) → MayClose ks before slots → MayClose (reached left ks) before slots
closes-whole unknown ks before slots passed may = may
closes-whole unlimited ks before slots passed may = may
closes-whole (after m) ks before slots passed may =
    let P : List ℕ → Type 0 = λ xs. MayClose xs before slots in subst P (sym (take_all (m + 1) ks (omega arith))) may
closes-whole exhausted ks before slots passed may = absurd (passed (omega arith))

-- all of the slots closed
may-close_set : (k : ℕ) (ks : List ℕ) (before left : List (Option Held)) → MayClose ks (set before k None) left → MayClose (k ∷ ks) before left
may-close_set k ks before left may = record {
  size = may.size ∙ length-set before k None;
  each = λ j.
      let Goal : Type 0 = (slice_get left j ≡ slice_get before j) ⊎ (IsTrue (has_slot (k ∷ ks) j) × (slice_get left j ≡ Some None)) in
      elim (may.each j) as (λ _. Goal) [
        | inl same ↦ elim (cases_eq k j) as (λ _. Goal) [
          | inl here ↦ elim (cases_lt j (length before)) as (λ _. Goal) [
            | inl low ↦ inr (
              has-here k j (has_slot ks j) here,
              same ∙ slice_get-get_or (set before k None) j None (omega (arith, length-set before k None))
                  ∙ ap Some (ap (λ i. get_or (set before i None) j None) here ∙ get_or-set_same before j None None low),
            )
            | inr past ↦ inl (same ∙ slice_get_past (set before k None) j (omega (arith, length-set before k None)) ∙ sym (slice_get_past before j past))
          ]
          | inr other ↦ elim (cases_lt j (length before)) as (λ _. Goal) [
            | inl low ↦ inl (same ∙ slice_get-get_or (set before k None) j None (omega (arith, length-set before k None))
                ∙ ap Some (get_or-set_other before k j None None (λ eq. other (sym eq))) ∙ sym (slice_get-get_or before j None low))
            | inr past ↦ inl (same ∙ slice_get_past (set before k None) j (omega (arith, length-set before k None)) ∙ sym (slice_get_past before j past))
          ]
        ]
        | inr closed ↦ inr (has-there k j (has_slot ks j) closed.0, closed.1)
      ];
}

pub may-close_all : (ks : List ℕ) (before : List (Option Held)) → MayClose ks before (closed_all ks before)
may-close_all [] before = record { size = refl; each = λ j. inl refl }
may-close_all (k ∷ ks) before = may-close_set k ks before (closed_all ks (set before k None)) (may-close_all ks (set before k None))

pub has_slot-at : (xs : List ℕ) (i : ℕ) → i < length xs → IsTrue (has_slot xs (get_or xs i 0))
has_slot-at [] i low = absurd (omega arith)
has_slot-at (x ∷ xs) zero low = has-here x x (has_slot xs x) refl
has_slot-at (x ∷ xs) (suc i) low = has-there x (get_or xs i 0) (has_slot xs (get_or xs i 0)) (has_slot-at xs i (omega arith))

pub slot-low : (xs : List ℕ) (held : List (Option Held)) → AreOpen xs held → (i : ℕ) → i < length xs → get_or xs i 0 < length held
slot-low xs held opens i low = let there = opens (get_or xs i 0) (has_slot-at xs i low) in slice_get_within held (get_or xs i 0) (Some there.0) there.1

pub gate-ready : (xs : List ℕ) (held : List (Option Held)) (i ready now : ℕ) → AreOpen xs held → i < length xs → 272 * length held ≤ ready → ready ≤ now → 272 * get_or xs i 0 + 1 ≤ now
gate-ready xs held i ready now opens low enough later =
    let below = slot-low xs held opens i low in
    let m : 272 * (get_or xs i 0 + 1) ≤ 272 * length held = mul-le-mul_left 272 (omega arith) in
    omega (arith, m)

-- what holds of the slots of each image, weakened
pub holds-map : (n : ℕ) (o : Option Content) (P Q : List (Option Held) → Type 0) → ((left : List (Option Held)) → P left → Q left) → EveryImage o (HoldsWith n P) → EveryImage o (HoldsWith n Q)
holds-map n o P Q so every = images-map (IsFlash n) (slots_of n) P Q o so every

-- The exits of the call that closes slots: i gates were written.
module _ (held : List (Option Held)) (xs : List ℕ) (opens : AreOpen xs held) (start now then_ : MediumState) (i : ℕ)
    (counted : Counted i start now ⊥) (shut : Shut (length held) held (take i xs) start.content now.content) where
  pub exit-gate_failed : i < length xs → TornWrite (272 * get_or xs i 0) 1 now.content then_.content → {failed : Type 0} → Counted 1 now then_ failed → failed
      → EveryImage then_.content (HoldsWith (length held) (MayClose (reached start.left xs) held))
  exit-gate_failed low torn then_counted fails =
      let n = length held in
      let more : take (i + 1) xs ≡ take i xs ++ get_or xs i 0 ∷ [] = take_more xs i 0 low in
      let some_open = λ (j : ℕ) (is : IsTrue (has_slot (take i xs ++ get_or xs i 0 ∷ []) j)).
      opens j (has_slot-take (i + 1) xs j (let P : List ℕ → Type 0 = λ ks. IsTrue (has_slot ks j) in subst P (sym more) is)) in
      holds-map n then_.content (MayClose (take i xs ++ get_or xs i 0 ∷ []) held) (MayClose (reached start.left xs) held)
      (λ left may. closes-reached start.left i xs held left counted.fails (λ passes. (counted-then counted then_counted).passes passes fails)
      (let P : List ℕ → Type 0 = λ ks. MayClose ks held left in subst P (sym more) may))
      (shut-torn n held (take i xs) start.content now.content then_.content (get_or xs i 0) (slot-low xs held opens i low) some_open shut torn)

  pub gate-written : i < length xs → then_.content ≡ told (after_write (272 * get_or xs i 0) (0 ∷ [])) now.content
      → Shut (length held) held (take (i + 1) xs) start.content then_.content
  gate-written low wrote =
      let more : take (i + 1) xs ≡ take i xs ++ get_or xs i 0 ∷ [] = take_more xs i 0 low in
      let P : List ℕ → Type 0 = λ ks. Shut (length held) held ks start.content then_.content in
      subst P (sym more) (shut-more (length held) held (take i xs) start.content now.content then_.content (get_or xs i 0) (slot-low xs held opens i low) shut wrote)

  pub exit-sync_failed : length xs ≤ i → then_.content ≡ now.content → {failed : Type 0} → Counted 1 now then_ failed → failed
      → EveryImage then_.content (HoldsWith (length held) (MayClose (reached start.left xs) held))
  exit-sync_failed done same then_counted fails =
      let n = length held in
      let some_open = λ (j : ℕ) (is : IsTrue (has_slot (take i xs) j)). opens j (has_slot-take i xs j is) in
      holds-map n then_.content (MayClose (take i xs) held) (MayClose (reached start.left xs) held)
      (λ left may. closes-reached start.left i xs held left counted.fails (λ passes. (counted-then counted then_counted).passes passes fails)
      (let P : List ℕ → Type 0 = λ ks. MayClose ks held left in subst P (take_all i xs done ∙ sym (take_all (i + 1) xs (omega arith))) may))
      (shut-images n held (take i xs) start.content now.content then_.content some_open shut same)

  pub exit-closed : i ≡ length xs → then_.content ≡ told after_sync now.content → IfTold then_.content (IsSettled (length held) (closed_all xs held)) × OthersStay xs start.content then_.content
  exit-closed done synced =
      let n = length held in
      let all : take i xs ≡ xs = take_all i xs (omega arith) in
      let P : List ℕ → Type 0 = λ ks. IfTold then_.content (IsSettled n (closed_all ks held)) in
      let Q : List ℕ → Type 0 = λ ks. OthersStay ks start.content then_.content in (
        subst P all (shut-settled n held (take i xs) start.content now.content then_.content shut synced),
        subst Q all (shut-others n held (take i xs) start.content now.content then_.content shut synced),
      )

  pub exit-closed_images : i ≡ length xs → then_.content ≡ told after_sync now.content → {failed : Type 0} → Counted 1 now then_ failed → (failed → ⊥)
      → EveryImage then_.content (HoldsWith (length held) (MayClose (reached start.left xs) held))
  exit-closed_images done synced then_counted passed =
      let n = length held in
      settled_images n (closed_all xs held) then_.content (MayClose (reached start.left xs) held)
      (λ left is. closes-whole start.left xs held left
      (λ fails. passed ((counted-then counted then_counted).fails (let P : ℕ → Type 0 = λ m. Fails (m + 1) start.left in subst P (sym done) fails)))
      (subst (MayClose xs held) (sym is) (may-close_all xs held)))
      (exit-closed done synced).0

pub only_here : (k j : ℕ) → IsTrue (has_slot (k ∷ []) j) → k ≡ j
only_here k j is = elim (has-cases k j false is) as (λ _. k ≡ j) [ inl same ↦ same | inr never ↦ absurd (false≢true never) ]

-- a list that is the other's at a place
same_get : (a b : List (Option Held)) (j : ℕ) → slice_get a j ≡ slice_get b j → j < length a → j < length b → get_or a j None ≡ get_or b j None
same_get a b j same low_a low_b =
    let here : Some (get_or a j None) ≡ Some (get_or b j None) = sym (slice_get-get_or a j None low_a) ∙ same ∙ slice_get-get_or b j None low_b in cc

cases_none : (x : Option Held) → (x ≡ None) ⊎ (x ≡ None → ⊥)
cases_none None = inl refl
cases_none (Some h) = inr (λ e. cc)

only_one : (left : CallsLeft) (k j : ℕ) → IsTrue (has_slot (reached left (k ∷ [])) j) → k ≡ j
only_one unknown k j is = only_here k j is
only_one unlimited k j is = only_here k j is
only_one (after m) k j is = only_here k j (has_slot-take (m + 1) (k ∷ []) j is)
only_one exhausted k j is = only_here k j is

-- one slot alone
pub closes-one : (left : CallsLeft) (k : ℕ) (before slots : List (Option Held)) → k < length before → MayClose (reached left (k ∷ [])) before slots → IsEither before (set before k None) slots
closes-one left k before slots low may =
    let one = λ (j : ℕ) (is : IsTrue (has_slot (reached left (k ∷ [])) j)). only_one left k j is in
    elim (cases_none (get_or slots k None)) as (λ _. IsEither before (set before k None) slots) [
      | inl none ↦ changed (ext_get_or None slots (set before k None) (may.size ∙ sym (length-set before k None)) (λ j below.
          elim (cases_eq j k) as (λ _. get_or slots j None ≡ get_or (set before k None) j None) [
            | inl same ↦ ap (λ i. get_or slots i None) same ∙ none ∙ sym (get_or-set_same before k None None low) ∙ ap (λ i. get_or (set before k None) i None) (sym same)
            | inr other ↦ elim (may.each j) as (λ _. get_or slots j None ≡ get_or (set before k None) j None) [
              | inl as_before ↦ same_get slots before j as_before (omega arith) (let size = may.size in omega arith) ∙ sym (get_or-set_other before k j None None other)
              | inr closed ↦ absurd (other (sym (one j closed.0)))
            ]
          ]))
      | inr some ↦ unchanged (ext_get_or None slots before may.size (λ j below.
          elim (may.each j) as (λ _. get_or slots j None ≡ get_or before j None) [
            | inl as_before ↦ same_get slots before j as_before (omega arith) (let size = may.size in omega arith)
            | inr closed ↦ absurd (some (ap (λ i. get_or slots i None) (one j closed.0) ∙ get_or_from_slice_get slots j None None closed.1))
          ]))
    ]

-- What each of the four calls that store a record leaves.
use Rattle.std.proofs.Common.{◌≡◌, ◌≢◌, ◌⊎◌, inl, inr, ℕ, ◌+◌, ◌*◌, ◌<◌, ◌≤◌, List, [], ◌∷◌, length, get_or, set, Option, Some, None, slice_get, sym, ◌∙◌, ap, refl, subst, arith, mul-le-mul_left}
use Rattle.std.proofs.lemmas.Bool.Decides.{nat_tests}
use Rattle.std.proofs.lemmas.Option.{slice_get_within}
use Rattle.medium_model.specs.Content.{Content, settled, written, after_write, after_sync}
use Rattle.medium_model.specs.State.{IfTold, TornWrite, told}
use Rattle.medium_model.specs.PowerLoss.{EveryImage}
use Rattle.medium_model.proofs.Images.{SameOutside, WritesWithin, settled-images, written-outside, told-map, images-written, images-torn}
use Rattle.medium_model.proofs.Written.{get_or-written_there}
use Rattle.flash_ring.specs.Held.{Held, IsSoundHeld}
use Rattle.flash_ring.specs.Slot.{body_of, slot_bytes, slots_of, IsFlash}
use Rattle.flash_ring.specs.Images.{IsSettled, HoldsWith, OthersStay}
use Rattle.medium_model.specs.Images.{IsEither, IsSame, unchanged, changed}
use Rattle.flash_ring.proofs.Slots.{slot_bytes-at}
use Rattle.flash_ring.proofs.Writes.{length-body_of, body-flash, body-slots, body-outside, gate-flash, gate-slots, gate-stored, others-outside, ends}

-- the body of one closed slot has been written, and is durable
record HasBody (n slot : ℕ) (slots : List (Option Held)) (h : Held) (c : Content) : Type 0 where
  base : List ℕ
  flash : IsFlash n base
  holds : slots_of n base ≡ slots
  is : c ≡ settled (written 0 (272 * slot + 1) (body_of h) base)

either : (before after left : List (Option Held)) → (left ≡ before) ⊎ (left ≡ after) → IsEither before after left
either before after left (inl same) = unchanged same
either before after left (inr other) = changed other

-- What is settled is in each image.
pub settled_images : (n : ℕ) (slots : List (Option Held)) (o : Option Content) (P : List (Option Held) → Type 0) → ((left : List (Option Held)) → left ≡ slots → P left)
    → IfTold o (IsSettled n slots) → EveryImage o (HoldsWith n P)
settled_images n slots o P so is = settled-images (IsFlash n) (slots_of n) (IsSame slots) P o so is

module _ (n slot : ℕ) (slots : List (Option Held)) (h : Held)
    (low : slot < n) (closed : slice_get slots slot ≡ Some None)
    (fits : length h.rec.bytes ≤ 255) (sound : IsSoundHeld h) where
  -- while the body is written
  body_within : (at m : ℕ) → at ≡ 272 * slot + 1 → m ≡ 271 → (c : Content) → IsSettled n slots c
      → WritesWithin at m (HoldsWith n (IsEither slots (set slots slot (Some h)))) c
  body_within at m is_at is_m c was = record {
    rest = was.rest;
    fits = omega (arith, ends n slot c.reads slots h was.sound was.holds low closed fits sound);
    each = λ image same0.
        let P : ℕ → Type 0 = λ k. SameOutside k m c.reads image in
        let Q : ℕ → Type 0 = λ k. SameOutside (272 * slot + 1) k c.reads image in
        let same = subst Q is_m (subst P is_at same0) in
        record {
          sound = body-flash n slot c.reads slots was.sound was.holds low closed image same;
          holds = unchanged (body-slots n slot c.reads slots was.sound was.holds low closed image same);
        };
  }

  pub body_failed : (told0 told1 : Option Content) (at m : ℕ) → at ≡ 272 * slot + 1 → m ≡ 271 → IfTold told0 (IsSettled n slots) → TornWrite at m told0 told1
      → EveryImage told1 (HoldsWith n (IsEither slots (set slots slot (Some h))))
  body_failed told0 told1 at m is_at is_m was torn = images-torn told0 told1 at m _ (told-map told0 _ _ (body_within at m is_at is_m) was) torn

  pub body_written : (told0 told1 : Option Content) (at : ℕ) → at ≡ 272 * slot + 1 → IfTold told0 (IsSettled n slots) → told1 ≡ told (after_write at (body_of h)) told0
      → EveryImage told1 (HoldsWith n (IsEither slots (set slots slot (Some h))))
  body_written told0 told1 at is_at was done =
      images-written told0 told1 at (body_of h) _ (told-map told0 _ _ (body_within at (length (body_of h)) is_at (length-body_of h fits)) was) done

  -- the body is durable
  has_body : (told0 told1 told2 : Option Content) (at : ℕ) → at ≡ 272 * slot + 1 → IfTold told0 (IsSettled n slots) → told1 ≡ told (after_write at (body_of h)) told0
      → told2 ≡ told after_sync told1 → IfTold told2 (HasBody n slot slots h)
  has_body None told1 told2 at is_at was written synced =
      let P : Option Content → Type 0 = λ o. IfTold o (HasBody n slot slots h) in
      subst P (sym (synced ∙ ap (told after_sync) written)) tt
  has_body (Some c) told1 told2 at is_at was wrote synced =
      let P : Option Content → Type 0 = λ o. IfTold o (HasBody n slot slots h) in
      subst P (sym (synced ∙ ap (told after_sync) wrote)) (record {
        base = c.reads;
        flash = was.sound;
        holds = was.holds;
        is = ap (λ p. settled (written 0 p (body_of h) c.reads)) is_at;
      })

  -- while the gate is written
  gate_within : (at m : ℕ) → at ≡ 272 * slot → m ≡ 1 → (c : Content) → HasBody n slot slots h c
      → WritesWithin at m (HoldsWith n (IsEither slots (set slots slot (Some h)))) c
  gate_within at m is_at is_m c was =
      let base = was.base in
      let reads = ap (λ (d : Content). d.reads) was.is in
      let size = ap length reads ∙ (body-outside n slot base slots h was.flash was.holds low closed fits sound).size in
      record {
        rest = was.is ∙ ap settled (sym reads);
        fits = omega (arith, ends n slot base slots h was.flash was.holds low closed fits sound, size);
        each = λ image same0.
            let P : ℕ → Type 0 = λ k. SameOutside k m c.reads image in
            let Q : ℕ → Type 0 = λ k. SameOutside (272 * slot) k c.reads image in
            let R : List ℕ → Type 0 = λ b. SameOutside (272 * slot) 1 b image in
            let same = subst R reads (subst Q is_m (subst P is_at same0)) in
            record {
              sound = gate-flash n slot base slots h was.flash was.holds low closed fits sound image same;
              holds = either slots (set slots slot (Some h)) _ (gate-slots n slot base slots h was.flash was.holds low closed fits sound image same);
            };
      }

  module _ (told0 told1 told2 : Option Content) (at_body : ℕ) (is_at_body : at_body ≡ 272 * slot + 1) (was : IfTold told0 (IsSettled n slots))
      (wrote : told1 ≡ told (after_write at_body (body_of h)) told0) (synced : told2 ≡ told after_sync told1) where
    pub gate_failed : (told3 : Option Content) (at m : ℕ) → at ≡ 272 * slot → m ≡ 1 → TornWrite at m told2 told3
        → EveryImage told3 (HoldsWith n (IsEither slots (set slots slot (Some h))))
    gate_failed told3 at m is_at is_m torn =
        images-torn told2 told3 at m _ (told-map told2 _ _ (gate_within at m is_at is_m) (has_body told0 told1 told2 at_body is_at_body was wrote synced)) torn

    pub gate_written : (told3 : Option Content) (at : ℕ) → at ≡ 272 * slot → told3 ≡ told (after_write at (0xA5 ∷ [])) told2
        → EveryImage told3 (HoldsWith n (IsEither slots (set slots slot (Some h))))
    gate_written told3 at is_at done =
        images-written told2 told3 at (0xA5 ∷ []) _ (told-map told2 _ _ (gate_within at 1 is_at refl) (has_body told0 told1 told2 at_body is_at_body was wrote synced)) done

  -- the gate is durable
  stored_content : (c : Content) → HasBody n slot slots h c → IsSettled n (set slots slot (Some h)) (settled (written 0 (272 * slot) (0xA5 ∷ []) c.reads))
  stored_content c was =
      let base = was.base in
      let body = written 0 (272 * slot + 1) (body_of h) base in
      let reads : c.reads ≡ body = ap (λ (d : Content). d.reads) was.is in
      let size = (body-outside n slot base slots h was.flash was.holds low closed fits sound).size in
      let image = written 0 (272 * slot) (0xA5 ∷ []) body in
      let same = written-outside (272 * slot) (0xA5 ∷ []) body (omega (arith, ends n slot base slots h was.flash was.holds low closed fits sound, size)) in
      let place : 272 * slot + 0 ≡ 272 * slot = omega arith in
      let gate : get_or (slot_bytes slot image) 0 0 ≡ 0xA5 = slot_bytes-at slot 0 image (omega arith) ∙ get_or-written_there 0 (272 * slot) (0xA5 ∷ []) body 0 (omega arith) in
      let P : List ℕ → Type 0 = λ b. IsSettled n (set slots slot (Some h)) (settled (written 0 (272 * slot) (0xA5 ∷ []) b)) in
      subst P (sym reads) (record {
        rest = refl;
        sound = gate-flash n slot base slots h was.flash was.holds low closed fits sound image same;
        holds = gate-stored n slot base slots h was.flash was.holds low closed fits sound image same gate;
      })

  pub stored : (told0 told1 told2 told3 told4 : Option Content) (at_body at : ℕ) → at_body ≡ 272 * slot + 1 → at ≡ 272 * slot → IfTold told0 (IsSettled n slots)
      → told1 ≡ told (after_write at_body (body_of h)) told0 → told2 ≡ told after_sync told1
      → told3 ≡ told (after_write at (0xA5 ∷ [])) told2 → told4 ≡ told after_sync told3
      → IfTold told4 (IsSettled n (set slots slot (Some h)))
  stored told0 told1 None told3 told4 at_body at is_body is_at was wrote synced opened done =
      let P : Option Content → Type 0 = λ o. IfTold o (IsSettled n (set slots slot (Some h))) in
      subst P (sym (done ∙ ap (told after_sync) opened)) tt
  stored told0 told1 (Some c) told3 told4 at_body at is_body is_at was wrote synced opened done =
      let P : Option Content → Type 0 = λ o. IfTold o (IsSettled n (set slots slot (Some h))) in
      let Q : ℕ → Type 0 = λ p. IsSettled n (set slots slot (Some h)) (settled (written 0 p (0xA5 ∷ []) c.reads)) in
      subst P (sym (done ∙ ap (told after_sync) opened)) (subst Q (sym is_at) (stored_content c (has_body told0 told1 (Some c) at_body is_body was wrote synced)))

-- the other slots stay
pub stored_others : (n slot : ℕ) (slots : List (Option Held)) (h : Held) → slot < n → length h.rec.bytes ≤ 255
    → (told0 told1 told2 told3 told4 : Option Content) (at_body at : ℕ) → at_body ≡ 272 * slot + 1 → at ≡ 272 * slot → IfTold told0 (IsSettled n slots)
    → told1 ≡ told (after_write at_body (body_of h)) told0 → told2 ≡ told after_sync told1
    → told3 ≡ told (after_write at (0xA5 ∷ [])) told2 → told4 ≡ told after_sync told3
    → OthersStay (slot ∷ []) told0 told4
stored_others n slot slots h low fits None told1 told2 told3 told4 at_body at is_body is_at was wrote synced opened done = tt
stored_others n slot slots h low fits (Some c) told1 told2 told3 told4 at_body at is_body is_at was wrote synced opened done =
    let P : Option Content → Type 0 = λ o. OthersStay (slot ∷ []) (Some c) o in
    let ends_is : 272 * slot + 272 ≤ length c.reads = (let size = was.sound.size in let m : 272 * (slot + 1) ≤ 272 * n = mul-le-mul_left 272 (omega arith) in omega (arith, m)) in
    let first = written-outside at_body (body_of h) c.reads (omega (arith, length-body_of h fits)) in
    let body = written 0 at_body (body_of h) c.reads in
    let second = written-outside at (0xA5 ∷ []) body (omega (arith, first.size)) in
    subst P (sym (done ∙ ap (told after_sync) (opened ∙ ap (told (after_write at (0xA5 ∷ []))) (synced ∙ ap (told after_sync) wrote))))
    (λ j out.
    let other : j ≢ slot = λ same. out (grind (arith, nat_tests)) in
    others-outside slot at 1 body _ (omega arith) (omega arith) second j other
    ∙ others-outside slot at_body (length (body_of h)) c.reads body (omega arith) (omega (arith, length-body_of h fits)) first j other)

-- The same with the bytes that were handed over, for the exits of the call.
module _ (n slot : ℕ) (slots : List (Option Held)) (h : Held)
    (closed : slice_get slots slot ≡ Some None) (size : length slots ≡ n)
    (fits : length h.rec.bytes ≤ 255) (sound : IsSoundHeld h)
    (bytes : List ℕ) (is : bytes ≡ body_of h)
    (told0 : Option Content) (was : IfTold told0 (IsSettled n slots)) where
  within_slots : slot < n
  within_slots = let low = slice_get_within slots slot None closed in omega (arith, low)

  wrote_body : (told1 : Option Content) → told1 ≡ told (after_write (272 * slot + 1) bytes) told0 → told1 ≡ told (after_write (272 * slot + 1) (body_of h)) told0
  wrote_body told1 wrote = wrote ∙ ap (λ (b : List ℕ). told (after_write (272 * slot + 1) b) told0) is

  pub exit-body : (told1 : Option Content) → TornWrite (272 * slot + 1) (length bytes) told0 told1
      → EveryImage told1 (HoldsWith n (IsEither slots (set slots slot (Some h))))
  exit-body told1 torn = body_failed n slot slots h within_slots closed fits sound told0 told1 _ _ refl (ap length is ∙ length-body_of h fits) was torn

  pub exit-first_sync : (told1 told2 : Option Content) → told1 ≡ told (after_write (272 * slot + 1) bytes) told0 → told2 ≡ told1
      → EveryImage told2 (HoldsWith n (IsEither slots (set slots slot (Some h))))
  exit-first_sync told1 told2 wrote same =
      let P : Option Content → Type 0 = λ o. EveryImage o (HoldsWith n (IsEither slots (set slots slot (Some h)))) in
      subst P (sym same) (body_written n slot slots h within_slots closed fits sound told0 told1 _ refl was (wrote_body told1 wrote))

  module _ (told1 told2 : Option Content) (wrote : told1 ≡ told (after_write (272 * slot + 1) bytes) told0) (synced : told2 ≡ told after_sync told1) where
    pub exit-gate : (told3 : Option Content) → TornWrite (272 * slot) 1 told2 told3 → EveryImage told3 (HoldsWith n (IsEither slots (set slots slot (Some h))))
    exit-gate told3 torn =
        gate_failed n slot slots h within_slots closed fits sound told0 told1 told2 _ refl was (wrote_body told1 wrote) synced told3 _ _ refl refl torn

    pub exit-last_sync : (told3 told4 : Option Content) → told3 ≡ told (after_write (272 * slot) (0xA5 ∷ [])) told2 → told4 ≡ told3
        → EveryImage told4 (HoldsWith n (IsEither slots (set slots slot (Some h))))
    exit-last_sync told3 told4 opened same =
        let P : Option Content → Type 0 = λ o. EveryImage o (HoldsWith n (IsEither slots (set slots slot (Some h)))) in
        subst P (sym same) (gate_written n slot slots h within_slots closed fits sound told0 told1 told2 _ refl was (wrote_body told1 wrote) synced told3 _ refl opened)

    module _ (told3 told4 : Option Content) (opened : told3 ≡ told (after_write (272 * slot) (0xA5 ∷ [])) told2) (done : told4 ≡ told after_sync told3) where
      pub exit-settled : IfTold told4 (IsSettled n (set slots slot (Some h)))
      exit-settled = stored n slot slots h within_slots closed fits sound told0 told1 told2 told3 told4 _ _ refl refl was (wrote_body told1 wrote) synced opened done

      pub exit-others : OthersStay (slot ∷ []) told0 told4
      exit-others = stored_others n slot slots h within_slots fits told0 told1 told2 told3 told4 _ _ refl refl was (wrote_body told1 wrote) synced opened done

      pub exit-stored : EveryImage told4 (HoldsWith n (IsEither slots (set slots slot (Some h))))
      exit-stored = settled_images n (set slots slot (Some h)) told4 _ (λ left same. changed same) exit-settled

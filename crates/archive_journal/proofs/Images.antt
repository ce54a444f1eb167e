-- What a write from a place on leaves, where all that was read was durable: everything in front of that place stays.
use Rattle.std.proofs.Common.{◌≡◌, ℕ, ◌+◌, ◌<◌, ◌≤◌, max, Bool, true, false, List, [], length, get_or, take, replicate, Option, Some, None, sym, ◌∙◌, ap, subst, arith, length-take}
use Rattle.std.proofs.lemmas.List.{ext_get_or, get_or-take, length-replicate}
use Rattle.medium_model.specs.Content.{Content, settled, after_write, written}
use Rattle.medium_model.specs.State.{IfTold, TornWrite, told}
use Rattle.medium_model.specs.PowerLoss.{IsImage, EveryImage}
use Rattle.medium_model.proofs.Written.{length-written, get_or-written_before}

-- Bytes that agree in front of the place, and whose end is between the old one and that of the write.
pub record SameFront (at n : ℕ) (base image : List ℕ) : Type 0 where
  pub no_shorter : length base ≤ length image
  pub no_longer : length image ≤ max (length base) (at + n)
  pub front : take at image ≡ take at base

pub record WritesFrom (at n : ℕ) (P : List ℕ → Type 0) (c : Content) : Type 0 where
  pub rest : c ≡ settled c.reads
  pub fits : at ≤ length c.reads
  pub each : (image : List ℕ) → SameFront at n c.reads image → P image

image-front : (c : Content) (base : List ℕ) (at n : ℕ) → c.durable ≡ base → c.dirty ≡ written false at (replicate n true) [] → at ≤ length base
    → (image : List ℕ) → IsImage c image → SameFront at n base image
image-front c base at n durable dirty fits image is =
    let marks : length c.dirty ≡ at + n = ap length dirty ∙ length-written false at (replicate n true) [] ∙ omega (arith, length-replicate n true) in
    let ends = ap length durable in
    let lower = is.no_shorter in
    let upper = is.no_longer in
    record {
      no_shorter = omega arith;
      no_longer = omega arith;
      front = ext_get_or 0 (take at image) (take at base) (omega (arith, length-take at image, length-take at base)) (λ k low.
          let before : k < at = omega (arith, length-take at image) in
          let clean : get_or c.dirty k false ≡ false = ap (λ (m : List Bool). get_or m k false) dirty ∙ get_or-written_before false at (replicate n true) [] k before in
          get_or-take at image k 0 before ∙ is.stays k (omega arith) clean ∙ ap (λ (b : List ℕ). get_or b k 0) durable ∙ sym (get_or-take at base k 0 before));
    }

pub front-written : (old new : Option Content) (at : ℕ) (bytes : List ℕ) (P : List ℕ → Type 0) → IfTold old (WritesFrom at (length bytes) P)
    → new ≡ told (after_write at bytes) old → EveryImage new P
front-written None new at bytes P from is = let Q : Option Content → Type 0 = λ o. EveryImage o P in subst Q (sym is) tt
front-written (Some c) new at bytes P from is =
    let Q : Option Content → Type 0 = λ o. EveryImage o P in
    let dirty = ap (λ (d : Content). written false at (replicate (length bytes) true) d.dirty) from.rest in
    subst Q (sym is) (λ image im. from.each image (image-front (after_write at bytes c) c.reads at (length bytes) (ap (λ (d : Content). d.durable) from.rest) dirty from.fits image im))

pub front-torn : (old new : Option Content) (at n : ℕ) (P : List ℕ → Type 0) → IfTold old (WritesFrom at n P) → TornWrite at n old new → EveryImage new P
front-torn None new at n P from is = let Q : Option Content → Type 0 = λ o. EveryImage o P in subst Q (sym is) tt
front-torn (Some c) new at n P from (d, is, failed) =
    let Q : Option Content → Type 0 = λ o. EveryImage o P in
    let dirty = failed.dirty ∙ ap (λ (e : Content). written false at (replicate n true) e.dirty) from.rest in
    subst Q (sym is) (λ image im. from.each image (image-front d c.reads at n (failed.durable ∙ ap (λ (e : Content). e.durable) from.rest) dirty from.fits image im))

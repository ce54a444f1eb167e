-- Each write puts a slot of zero bytes after those before.
use Rattle.std.proofs.Common.{◌≡◌, ◌*◌, refl, arith, subst, replicate, ℕ}
use Rattle.std.proofs.lemmas.Bool.{false≢true}
use Rattle.medium_model.specs.State.{IfTold}
use Rattle.medium_model.proofs.Images.{counted-then, counted-as}
use Rattle.flash_ring.proofs.Formats.{told-zeros, synced-zeros}
use Rattle.flash_ring.proofs.format.format.Goals as goal

pub loop-slot-preserved : goal.loop-slot-preserved
loop-slot-preserved g c = record {
  counted = counted-then c.loop-slot.invariant.counted (counted-as refl (λ f. absurd f) false≢true c.in_ok-write.ensures.counted);
  zeros = told-zeros _ _ c.loop-slot.slot c.loop-slot.invariant.zeros c.in_ok-write.ensures.written;
}

pub returns-clause-zeros : goal.returns-clause-zeros
returns-clause-zeros g c =
    let done : c.loop-slot.slot ≡ c.args.slots = omega arith in
    let P : ℕ → Type 0 = λ m. IfTold (g.M.Medium.state c.loop-slot.medium).content (λ d. d.reads ≡ replicate (272 * m) 0) in
    (synced-zeros _ _ (272 * c.args.slots) (subst P done c.loop-slot.invariant.zeros) c.in_ok-sync.ensures.durable).0

pub returns-clause-images : goal.returns-clause-images
returns-clause-images g c =
    let done : c.loop-slot.slot ≡ c.args.slots = omega arith in
    let P : ℕ → Type 0 = λ m. IfTold (g.M.Medium.state c.loop-slot.medium).content (λ d. d.reads ≡ replicate (272 * m) 0) in
    (synced-zeros _ _ (272 * c.args.slots) (subst P done c.loop-slot.invariant.zeros) c.in_ok-sync.ensures.durable).1

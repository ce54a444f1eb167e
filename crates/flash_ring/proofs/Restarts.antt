-- The power comes back to a flash whose images are all sound: nothing is refused.
use Rattle.std.proofs.Common.{◌≡◌, ℕ, List, Option, IsSome, Result, Ok, Err, IsOk, IfErr, IsErrOf, sym, ◌∙◌, ap, refl, subst}
use Rattle.medium_model.specs.CallsLeft.{CallsLeft, unlimited, Passes}
use Rattle.medium_model.specs.Content.{Content}
use Rattle.medium_model.specs.PowerLoss.{EveryImage}
use Rattle.medium_model.specs.State.{MediumState, IfTold, CountedSome, IsRestarted}
use Rattle.medium_model.proofs.Images.{every-at}
use Rattle.flash_ring.specs.Slot.{IsFlash}
use Rattle.flash_ring.specs.Refusal.{Refuses}
use Rattle.flash_ring.specs.declared.load.ReopenFault.{ReopenFault}
use Rattle.flash_ring.specs.declared.load.ReopenFault.TheVariants as Fault

-- a sound flash isn't refused
not-refused : (n : ℕ) (flash : List ℕ) (e : ReopenFault) → IsFlash n flash → Refuses n flash e → e ≡ Fault.MediumFault
not-refused n flash Fault.MediumFault sound refused = refl
not-refused n flash (Fault.WrongSize got wanted) sound refused = absurd (refused.2 (refused.0 ∙ sound.size ∙ sym refused.1))
not-refused n flash (Fault.BadSlot slot) sound refused = absurd (refused.1.unsound (sound.sound slot refused.1.low))

pub restarted-fits : {T : Type 0} → (n : ℕ) (old : Option Content) (new now : MediumState) (r : Result T ReopenFault) → IsRestarted old new.content → IsSome old → EveryImage old (IsFlash n) → new.left ≡ unlimited
    → IfErr r (λ e. IfTold new.content (λ c. Refuses n c.reads e)) → CountedSome new now (IsErrOf r Fault.MediumFault) → IsOk r
restarted-fits {T = T} n old new now (Ok x) back told every left refused counted = refl
restarted-fits {T = T} n old new now (Err e) back told every left refused counted =
    let P : Option Content → Type 0 = λ o. IfTold o (λ c. Refuses n c.reads e) in
    let Q : CallsLeft → Type 0 = λ l. Passes counted.calls l in
    let fault = not-refused n back.image e (every-at old (IsFlash n) back.image told every back.was) (subst P back.is refused) in
    absurd (counted.counted.passes (subst Q (sym left) tt) (ap (λ (f : ReopenFault). let r : Result T ReopenFault = Err f in r) fault))

-- Things to come that weren't used yet: the first of them is handed out, and one more is added.
use Rattle.std.proofs.Common.{◌≡◌, refl, ℕ, List, [], ◌∷◌, ◌++◌, Result, Ok, Err, OnOk, OnErr, ap, sym, subst}
use Rattle.std.specs.List.{AllByRecursion}
use Rattle.doors.specs.MemoryDoors.{MemoryDoorState, unopened}
use Rattle.fmb_host.specs.Host.{IsNewDoor}
use Rattle.fmb_host.specs.Memory.{QueueView, gate_state}
use Rattle.links.specs.Memory.{MemoryLinkState}

module _ {T : Type 0} (P : T → Type 0) where
  pub fresh_first : (old new : List T) (x : T) → old ≡ x ∷ new → AllByRecursion P old → P x × AllByRecursion P new
  fresh_first old new x is all = subst (AllByRecursion P) is all

  fresh_last : (xs : List T) (x : T) → AllByRecursion P xs → P x → AllByRecursion P (xs ++ x ∷ [])
  fresh_last [] x all one = (one, tt)
  fresh_last (y ∷ ys) x all one = (all.0, fresh_last ys x all.1 one)

  pub fresh_added : {E : Type 0} (r : Result (Unit {0}) E) (old new : QueueView T) (x : T) → OnOk r (new ≡ record old { coming = old.coming ++ x ∷ [] }) → OnErr r (new ≡ old)
      → AllByRecursion P old.coming → P x → AllByRecursion P new.coming
  fresh_added (Ok u) old new x ok err all one = subst (AllByRecursion P) (sym (ap (λ (q : QueueView T). q.coming) ok)) (fresh_last old.coming x all one)
  fresh_added (Err e) old new x ok err all one = subst (AllByRecursion P) (sym (ap (λ (q : QueueView T). q.coming) err)) all

-- A door that was made just now is new.
pub new_door : (door : MemoryDoorState) (links : List MemoryLinkState) (failing : List ℕ) → door ≡ unopened links failing → IsNewDoor (gate_state door)
new_door door links failing is = subst (λ (d : MemoryDoorState). IsNewDoor (gate_state d)) (sym is) (record { faults = refl; link_faults = refl; back = refl })

-- What a session does for one item.
use Rattle.std.specs.Prelude.{◌≡◌, ℕ, Bool, true, false, List, [], ◌∷◌, ◌++◌, Option, Some, None, Ok, Err}
use Rattle.session_core.specs.Talks.{count_for}
use Rattle.shelf.specs.Shelf.{Leaves, ShelfView}
use Rattle.shelf.specs.declared.receipt.AdmitFault.TheVariants.{Down, MediumFault}
use Rattle.shelf.specs.declared.receipt.Receipt.{Receipt}
use Rattle.trial_model.specs.declared.outcome.ServerEnd.{ServerEnd}
use Rattle.trial_model.specs.declared.outcome.ServerEnd.TheVariants as Server

-- A login was answered: by 1, and the session goes on; or by 0, and it is over.
pub data Greets (known : Bool) (imei : ℕ) (old_down new_down : List ℕ) (end : Option ServerEnd) : Type 0 where
  welcome : known ≡ true → new_down ≡ old_down ++ 1 ∷ [] → end ≡ None → Greets known imei old_down new_down end
  refused : known ≡ false → new_down ≡ old_down ++ 0 ∷ [] → end ≡ Some (Server.Unknown imei) → Greets known imei old_down new_down end
  starved : new_down ≡ old_down → end ≡ Some Server.NoMemory → Greets known imei old_down new_down end

-- A data body was handed to the shelf: counted where it has a receipt, and else the session is over.
pub data Stores (imei : ℕ) (body : List ℕ) (s t : ShelfView) (old_down new_down : List ℕ) (end : Option ServerEnd) : Type 0 where
  stored : (receipt : Receipt) → Leaves s imei body (Ok receipt) t → new_down ≡ old_down ++ count_for body → end ≡ None → Stores imei body s t old_down new_down end
  failed : (faults : ℕ) → Leaves s imei body (Err (MediumFault faults)) t → new_down ≡ old_down → end ≡ Some (Server.MediumFault faults) → Stores imei body s t old_down new_down end
  was_down : (faults : ℕ) → Leaves s imei body (Err (Down faults)) t → new_down ≡ old_down → end ≡ Some (Server.Down faults) → Stores imei body s t old_down new_down end
  starved : new_down ≡ old_down → end ≡ Some Server.NoMemory → Stores imei body s t old_down new_down end

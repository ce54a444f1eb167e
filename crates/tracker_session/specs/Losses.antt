-- What contracts see of the list of records that a tracker gave up.
use Rattle.std.specs.Prelude.{ℕ, List, [], ◌∷◌, ◌++◌, Option, Some, None}
use Rattle.avl_values.specs.Record.{Record}

-- the records listed so far, where that is told, and how often it has failed
pub record LossesState : Type 0 where
  pub listed : Option (List Record)
  pub faults : ℕ

-- with one more record listed
abbrev pub with_loss : Record → Option (List Record) → Option (List Record)
with_loss r None = None
with_loss r (Some records) = Some (records ++ r ∷ [])

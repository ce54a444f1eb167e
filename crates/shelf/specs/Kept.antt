-- How many calls of the medium it takes to keep new records.
use Rattle.std.specs.Prelude.{ℕ, Result, Ok, Err}
use Rattle.shelf.specs.declared.keep.KeepFault.{KeepFault}
use Rattle.shelf.specs.declared.keep.KeepFault.TheVariants.{NoMemory, MediumFault}

abbrev pub keep_calls : Result (Unit {0}) KeepFault → ℕ
keep_calls (Ok done) = 4
keep_calls (Err NoMemory) = 0
keep_calls (Err MediumFault) = 4

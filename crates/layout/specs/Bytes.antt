-- Numbers in bytes.
use Rattle.std.specs.Prelude.{ℕ, ◌<◌, List}
use Rattle.std.specs.List.{AllByRecursion}

abbrev pub IsByte : ℕ → Type 0
IsByte b = b < 256

-- In a clause the elements of a slice of bytes are known to be bytes; in a law a list may hold any numbers.
abbrev pub AreBytes : List ℕ → Type 0
AreBytes bytes = AllByRecursion IsByte bytes

-- The rows of a record: which fields it has, and which rules they keep.
use Rattle.std.specs.Prelude.{ℕ, ◌+◌, List, [], ◌∷◌, Option, None, nat_lt, ◌==◌, not}
use Rattle.avl_values.specs.declared.codec.Codec.{Codec}
use Rattle.avl_values.specs.declared.fault.FaultKind.{FaultKind}
use Rattle.avl_values.specs.declared.fault.FaultKind.TheVariants.{TotalMismatch}
use Rattle.avl_values.specs.declared.width.Width.{Width}
use Rattle.avl_values.specs.Width.{bytes_of}
use Rattle.layout.specs.Rows.{Rows, done}
use Rattle.layout.specs.Fields.{fault_unless, any, number_row, times}
use Rattle.record_layout.specs.declared.part.Part.{Part}
use Rattle.record_layout.specs.declared.part.Part.TheVariants.{Plain, Total, Pairs, Triples}
use Rattle.record_layout.specs.Table.{parts_of}

-- At each count the sum of the counts so far is at most the total; at the last count it is the total (this project's own).
abbrev pub count_rule : List Part → ℕ → ℕ → Option FaultKind
count_rule [] total counted = fault_unless (counted == total) TotalMismatch
count_rule (p ∷ ps) total counted = fault_unless (not (nat_lt total counted)) TotalMismatch

-- an id and a value
abbrev pub pair_rows : {V : Type 0} → Width → Width → Rows V → Rows V
pair_rows id value rest = any (bytes_of id) (any (bytes_of value) rest)

-- an id, a length, and N bytes
abbrev pub triple_rows : {V : Type 0} → Width → Width → Rows V → Rows V
triple_rows id len rest = any (bytes_of id) (number_row (bytes_of len) (λ _. None) (λ n. any n rest))

-- the parts that are left of a record, with its total and the sum of its counts so far, and what comes after it
unfoldable pub parts_rows : {V : Type 0} → List Part → ℕ → ℕ → Rows V → Rows V
parts_rows [] total counted rest = rest
parts_rows (Plain field width ∷ ps) total counted rest = any (bytes_of width) (parts_rows ps total counted rest)
parts_rows (Total width ∷ ps) total counted rest = number_row (bytes_of width) (λ _. None) (λ n. parts_rows ps n counted rest)
parts_rows (Pairs count id value ∷ ps) total counted rest =
    number_row (bytes_of count) (λ n. count_rule ps total (counted + n)) (λ n. times n (pair_rows id value) (parts_rows ps total (counted + n) rest))
parts_rows (Triples count id len ∷ ps) total counted rest =
    number_row (bytes_of count) (λ n. count_rule ps total (counted + n)) (λ n. times n (triple_rows id len) (parts_rows ps total (counted + n) rest))

-- a record, and what comes after it
abbrev pub record_rows : {V : Type 0} → Codec → Rows V → Rows V
record_rows codec rest = parts_rows (parts_of codec) 0 0 rest

-- a record alone
abbrev pub lone_record : Codec → Rows (Unit {0})
lone_record codec = record_rows codec (done (tt {0}))

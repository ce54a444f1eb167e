-- Lists of records, each of them once.
use Rattle.std.specs.Prelude.{Bool, List, []}
use Rattle.std.specs.List.{All, Contains, fold}
use Rattle.avl_values.specs.Record.{Record}
use Rattle.record_lists.specs.EachOnce as each_once
use Rattle.record_lists.specs.SameRecord.{is_same}

-- the same record is in the list
abbrev pub is_listed : List Record → Record → Bool
is_listed records r = each_once.is_listed is_same records r

-- the list with the record, unless it has it
abbrev pub add_once : List Record → Record → List Record
add_once records r = each_once.add_once is_same records r

-- each record at its first place only
abbrev pub first_places : List Record → List Record
first_places records = fold add_once [] records

-- each record of the second list is in the first
abbrev pub AreIn : List Record → List Record → Type 0
AreIn others records = All (Contains others) records

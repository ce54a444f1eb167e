-- The types of this crate as contracts see them.
use Rattle.std.specs.Prelude.{ℕ, List, [], ◌∷◌, Option, Some, None}
use Rattle.command_layout.specs.Table.{CommandRow}
use Rattle.command_layout.specs.Values.{CommandValue}
use Rattle.command_codecs.specs.declared.command.Command.{Command}
use Rattle.command_codecs.specs.declared.row.Kinds.{Kinds}
use Rattle.command_codecs.specs.declared.row.Kinds.TheVariants.{Order, Response, ResponseOrRefusal, Message}
use Rattle.command_codecs.specs.declared.row.Row.{Row}

-- what a command says
abbrev pub value_of : Command → CommandValue
value_of c = record { codec = c.codec; kind = c.kind; time = c.time; imei = c.imei; text = c.text.now }

-- the types that may be in a command
abbrev pub kinds_of : Kinds → List ℕ
kinds_of Order = 0x05 ∷ []
kinds_of Response = 0x06 ∷ []
kinds_of ResponseOrRefusal = 0x06 ∷ 0x11 ∷ []
kinds_of Message = 0x0b ∷ []

-- a row of the table
abbrev pub row_is : Row → CommandRow
row_is r = record { kinds = kinds_of r.kinds; time = r.time; imei = r.imei }

abbrev pub found_row : Option Row → Option CommandRow
found_row (Some r) = Some (row_is r)
found_row None = None

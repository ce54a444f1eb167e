-- Numbers and names of faults (this project's own).
use Rattle.std.specs.Prelude.{ℕ, List, codes}
use Rattle.avl_values.specs.declared.fault.FaultKind.{FaultKind}
use Rattle.avl_values.specs.declared.fault.FaultKind.TheVariants as Kind

abbrev pub number_of : FaultKind → ℕ
number_of Kind.UnknownCodec = 1
number_of Kind.NoRecords = 2
number_of Kind.Overrun = 3
number_of Kind.TotalMismatch = 4
number_of Kind.CountMismatch = 5
number_of Kind.Excess = 6
number_of Kind.Preamble = 7
number_of Kind.Length = 8
number_of Kind.CrcHigh = 9
number_of Kind.CrcMismatch = 10
number_of Kind.LoginLength = 11
number_of Kind.LoginDigit = 12
number_of Kind.DatagramLength = 13
number_of Kind.Quantity = 14
number_of Kind.CommandType = 15
number_of Kind.CommandSize = 16
number_of Kind.ImeiDigits = 17

abbrev pub name_of : FaultKind → List ℕ
name_of Kind.UnknownCodec = codes "UnknownCodec"
name_of Kind.NoRecords = codes "NoRecords"
name_of Kind.Overrun = codes "Overrun"
name_of Kind.TotalMismatch = codes "TotalMismatch"
name_of Kind.CountMismatch = codes "CountMismatch"
name_of Kind.Excess = codes "Excess"
name_of Kind.Preamble = codes "Preamble"
name_of Kind.Length = codes "Length"
name_of Kind.CrcHigh = codes "CrcHigh"
name_of Kind.CrcMismatch = codes "CrcMismatch"
name_of Kind.LoginLength = codes "LoginLength"
name_of Kind.LoginDigit = codes "LoginDigit"
name_of Kind.DatagramLength = codes "DatagramLength"
name_of Kind.Quantity = codes "Quantity"
name_of Kind.CommandType = codes "CommandType"
name_of Kind.CommandSize = codes "CommandSize"
name_of Kind.ImeiDigits = codes "ImeiDigits"

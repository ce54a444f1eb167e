-- The generation type that a record carries in Codec 16 (Teltonika, Data Sending Protocols, Codec 16, "Generation type").
use Rattle.std.specs.Prelude.{ℕ}
use Rattle.io_operands.specs.declared.setting.Operand.{Operand}

abbrev pub generation_of : Operand → ℕ
generation_of Operand.Exit = 0
generation_of Operand.Entrance = 1
generation_of Operand.Both = 2
generation_of Operand.Hysteresis = 4
generation_of Operand.Change = 5
generation_of Operand.Monitoring = 7

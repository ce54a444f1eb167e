use Rattle.std.proofs.Common.{◌↔◌, IsTrue, take}
use Rattle.std.specs.List.{AllPass}
use Rattle.hex.specs.Hex.{is_hex_digit}
use Rattle.capture_text.proofs.line.are_digits.Given as goal

abbrev pub invariant-loop-byte : goal.invariant-loop-byte
invariant-loop-byte l = IsTrue l.all ↔ AllPass is_hex_digit (take l.byte-index l.text)

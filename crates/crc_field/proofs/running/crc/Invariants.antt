use Rattle.std.proofs.Common.{◌≡◌, take}
use Rattle.crc_field.specs.Crc.{crc_of}
use Rattle.crc_field.proofs.running.crc.Given as goal

abbrev pub invariant-loop-byte : goal.invariant-loop-byte
invariant-loop-byte l = l.running ≡ crc_of (take l.byte-index l.bytes)

use Rattle.std.proofs.Common.{◌≡◌, ◌<◌, ◌^◌, take}
use Rattle.layout.specs.Fields.{number}
use Rattle.layout.proofs.fields.number.Given as goal

abbrev pub invariant-loop-byte : goal.invariant-loop-byte
invariant-loop-byte l = (l.n ≡ number (take l.byte-index l.field)) × (l.n < 256 ^ l.byte-index)

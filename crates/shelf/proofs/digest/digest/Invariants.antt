use Rattle.std.proofs.Common.{◌≡◌, drop}
use Rattle.std.specs.List.{fold}
use Rattle.shelf.specs.Digest.{mixed_with, digest_of}
use Rattle.shelf.proofs.digest.digest.Given as goal

abbrev pub invariant-loop-byte : goal.invariant-loop-byte
invariant-loop-byte l = fold mixed_with l.digest (drop l.byte-index l.bytes) ≡ digest_of l.fn.codec l.bytes

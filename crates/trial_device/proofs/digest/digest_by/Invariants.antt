use Rattle.std.proofs.Common.{◌≡◌, drop}
use Rattle.std.specs.List.{fold}
use Rattle.trial_device.specs.Index.{digest_of, mixed_with}
use Rattle.trial_device.proofs.digest.digest_by.Given as goal

abbrev pub invariant-loop-byte : goal.invariant-loop-byte
invariant-loop-byte l = fold mixed_with l.digest (drop l.byte-index l.bytes) ≡ digest_of (record { codec = l.fn.codec; bytes = l.bytes })

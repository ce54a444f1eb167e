-- A fuse as contracts see it: the calls that it leaves.
use Rattle.std.specs.Prelude.{ℕ, Option, Some, None}
use Rattle.medium_model.specs.declared.bench.Tear.{Tear}

abbrev pub calls_of : Option (ℕ × Tear) → Option ℕ
calls_of None = None
calls_of (Some fuse) = Some fuse.0

-- A record is listed as cut where the last of the four medium calls of its store can't be made, by the calls that a fuse
-- leaves to its line; and only where a call of its store may be the one that fails. So only there can it have been cut.
use Rattle.std.specs.Prelude.{◌≡◌, ◌+◌, ◌*◌, List}
use Rattle.std.specs.List.{All, Any, Contains}
use Rattle.trial_model.specs.declared.outcome.DeviceOutcome.{DeviceOutcome}
use Rattle.trial_model.specs.Cover.{IsBelow}
use Rattle.trial_model.specs.Decisions.{Decision}

pub record IsCutRightly (decisions : List Decision) (d : DeviceOutcome) : Type 0 where
  pub wherever : All (λ e. IsBelow e.cover (4 * (e.number + 1)) → Contains d.cut e.rec) decisions
  pub only_where : All (λ r. Any (λ e. IsBelow e.cover e.cost × (e.rec ≡ r)) decisions) d.cut

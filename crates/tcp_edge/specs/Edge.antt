-- What a link and a door over the system's streams tell: how often they have failed, and nothing of their bytes.
use Rattle.std.specs.Prelude.{ℕ, ◌≤◌, None, false}
use Rattle.doors.specs.Doors.{DoorState}
use Rattle.links.specs.Links.{LinkState}

abbrev pub untold : ℕ → LinkState
untold faults = record { told = None; ended = false; faults = faults }

abbrev pub untold_door : {L : Type 0} → ℕ → ℕ → DoorState L
untold_door faults link_faults = record { told = None; out = 1; faults = faults; link_faults = link_faults }

-- a count that didn't fall
pub record IsNoLess (before after : ℕ) : Type 0 where
  pub later : before ≤ after

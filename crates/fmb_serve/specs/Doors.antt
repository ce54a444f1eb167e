-- Doors that a host hands out and takes back, one after the other (this project's own).
use Rattle.std.specs.Prelude.{◌≡◌, ◌+◌, ℕ, List, [], ◌∷◌, map}
use Rattle.links.specs.Links.{LinkState}
use Rattle.doors.specs.Doors.{DoorState}
use Rattle.fmb_host.specs.Host.{HostView, IsNewDoor, seen_door}
use Rattle.fmb_host.specs.Stocks.{PassesNamed, Regains, Stock}
use Rattle.fmb_serve.specs.Serve.{counted_doors}

-- these came back, in order
abbrev pub RegainsAll : {T : Type 0} → Stock T → List T → Stock T → Type 0
RegainsAll before [] after = after ≡ before
RegainsAll {T = T} before (item ∷ items) after = (next : Stock T) × Regains before item next × RegainsAll next items after

module _ {L : Type 0} (state : L → LinkState) where
  -- each of these doors was not used
  abbrev pub AreNewDoors : List (DoorState L) → Type 0
  AreNewDoors [] = Unit {0}
  AreNewDoors (d ∷ ds) = IsNewDoor (seen_door state d) × AreNewDoors ds

  -- these doors of an address were handed out, none of which was used, and nothing else changed
  pub record HandsOutDoors (before : HostView) (address : List ℕ) (doors : List (DoorState L)) (after : HostView) : Type 0 where
    pub gates : PassesNamed address (map (seen_door state) doors) [] before.gates after.gates
    pub new : AreNewDoors doors
    pub others : after ≡ record before { gates = after.gates }

  -- these doors came back, which counts each that has failed, and nothing else changed
  pub record TakesBackDoors (before : HostView) (doors : List (DoorState L)) (after : HostView) : Type 0 where
    pub gates : RegainsAll before.gates (map (seen_door state) doors) after.gates
    pub others : after ≡ record before { counts = record before.counts { doors = counted_doors before.counts.doors doors }; gates = after.gates }

  -- No door is handed out any more: those of the address that were are back, and where the host failed that has counted.
  pub record OpensNoDoors (address : List ℕ) (failed : ℕ) (before after : HostView) : Type 0 where
    pub doors : List (DoorState LinkState)
    pub gates : PassesNamed address doors doors before.gates after.gates
    pub others : after ≡ record before { counts = record before.counts { host = before.counts.host + failed }; gates = after.gates }

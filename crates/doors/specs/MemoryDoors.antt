-- A door in memory, as contracts see it.
use Rattle.std.specs.Prelude.{◌≡◌, ◌⊎◌, ℕ, ◌+◌, ◌-◌, List, [], ◌∷◌, ◌++◌, Some}
use Rattle.avl_values.specs.Causes.{more_by_one}
use Rattle.fault_plan.specs.Plan.{Plan, after_call, planned}
use Rattle.fault_plan.specs.Plan as plan
use Rattle.links.specs.Memory.{MemoryLinkState, link_state}
use Rattle.doors.specs.Doors.{DoorState, IsUnused, once_if}

-- the links to come and those that came back, how many are out, which accepts fail, how many failed, and how many links came
-- back that had failed
pub record MemoryDoorState : Type 0 where
  pub gives : List MemoryLinkState
  pub back : List MemoryLinkState
  pub out : ℕ
  pub plan : Plan
  pub faults : ℕ
  pub link_faults : ℕ

-- what it tells as a door
abbrev pub door_state : MemoryDoorState → DoorState MemoryLinkState
door_state door = record { told = Some (record { gives = door.gives; back = door.back }); out = door.out; faults = door.faults; link_faults = door.link_faults }

-- a door that was not used
abbrev pub unopened : List MemoryLinkState → List ℕ → MemoryDoorState
unopened links failing = record { gives = links; back = []; out = 0; plan = planned failing; faults = 0; link_faults = 0 }

abbrev pub IsUnusedLink : MemoryLinkState → Type 0
IsUnusedLink link = IsUnused (link_state link)

-- The next accept was chosen to fail, or finds no link.
abbrev pub FailsNext : MemoryDoorState → Type 0
FailsNext door = plan.FailsNext door.plan ⊎ (door.gives ≡ [])

-- an accept that failed counts, and changes nothing else
abbrev pub after_failure : MemoryDoorState → MemoryDoorState
after_failure door = record door { plan = after_call door.plan; faults = more_by_one door.faults }

-- an accept that gave a link: these are left
abbrev pub after_accept : List MemoryLinkState → MemoryDoorState → MemoryDoorState
after_accept left door = record door { gives = left; out = door.out + 1; plan = after_call door.plan }

-- a link came back
abbrev pub after_done : MemoryLinkState → MemoryDoorState → MemoryDoorState
after_done link door = record door { back = door.back ++ link ∷ []; out = door.out - 1; link_faults = door.link_faults + once_if link.faults }

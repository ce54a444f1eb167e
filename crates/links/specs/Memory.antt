-- A link in memory, as contracts see it (this project's own).
use Rattle.std.specs.Prelude.{◌≡◌, ℕ, ◌+◌, ◌<◌, ◌≤◌, ◌==◌, min, List, [], ◌++◌, length, take, drop, Some}
use Rattle.avl_values.specs.Causes.{more_by_one}
use Rattle.fault_plan.specs.Plan.{Plan, FailsNext, after_call, planned}
use Rattle.links.specs.Links.{LinkState}

-- the bytes that reads took and those that are left for them, the bytes that were written, how many bytes a read gives at
-- most, how many may be written, which calls fail, and how many failed
pub record MemoryLinkState : Type 0 where
  pub taken : List ℕ
  pub left : List ℕ
  pub written : List ℕ
  pub piece : ℕ
  pub room : ℕ
  pub plan : Plan
  pub faults : ℕ

-- a link that was not used yet
abbrev pub unused : List ℕ → ℕ → ℕ → List ℕ → MemoryLinkState
unused incoming piece room failing = record { taken = []; left = incoming; written = []; piece = piece; room = room; plan = planned failing; faults = 0 }

-- what it tells as a link
abbrev pub link_state : MemoryLinkState → LinkState
link_state link = record { told = Some record { taken = link.taken; written = link.written }; ended = length link.left == 0; faults = link.faults }

-- the next call is one that was chosen to fail
abbrev pub IsChosen : MemoryLinkState → Type 0
IsChosen link = FailsNext link.plan

-- N bytes more than may be written
abbrev pub PassesRoom : MemoryLinkState → ℕ → Type 0
PassesRoom link count = link.room < length link.written + count

-- how many bytes a read into N places gives
abbrev pub given : MemoryLinkState → ℕ → ℕ
given link places = min (min link.piece places) (length link.left)

-- a call that failed counts, and changes nothing else
abbrev pub after_failure : MemoryLinkState → MemoryLinkState
after_failure link = record link { plan = after_call link.plan; faults = more_by_one link.faults }

-- a read that gave N bytes
abbrev pub after_read : ℕ → MemoryLinkState → MemoryLinkState
after_read n link = record link { taken = link.taken ++ take n link.left; left = drop n link.left; plan = after_call link.plan }

-- a write of these bytes
abbrev pub after_write : List ℕ → MemoryLinkState → MemoryLinkState
after_write bytes link = record link { written = link.written ++ bytes; plan = after_call link.plan }

-- What further calls may do to it: it takes from what was left, writes after what was written, and counts.
pub record GoesOn (before after : MemoryLinkState) : Type 0 where
  pub taken : List ℕ
  pub written : List ℕ
  pub takes : after.taken ≡ before.taken ++ taken
  pub leaves : before.left ≡ taken ++ after.left
  pub writes : after.written ≡ before.written ++ written
  pub piece : after.piece ≡ before.piece
  pub room : after.room ≡ before.room
  pub failing : after.plan.failing ≡ before.plan.failing
  pub calls : before.plan.calls ≤ after.plan.calls
  pub faults : before.faults ≤ after.faults

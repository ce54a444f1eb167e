-- The connections that a worker serves, one after the other.
use Rattle.std.specs.Prelude.{◌≡◌, ℕ, ◌+◌, ◌<◌, ◌≤◌, Bool, false, true, List, [], ◌∷◌, ◌++◌, length, map, None, Result}
use Rattle.avl_values.specs.Causes.{Rose}
use Rattle.links.specs.Links.{LinkState, Moves}
use Rattle.doors.specs.Doors.{DoorState, IsUnused, Passes, once_if}
use Rattle.shelf.specs.Calls.{Call, Brought, Feeds, Mark, brought}
use Rattle.shelf.specs.Histories.{Each}
use Rattle.shelf.specs.declared.receipt.Receipt.{Receipt}
use Rattle.shelf.specs.declared.receipt.AdmitFault.{AdmitFault}
use Rattle.session_core.specs.Courses.{IsCourse}
use Rattle.session_core.specs.SessionCalls.{AreCallsOf, HaveReceipts}
use Rattle.session_core.specs.Talks.{Meaning}
use Rattle.session_core.specs.Telling.{IsTold}
use Rattle.session_core.specs.Works.{meaning}
use Rattle.session_core.specs.declared.orders.NoOrders.{NoOrders}
use Rattle.session_core.specs.declared.served.Served.{Served}
use Rattle.session_core.specs.declared.served.SessionEnd.{SessionEnd}
use Rattle.session_core.specs.declared.served.SessionEnd.TheVariants.{Ended, EndedInside, LinkFault, Broken, Unknown, MediumFault, Down, LongEnough, NoMemory}

-- a connection: the link as its door gave it and as it came back, what is said of its session, the calls that it made, and their
-- mark
pub record Connection (L : Type 0) : Type 0 where
  pub given : L
  pub back : L
  pub served : Served
  pub calls : List Call
  pub mark : Mark

-- what the calls of a connection brought
abbrev pub brought_by_one : {L : Type 0} → Connection L → List Brought
brought_by_one c = map (brought c.mark) c.calls

-- what the calls of all connections brought, in order
abbrev pub brought_in : {L : Type 0} → List (Connection L) → List Brought
brought_in [] = []
brought_in (c ∷ cs) = brought_by_one c ++ brought_in cs

-- no command waits for a device
abbrev pub no_orders : Meaning NoOrders
no_orders = meaning (λ orders imei. None) (λ orders imei. orders) (λ orders imei response. orders)

-- 1 where a session ended because its link failed
abbrev pub ended_by_link : SessionEnd → ℕ
ended_by_link Ended = 0
ended_by_link (EndedInside have) = 0
ended_by_link LinkFault = 1
ended_by_link (Broken found) = 0
ended_by_link (Unknown imei) = 0
ended_by_link (MediumFault faults) = 0
ended_by_link (Down faults) = 0
ended_by_link (LongEnough taken) = 0
ended_by_link NoMemory = 0

-- how many sessions ended because their link failed
abbrev pub link_ends : List Served → ℕ
link_ends [] = 0
link_ends (s ∷ ss) = ended_by_link s.end + link_ends ss

-- Connections that lead one after the other from one state of where they admit to another, each by its calls, under the mark that
-- it found.
abbrev pub Runs : {S L : Type 0} → (S → ℕ → List ℕ → Result Receipt AdmitFault → S → Type 0) → (S → Mark) → S → List (Connection L) → S → Type 0
Runs leaves mark s [] t = s ≡ t
Runs {S = S} leaves mark s (c ∷ cs) t = (next : S) × (c.mark ≡ mark s) × Feeds leaves s c.calls next × Runs leaves mark next cs t

-- What a worker's report says beside its door: as many sessions as asked, or fewer exactly where accepting failed, which raised the
-- door's count. No more sessions ended by their link than links came back that had failed.
pub record IsReport {L : Type 0} (sessions : ℕ) (before after : DoorState L) (served : List Served) (failed : Bool) : Type 0 where
  pub all : failed ≡ false → length served ≡ sessions
  pub stopped : failed ≡ true → length served < sessions
  pub cause : failed ≡ true → Rose before.faults after.faults
  pub passed : failed ≡ false → after.faults ≡ before.faults
  pub link_ends : link_ends served + before.link_faults ≤ after.link_faults

module _ {L : Type 0} (state : L → LinkState) (follows : L → L → Type 0) (knows : ℕ → Bool) where
  -- A link was served from its door to its door: what is said of its session is so of the bytes that were taken from it and written
  -- to it, and its calls are those of this session.
  pub record IsConnection (c : Connection L) : Type 0 where
    pub unused : IsUnused (state c.given)
    pub goes_on : follows c.given c.back
    pub taken : List ℕ
    pub written : List ℕ
    pub moves : Moves taken written (state c.given).told (state c.back).told
    pub before : NoOrders
    pub after : NoOrders
    pub course : IsCourse no_orders knows before after (state c.back) c.served taken written
    pub told : IsTold no_orders knows before after c.served taken written
    pub cause : ended_by_link c.served.end ≤ once_if (state c.back).faults
    pub receipts : HaveReceipts c.served taken c.calls
    pub calls : AreCallsOf c.served c.mark taken (brought_by_one c)

  -- how many links came back that had failed
  abbrev pub failed_links : List (Connection L) → ℕ
  failed_links [] = 0
  failed_links (c ∷ cs) = once_if (state c.back).faults + failed_links cs

  -- These connections were served at this door, one after the other: each link as the door gave it, and given back then.
  pub record AreServed (before after : DoorState L) (served : List Served) (cs : List (Connection L)) : Type 0 where
    pub each : Each IsConnection cs
    pub are : map (λ c. c.served) cs ≡ served
    pub passes : Passes (map (λ c. c.given) cs) (map (λ c. c.back) cs) before.told after.told
    pub link_faults : after.link_faults ≡ before.link_faults + failed_links cs

  -- A worker has served its connections, and reports them.
  pub record Worked (sessions : ℕ) (before after : DoorState L) (served : List Served) (failed : Bool) (cs : List (Connection L)) : Type 0 where
    pub connections : AreServed before after served cs
    pub report : IsReport sessions before after served failed

  -- The same, and what its calls left of where it admits.
  pub record Works {S : Type 0} (leaves : S → ℕ → List ℕ → Result Receipt AdmitFault → S → Type 0) (mark : S → Mark) (sessions : ℕ) (before after : DoorState L) (s t : S) (served : List Served) (failed : Bool) : Type 0 where
    pub cs : List (Connection L)
    pub worked : Worked sessions before after served failed cs
    pub runs : Runs leaves mark s cs t

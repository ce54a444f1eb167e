-- The workers of a server, each at its door and with its seat at the desk.
use Rattle.std.specs.Prelude.{◌≡◌, ℕ, ◌<◌, ◌≤◌, ◌^◌, Bool, List, [], ◌∷◌, length, Option, Some, None, slice_get}
use Rattle.std.specs.Vec.{vec_capacity}
use Rattle.std.specs.Global.{Vec}
use Rattle.medium_model.specs.declared.medium.Medium.{Ghosts}
use Rattle.links.specs.Links.{LinkState}
use Rattle.doors.specs.Doors.{DoorState}
use Rattle.shelf.specs.Entries.{Entry, calls_of, counting}
use Rattle.desk.specs.declared.desk.Desk.{Desk}
use Rattle.desk.specs.declared.desk.Seat.{Seat}
use Rattle.desk.specs.Desks.{seen, numbers, IsNewSeat, IsSeatOf}
use Rattle.session_core.specs.declared.served.Served.{Served}
use Rattle.server_loop.specs.Workers.{IsWorker}
use Rattle.server_loop.specs.declared.report.WorkerReport.{WorkerReport}
use Rattle.server_loop.specs.declared.worker.Worker.{Worker}

-- an empty list with room for N sessions
pub record HasRoom (sessions : ℕ) (served : Vec Served) : Type 0 where
  pub empty : served.items ≡ []
  pub room : sessions ≤ vec_capacity served

module _ {D M : Type 0} {d : Ghosts M} where
  abbrev pub door_of : Worker D M d → D
  door_of w = w.door

  abbrev pub report_of : Worker D M d → WorkerReport
  report_of w = record { served = w.served.items; door_failed = w.failed }

  -- It has done nothing, has room for its sessions, and a new seat.
  pub record IsStaffed (desk : Desk M) (sessions n : ℕ) (w : Worker D M d) : Type 0 where
    pub room : HasRoom sessions w.served
    pub seat : Seat M d
    pub is : w.seat ≡ Some seat
    pub new : IsNewSeat desk n seat

  abbrev pub AllStaffed : Desk M → ℕ → List (Worker D M d) → Type 0
  AllStaffed desk sessions ws = (i : ℕ) (w : Worker D M d) → slice_get ws i ≡ Some w → IsStaffed desk sessions i w

  -- It has its seat, under its number, whatever that has seen.
  pub record IsSeated (desk : Desk M) (n : ℕ) (w : Worker D M d) : Type 0 where
    pub seat : Seat M d
    pub is : w.seat ≡ Some seat
    pub of_desk : IsSeatOf desk seat
    pub number : numbers seat ≡ n ∷ []

  abbrev pub AllSeated : Desk M → List (Worker D M d) → Type 0
  AllSeated desk ws = (i : ℕ) (w : Worker D M d) → slice_get ws i ≡ Some w → IsSeated desk i w

  -- Of the calls under each worker's number the history has those that its seat had seen.
  abbrev pub KeepCalls : List Entry → List (Worker D M d) → Type 0
  KeepCalls log ws = (i : ℕ) (w : Worker D M d) (seat : Seat M d) → slice_get ws i ≡ Some w → w.seat ≡ Some seat → calls_of i log ≡ calls_of i (seen seat)

  -- one seat for all these workers
  pub record IsSeatOfAll (desk : Desk M) (ws : List (Worker D M d)) (seat : Seat M d) : Type 0 where
    pub of_desk : IsSeatOf desk seat
    pub all : numbers seat ≡ counting 0 (length ws)
    pub keeps : KeepCalls (seen seat) ws

  -- one seat for these workers, or no seat for none
  abbrev pub AreJoinedIn : Desk M → List (Worker D M d) → Option (Seat M d) → Type 0
  AreJoinedIn desk ws None = ws ≡ []
  AreJoinedIn desk ws (Some seat) = IsSeatOfAll desk ws seat

  module _ {L : Type 0} (door_state : D → DoorState L) where
    -- It is staffed, and its door can count its sessions' links.
    pub record IsReady (desk : Desk M) (sessions n : ℕ) (w : Worker D M d) : Type 0 where
      pub staffed : IsStaffed desk sessions n w
      pub counts : (door_state w.door).link_faults < 2 ^ 63
      pub few : sessions ≤ 100000

    abbrev pub AllReady : Desk M → ℕ → List (Worker D M d) → Type 0
    AllReady desk sessions ws = (i : ℕ) (w : Worker D M d) → slice_get ws i ≡ Some w → IsReady desk sessions i w

    module _ (state : L → LinkState) (follows : L → L → Type 0) (knows : ℕ → Bool) where
      -- It served its sessions, and its calls are all that its seat has seen under its number.
      pub record HasWorked (desk : Desk M) (sessions n : ℕ) (v w : Worker D M d) : Type 0 where
        pub seated : IsSeated desk n w
        pub is : IsWorker state follows knows sessions n (seen seated.seat) (door_state v.door) (door_state w.door) (report_of w)

      -- Each worker at its place, before and after.
      pub record AllWorked (desk : Desk M) (sessions : ℕ) (vs ws : List (Worker D M d)) : Type 0 where
        pub count : length ws ≡ length vs
        pub each : (i : ℕ) (v w : Worker D M d) → slice_get vs i ≡ Some v → slice_get ws i ≡ Some w → HasWorked desk sessions i v w

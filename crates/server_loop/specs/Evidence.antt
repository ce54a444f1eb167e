-- Where the records of a closing list come from, said of sessions and of the bytes that they took.
use Rattle.std.specs.Prelude.{◌≡◌, ◌⊎◌, ℕ, ◌+◌, Bool, List, Some, slice_get}
use Rattle.avl_values.specs.Record.{Record}
use Rattle.links.specs.Links.{LinkState}
use Rattle.doors.specs.Doors.{DoorState}
use Rattle.shelf.specs.Admits.{Shelved}
use Rattle.shelf.specs.Archive.{Begins, StoredValue, stored}
use Rattle.shelf.specs.Entries.{Entry}
use Rattle.shelf.specs.Histories.{In}
use Rattle.session_core.specs.Archived.{records_of_first}
use Rattle.server_loop.specs.Connections.{Connection, IsConnection}
use Rattle.server_loop.specs.Workers.{HasServed, IsWorker}
use Rattle.server_loop.specs.declared.report.WorkerReport.{WorkerReport}

module _ {L : Type 0} (state : L → LinkState) (follows : L → L → Type 0) (knows : ℕ → Bool) where
  -- A connection brought this: under its device, in one of its counted frames or in the one after them.
  pub record IsBroughtBy (v : StoredValue) (c : Connection L) : Type 0 where
    pub is : IsConnection state follows knows c
    pub device : c.served.imei ≡ Some v.imei
    pub stands : In (records_of_first (c.served.frames + 1) is.taken) v.rec

  -- A connection's counted frames have all their records in the list, under its device.
  pub record IsArchived (list : List StoredValue) (c : Connection L) : Type 0 where
    pub is : IsConnection state follows knows c
    pub each : (imei : ℕ) (r : Record) → c.served.imei ≡ Some imei → In (records_of_first c.served.frames is.taken) r → In list (stored imei r)

  module _ (sessions : ℕ) (before after : List (DoorState L)) (reports : List WorkerReport) where
    -- A connection of one of the workers brought this: of the one with this number, at its door and by its report.
    pub record IsFromWorker (log : List Entry) (v : StoredValue) : Type 0 where
      pub number : ℕ
      pub door_before : DoorState L
      pub door_after : DoorState L
      pub report : WorkerReport
      pub before_is : slice_get before number ≡ Some door_before
      pub after_is : slice_get after number ≡ Some door_after
      pub report_is : slice_get reports number ≡ Some report
      pub worker : IsWorker state follows knows sessions number log door_before door_after report
      pub c : Connection L
      pub one_of : In worker.cs c
      pub brought : IsBroughtBy v c

    -- A server has served, and closes with the list of its workers' history, which begins with the opening list. Each further record
    -- was brought by a worker's connection, and each connection's counted frames have all their records in the closing list.
    pub record ClosesWith (opening closing : Shelved) : Type 0 where
      pub served : HasServed state follows knows sessions opening closing before after reports
      pub begins : Begins opening.list closing.list
      pub further : (v : StoredValue) → In closing.list v → In opening.list v ⊎ IsFromWorker served.log v
      pub archived : (n : ℕ) (d e : DoorState L) (r : WorkerReport) (w : IsWorker state follows knows sessions n served.log d e r) (c : Connection L) → In w.cs c → IsArchived closing.list c

-- What a server's workers have done: one history, in which each worker's calls stand under its number.
use Rattle.std.specs.Prelude.{◌≡◌, ℕ, suc, ◌≤◌, Bool, List, [], ◌∷◌, length, map}
use Rattle.avl_values.specs.Causes.{IsAbove}
use Rattle.links.specs.Links.{LinkState}
use Rattle.doors.specs.Doors.{DoorState}
use Rattle.shelf.specs.Admits.{Shelved}
use Rattle.shelf.specs.Entries.{Entry, entry, IsLegalLog, StandsAfter, calls_by, calls_of, counting}
use Rattle.shelf.specs.Histories.{Each}
use Rattle.session_core.specs.declared.served.SessionEnd.{SessionEnd}
use Rattle.session_core.specs.declared.served.SessionEnd.TheVariants.{Ended, EndedInside, LinkFault, Broken, Unknown, MediumFault, Down, LongEnough, NoMemory}
use Rattle.server_loop.specs.Connections.{Connection, IsReport, Worked, brought_in}
use Rattle.server_loop.specs.declared.report.WorkerReport.{WorkerReport}

-- each door with its worker's report, in order
abbrev pub AreReports : {L : Type 0} → ℕ → List (DoorState L) → List (DoorState L) → List WorkerReport → Type 0
AreReports sessions [] [] [] = Unit {0}
AreReports sessions [] [] (r ∷ rs) = ⊥
AreReports sessions [] (e ∷ es) rs = ⊥
AreReports sessions (d ∷ ds) [] rs = ⊥
AreReports sessions (d ∷ ds) (e ∷ es) [] = ⊥
AreReports sessions (d ∷ ds) (e ∷ es) (r ∷ rs) = IsReport sessions d e r.served r.door_failed × AreReports sessions ds es rs

-- An end by the archive tells how often its medium had failed: more often than at the start, and no more often than at the end.
abbrev pub IsCaused : ℕ → ℕ → SessionEnd → Type 0
IsCaused low high Ended = Unit {0}
IsCaused low high (EndedInside have) = Unit {0}
IsCaused low high LinkFault = Unit {0}
IsCaused low high (Broken found) = Unit {0}
IsCaused low high (Unknown imei) = Unit {0}
IsCaused low high (MediumFault faults) = IsAbove faults low × (faults ≤ high)
IsCaused low high (Down faults) = IsAbove faults low × (faults ≤ high)
IsCaused low high (LongEnough taken) = Unit {0}
IsCaused low high NoMemory = Unit {0}

abbrev pub AreCaused : ℕ → ℕ → List WorkerReport → Type 0
AreCaused low high reports = Each (λ r. Each (λ s. IsCaused low high s.end) r.served) reports

module _ {L : Type 0} (state : L → LinkState) (follows : L → L → Type 0) (knows : ℕ → Bool) (sessions : ℕ) where
  -- A worker's connections, and its calls in a history: session by session in the order of its report.
  pub record IsWorker (n : ℕ) (log : List Entry) (before after : DoorState L) (report : WorkerReport) : Type 0 where
    pub cs : List (Connection L)
    pub worked : Worked state follows knows sessions before after report.served report.door_failed cs
    pub calls : calls_of n log ≡ map (entry n) (brought_in cs)

  -- workers with the numbers from n on, each with its door before and after, and its report
  abbrev pub AreWorkers : ℕ → List Entry → List (DoorState L) → List (DoorState L) → List WorkerReport → Type 0
  AreWorkers n log [] [] [] = Unit {0}
  AreWorkers n log [] [] (r ∷ rs) = ⊥
  AreWorkers n log [] (e ∷ es) rs = ⊥
  AreWorkers n log (d ∷ ds) [] rs = ⊥
  AreWorkers n log (d ∷ ds) (e ∷ es) [] = ⊥
  AreWorkers n log (d ∷ ds) (e ∷ es) (r ∷ rs) = IsWorker n log d e r × AreWorkers (suc n) log ds es rs

  -- A server closes with the shelf of one legal history, in which each call is one of a worker's.
  pub record HasServed (opening closing : Shelved) (before after : List (DoorState L)) (reports : List WorkerReport) : Type 0 where
    pub log : List Entry
    pub legal : IsLegalLog opening log
    pub stands : StandsAfter opening log closing
    pub whole : calls_by (counting 0 (length reports)) log ≡ log
    pub workers : AreWorkers 0 log before after reports

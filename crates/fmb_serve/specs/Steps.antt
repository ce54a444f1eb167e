-- How a server comes to its status, step by step (this project's own).
use Rattle.std.specs.Prelude.{◌≡◌, ◌⊎◌, ◌==◌, if◌then◌else◌, ℕ, List, length, codes}
use Rattle.doors.specs.Doors.{DoorState}
use Rattle.links.specs.Links.{LinkState}
use Rattle.medium_model.specs.State.{MediumState, IfTold}
use Rattle.archive_journal.specs.Entries.{IsArchive, entries_of}
use Rattle.shelf.specs.Archive.{list_of}
use Rattle.shelf.specs.Shelf.{HasList, ShelfView}
use Rattle.server_loop.specs.declared.report.WorkerReport.{WorkerReport}
use Rattle.fmb_host.specs.Host.{HostView, HandsOutMedium, TakesBackMedium}
use Rattle.fmb_io.specs.Printed.{Prints, PrintsFront, PrintsWhole, SinkFailed, SinkSteady}
use Rattle.fmb_serve.specs.Doors.{HandsOutDoors, TakesBackDoors}
use Rattle.fmb_serve.specs.Lines.{serve_lines}
use Rattle.fmb_serve.specs.Statuses.{serving_status}

-- a text was printed, or the sink failed on it, or memory ran out before its first byte, which was said
pub record IsTold (text : List ℕ) (status : ℕ) (before after : HostView) : Type 0 where
  pub among : (status ≡ 0) ⊎ (status ≡ 5) ⊎ (status ≡ 9)
  pub whole : status ≡ 0 → PrintsWhole text before after
  pub steady : status ≡ 0 → SinkSteady before after
  pub cut_off : status ≡ 5 → PrintsFront text before after
  pub cause : status ≡ 5 → SinkFailed before after
  pub line : (status ≡ 0) ⊎ (status ≡ 5) → Prints text before after
  pub no_memory : status ≡ 9 → Prints (codes "no memory\n") before after
  pub others : after ≡ record before { sink = after.sink }

-- an archive was opened on a medium that the host had handed out under its name
pub record IsOpened (archive : List ℕ) (start : HostView) (shelf : ShelfView) (now : HostView) : Type 0 where
  pub medium : MediumState
  pub handed : HandsOutMedium start archive medium now
  pub is_archive : IfTold medium.content (λ c. IsArchive c.reads)
  pub list : IfTold medium.content (λ c. shelf.list ≡ list_of (entries_of c.reads))

module _ {L : Type 0} (state : L → LinkState) where
  -- and doors were opened for it at the address, one for each worker
  pub record IsReady (address archive : List ℕ) (workers : ℕ) (start : HostView) (shelf : ShelfView) (doors : List (DoorState L)) (now : HostView) : Type 0 where
    pub mid : HostView
    pub opened : IsOpened archive start shelf mid
    pub hands : HandsOutDoors state mid address doors now
    pub count : length doors ≡ workers

  -- What serving came to was told, and doors and archive went back.
  pub record IsClosed (reports : List WorkerReport) (shelf : ShelfView) (doors : List (DoorState L)) (status : ℕ) (before after : HostView) : Type 0 where
    pub printed : ℕ
    pub told_at : HostView
    pub left_at : HostView
    pub told : IsTold (serve_lines reports shelf.list) printed before told_at
    pub doors_back : TakesBackDoors state told_at doors left_at
    pub medium_back : TakesBackMedium left_at shelf.medium after
    pub says : status ≡ (if serving_status shelf.medium.faults reports == 0 then printed else serving_status shelf.medium.faults reports)
    pub reads : shelf.medium.faults ≡ 0 → IfTold shelf.medium.content (HasList shelf.list)

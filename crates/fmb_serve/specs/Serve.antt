-- What serving an archive at an address comes to, by its status (this project's own).
use Rattle.std.specs.Prelude.{◌≡◌, ◌⊎◌, ◌+◌, ◌<◌, ℕ, Bool, List, [], ◌∷◌, Some, length, map, codes}
use Rattle.links.specs.Links.{LinkState}
use Rattle.doors.specs.Doors.{DoorState}
use Rattle.medium_model.specs.Content.{Content, after_sync}
use Rattle.medium_model.specs.State.{MediumState, IfTold, told}
use Rattle.archive_journal.specs.Entries.{IsArchive, entries_of}
use Rattle.shelf.specs.Admits.{Shelved}
use Rattle.shelf.specs.Archive.{StoredValue, list_of}
use Rattle.shelf.specs.Shelf.{HasList}
use Rattle.server_loop.specs.Evidence.{ClosesWith}
use Rattle.server_loop.specs.Workers.{AreReports}
use Rattle.server_loop.specs.declared.report.WorkerReport.{WorkerReport}
use Rattle.fmb_host.specs.Host.{HostView, counted_once, seen_door}
use Rattle.fmb_host.specs.Stocks.{PassesNamed}
use Rattle.fmb_io.specs.Printed.{Prints, PrintsFront, PrintsWhole, SinkFailed, SinkSteady}
use Rattle.fmb_serve.specs.Lines.{serve_lines}
use Rattle.fmb_serve.specs.Statuses.{serving_status}

-- one more for each door that has failed
abbrev pub counted_doors : {L : Type 0} → ℕ → List (DoorState L) → ℕ
counted_doors count [] = count
counted_doors count (d ∷ ds) = counted_doors (counted_once count d.faults) ds

-- Nothing was served, and all that was opened went back: the archive's medium, if it was, and the doors at the address, as they were
-- handed out.
pub record IsUnserved (address archive : List ℕ) (before after : HostView) : Type 0 where
  pub given : List MediumState
  pub back : List MediumState
  pub same_count : length back ≡ length given
  pub media : PassesNamed archive given back before.media after.media
  pub doors : List (DoorState LinkState)
  pub gates : PassesNamed address doors doors before.gates after.gates

-- nothing was served, and this line says why
abbrev pub SaysWhy : (address archive line : List ℕ) → HostView → HostView → Type 0
SaysWhy address archive line before after = IsUnserved address archive before after × Prints line before after

-- What was opened under the archive's name is no archive. Nothing was written of it, and it went back.
pub record IsNotArchive (archive : List ℕ) (before after : HostView) : Type 0 where
  pub medium : MediumState
  pub back : MediumState
  pub media : PassesNamed archive (medium ∷ []) (back ∷ []) before.media after.media
  pub gates : after.gates ≡ before.gates
  pub is : IfTold medium.content (λ c. IsArchive c.reads → ⊥)
  pub not_written : back.content ≡ told after_sync medium.content
  pub counts : after.counts ≡ record before.counts { media = counted_once before.counts.media back.faults }
  pub line : Prints (codes "refused archive\n") before after

-- the host tells that the medium which it will hand out next reads so
pub record HasNextMedium (content : Content) (host : HostView) : Type 0 where
  pub medium : MediumState
  pub later : List MediumState
  pub media : host.media.coming ≡ Some (medium ∷ later)
  pub told : medium.content ≡ Some content

module _ {L : Type 0} (state : L → LinkState) (follows : L → L → Type 0) (knows : ℕ → Bool) (address archive : List ℕ) (workers sessions : ℕ) where
  -- The archive of this name was opened and served at doors of this address, of which each worker had one, and this holds of the
  -- workers' reports, of the records that the archive closes with, and of how often its medium had failed then. Archive and doors went
  -- back.
  pub record OfServed (P : List WorkerReport → List StoredValue → ℕ → Type 0) (before after : HostView) : Type 0 where
    pub medium : MediumState
    pub back : MediumState
    pub media : PassesNamed archive (medium ∷ []) (back ∷ []) before.media after.media
    pub doors_before : List (DoorState L)
    pub doors_after : List (DoorState L)
    pub gates : PassesNamed address (map (seen_door state) doors_before) (map (seen_door state) doors_after) before.gates after.gates
    pub count : length doors_before ≡ workers
    pub is_archive : IfTold medium.content (λ c. IsArchive c.reads)
    pub opening : Shelved
    pub opens : IfTold medium.content (λ c. opening.list ≡ list_of (entries_of c.reads))
    pub reports : List WorkerReport
    pub closing : Shelved
    pub closes : ClosesWith state follows knows sessions doors_before doors_after reports opening closing
    pub are_reports : AreReports sessions doors_before doors_after reports
    -- what it reads as it went back, unless it had failed
    pub reads : back.faults ≡ 0 → IfTold back.content (HasList closing.list)
    pub counts : after.counts ≡ record before.counts { media = counted_once before.counts.media back.faults; doors = counted_doors before.counts.doors doors_after }
    pub holds : P reports closing.list back.faults

  -- its lines were printed, or memory ran out before the first, and that was
  abbrev pub Tells : HostView → HostView → List WorkerReport → List StoredValue → Type 0
  Tells before after reports list = Prints (serve_lines reports list) before after ⊎ Prints (codes "no memory\n") before after

  -- An archive that a host opens, served at an address: 0 all that was said of it was printed, 5 the sink failed on that, 6 the
  -- archive failed, 7 a door failed or the host failed to open archive or doors, 8 it is no archive, 9 memory ran out.
  pub record RanServe (status : ℕ) (before after : HostView) : Type 0 where
    pub among : (status ≡ 0) ⊎ (status ≡ 5) ⊎ (status ≡ 6) ⊎ (status ≡ 7) ⊎ (status ≡ 8) ⊎ (status ≡ 9)
    -- 0 and 5: nothing failed while it was served, and its lines, or a front of them, were printed
    pub served_whole : status ≡ 0 → OfServed (λ reports list faults. (serving_status faults reports ≡ 0) × PrintsWhole (serve_lines reports list) before after) before after
    pub sink_steady : status ≡ 0 → SinkSteady before after
    pub cut_off : status ≡ 5 → OfServed (λ reports list faults. (serving_status faults reports ≡ 0) × PrintsFront (serve_lines reports list) before after) before after
    pub sink_cause : status ≡ 5 → SinkFailed before after
    -- 6: the archive failed, as it was opened or while it was served, and the host has counted that
    pub medium_cause : status ≡ 6 → after.counts.media ≡ before.counts.media + 1
    pub medium_fault : status ≡ 6 → SaysWhy address archive (codes "medium fault\n") before after
        ⊎ OfServed (λ reports list faults. (serving_status faults reports ≡ 6) × Tells before after reports list) before after
    -- 7: the host failed to open the archive or a door, or a door failed, and the host has counted that
    pub host_cause : status ≡ 7 → (before.counts.host < after.counts.host) ⊎ (before.counts.doors < after.counts.doors)
    pub host_fault : status ≡ 7 → SaysWhy address archive (codes "host fault\n") before after
        ⊎ OfServed (λ reports list faults. (serving_status faults reports ≡ 7) × Tells before after reports list) before after
    -- 8: it is no archive
    pub refused : status ≡ 8 → IsNotArchive archive before after
    -- 9: memory ran out before it was served, in a session, or for the lines
    pub no_memory : status ≡ 9 → SaysWhy address archive (codes "no memory\n") before after
        ⊎ OfServed (λ reports list faults. ((serving_status faults reports ≡ 9) × Tells before after reports list)
        ⊎ ((serving_status faults reports ≡ 0) × Prints (codes "no memory\n") before after)) before after
    pub counts_before : (status ≡ 0) ⊎ (status ≡ 5) → after.counts ≡ before.counts
    pub others : after ≡ record before { counts = after.counts; sink = after.sink; media = after.media; gates = after.gates }

-- Where the host tells a medium that is no archive, and counts no failure, it is refused, or memory ran out.
abbrev pub ServeRefuses : ℕ → HostView → HostView → Type 0
ServeRefuses status before after = (content : Content) → HasNextMedium content before → (IsArchive content.reads → ⊥) → after.counts ≡ before.counts → (status ≡ 8) ⊎ (status ≡ 9)

-- Where neither the host's counts nor its sink's rose, it was served, or it is no archive, or memory ran out.
abbrev pub ServeServes : ℕ → HostView → HostView → Type 0
ServeServes status before after = after.counts ≡ before.counts → (SinkFailed before after → ⊥) → (status ≡ 0) ⊎ (status ≡ 8) ⊎ (status ≡ 9)

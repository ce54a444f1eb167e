-- A host in memory, as contracts see it (this project's own).
use Rattle.std.specs.Prelude.{ℕ, zero, suc, ◌≡◌, List, [], ◌∷◌, ◌++◌, Option, Some, None, option_map, map}
use Rattle.std.specs.List.{AllByRecursion}
use Rattle.doors.specs.MemoryDoors.{MemoryDoorState, door_state}
use Rattle.fault_plan.specs.Plan.{Plan, planned}
use Rattle.links.specs.Links.{LinkState}
use Rattle.links.specs.Memory.{MemoryLinkState, link_state}
use Rattle.doors.specs.Doors.{DoorState, IsUnused}
use Rattle.medium.specs.Memory.{BenchView, MemoryView, bench_state, memory_state}
use Rattle.trial_model.specs.Results.{Results}
use Rattle.text_streams.specs.Memory.{MemorySourceView, MemorySinkView, source_state, sink_state}
use Rattle.fmb_host.specs.declared.host.Counts.{Counts}
use Rattle.fmb_host.specs.Host.{HostView, IsNewDoor, seen_door}
use Rattle.fmb_host.specs.Stocks.{Returns, Stock}

-- the things to come, those that came back as long as each was one that had been handed out, and how many are out
pub record QueueView (T : Type 0) : Type 0 where
  pub coming : List T
  pub back : Option (List T)
  pub lent : ℕ

abbrev pub empty_queue : {T : Type 0} → QueueView T
empty_queue = record { coming = []; back = Some []; lent = 0 }

-- a thing came back, which is kept where it is one that had been handed out
abbrev pub return_to : {T : Type 0} → ℕ → T → QueueView T → QueueView T
return_to zero item q = record q { back = None }
return_to (suc n) item q = record q { back = option_map (λ back. back ++ item ∷ []) q.back; lent = n }

abbrev pub after_return : {T : Type 0} → T → QueueView T → QueueView T
after_return item q = return_to q.lent item q

-- what is told of those that came back
abbrev pub returns_of : {S T : Type 0} → (S → T) → Option (List S) → ℕ → Option (Returns T)
returns_of see None lent = None
returns_of see (Some back) lent = Some (record { back = map see back; lent = lent })

-- what is told of the things, each seen so, which is no name
abbrev pub stock_of : {S T : Type 0} → (S → T) → QueueView S → Stock T
stock_of see q = record { coming = Some (map see q.coming); returns = returns_of see q.back q.lent; asked = None }

-- its counts, the outcome that it kept last, its sink, its texts, media, links, doors and benches, and which opens, dials and doors fail
pub record MemoryHostView : Type 0 where
  pub counts : Counts
  pub kept : Option Results
  pub sink : MemorySinkView
  pub texts : QueueView MemorySourceView
  pub media : QueueView MemoryView
  pub wires : QueueView MemoryLinkState
  pub gates : QueueView MemoryDoorState
  pub benches : QueueView BenchView
  pub plan : Plan

-- a door's state, its links told as links
abbrev pub gate_state : MemoryDoorState → DoorState LinkState
gate_state door = seen_door link_state (door_state door)

-- nothing that will be handed out was used yet
abbrev pub AreFreshTexts : List MemorySourceView → Type 0
AreFreshTexts texts = AllByRecursion (λ text. text.faults ≡ 0) texts

abbrev pub AreFreshMedia : List MemoryView → Type 0
AreFreshMedia media = AllByRecursion (λ medium. medium.faults ≡ 0) media

abbrev pub AreFreshLinks : List MemoryLinkState → Type 0
AreFreshLinks links = AllByRecursion (λ link. IsUnused (link_state link)) links

abbrev pub AreFreshDoors : List MemoryDoorState → Type 0
AreFreshDoors doors = AllByRecursion (λ door. IsNewDoor (gate_state door)) doors

pub record AreFresh (host : MemoryHostView) : Type 0 where
  pub texts : AreFreshTexts host.texts.coming
  pub media : AreFreshMedia host.media.coming
  pub wires : AreFreshLinks host.wires.coming
  pub gates : AreFreshDoors host.gates.coming

-- a host that was not used yet
abbrev pub new_host : MemorySinkView → List ℕ → MemoryHostView
new_host sink failing = record {
  counts = record { host = 0; texts = 0; media = 0; doors = 0 };
  kept = None;
  sink = sink;
  texts = empty_queue;
  media = empty_queue;
  wires = empty_queue;
  gates = empty_queue;
  benches = empty_queue;
  plan = planned failing;
}

-- what it tells as a host
abbrev pub host_view : MemoryHostView → HostView
host_view host = record {
  counts = host.counts;
  kept = host.kept;
  sink = sink_state host.sink;
  texts = stock_of source_state host.texts;
  media = stock_of memory_state host.media;
  wires = stock_of link_state host.wires;
  gates = stock_of gate_state host.gates;
  benches = stock_of bench_state host.benches;
}

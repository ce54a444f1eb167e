-- A host as contracts see it, and what its calls change (this project's own).
use Rattle.std.specs.Prelude.{ℕ, ◌+◌, ◌^◌, ◌<◌, ◌≡◌, ◌==◌, List, [], map, Option, None, Some, option_map, if◌then◌else◌}
use Rattle.doors.specs.Doors.{DoorLinks, DoorState}
use Rattle.links.specs.Links.{LinkState}
use Rattle.medium_model.specs.CallsLeft.{unlimited}
use Rattle.medium_model.specs.Content.{settled}
use Rattle.medium_model.specs.State.{MediumState}
use Rattle.text_streams.specs.States.{SourceState, SinkState}
use Rattle.fmb_host.specs.declared.host.Counts.{Counts}
use Rattle.fmb_host.specs.Stocks.{Lends, LendsNamed, LendsNew, Regains, Stock}
use Rattle.trial_model.specs.Results.{Results}

-- the counts of faults, the outcome that was kept last, the sink, and what it hands out: texts, media, links, doors and benches
pub record HostView : Type 0 where
  pub counts : Counts
  pub kept : Option Results
  pub sink : SinkState
  pub texts : Stock SourceState
  pub media : Stock MediumState
  pub wires : Stock LinkState
  pub gates : Stock (DoorState LinkState)
  pub benches : Stock MediumState

-- a door's links, each seen so
abbrev pub seen_links : {K L : Type 0} → (K → L) → DoorLinks K → DoorLinks L
seen_links see links = record { gives = map see links.gives; back = map see links.back }

abbrev pub seen_door : {K L : Type 0} → (K → L) → DoorState K → DoorState L
seen_door see door = record { told = option_map (seen_links see) door.told; out = door.out; faults = door.faults; link_faults = door.link_faults }

-- one more where something has failed
abbrev pub counted_once : ℕ → ℕ → ℕ
counted_once count faults = if faults == 0 then count else count + 1

-- an open that failed counts, and changes nothing else
abbrev pub with_host_fault : HostView → HostView
with_host_fault host = record host { counts = record host.counts { host = host.counts.host + 1 } }

-- a text was handed out, and nothing else changed
pub record HandsOut (before : HostView) (text : SourceState) (after : HostView) : Type 0 where
  pub texts : Lends before.texts text after.texts
  pub others : after ≡ record before { texts = after.texts }

-- a text came back, which counts where it has failed, and nothing else changed
pub record TakesBack (before : HostView) (text : SourceState) (after : HostView) : Type 0 where
  pub texts : Regains before.texts text after.texts
  pub others : after ≡ record before { counts = record before.counts { texts = counted_once before.counts.texts text.faults }; texts = after.texts }

-- the same of a medium, under its name
pub record HandsOutMedium (before : HostView) (name : List ℕ) (medium : MediumState) (after : HostView) : Type 0 where
  pub media : LendsNamed name before.media medium after.media
  pub others : after ≡ record before { media = after.media }

pub record TakesBackMedium (before : HostView) (medium : MediumState) (after : HostView) : Type 0 where
  pub media : Regains before.media medium after.media
  pub others : after ≡ record before { counts = record before.counts { media = counted_once before.counts.media medium.faults }; media = after.media }

-- the same of a link, under its address, which counts nothing
pub record HandsOutWire (before : HostView) (address : List ℕ) (link : LinkState) (after : HostView) : Type 0 where
  pub wires : LendsNamed address before.wires link after.wires
  pub others : after ≡ record before { wires = after.wires }

pub record TakesBackWire (before : HostView) (link : LinkState) (after : HostView) : Type 0 where
  pub wires : Regains before.wires link after.wires
  pub others : after ≡ record before { wires = after.wires }

-- the same of a door, under its address
pub record HandsOutDoor (before : HostView) (address : List ℕ) (door : DoorState LinkState) (after : HostView) : Type 0 where
  pub gates : LendsNamed address before.gates door after.gates
  pub others : after ≡ record before { gates = after.gates }

pub record TakesBackDoor (before : HostView) (door : DoorState LinkState) (after : HostView) : Type 0 where
  pub gates : Regains before.gates door after.gates
  pub others : after ≡ record before { counts = record before.counts { doors = counted_once before.counts.doors door.faults }; gates = after.gates }

-- the same of a bench, which is new and counts nothing
pub record HandsOutBench (before after : HostView) : Type 0 where
  pub benches : LendsNew before.benches after.benches
  pub others : after ≡ record before { benches = after.benches }

pub record TakesBackBench (before : HostView) (bench : MediumState) (after : HostView) : Type 0 where
  pub benches : Regains before.benches bench after.benches
  pub others : after ≡ record before { benches = after.benches }

-- no link came back to it yet
abbrev pub HasNoneBack : Option (DoorLinks LinkState) → Type 0
HasNoneBack None = Unit {0}
HasNoneBack (Some links) = links.back ≡ []

-- a door that was not used
pub record IsNewDoor (door : DoorState LinkState) : Type 0 where
  pub faults : door.faults ≡ 0
  pub link_faults : door.link_faults ≡ 0
  pub back : HasNoneBack door.told

-- a bench that is empty and unarmed
pub record IsNewBench (bench : MediumState) : Type 0 where
  pub content : bench.content ≡ Some (settled [])
  pub left : bench.left ≡ unlimited
  pub faults : bench.faults ≡ 0

-- all four counts are below 2^63
pub record AreSmall (counts : Counts) : Type 0 where
  pub host : counts.host < 2 ^ 63
  pub texts : counts.texts < 2 ^ 63
  pub media : counts.media < 2 ^ 63
  pub doors : counts.doors < 2 ^ 63

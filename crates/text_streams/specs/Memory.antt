-- A source and a sink in memory, as contracts see them (this project's own).
use Rattle.std.specs.Prelude.{ℕ, ◌≤◌, ◌⊎◌, List, [], Some, None, length}
use Rattle.fault_plan.specs.Plan.{Plan, FailsNext, planned}
use Rattle.text_streams.specs.States.{SourceState, SinkState}

-- the bytes that are left, which calls fail, and how many failed
pub record MemorySourceView : Type 0 where
  pub left : List ℕ
  pub plan : Plan
  pub faults : ℕ

-- the bytes that were written, how many may be, which calls fail, and how many failed
pub record MemorySinkView : Type 0 where
  pub written : List ℕ
  pub room : ℕ
  pub plan : Plan
  pub faults : ℕ

-- what it tells as a source: its bytes, and no name
abbrev pub source_state : MemorySourceView → SourceState
source_state source = record { left = Some source.left; name = None; faults = source.faults }

-- what it tells as a sink: its bytes
abbrev pub sink_state : MemorySinkView → SinkState
sink_state sink = record { written = Some sink.written; faults = sink.faults }

-- nothing was read yet
abbrev pub unread : List ℕ → List ℕ → MemorySourceView
unread bytes failing = record { left = bytes; plan = planned failing; faults = 0 }

-- nothing was written yet
abbrev pub unwritten : ℕ → List ℕ → MemorySinkView
unwritten room failing = record { written = []; room = room; plan = planned failing; faults = 0 }

-- the next write fails, or finds no room
abbrev pub IsRefused : MemorySinkView → Type 0
IsRefused sink = FailsNext sink.plan ⊎ sink.room ≤ length sink.written

-- What is written of a text where a sink may fail (this project's own).
use Rattle.std.specs.Prelude.{◌≡◌, ℕ, ◌≤◌, ◌⊎◌, List, take}
use Rattle.std.specs.Io.KnownBytes.{Appends}
use Rattle.avl_values.specs.Causes.{Rose}
use Rattle.text_streams.specs.States.{SinkState}

-- the whole text was written
abbrev pub PrintsWhole : List ℕ → SinkState → SinkState → Type 0
PrintsWhole text before after = Appends before.written after.written text

-- the first bytes of the text were written
abbrev pub PrintsFront : List ℕ → SinkState → SinkState → Type 0
PrintsFront text before after = (n : ℕ) × Appends before.written after.written (take n text)

-- the sink has failed
abbrev pub HasFailed : SinkState → SinkState → Type 0
HasFailed before after = Rose before.faults after.faults

-- the sink has not failed
abbrev pub IsSteady : SinkState → SinkState → Type 0
IsSteady before after = after.faults ≡ before.faults

-- the front of a text was written, and the whole text unless the sink failed
pub record Prints (text : List ℕ) (before after : SinkState) : Type 0 where
  pub front : PrintsFront text before after
  pub whole : PrintsWhole text before after ⊎ HasFailed before after
  pub later : before.faults ≤ after.faults

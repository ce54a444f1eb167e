-- What a sink has of the texts that were printed on it, which is left alone once it has failed (this project's own).
use Rattle.std.specs.Prelude.{◌≡◌, ℕ, ◌≤◌, List, Bool, true, false}
use Rattle.text_streams.specs.States.{SinkState}
use Rattle.text_streams.specs.Writes.{HasFailed, IsSteady, PrintsFront, PrintsWhole}

-- since a start it was given this text: its front, and the whole unless it has failed
pub record HasPrinted (start now : SinkState) (failed : Bool) (text : List ℕ) : Type 0 where
  pub front : PrintsFront text start now
  pub whole : failed ≡ false → PrintsWhole text start now
  pub steady : failed ≡ false → IsSteady start now
  pub rose : failed ≡ true → HasFailed start now
  pub later : start.faults ≤ now.faults

-- What becomes of a capture that is printed where the sink may fail and memory may run out (this project's own).
use Rattle.std.specs.Prelude.{◌≡◌, ℕ, List, ◌++◌, Result, true, false, codes}
use Rattle.text_streams.specs.States.{SinkState}
use Rattle.text_streams.specs.Writes.{HasFailed, IsSteady, Prints, PrintsFront, PrintsWhole}
use Rattle.capture_text.specs.Capture.{LineValue}
use Rattle.capture_text.specs.declared.fault.CaptureRefusal.{CaptureRefusal}
use Rattle.fmb_show.specs.Shown.{capture_print, front_print}
use Rattle.fmb_show.specs.declared.capture.ShowEnd.{ShowEnd}
use Rattle.fmb_show.specs.declared.capture.ShowEnd.TheVariants.{Done, Fault, SinkFault, NoMemory}

-- By the capture, or why the text is none, and the end: the sink before and after. A fault that ends the print decides before
-- the sink. Where memory ran out, what comes before the line that says so is what is shown of some first lines, each whole.
pub record Showed (capture : Result (List LineValue) CaptureRefusal) (end : ShowEnd) (before after : SinkState) : Type 0 where
  pub done : end ≡ Done → ((capture_print capture).faulty ≡ false) × PrintsWhole (capture_print capture).text before after
  pub sink_steady : end ≡ Done → IsSteady before after
  pub fault : end ≡ Fault → ((capture_print capture).faulty ≡ true) × Prints (capture_print capture).text before after
  pub sink_fault : end ≡ SinkFault → ((capture_print capture).faulty ≡ false) × PrintsFront (capture_print capture).text before after
  pub sink_cause : end ≡ SinkFault → HasFailed before after
  pub no_memory : end ≡ NoMemory → (k : ℕ) × Prints (front_print k capture ++ codes "no memory\n") before after

-- What a trial that was read from a host comes to, by its status (this project's own).
use Rattle.std.specs.Prelude.{◌≡◌, ◌≢◌, ◌⊎◌, ◌+◌, ℕ, Bool, List, Ok, Err, codes}
use Rattle.std.specs.Io.KnownBytes.{IsAtEnd}
use Rattle.fmb_host.specs.Host.{HostView}
use Rattle.fmb_io.specs.Printed.{Prints, PrintsFront, PrintsWhole, SinkFailed, SinkSteady}
use Rattle.fmb_io.specs.Text.{HasNext, IsReturned, OfOpened, OpensNothing}
use Rattle.fmb_text.specs.Report.{report}
use Rattle.journey_script.specs.Faults.{fault_name}
use Rattle.journey_script.specs.Grammar.{Refusal, script_of}
use Rattle.text_streams.specs.Refused.{refused_line}
use Rattle.trial_model.specs.Script.{Script}
use Rattle.fmb_trial.specs.Benches.{SpendsBenches}
use Rattle.fmb_trial.specs.Played.{IfKept, KeepsTrial}

-- the text is a script, and the outcome that was kept has, of that script, all that a trial keeps, and so have the benches
pub record IsPlayed (text : List ℕ) (before after : HostView) : Type 0 where
  pub script : Script
  pub is_script : script_of text ≡ Ok script
  pub keeps : KeepsTrial script before after

-- the text has a first fault, and its line was printed
pub record IsRefused (text : List ℕ) (Printed : List ℕ → Type 0) : Type 0 where
  pub refusal : Refusal
  pub is_fault : script_of text ≡ Err refusal
  pub printed : Printed (refused_line refusal.line (fault_name refusal.kind))

-- A text was judged, played and printed: 0 its report was printed, 5 the sink failed on the report, 3 it has a first
-- fault, 9 memory ran out.
pub record Judged (text : List ℕ) (brief : Bool) (status : ℕ) (before after : HostView) : Type 0 where
  pub among : (status ≡ 0) ⊎ (status ≡ 3) ⊎ (status ≡ 5) ⊎ (status ≡ 9)
  pub played : (status ≡ 0) ⊎ (status ≡ 5) → IsPlayed text before after
  pub reported : status ≡ 0 → IfKept after.kept (λ outcome. PrintsWhole (report outcome brief) before after)
  pub sink_steady : status ≡ 0 → SinkSteady before after
  pub cut_off : status ≡ 5 → IfKept after.kept (λ outcome. PrintsFront (report outcome brief) before after)
  pub sink_cause : status ≡ 5 → SinkFailed before after
  pub refused : status ≡ 3 → IsRefused text (λ line. Prints line before after)
  pub no_memory : status ≡ 9 → Prints (codes "no memory\n") before after
  pub kept_before : (status ≡ 3) ⊎ (status ≡ 9) → after.kept ≡ before.kept
  pub benches_before : status ≡ 3 → after.benches ≡ before.benches
  pub spent : status ≡ 9 → SpendsBenches before after
  pub others : after ≡ record before { kept = after.kept; sink = after.sink; benches = after.benches }

-- A trial of the text that a host opens by a name: as above, and 4 the text failed, 7 the host failed to open it.
pub record RanTrial (word : List ℕ) (brief : Bool) (status : ℕ) (before after : HostView) : Type 0 where
  pub among : (status ≡ 0) ⊎ (status ≡ 3) ⊎ (status ≡ 4) ⊎ (status ≡ 5) ⊎ (status ≡ 7) ⊎ (status ≡ 9)
  -- 0 and 5: the script was read to its end and played, and the outcome that is kept has what a trial keeps
  pub played : (status ≡ 0) ⊎ (status ≡ 5) → OfOpened word before after (λ text. IsPlayed text before after)
  pub reported : status ≡ 0 → IfKept after.kept (λ outcome. PrintsWhole (report outcome brief) before after)
  pub sink_steady : status ≡ 0 → SinkSteady before after
  pub cut_off : status ≡ 5 → IfKept after.kept (λ outcome. PrintsFront (report outcome brief) before after)
  pub sink_cause : status ≡ 5 → SinkFailed before after
  -- 3: it has a first fault, whose line is printed
  pub refused : status ≡ 3 → OfOpened word before after (λ text. IsRefused text (λ line. Prints line before after))
  -- 4 and 7: the text failed, or its opening; the host has counted that
  pub source_cause : status ≡ 4 → after.counts ≡ record before.counts { texts = before.counts.texts + 1 }
  pub source_line : status ≡ 4 → Prints (codes "source fault\n") before after
  pub host_cause : status ≡ 7 → after.counts ≡ record before.counts { host = before.counts.host + 1 }
  pub host_line : status ≡ 7 → Prints (codes "host fault\n") before after
  pub no_memory : status ≡ 9 → Prints (codes "no memory\n") before after
  pub counts_before : status ≢ 4 → status ≢ 7 → after.counts ≡ before.counts
  pub kept_before : status ≢ 0 → status ≢ 5 → after.kept ≡ before.kept
  -- benches are handed out where a script is played, and only where memory ran out need not all of them be back
  pub benches_before : status ≢ 0 → status ≢ 5 → status ≢ 9 → after.benches ≡ before.benches
  pub spent : status ≡ 9 → SpendsBenches before after
  pub returned : status ≢ 7 → IsReturned (λ read. (status ≡ 0) ⊎ (status ≡ 5) → IsAtEnd read.left) before after
  pub nothing_opened : status ≡ 7 → OpensNothing before after
  pub others : after ≡ record before { counts = after.counts; kept = after.kept; sink = after.sink; texts = after.texts; benches = after.benches }

-- Where the host tells a text with a first fault and counts no failure, that fault is printed, or memory runs out.
abbrev pub TrialRefuses : ℕ → HostView → HostView → Type 0
TrialRefuses status before after = (text : List ℕ) (refusal : Refusal) → HasNext text before → script_of text ≡ Err refusal → after.counts ≡ before.counts → (status ≡ 3) ⊎ (status ≡ 9)

-- Where it tells a script, and neither its counts nor its sink's rose, that is played, or memory runs out.
abbrev pub TrialPlays : ℕ → HostView → HostView → Type 0
TrialPlays status before after = (text : List ℕ) (script : Script) → HasNext text before → script_of text ≡ Ok script
    → after.counts ≡ before.counts → (SinkFailed before after → ⊥) → (status ≡ 0) ⊎ (status ≡ 9)

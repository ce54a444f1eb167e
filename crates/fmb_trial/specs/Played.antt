-- What a script comes to that is played on the benches of a host (this project's own).
use Rattle.std.specs.Prelude.{◌≡◌, ◌⊎◌, ℕ, Bool, Option, Some, codes}
use Rattle.fmb_host.specs.Host.{HostView}
use Rattle.fmb_io.specs.Printed.{Prints, PrintsFront, PrintsWhole, SinkFailed, SinkSteady}
use Rattle.fmb_text.specs.Report.{report}
use Rattle.trial_model.specs.Kept.{Kept}
use Rattle.trial_model.specs.Results.{Results}
use Rattle.trial_model.specs.Script.{Script}
use Rattle.trial_play.specs.OnMedia.{BenchStates, KeptOnMedia}
use Rattle.fmb_trial.specs.Benches.{ReturnsBenches, SpendsBenches}

-- The outcome has, of the script, all that a trial keeps; so have the benches, and all of them went back to the host.
pub record IsTrialOf (script : Script) (outcome : Results) (before after : HostView) : Type 0 where
  pub kept : Kept script outcome
  pub benches : BenchStates
  pub on_media : KeptOnMedia script outcome benches
  pub returned : ReturnsBenches benches before after

-- the host keeps the outcome of a trial of this script
pub record KeepsTrial (script : Script) (before after : HostView) : Type 0 where
  pub outcome : Results
  pub is_kept : after.kept ≡ Some outcome
  pub trial : IsTrialOf script outcome before after

-- an outcome was kept, and this holds of it
abbrev pub IfKept : Option Results → (Results → Type 0) → Type 0
IfKept kept P = (outcome : Results) × (kept ≡ Some outcome) × P outcome

-- The host keeps an outcome, and its report was printed, full or brief: 0 all of it was printed, 5 the sink failed on it. 9: memory ran out
-- before.
pub record Reports (outcome : Results) (brief : Bool) (status : ℕ) (before after : HostView) : Type 0 where
  pub among : (status ≡ 0) ⊎ (status ≡ 5) ⊎ (status ≡ 9)
  pub kept : (status ≡ 0) ⊎ (status ≡ 5) → after.kept ≡ Some outcome
  pub reported : status ≡ 0 → PrintsWhole (report outcome brief) before after
  pub sink_steady : status ≡ 0 → SinkSteady before after
  pub cut_off : status ≡ 5 → PrintsFront (report outcome brief) before after
  pub sink_cause : status ≡ 5 → SinkFailed before after
  pub no_memory : status ≡ 9 → Prints (codes "no memory\n") before after
  pub kept_before : status ≡ 9 → after.kept ≡ before.kept
  pub others : after ≡ record before { kept = after.kept; sink = after.sink }

-- A script was played, and its report printed, full or brief: 0 all of it was printed, 5 the sink failed on it, 9 memory ran out.
pub record RanScript (script : Script) (brief : Bool) (status : ℕ) (before after : HostView) : Type 0 where
  pub among : (status ≡ 0) ⊎ (status ≡ 5) ⊎ (status ≡ 9)
  -- 0 and 5: the outcome that is kept has what a trial keeps
  pub played : (status ≡ 0) ⊎ (status ≡ 5) → KeepsTrial script before after
  pub reported : status ≡ 0 → IfKept after.kept (λ outcome. PrintsWhole (report outcome brief) before after)
  pub sink_steady : status ≡ 0 → SinkSteady before after
  pub cut_off : status ≡ 5 → IfKept after.kept (λ outcome. PrintsFront (report outcome brief) before after)
  pub sink_cause : status ≡ 5 → SinkFailed before after
  -- 9: no report was printed, and no outcome kept
  pub no_memory : status ≡ 9 → Prints (codes "no memory\n") before after
  pub kept_before : status ≡ 9 → after.kept ≡ before.kept
  pub spent : status ≡ 9 → SpendsBenches before after
  pub others : after ≡ record before { kept = after.kept; sink = after.sink; benches = after.benches }

-- Where the sink didn't fail, it was played and its report printed, or memory ran out.
abbrev pub PlaysScript : ℕ → HostView → HostView → Type 0
PlaysScript status before after = (SinkFailed before after → ⊥) → (status ≡ 0) ⊎ (status ≡ 9)

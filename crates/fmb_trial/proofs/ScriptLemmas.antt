-- A script that is played, and its report: what that comes to on the host.
use Rattle.std.proofs.Common.{◌≡◌, ℕ, suc, Bool, ◌∷◌, length, refl, sym, ◌∙◌, ap, subst, inl, inr, arith}
use Rattle.std.specs.Prelude.{Option, codes}
use Rattle.text_streams.specs.States.{SinkState}
use Rattle.text_streams.specs.Writes as writes
use Rattle.fmb_host.specs.Host.{HostView}
use Rattle.fmb_host.specs.Stocks.{Stock}
use Rattle.medium_model.specs.State.{MediumState}
use Rattle.fmb_io.specs.Printed.{Prints}
use Rattle.fmb_text.specs.Report.{report}
use Rattle.trial_model.specs.Kept.{Kept}
use Rattle.trial_model.specs.Results.{Results}
use Rattle.trial_model.specs.Script.{Script, devices_of, lines_of}
use Rattle.trial_play.specs.OnMedia.{BenchStates, KeptOnMedia}
use Rattle.fmb_trial.specs.Benches.{PassesNew, SpendsBenches}
use Rattle.fmb_trial.specs.Played.{IsTrialOf, RanScript, Reports}
use Rattle.fmb_trial.proofs.BenchLemmas.{spent_along}
use Rattle.fmb_trial.proofs.DeviceLemmas.{same_count}

-- the benches of a trial went back
pub played_back : (script : Script) (outcome : Results) (benches : BenchStates) (devices : ℕ) (before after : HostView) → Kept script outcome → KeptOnMedia script outcome benches
    → devices ≡ length (devices_of (lines_of script)) → PassesNew (suc devices) (benches.server ∷ benches.devices) before.benches after.benches → IsTrialOf script outcome before after
played_back script outcome benches devices before after kept on_media count passes = record {
  kept = kept;
  benches = benches;
  on_media = on_media;
  returned = subst (λ n. PassesNew (suc n) (benches.server ∷ benches.devices) before.benches after.benches) (count ∙ sym (same_count _ benches.devices outcome.devices on_media.flashes)) passes;
}

-- so nothing is left of them
trial_spent : (script : Script) (outcome : Results) (before after : HostView) → IsTrialOf script outcome before after → SpendsBenches before after
trial_spent script outcome before after trial = record {
  given = suc (length trial.benches.devices);
  back = trial.benches.server ∷ trial.benches.devices;
  among = omega arith;
  benches = trial.returned;
}

-- only what is done with benches counts
pub trial_from : (script : Script) (outcome : Results) (before mid after : HostView) → mid.benches ≡ before.benches → IsTrialOf script outcome mid after → IsTrialOf script outcome before after
trial_from script outcome before mid after same trial = record {
  kept = trial.kept;
  benches = trial.benches;
  on_media = trial.on_media;
  returned = subst (λ s. PassesNew (suc (length trial.benches.devices)) (trial.benches.server ∷ trial.benches.devices) s after.benches) same trial.returned;
}

trial_along : (script : Script) (outcome : Results) (before mid after : HostView) → IsTrialOf script outcome before mid → after.benches ≡ mid.benches → IsTrialOf script outcome before after
trial_along script outcome before mid after trial same = record {
  kept = trial.kept;
  benches = trial.benches;
  on_media = trial.on_media;
  returned = subst (PassesNew (suc (length trial.benches.devices)) (trial.benches.server ∷ trial.benches.devices) before.benches) (sym same) trial.returned;
}

module _ (script : Script) (brief : Bool) (status : ℕ) (before mid after : HostView) (used : mid ≡ record before { benches = mid.benches }) where
  moved : (P : SinkState → SinkState → Type 0) → P mid.sink after.sink → P before.sink after.sink
  moved P holds = subst (λ s. P s after.sink) (ap (λ h. h.sink) used) holds

  -- only this changed
  only : after ≡ record mid { kept = after.kept; sink = after.sink } → after ≡ record before { kept = after.kept; sink = after.sink; benches = after.benches }
  only said = said ∙ (ap (λ (h : HostView). record h { kept = after.kept; sink = after.sink }) used ∙ ap (λ (b : Stock MediumState). record before { kept = after.kept; sink = after.sink; benches = b }) (sym (ap (λ h. h.benches) said)))

  -- it was played, and the outcome reported
  pub ran_finished : (outcome : Results) → IsTrialOf script outcome before mid → Reports outcome brief status mid after → RanScript script brief status before after
  ran_finished outcome trial reports = record {
    among = reports.among;
    played = λ s. record { outcome = outcome; is_kept = reports.kept s; trial = trial_along script outcome before mid after trial (ap (λ h. h.benches) reports.others) };
    reported = λ e. (outcome, reports.kept (inl e), moved (writes.PrintsWhole (report outcome brief)) (reports.reported e));
    sink_steady = λ e. moved writes.IsSteady (reports.sink_steady e);
    cut_off = λ e. (outcome, reports.kept (inr e), moved (writes.PrintsFront (report outcome brief)) (reports.cut_off e));
    sink_cause = λ e. moved writes.HasFailed (reports.sink_cause e);
    no_memory = λ e. moved (writes.Prints (codes "no memory\n")) (reports.no_memory e);
    kept_before = λ e. reports.kept_before e ∙ ap (λ h. h.kept) used;
    spent = λ e. spent_along before before mid after refl (ap (λ h. h.benches) reports.others) (trial_spent script outcome before mid trial);
    others = only reports.others;
  }

  -- memory ran out
  pub ran_wanting : SpendsBenches before mid → status ≡ 9 → Prints (codes "no memory\n") mid after → after ≡ record mid { sink = after.sink } → RanScript script brief status before after
  ran_wanting spent nine line said = record {
    among = inr (inr nine);
    played = λ s. elim s [ inl e ↦ absurd (omega (arith, e, nine)) | inr e ↦ absurd (omega (arith, e, nine)) ];
    reported = λ e. absurd (omega (arith, e, nine));
    sink_steady = λ e. absurd (omega (arith, e, nine));
    cut_off = λ e. absurd (omega (arith, e, nine));
    sink_cause = λ e. absurd (omega (arith, e, nine));
    no_memory = λ e. moved (writes.Prints (codes "no memory\n")) line;
    kept_before = λ e. ap (λ h. h.kept) said ∙ ap (λ h. h.kept) used;
    spent = λ e. spent_along before before mid after refl (ap (λ h. h.benches) said) spent;
    others = only (said ∙ ap (λ (k : Option Results). record mid { kept = k; sink = after.sink }) (sym (ap (λ h. h.kept) said)));
  }

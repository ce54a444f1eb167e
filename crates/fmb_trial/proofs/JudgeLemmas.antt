-- A text that is judged, and played where it is a script: what that comes to on the host.
use Rattle.std.proofs.Common.{◌≡◌, ◌⊎◌, ℕ, Bool, List, sym, ◌∙◌, ap, inl, inr, arith}
use Rattle.std.specs.Prelude.{Option, codes}
use Rattle.fmb_host.specs.Host.{HostView}
use Rattle.fmb_host.specs.Stocks.{Stock}
use Rattle.medium_model.specs.State.{MediumState}
use Rattle.trial_model.specs.Results.{Results}
use Rattle.fmb_io.specs.Printed.{Prints}
use Rattle.fmb_trial.specs.Ran.{IsRefused, Judged}
use Rattle.fmb_trial.proofs.BenchLemmas.{spent_none}

-- what changes the sink alone
pub sink_only : (before after : HostView) → after ≡ record before { sink = after.sink } → after ≡ record before { kept = after.kept; sink = after.sink; benches = after.benches }
sink_only before after said =
    said ∙ (ap (λ (k : Option Results). record before { kept = k; sink = after.sink }) (sym (ap (λ h. h.kept) said))
    ∙ ap (λ (b : Stock MediumState). record before { kept = after.kept; sink = after.sink; benches = b }) (sym (ap (λ h. h.benches) said)))

module _ (text : List ℕ) (brief : Bool) (status : ℕ) (before after : HostView) where
  -- it was not played
  pub judged_unplayed : (status ≡ 3) ⊎ (status ≡ 9) → (status ≡ 3 → IsRefused text (λ line. Prints line before after)) → (status ≡ 9 → Prints (codes "no memory\n") before after)
      → after ≡ record before { sink = after.sink } → Judged text brief status before after
  judged_unplayed among refused wanting said = record {
    among = elim among [ inl e ↦ inr (inl e) | inr e ↦ inr (inr (inr e)) ];
    played = λ s. absurd (elim s [ inl e ↦ not_0 e | inr e ↦ not_5 e ]);
    reported = λ e. absurd (not_0 e);
    sink_steady = λ e. absurd (not_0 e);
    cut_off = λ e. absurd (not_5 e);
    sink_cause = λ e. absurd (not_5 e);
    refused = refused;
    no_memory = wanting;
    kept_before = λ s. ap (λ h. h.kept) said;
    benches_before = λ e. ap (λ h. h.benches) said;
    spent = λ e. spent_none before after (ap (λ h. h.benches) said);
    others = sink_only before after said;
  }
    where
      not_0 : status ≡ 0 → ⊥
      not_0 e = elim among [ inl f ↦ omega (arith, e, f) | inr f ↦ omega (arith, e, f) ]

      not_5 : status ≡ 5 → ⊥
      not_5 e = elim among [ inl f ↦ omega (arith, e, f) | inr f ↦ omega (arith, e, f) ]

  -- memory ran out while it was read
  pub judged_wanting : status ≡ 9 → Prints (codes "no memory\n") before after → after ≡ record before { sink = after.sink } → Judged text brief status before after
  judged_wanting nine line said = judged_unplayed (inr nine) (λ e. absurd (omega (arith, e, nine))) (λ e. line) said

use Rattle.std.proofs.Common.{◌≡◌, Err, sym, ap, ◌∙◌}
use Rattle.fmb_io.specs.declared.fetching.Missing.TheVariants as Missed
use Rattle.fmb_trial.proofs.TrialLemmas.{judged_plays, judged_ran, judged_refuses, missed_ran}
use Rattle.fmb_trial.proofs.running.run_trial.Goals as goal

pub returns-in-Ok-clause-ran : goal.returns-in-Ok-clause-ran
returns-in-Ok-clause-ran g c =
    judged_ran _ _ (g.H.Host.view c.args.host.now) (g.H.Host.view c.fetch.new.host) _ c.fetch.ensures.others _ _ c.in-Ok.ensures.text (c.in-Ok.ensures.returned (λ e. cc)) (c.in-Ok.ensures.counts (λ e. cc) (λ e. cc))
    (rw c.as_slice.ensures.value at c.judge.ensures)

pub returns-in-Ok-clause-refuses : goal.returns-in-Ok-clause-refuses
returns-in-Ok-clause-refuses g c = λ text refusal next is counts.
    judged_refuses _ text _ _ _ (g.H.Host.view c.args.host.now) (g.H.Host.view c.fetch.new.host) _ next c.in-Ok.ensures.text (rw c.as_slice.ensures.value at c.judge.ensures) refusal is

pub returns-in-Ok-clause-plays : goal.returns-in-Ok-clause-plays
returns-in-Ok-clause-plays g c = λ text script next is counts steady.
    judged_plays _ text _ _ _ (g.H.Host.view c.args.host.now) (g.H.Host.view c.fetch.new.host) _ next c.in-Ok.ensures.text (rw c.as_slice.ensures.value at c.judge.ensures) script is
    (ap (λ h. h.sink) c.in-Ok.ensures.others) steady

pub returns-in-Err-clause-ran : goal.returns-in-Err-clause-ran
returns-in-Err-clause-ran g c =
    missed_ran _ _ (g.H.Host.view c.args.host.now) (g.H.Host.view c.fetch.new.host) (g.H.Host.view c.miss.new.host) c.fetch.ensures.others c.in-Err.missing _ _
    (λ other. c.fetch.ensures.returned (λ e. let same : Err c.in-Err.missing ≡ Err Missed.Host = sym c.in-Err.is ∙ e in other cc))
    (λ other another. c.fetch.ensures.counts (λ e. let same : Err c.in-Err.missing ≡ Err Missed.Host = sym c.in-Err.is ∙ e in other cc)
    (λ e. let same : Err c.in-Err.missing ≡ Err Missed.Source = sym c.in-Err.is ∙ e in another cc))
    (λ e. c.fetch.ensures.source_cause (c.in-Err.is ∙ ap Err e)) (λ e. c.fetch.ensures.host_cause (c.in-Err.is ∙ ap Err e))
    c.miss.ensures.host_fault c.miss.ensures.source_fault c.miss.ensures.no_memory c.miss.ensures.others

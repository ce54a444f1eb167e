-- A capture that was opened, shown and given back: what that comes to on the host.
use Rattle.std.proofs.Common.{◌≡◌, ◌≢◌, ◌⊎◌, ℕ, true, false, List, IfSome, refl, ◌∙◌, ap, inl, inr, arith}
use Rattle.std.specs.Prelude.{codes}
use Rattle.std.specs.Io.KnownBytes.{IsAtEnd}
use Rattle.avl_values.specs.Causes.{Rose}
use Rattle.text_streams.specs.States.{SourceState, SinkState}
use Rattle.text_streams.specs.Writes as writes
use Rattle.fmb_host.specs.Host.{HostView, HandsOut, TakesBack, counted_once, with_host_fault}
use Rattle.fmb_show.specs.Shown.{shown, shown_front}
use Rattle.fmb_io.specs.Printed.{Prints, and_no_memory}
use Rattle.fmb_run.specs.Show.{RanShow}
use Rattle.fmb_io.specs.Text.{IsOpened, IsTextOf, OfText}
use Rattle.fmb_io.proofs.Steps.{counted_back, kept_back, on_sink, once_none, once_some, opened_and_used, prints_on, used_and_back}

-- What a capture comes to on a source and a sink, by its status.
pub record ShowsOn (status : ℕ) (source read : SourceState) (first last : SinkState) : Type 0 where
  pub among : (status ≡ 0) ⊎ (status ≡ 3) ⊎ (status ≡ 4) ⊎ (status ≡ 5) ⊎ (status ≡ 9)
  pub shown_whole : status ≡ 0 → OfText source.left (λ text. ((shown text).faulty ≡ false) × writes.PrintsWhole (shown text).text first last)
  pub sink_steady : status ≡ 0 → writes.IsSteady first last
  pub at_end : (status ≡ 0) ⊎ (status ≡ 5) → IsAtEnd read.left
  pub faulty : status ≡ 3 → OfText source.left (λ text. ((shown text).faulty ≡ true) × writes.Prints (shown text).text first last)
  pub source_cause : status ≡ 4 → Rose source.faults read.faults
  pub source_line : status ≡ 4 → writes.Prints (codes "source fault\n") first last
  pub passed : status ≢ 4 → read.faults ≡ source.faults
  pub cut_off : status ≡ 5 → OfText source.left (λ text. ((shown text).faulty ≡ false) × writes.PrintsFront (shown text).text first last)
  pub sink_cause : status ≡ 5 → writes.HasFailed first last
  pub no_memory : status ≡ 9 → OfText source.left (λ text. (k : ℕ) × writes.Prints (and_no_memory (shown_front k text)) first last)

with_host : (status : ℕ) → (status ≡ 0) ⊎ (status ≡ 3) ⊎ (status ≡ 4) ⊎ (status ≡ 5) ⊎ (status ≡ 9)
    → (status ≡ 0) ⊎ (status ≡ 3) ⊎ (status ≡ 4) ⊎ (status ≡ 5) ⊎ (status ≡ 7) ⊎ (status ≡ 9)
with_host status (inl e) = inl e
with_host status (inr (inl e)) = inr (inl e)
with_host status (inr (inr (inl e))) = inr (inr (inl e))
with_host status (inr (inr (inr (inl e)))) = inr (inr (inr (inl e)))
with_host status (inr (inr (inr (inr e)))) = inr (inr (inr (inr (inr e))))

not_seven : (status : ℕ) → (status ≡ 0) ⊎ (status ≡ 3) ⊎ (status ≡ 4) ⊎ (status ≡ 5) ⊎ (status ≡ 9) → status ≡ 7 → ⊥
not_seven status (inl e) is = omega (arith, e, is)
not_seven status (inr (inl e)) is = omega (arith, e, is)
not_seven status (inr (inr (inl e))) is = omega (arith, e, is)
not_seven status (inr (inr (inr (inl e)))) is = omega (arith, e, is)
not_seven status (inr (inr (inr (inr e)))) is = omega (arith, e, is)

pub ran_show : (word : List ℕ) (status : ℕ) (before mid used after : HostView) (first last : SinkState) (source read : SourceState)
    → HandsOut before source mid → source.faults ≡ 0 → IfSome source.name (λ told. told ≡ word) → first ≡ mid.sink → used ≡ record mid { sink = last }
    → TakesBack used read after → ShowsOn status source read first last → RanShow word status before after
ran_show word status before mid used after first last source read out fresh named lent only back on = record {
  among = with_host status on.among;
  shown_whole = λ e. let s = on.shown_whole e in (s.0, opened s.0 s.1, (s.2.0, moved (writes.PrintsWhole (shown s.0).text) s.2.1));
  sink_steady = λ e. moved writes.IsSteady (on.sink_steady e);
  cut_off = λ e. let s = on.cut_off e in (s.0, opened s.0 s.1, (s.2.0, moved (writes.PrintsFront (shown s.0).text) s.2.1));
  sink_cause = λ e. moved writes.HasFailed (on.sink_cause e);
  faulty = λ e. let s = on.faulty e in (s.0, opened s.0 s.1, (s.2.0, moved (writes.Prints (shown s.0).text) s.2.1));
  source_cause = λ e. let rose = on.source_cause e in counted ∙ ap (λ n. record before.counts { texts = n }) (once_some before.counts.texts read.faults (omega (arith, rose, fresh)));
  source_line = λ e. moved (writes.Prints (codes "source fault\n")) (on.source_line e);
  host_cause = λ e. absurd (not_seven status on.among e);
  host_line = λ e. absurd (not_seven status on.among e);
  no_memory = λ e. let s = on.no_memory e in (s.0, opened s.0 s.1, (s.2.0, moved (writes.Prints (and_no_memory (shown_front s.2.0 s.0))) s.2.1));
  counts_before = λ not_source not_host. counted ∙ ap (λ n. record before.counts { texts = n }) (once_none before.counts.texts read.faults (on.passed not_source ∙ fresh));
  kept_before = kept_back before mid used after last source read out only back;
  returned = λ not_host. used_and_back before mid used after last source read (λ r. (status ≡ 0) ⊎ (status ≡ 5) → IsAtEnd r.left) out only back on.at_end;
  nothing_opened = λ e. absurd (not_seven status on.among e);
}
  where
    moved : (P : SinkState → SinkState → Type 0) → P first last → P before.sink after.sink
    moved P = on_sink before mid used after last source read P first lent out only back

    opened : (text : List ℕ) → IsTextOf source.left text → IsOpened word text before after
    opened text told = opened_and_used before mid used after last source read word text out named only back told

    counted : after.counts ≡ record before.counts { texts = counted_once before.counts.texts read.faults }
    counted = counted_back before mid used after last source read out only back

-- it could not be opened, and the line was printed
pub unopened_show : (word : List ℕ) (before mid after : HostView) → mid ≡ with_host_fault before → Prints (codes "host fault\n") mid after → after ≡ record mid { sink = after.sink }
    → RanShow word 7 before after
unopened_show word before mid after counted line said = record {
  among = inr (inr (inr (inr (inl refl))));
  shown_whole = λ e. absurd (omega (arith, e));
  sink_steady = λ e. absurd (omega (arith, e));
  cut_off = λ e. absurd (omega (arith, e));
  sink_cause = λ e. absurd (omega (arith, e));
  faulty = λ e. absurd (omega (arith, e));
  source_cause = λ e. absurd (omega (arith, e));
  source_line = λ e. absurd (omega (arith, e));
  host_cause = λ e. ap (λ h. h.counts) said ∙ ap (λ h. h.counts) counted;
  host_line = λ e. prints_on (codes "host fault\n") before mid after (ap (λ h. h.sink) counted) line;
  no_memory = λ e. absurd (omega (arith, e));
  counts_before = λ not_source not_host. absurd (not_host refl);
  kept_before = ap (λ h. h.kept) said ∙ ap (λ h. h.kept) counted;
  returned = λ not_host. absurd (not_host refl);
  nothing_opened = λ e. ap (λ h. h.texts) said ∙ ap (λ h. h.texts) counted;
}

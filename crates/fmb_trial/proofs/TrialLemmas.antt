-- A trial that was read from a host: what that comes to, by its status.
use Rattle.std.proofs.Common.{◌≡◌, ◌≢◌, ◌⊎◌, ◌+◌, ◌<◌, ◌^◌, ℕ, Bool, List, ◌∷◌, Option, None, Some, Ok, Err, IfSome, length, refl, sym, ◌∙◌, ap, subst, inl, inr, arith}
use Rattle.std.specs.Prelude.{codes}
use Rattle.std.specs.Io.KnownBytes.{IsAtEnd}
use Rattle.text_streams.specs.Refused.{refused_line}
use Rattle.text_streams.specs.States.{SourceState, SinkState}
use Rattle.text_streams.specs.Writes as writes
use Rattle.fmb_host.specs.Host.{HostView, with_host_fault}
use Rattle.fmb_host.specs.Stocks.{LosesFirst, Stock}
use Rattle.fmb_host.specs.declared.host.Counts.{Counts}
use Rattle.fmb_io.specs.declared.fetching.Missing.{Missing}
use Rattle.fmb_io.specs.declared.fetching.Missing.TheVariants as Missed
use Rattle.fmb_io.specs.Printed.{Prints}
use Rattle.fmb_io.specs.Text.{HasNext, IsOpened, IsReturned, ReadsText}
use Rattle.fmb_io.proofs.ReadSteps.{same_judged}
use Rattle.fmb_io.proofs.Steps.{prints_on, returned_along}
use Rattle.fmb_text.specs.Report.{report}
use Rattle.journey_script.specs.Faults.{fault_name}
use Rattle.journey_script.specs.Grammar.{Refusal, script_of}
use Rattle.journey_script.proofs.ReadingLemmas.{too_long}
use Rattle.trial_model.specs.Script.{Script}
use Rattle.fmb_trial.specs.Ran.{Judged, RanTrial}
use Rattle.fmb_trial.proofs.BenchLemmas.{spent_along, spent_none}
use Rattle.fmb_trial.proofs.JudgeLemmas.{sink_only}
use Rattle.fmb_trial.proofs.ScriptLemmas.{trial_from}

with_faults : (status : ℕ) → (status ≡ 0) ⊎ (status ≡ 3) ⊎ (status ≡ 5) ⊎ (status ≡ 9)
    → (status ≡ 0) ⊎ (status ≡ 3) ⊎ (status ≡ 4) ⊎ (status ≡ 5) ⊎ (status ≡ 7) ⊎ (status ≡ 9)
with_faults status (inl e) = inl e
with_faults status (inr (inl e)) = inr (inl e)
with_faults status (inr (inr (inl e))) = inr (inr (inr (inl e)))
with_faults status (inr (inr (inr e))) = inr (inr (inr (inr (inr e))))

no_faults : (status : ℕ) → (status ≡ 0) ⊎ (status ≡ 3) ⊎ (status ≡ 5) ⊎ (status ≡ 9) → (status ≡ 4) ⊎ (status ≡ 7) → ⊥
no_faults status (inl e) s = elim s [ inl f ↦ omega (arith, e, f) | inr f ↦ omega (arith, e, f) ]
no_faults status (inr (inl e)) s = elim s [ inl f ↦ omega (arith, e, f) | inr f ↦ omega (arith, e, f) ]
no_faults status (inr (inr (inl e))) s = elim s [ inl f ↦ omega (arith, e, f) | inr f ↦ omega (arith, e, f) ]
no_faults status (inr (inr (inr e))) s = elim s [ inl f ↦ omega (arith, e, f) | inr f ↦ omega (arith, e, f) ]

unplayed : (status : ℕ) → (status ≡ 0) ⊎ (status ≡ 3) ⊎ (status ≡ 5) ⊎ (status ≡ 9) → status ≢ 0 → status ≢ 5 → (status ≡ 3) ⊎ (status ≡ 9)
unplayed status (inl e) not_done not_cut = absurd (not_done e)
unplayed status (inr (inl e)) not_done not_cut = inl e
unplayed status (inr (inr (inl e))) not_done not_cut = absurd (not_cut e)
unplayed status (inr (inr (inr e))) not_done not_cut = inr e

one_of : {A B : Type 0} → A ⊎ B → (B → ⊥) → A
one_of (inl a) never = a
one_of (inr b) never = absurd (never b)

-- the text was read, or not, and then this changed
all_changed : (before mid after : HostView) → mid ≡ record before { counts = mid.counts; texts = mid.texts } → after ≡ record mid { kept = after.kept; sink = after.sink; benches = after.benches }
    → after ≡ record before { counts = after.counts; kept = after.kept; sink = after.sink; texts = after.texts; benches = after.benches }
all_changed before mid after fetched only =
    only ∙ (ap (λ (h : HostView). record h { kept = after.kept; sink = after.sink; benches = after.benches }) fetched
    ∙ (ap (λ (c : Counts). record before { counts = c; kept = after.kept; sink = after.sink; texts = mid.texts; benches = after.benches }) (sym (ap (λ h. h.counts) only))
    ∙ ap (λ (t : Stock SourceState). record before { counts = after.counts; kept = after.kept; sink = after.sink; texts = t; benches = after.benches }) (sym (ap (λ h. h.texts) only))))

-- a text that is a script was read to its end
script_ended : (left : Option (List ℕ)) (text : List ℕ) (script : Script) → IsAtEnd left ⊎ (2 ^ 24 < length text) → script_of text ≡ Ok script → IsAtEnd left
script_ended left text script (inl end) is = end
script_ended left text script (inr long) is = absurd (let never : Err _ ≡ Ok script = sym (too_long text long) ∙ is in cc)

module _ (word : List ℕ) (brief : Bool) (before mid after : HostView) (fetched : mid ≡ record before { counts = mid.counts; texts = mid.texts }) where
  -- the text failed, and the line was printed
  source_ran : (P : SourceState → Type 0) → mid.counts ≡ record before.counts { texts = before.counts.texts + 1 } → IsReturned P before mid
      → Prints (codes "source fault\n") mid after → after ≡ record mid { sink = after.sink } → RanTrial word brief 4 before after
  source_ran P counted returned line said = record {
    among = inr (inr (inl refl));
    played = λ s. elim s [ inl e ↦ absurd (omega (arith, e)) | inr e ↦ absurd (omega (arith, e)) ];
    reported = λ e. absurd (omega (arith, e));
    sink_steady = λ e. absurd (omega (arith, e));
    cut_off = λ e. absurd (omega (arith, e));
    sink_cause = λ e. absurd (omega (arith, e));
    refused = λ e. absurd (omega (arith, e));
    source_cause = λ e. ap (λ h. h.counts) said ∙ counted;
    source_line = λ e. prints_on (codes "source fault\n") before mid after (ap (λ h. h.sink) fetched) line;
    host_cause = λ e. absurd (omega (arith, e));
    host_line = λ e. absurd (omega (arith, e));
    no_memory = λ e. absurd (omega (arith, e));
    counts_before = λ not_source not_host. absurd (not_source refl);
    kept_before = λ not_done not_cut. ap (λ h. h.kept) said ∙ ap (λ h. h.kept) fetched;
    benches_before = λ not_done not_cut not_wanting. ap (λ h. h.benches) said ∙ ap (λ h. h.benches) fetched;
    spent = λ e. absurd (omega (arith, e));
    returned = λ not_host. let r = returned_along P before mid after returned (ap (λ h. h.texts) said) in
        record { source = r.source; read = r.read; passes = r.passes; holds = λ s. elim s [ inl e ↦ absurd (omega (arith, e)) | inr e ↦ absurd (omega (arith, e)) ] };
    nothing_opened = λ e. absurd (omega (arith, e));
    others = all_changed before mid after fetched (sink_only mid after said);
  }

  -- the text could not be opened, and the line was printed
  host_ran : mid ≡ with_host_fault before → Prints (codes "host fault\n") mid after → after ≡ record mid { sink = after.sink } → RanTrial word brief 7 before after
  host_ran counted line said = record {
    among = inr (inr (inr (inr (inl refl))));
    played = λ s. elim s [ inl e ↦ absurd (omega (arith, e)) | inr e ↦ absurd (omega (arith, e)) ];
    reported = λ e. absurd (omega (arith, e));
    sink_steady = λ e. absurd (omega (arith, e));
    cut_off = λ e. absurd (omega (arith, e));
    sink_cause = λ e. absurd (omega (arith, e));
    refused = λ e. absurd (omega (arith, e));
    source_cause = λ e. absurd (omega (arith, e));
    source_line = λ e. absurd (omega (arith, e));
    host_cause = λ e. ap (λ h. h.counts) said ∙ ap (λ h. h.counts) counted;
    host_line = λ e. prints_on (codes "host fault\n") before mid after (ap (λ h. h.sink) counted) line;
    no_memory = λ e. absurd (omega (arith, e));
    counts_before = λ not_source not_host. absurd (not_host refl);
    kept_before = λ not_done not_cut. ap (λ h. h.kept) said ∙ ap (λ h. h.kept) counted;
    benches_before = λ not_done not_cut not_wanting. ap (λ h. h.benches) said ∙ ap (λ h. h.benches) counted;
    spent = λ e. absurd (omega (arith, e));
    returned = λ not_host. absurd (not_host refl);
    nothing_opened = λ e. ap (λ h. h.texts) said ∙ ap (λ h. h.texts) counted;
    others = all_changed before mid after fetched (sink_only mid after said);
  }

  -- memory ran out while the text was read
  memory_ran : (P : SourceState → Type 0) → mid.counts ≡ before.counts → IsReturned P before mid → Prints (codes "no memory\n") mid after → after ≡ record mid { sink = after.sink }
      → RanTrial word brief 9 before after
  memory_ran P counts returned line said = record {
    among = inr (inr (inr (inr (inr refl))));
    played = λ s. elim s [ inl e ↦ absurd (omega (arith, e)) | inr e ↦ absurd (omega (arith, e)) ];
    reported = λ e. absurd (omega (arith, e));
    sink_steady = λ e. absurd (omega (arith, e));
    cut_off = λ e. absurd (omega (arith, e));
    sink_cause = λ e. absurd (omega (arith, e));
    refused = λ e. absurd (omega (arith, e));
    source_cause = λ e. absurd (omega (arith, e));
    source_line = λ e. absurd (omega (arith, e));
    host_cause = λ e. absurd (omega (arith, e));
    host_line = λ e. absurd (omega (arith, e));
    no_memory = λ e. prints_on (codes "no memory\n") before mid after (ap (λ h. h.sink) fetched) line;
    counts_before = λ not_source not_host. ap (λ h. h.counts) said ∙ counts;
    kept_before = λ not_done not_cut. ap (λ h. h.kept) said ∙ ap (λ h. h.kept) fetched;
    benches_before = λ not_done not_cut not_wanting. absurd (not_wanting refl);
    spent = λ e. spent_none before after (ap (λ h. h.benches) said ∙ ap (λ h. h.benches) fetched);
    returned = λ not_host. let r = returned_along P before mid after returned (ap (λ h. h.texts) said) in
        record { source = r.source; read = r.read; passes = r.passes; holds = λ s. elim s [ inl e ↦ absurd (omega (arith, e)) | inr e ↦ absurd (omega (arith, e)) ] };
    nothing_opened = λ e. absurd (omega (arith, e));
    others = all_changed before mid after fetched (sink_only mid after said);
  }

  -- the text was not had, and it was said why
  pub missed_ran : (missing : Missing) (status : ℕ) (P : SourceState → Type 0) → (missing ≢ Missed.Host → IsReturned P before mid) → (missing ≢ Missed.Host → missing ≢ Missed.Source → mid.counts ≡ before.counts)
      → (missing ≡ Missed.Source → mid.counts ≡ record before.counts { texts = before.counts.texts + 1 }) → (missing ≡ Missed.Host → mid ≡ with_host_fault before)
      → (missing ≡ Missed.Host → (status ≡ 7) × Prints (codes "host fault\n") mid after) → (missing ≡ Missed.Source → (status ≡ 4) × Prints (codes "source fault\n") mid after)
      → (missing ≡ Missed.NoMemory → (status ≡ 9) × Prints (codes "no memory\n") mid after) → after ≡ record mid { sink = after.sink } → RanTrial word brief status before after
  missed_ran missing status P returned counts source host seven four nine said = by_cause missing refl
    where
      by_cause : (m : Missing) → missing ≡ m → RanTrial word brief status before after
      by_cause Missed.Host is = subst (λ n. RanTrial word brief n before after) (sym (seven is).0) (host_ran (host is) (seven is).1 said)
      by_cause Missed.Source is = subst (λ n. RanTrial word brief n before after) (sym (four is).0)
          (source_ran P (source is) (returned (λ e. let never : Missed.Host ≡ Missed.Source = sym e ∙ is in cc)) (four is).1 said)
      by_cause Missed.NoMemory is = subst (λ n. RanTrial word brief n before after) (sym (nine is).0) (memory_ran P
          (counts (λ e. let never : Missed.Host ≡ Missed.NoMemory = sym e ∙ is in cc) (λ e. let never : Missed.Source ≡ Missed.NoMemory = sym e ∙ is in cc))
          (returned (λ e. let never : Missed.Host ≡ Missed.NoMemory = sym e ∙ is in cc)) (nine is).1 said)

  -- the text was read, judged and played
  pub judged_ran : (text : List ℕ) (status : ℕ) → ReadsText word text before mid → IsReturned (λ read. IsAtEnd read.left ⊎ (2 ^ 24 < length text)) before mid
      → mid.counts ≡ before.counts → Judged text brief status mid after → RanTrial word brief status before after
  judged_ran text status reads returned counts judged = record {
    among = with_faults status judged.among;
    played = λ s. let p = judged.played s in (
      found.0,
      opened,
      record {
        script = p.script;
        is_script = found.2 ∙ p.is_script;
        keeps = record {
          outcome = p.keeps.outcome;
          is_kept = p.keeps.is_kept;
          trial = trial_from p.script p.keeps.outcome before mid after same_benches p.keeps.trial;
        };
      },
    );
    reported = λ e. let r = judged.reported e in (r.0, r.1, moved (writes.PrintsWhole (report r.0 brief)) r.2);
    sink_steady = λ e. moved writes.IsSteady (judged.sink_steady e);
    cut_off = λ e. let r = judged.cut_off e in (r.0, r.1, moved (writes.PrintsFront (report r.0 brief)) r.2);
    sink_cause = λ e. moved writes.HasFailed (judged.sink_cause e);
    refused = λ e. let r = judged.refused e in
        (found.0, opened, record { refusal = r.refusal; is_fault = found.2 ∙ r.is_fault; printed = moved (writes.Prints (refused_line r.refusal.line (fault_name r.refusal.kind))) r.printed });
    source_cause = λ e. absurd (no_faults status judged.among (inl e));
    source_line = λ e. absurd (no_faults status judged.among (inl e));
    host_cause = λ e. absurd (no_faults status judged.among (inr e));
    host_line = λ e. absurd (no_faults status judged.among (inr e));
    no_memory = λ e. moved (writes.Prints (codes "no memory\n")) (judged.no_memory e);
    counts_before = λ not_source not_host. ap (λ h. h.counts) judged.others ∙ counts;
    kept_before = λ not_done not_cut. judged.kept_before (unplayed status judged.among not_done not_cut) ∙ ap (λ h. h.kept) fetched;
    benches_before = λ not_done not_cut not_wanting. judged.benches_before (one_of (unplayed status judged.among not_done not_cut) not_wanting) ∙ same_benches;
    spent = λ e. spent_along before mid after after same_benches refl (judged.spent e);
    returned = λ not_host. record {
      source = returned.source;
      read = returned.read;
      passes = rw (ap (λ h. h.texts) judged.others) returned.passes;
      holds = λ s. let p = judged.played s in script_ended returned.read.left text p.script returned.holds p.is_script;
    };
    nothing_opened = λ e. absurd (no_faults status judged.among (inr e));
    others = all_changed before mid after fetched judged.others;
  }
    where
      same_benches : mid.benches ≡ before.benches
      same_benches = ap (λ h. h.benches) fetched

      moved : (P : SinkState → SinkState → Type 0) → P mid.sink after.sink → P before.sink after.sink
      moved P holds = subst (λ s. P s after.sink) (ap (λ h. h.sink) fetched) holds

      found : (whole : List ℕ) × IfSome reads.source.left (λ bytes. bytes ≡ whole) × (script_of whole ≡ script_of text)
      found = same_judged script_of _ reads.source.left text too_long reads.read

      opened : IsOpened word found.0 before after
      opened = record {
        source = reads.source;
        next = rw (ap (λ h. h.texts) judged.others) reads.next;
        named = reads.named;
        bytes = found.1;
      }

-- a text that the host told is the same script as what was read of it
told_script : (word text got : List ℕ) (before mid : HostView) → HasNext text before → ReadsText word got before mid → script_of text ≡ script_of got
told_script word text got before mid next reads =
    let lost : LosesFirst (Some (next.source ∷ next.later)) reads.source mid.texts.coming = subst (λ o. LosesFirst o reads.source mid.texts.coming) next.texts reads.next in
    let left : reads.source.left ≡ Some text = ap (λ (s : SourceState). s.left) (sym (first_lost next.source reads.source next.later mid.texts.coming lost)) ∙ next.told in
    let found = same_judged script_of _ reads.source.left got too_long reads.read in
    let same : text ≡ found.0 = subst (λ o. IfSome o (λ bytes. bytes ≡ found.0)) left found.1 in
    ap script_of same ∙ found.2
  where
    first_lost : (a b : SourceState) (rest : List SourceState) (after : Option (List SourceState)) → LosesFirst (Some (a ∷ rest)) b after → a ≡ b
    first_lost a b rest None lost = absurd lost
    first_lost a b rest (Some later) lost = cc

module _ (word text got : List ℕ) (brief : Bool) (status : ℕ) (before mid after : HostView) (next : HasNext text before) (reads : ReadsText word got before mid) (judged : Judged got brief status mid after) where
  pub judged_refuses : (refusal : Refusal) → script_of text ≡ Err refusal → (status ≡ 3) ⊎ (status ≡ 9)
  judged_refuses refusal is = elim judged.among [
    | inl e ↦ (let p = judged.played (inl e) in never p.script p.is_script)
    | inr s ↦ elim s [
      | inl e ↦ inl e
      | inr t ↦ elim t [
        | inl e ↦ (let p = judged.played (inr e) in never p.script p.is_script)
        | inr e ↦ inr e
      ]
    ]
  ]
    where
      never : (script : Script) → script_of got ≡ Ok script → (status ≡ 3) ⊎ (status ≡ 9)
      never script ok = absurd (let bad : Err refusal ≡ Ok script = sym is ∙ told_script word text got before mid next reads ∙ ok in cc)

  pub judged_plays : (script : Script) → script_of text ≡ Ok script → mid.sink ≡ before.sink → (writes.HasFailed before.sink after.sink → ⊥) → (status ≡ 0) ⊎ (status ≡ 9)
  judged_plays script is same steady = elim judged.among [
    | inl e ↦ inl e
    | inr s ↦ elim s [
      | inl e ↦ (let r = judged.refused e in absurd (let bad : Err r.refusal ≡ Ok script = sym r.is_fault ∙ sym (told_script word text got before mid next reads) ∙ is in cc))
      | inr t ↦ elim t [
        | inl e ↦ absurd (steady (subst (λ s. writes.HasFailed s after.sink) same (judged.sink_cause e)))
        | inr e ↦ inr e
      ]
    ]
  ]

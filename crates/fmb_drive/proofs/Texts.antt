-- A script that is driven, from the text that a host opens to the status.
use Rattle.std.proofs.Common.{◌≡◌, ◌≢◌, ◌⊎◌, inl, inr, ◌+◌, ◌<◌, ◌^◌, ℕ, List, [], ◌∷◌, ◌++◌, length, Option, None, Result, Ok, Err, refl, sym, ap, subst, ◌∙◌, arith}
use Rattle.std.specs.Prelude.{codes}
use Rattle.std.specs.Io.KnownBytes.{IsAtEnd}
use Rattle.fmb_drive.specs.Drive.{AllBack, IsCutOff, IsDone, IsDrivable, IsDriven, IsFaulty, OfDriven, PrintsThen, RanDrive, Says, SaysFailed, SaysRefusal, at_flash, device_in, driven, idle, in_log, refusal_line, refuses}
use Rattle.fmb_drive.specs.Ending.{Drives, DrivesText}
use Rattle.fmb_drive.specs.Scripts.{TellsDevice}
use Rattle.fmb_drive.specs.declared.device.Driven.{Driven}
use Rattle.fmb_drive.specs.Log.{Event, back_in, drive_text, flash_line, given_in}
use Rattle.fmb_host.proofs.Stocks.{named_along, named_none}
use Rattle.fmb_host.specs.Host.{HostView, with_host_fault}
use Rattle.fmb_host.specs.Stocks.{PassesNamed, Stock}
use Rattle.fmb_host.specs.declared.host.Counts.{Counts}
use Rattle.fmb_io.proofs.ReadSteps.{same_judged}
use Rattle.fmb_io.proofs.Steps.{prints_on, returned_along}
use Rattle.fmb_io.specs.Printed.{Prints}
use Rattle.fmb_io.specs.declared.fetching.Missing.{Missing}
use Rattle.fmb_io.specs.declared.fetching.Missing.TheVariants as missing_by
use Rattle.fmb_io.specs.Text.{IsOpened, IsReturned, IsTextOf, ReadsText}
use Rattle.journey_script.proofs.ReadingLemmas.{too_long}
use Rattle.journey_script.specs.Faults.{fault_name}
use Rattle.journey_script.specs.Grammar.{Refuses, script_of}
use Rattle.journey_script.specs.declared.fault.ReadFault.{ReadFault}
use Rattle.journey_script.specs.declared.fault.ReadFault.TheVariants as read_by
use Rattle.journey_script.specs.declared.fault.ScriptFault.{ScriptFault}
use Rattle.medium_model.specs.State.{MediumState}
use Rattle.text_streams.specs.Refused.{refused_line}
use Rattle.text_streams.specs.States.{SinkState, SourceState}
use Rattle.text_streams.specs.Writes as writes
use Rattle.trial_model.specs.Script.{Device, Script}

-- nothing was handed out
pub all_back_none : {T : Type 0} (name : List ℕ) (a b : Stock T) → b ≡ a → AllBack name a b
all_back_none name a b same = record { given = []; back = []; same_count = refl; passes = named_along name [] [] a a b (named_none name a) same }

-- ---- a text that was judged
-- a script was driven
pub text_driven : (address flash : List ℕ) (text : List ℕ) (script : Script) (status : ℕ) (x y : HostView) → IsDrivable text script → Drives address flash script status x y → DrivesText address flash text status x y
text_driven address flash text script status x y is d = record {
  among = elim d.among [ inl e ↦ inl e | inr a ↦ inr (inr a) ];
  done = λ e. driven script is (d.done e);
  sink_steady = d.sink_steady;
  refused = λ e. absurd (never d.among e);
  cut_off = λ e. (script, is, d.cut_off e);
  sink_cause = d.sink_cause;
  medium_fault = λ e. (script, is, d.medium_fault e);
  medium_cause = d.medium_cause;
  host_fault = λ e. (script, is, d.host_fault e);
  host_cause = d.host_cause;
  refused_flash = λ e. (script, is, d.refused_flash e);
  no_memory = λ e. inr (script, is, d.no_memory e);
  media_back = d.media_back;
  wires_back = d.wires_back;
  texts_before = d.texts_before;
  host_before = d.host_before;
  doors_before = d.doors_before;
  others = d.others;
}
  where
    never : (status ≡ 0) ⊎ (status ≡ 5) ⊎ (status ≡ 6) ⊎ (status ≡ 7) ⊎ (status ≡ 8) ⊎ (status ≡ 9) → status ≡ 3 → ⊥
    never (inl a) e = omega (arith, a, e)
    never (inr (inl a)) e = omega (arith, a, e)
    never (inr (inr (inl a))) e = omega (arith, a, e)
    never (inr (inr (inr (inl a)))) e = omega (arith, a, e)
    never (inr (inr (inr (inr (inl a))))) e = omega (arith, a, e)
    never (inr (inr (inr (inr (inr a))))) e = omega (arith, a, e)

-- only the sink changed
same_but_sink : (x y : HostView) → y ≡ record x { sink = y.sink } → y ≡ record x { counts = y.counts; sink = y.sink; media = y.media; wires = y.wires }
same_but_sink x y e = e ∙ ap (λ (h : HostView). record x { counts = h.counts; sink = y.sink; media = h.media; wires = h.wires }) (sym e)

-- it was refused, or memory ran out
pub text_refused : (address flash : List ℕ) (text : List ℕ) (line : ℕ) (kind : ScriptFault) (status : ℕ) (x y : HostView) → IsFaulty text line kind → (status ≡ 3) ⊎ (status ≡ 9) → (status ≡ 3 → Prints (refused_line line (fault_name kind)) x y)
    → (status ≡ 9 → Prints (codes "no memory\n") x y) → y ≡ record x { sink = y.sink } → DrivesText address flash text status x y
text_refused address flash text line kind status x y faulty among refused no_memory others = record {
  among = elim among [ inl e ↦ inr (inl e) | inr e ↦ inr (inr (inr (inr (inr (inr e))))) ];
  done = λ e. absurd (never among e (λ k. omega (arith, k)) (λ k. omega (arith, k)));
  sink_steady = λ e. absurd (never among e (λ k. omega (arith, k)) (λ k. omega (arith, k)));
  refused = λ e. record { line = line; kind = kind; is = faulty; printed = refused e };
  cut_off = λ e. absurd (never among e (λ k. omega (arith, k)) (λ k. omega (arith, k)));
  sink_cause = λ e. absurd (never among e (λ k. omega (arith, k)) (λ k. omega (arith, k)));
  medium_fault = λ e. absurd (never among e (λ k. omega (arith, k)) (λ k. omega (arith, k)));
  medium_cause = λ e. absurd (never among e (λ k. omega (arith, k)) (λ k. omega (arith, k)));
  host_fault = λ e. absurd (never among e (λ k. omega (arith, k)) (λ k. omega (arith, k)));
  host_cause = λ e. absurd (never among e (λ k. omega (arith, k)) (λ k. omega (arith, k)));
  refused_flash = λ e. absurd (never among e (λ k. omega (arith, k)) (λ k. omega (arith, k)));
  no_memory = λ e. inl (no_memory e);
  media_back = all_back_none flash x.media y.media (ap (λ (h : HostView). h.media) others);
  wires_back = all_back_none address x.wires y.wires (ap (λ (h : HostView). h.wires) others);
  texts_before = ap (λ (h : HostView). h.counts.texts) others;
  host_before = λ other. ap (λ (h : HostView). h.counts.host) others;
  doors_before = ap (λ (h : HostView). h.counts.doors) others;
  others = same_but_sink x y others;
}
  where
    never : {k : ℕ} → (status ≡ 3) ⊎ (status ≡ 9) → status ≡ k → (3 ≡ k → ⊥) → (9 ≡ k → ⊥) → ⊥
    never (inl a) e three nine = three (sym a ∙ e)
    never (inr a) e three nine = nine (sym a ∙ e)

-- a script without a device
pub text_idle : (address flash : List ℕ) (text : List ℕ) (script : Script) (x : HostView) → IsDrivable text script → device_in script ≡ None → DrivesText address flash text 0 x x
text_idle address flash text script x is none = record {
  among = inl refl;
  done = λ e. idle script is none refl refl refl;
  sink_steady = λ e. refl;
  refused = λ e. absurd (omega (arith, e));
  cut_off = λ e. absurd (omega (arith, e));
  sink_cause = λ e. absurd (omega (arith, e));
  medium_fault = λ e. absurd (omega (arith, e));
  medium_cause = λ e. absurd (omega (arith, e));
  host_fault = λ e. absurd (omega (arith, e));
  host_cause = λ e. absurd (omega (arith, e));
  refused_flash = λ e. absurd (omega (arith, e));
  no_memory = λ e. absurd (omega (arith, e));
  media_back = all_back_none flash x.media x.media refl;
  wires_back = all_back_none address x.wires x.wires refl;
  texts_before = refl;
  host_before = λ other. refl;
  doors_before = refl;
  others = refl;
}

-- memory ran out before anything was done
pub text_no_memory : (address flash : List ℕ) (text : List ℕ) (status : ℕ) (x y : HostView) → status ≡ 9 → Prints (codes "no memory\n") x y → y ≡ record x { sink = y.sink } → DrivesText address flash text status x y
text_no_memory address flash text status x y is line others = record {
  among = inr (inr (inr (inr (inr (inr is)))));
  done = λ e. absurd (omega (arith, is, e));
  sink_steady = λ e. absurd (omega (arith, is, e));
  refused = λ e. absurd (omega (arith, is, e));
  cut_off = λ e. absurd (omega (arith, is, e));
  sink_cause = λ e. absurd (omega (arith, is, e));
  medium_fault = λ e. absurd (omega (arith, is, e));
  medium_cause = λ e. absurd (omega (arith, is, e));
  host_fault = λ e. absurd (omega (arith, is, e));
  host_cause = λ e. absurd (omega (arith, is, e));
  refused_flash = λ e. absurd (omega (arith, is, e));
  no_memory = λ e. inl line;
  media_back = all_back_none flash x.media y.media (ap (λ (h : HostView). h.media) others);
  wires_back = all_back_none address x.wires y.wires (ap (λ (h : HostView). h.wires) others);
  texts_before = ap (λ (h : HostView). h.counts.texts) others;
  host_before = λ other. ap (λ (h : HostView). h.counts.host) others;
  doors_before = ap (λ (h : HostView). h.counts.doors) others;
  others = same_but_sink x y others;
}

-- ---- the text that was opened

-- a text that is a script was read to its end
ended_text : (o : Option (List ℕ)) (text : List ℕ) (script : Script) → IsAtEnd o ⊎ (2 ^ 24 < length text) → script_of text ≡ Ok script → IsAtEnd o
ended_text o text script (inl end) is = end
ended_text o text script (inr long) is = absurd (let never : Err _ ≡ Ok script = sym (too_long text long) ∙ is in cc)

module _ (address flash word text : List ℕ) (status : ℕ) (x y z : HostView) (reads : ReadsText word text x y) (returned : IsReturned (λ read. IsAtEnd read.left ⊎ (2 ^ 24 < length text)) x y) (counts : y.counts ≡ x.counts)
    (fetched : y ≡ record x { counts = y.counts; texts = y.texts }) (d : DrivesText address flash text status y z) where
  sinks : y.sink ≡ x.sink
  sinks = ap (λ (h : HostView). h.sink) fetched

  media : y.media ≡ x.media
  media = ap (λ (h : HostView). h.media) fetched

  wires : y.wires ≡ x.wires
  wires = ap (λ (h : HostView). h.wires) fetched

  moved : (P : SinkState → SinkState → Type 0) → P y.sink z.sink → P x.sink z.sink
  moved P holds = subst (λ (s : SinkState). P s z.sink) sinks holds

  moved_then : (before line : List ℕ) → PrintsThen before line y z → PrintsThen before line x z
  moved_then before line p = record {
    mid = p.mid;
    whole = subst (λ (s : SinkState). writes.PrintsWhole before s p.mid) sinks p.whole;
    steady = subst (λ (s : SinkState). writes.IsSteady s p.mid) sinks p.steady;
    last = p.last;
  }

  found : (whole : List ℕ) × IsTextOf reads.source.left whole × (script_of whole ≡ script_of text)
  found = same_judged script_of _ reads.source.left text too_long reads.read

  opened : IsOpened word found.0 x z
  opened = record {
    source = reads.source;
    next = rw (ap (λ (h : HostView). h.texts) d.others) reads.next;
    named = reads.named;
    bytes = found.1;
  }

  drivable : (script : Script) → IsDrivable text script → IsDrivable found.0 script
  drivable script is = record { is_script = found.2 ∙ is.is_script; no_fault = is.no_fault }

  driven_from : (script : Script) → IsDriven address flash script y z → IsDriven address flash script x z
  driven_from script p = record {
    d = p.d;
    is = p.is;
    given = p.given;
    home = p.home;
    log = p.log;
    open_slots = p.open_slots;
    drove = p.drove;
    works = record {
      media = subst (λ s. PassesNamed flash (p.given ∷ []) (p.home ∷ []) s z.media) media p.works.media;
      wires = subst (λ s. PassesNamed address (given_in p.log) (back_in p.log) s z.wires) wires p.works.wires;
    };
    printed = moved (writes.PrintsWhole (drive_text p.d.imei p.log ++ flash_line p.open_slots)) p.printed;
  }

  done_from : IsDone address flash text y z → IsDone address flash found.0 x z
  done_from (idle script is none same_media same_wires sink) =
      idle script (drivable script is) none (same_media ∙ media) (same_wires ∙ wires) (sink ∙ sinks)
  done_from (driven script is p) = driven script (drivable script is) (driven_from script p)

  faulty_from : (line : ℕ) (kind : ScriptFault) → IsFaulty text line kind → IsFaulty found.0 line kind
  faulty_from line kind f = record { is = elim f.is [ inl e ↦ inl (found.2 ∙ e) | inr p ↦ inr (p.0, found.2 ∙ p.1, p.2) ] }

  -- what was begun
  of_from : (P Q : Script → Device → List Event → List MediumState → List MediumState → Type 0) → ((script : Script) (dev : Device) (log : List Event) (given home : List MediumState) → P script dev log given home → Q script dev log given home)
      → OfDriven flash text y z P → OfDriven flash found.0 x z Q
  of_from P Q along (script, is, p) = (
    script,
    drivable script is,
    record {
      d = p.d;
      is = p.is;
      given = p.given;
      home = p.home;
      log = p.log;
      came = p.came;
      media = subst (λ s. PassesNamed flash p.given p.home s z.media) media p.media;
      holds = along script p.d p.log p.given p.home p.holds;
    },
  )

  cut_from : (script : Script) (dev : Device) (log : List Event) (given home : List MediumState) → IsCutOff script y z dev log given home → IsCutOff script x z dev log given home
  cut_from script dev log given home (in_log given' home' front) = in_log given' home' (moved (writes.PrintsFront (drive_text dev.imei log)) front)
  cut_from script dev log given home (at_flash flash back count drove front) = at_flash flash back count drove (moved (writes.PrintsFront (drive_text dev.imei log ++ flash_line count)) front)

  refusal_from : (script : Script) (dev : Device) (log : List Event) (given home : List MediumState) → SaysRefusal script y z dev log given home → SaysRefusal script x z dev log given home
  refusal_from script dev log given home (refuses flash back refusal is p) = refuses flash back refusal is (moved_then (drive_text dev.imei log) (refusal_line refusal) p)

  says_from : (line : List ℕ) → OfDriven flash text y z (λ script. Says line y z) → OfDriven flash found.0 x z (λ script. Says line x z)
  says_from line p = of_from (λ script. Says line y z) (λ script. Says line x z) (λ script dev log given home q. moved_then (drive_text dev.imei log) line q) p

  -- the text of a script that was begun came back at its end
  back_at_end : (script : Script) → script_of text ≡ Ok script → IsReturned (λ read. IsAtEnd read.left) x z
  back_at_end script is = let r = returned_along (λ read. IsAtEnd read.left ⊎ (2 ^ 24 < length text)) x y z returned (ap (λ (h : HostView). h.texts) d.others) in
      record { source = r.source; read = r.read; passes = r.passes; holds = ended_text r.read.left text script r.holds is }

  script_done : IsDone address flash text y z → (script : Script) × (script_of text ≡ Ok script)
  script_done (idle script is none same_media same_wires sink) = (script, is.is_script)
  script_done (driven script is p) = (script, is.is_script)

  came_back : IsReturned (λ read. status ≢ 3 → status ≢ 4 → status ≢ 9 → IsAtEnd read.left) x z
  came_back = let r = returned_along (λ read. IsAtEnd read.left ⊎ (2 ^ 24 < length text)) x y z returned (ap (λ (h : HostView). h.texts) d.others) in
      record { source = r.source; read = r.read; passes = r.passes; holds = λ not_refused not_source not_memory. by r.read r.holds not_refused not_memory d.among }
    where
      by : (read : SourceState) → IsAtEnd read.left ⊎ (2 ^ 24 < length text) → status ≢ 3 → status ≢ 9 → (status ≡ 0) ⊎ (status ≡ 3) ⊎ (status ≡ 5) ⊎ (status ≡ 6) ⊎ (status ≡ 7) ⊎ (status ≡ 8) ⊎ (status ≡ 9) → IsAtEnd read.left
      by read holds not_refused not_memory (inl e) = let s = script_done (d.done e) in ended_text read.left text s.0 holds s.1
      by read holds not_refused not_memory (inr (inl e)) = absurd (not_refused e)
      by read holds not_refused not_memory (inr (inr (inl e))) = let p = d.cut_off e in ended_text read.left text p.0 holds p.1.is_script
      by read holds not_refused not_memory (inr (inr (inr (inl e)))) = let p = d.medium_fault e in ended_text read.left text p.0 holds p.1.is_script
      by read holds not_refused not_memory (inr (inr (inr (inr (inl e))))) = let p = d.host_fault e in ended_text read.left text p.0 holds p.1.is_script
      by read holds not_refused not_memory (inr (inr (inr (inr (inr (inl e)))))) = let p = d.refused_flash e in ended_text read.left text p.0 holds p.1.is_script
      by read holds not_refused not_memory (inr (inr (inr (inr (inr (inr e)))))) = absurd (not_memory e)

  pub ran_from : RanDrive address flash word status x z
  ran_from = record {
    among = elim d.among [ inl e ↦ inl e | inr a ↦ elim a [ inl e ↦ inr (inl e) | inr b ↦ inr (inr (inr b)) ] ];
    done = λ e. (found.0, opened, done_from (d.done e));
    sink_steady = λ e. moved writes.IsSteady (d.sink_steady e);
    refused = λ e. let r = d.refused e in (found.0, opened, record { line = r.line; kind = r.kind; is = faulty_from r.line r.kind r.is; printed = moved (writes.Prints (refused_line r.line (fault_name r.kind))) r.printed });
    source_cause = λ e. absurd (not_four d.among e);
    source_line = λ e. absurd (not_four d.among e);
    cut_off = λ e. (found.0, opened, of_from (λ script. IsCutOff script y z) (λ script. IsCutOff script x z) cut_from (d.cut_off e));
    sink_cause = λ e. moved writes.HasFailed (d.sink_cause e);
    medium_fault = λ e. (found.0, opened, of_from (λ script. SaysFailed y z) (λ script. SaysFailed x z) (λ script dev log given home p. (p.0, moved_then (drive_text dev.imei log) (codes "medium fault\n") p.1)) (d.medium_fault e));
    medium_cause = λ e. d.medium_cause e ∙ ap (λ (k : Counts). record k { media = k.media + 1 }) counts;
    host_fault = λ e. inr (found.0, opened, says_from (codes "host fault\n") (d.host_fault e));
    host_cause = λ e. d.host_cause e ∙ ap (λ (k : Counts). k.host + 1) counts;
    refused_flash = λ e. (found.0, opened, of_from (λ script. SaysRefusal script y z) (λ script. SaysRefusal script x z) refusal_from (d.refused_flash e));
    no_memory = λ e. elim (d.no_memory e) [ inl p ↦ inl (moved (writes.Prints (codes "no memory\n")) p) | inr p ↦ inr (found.0, opened, says_from (codes "no memory\n") p) ];
    returned = λ other. came_back;
    returned_or_none = λ e. let p = d.host_fault e in inr (back_at_end p.0 p.1.is_script);
    media_back = subst (λ s. AllBack flash s z.media) media d.media_back;
    wires_back = subst (λ s. AllBack address s z.wires) wires d.wires_back;
    texts_before = λ other. d.texts_before ∙ ap (λ (k : Counts). k.texts) counts;
    host_before = λ other. d.host_before other ∙ ap (λ (k : Counts). k.host) counts;
    doors_before = d.doors_before ∙ ap (λ (k : Counts). k.doors) counts;
    kept_before = ap (λ (h : HostView). h.kept) d.others ∙ ap (λ (h : HostView). h.kept) fetched;
    gates_before = ap (λ (h : HostView). h.gates) d.others ∙ ap (λ (h : HostView). h.gates) fetched;
    benches_before = ap (λ (h : HostView). h.benches) d.others ∙ ap (λ (h : HostView). h.benches) fetched;
  }
    where
      not_four : (status ≡ 0) ⊎ (status ≡ 3) ⊎ (status ≡ 5) ⊎ (status ≡ 6) ⊎ (status ≡ 7) ⊎ (status ≡ 8) ⊎ (status ≡ 9) → status ≡ 4 → ⊥
      not_four (inl a) e = omega (arith, a, e)
      not_four (inr (inl a)) e = omega (arith, a, e)
      not_four (inr (inr (inl a))) e = omega (arith, a, e)
      not_four (inr (inr (inr (inl a)))) e = omega (arith, a, e)
      not_four (inr (inr (inr (inr (inl a))))) e = omega (arith, a, e)
      not_four (inr (inr (inr (inr (inr (inl a)))))) e = omega (arith, a, e)
      not_four (inr (inr (inr (inr (inr (inr a)))))) e = omega (arith, a, e)

-- ---- the text was not had
module _ (address flash word : List ℕ) (status : ℕ) (x y z : HostView) (fetched : y ≡ record x { counts = y.counts; texts = y.texts }) (last : z ≡ record y { sink = z.sink }) where
  not_had : (P : SourceState → Type 0) → (status ≡ 4) ⊎ (status ≡ 7) ⊎ (status ≡ 9) → (status ≡ 4 → y.counts ≡ record x.counts { texts = x.counts.texts + 1 }) → (status ≡ 7 → y ≡ with_host_fault x) → (status ≡ 9 → y.counts ≡ x.counts)
      → (status ≡ 4 → Prints (codes "source fault\n") y z) → (status ≡ 7 → Prints (codes "host fault\n") y z) → (status ≡ 9 → Prints (codes "no memory\n") y z) → (status ≢ 7 → IsReturned P x y) → RanDrive address flash word status x z
  not_had P among source host memory source_line host_line memory_line returned = record {
    among = elim among [ inl e ↦ inr (inr (inl e)) | inr a ↦ elim a [ inl e ↦ inr (inr (inr (inr (inr (inl e))))) | inr e ↦ inr (inr (inr (inr (inr (inr (inr e)))))) ] ];
    done = λ e. absurd (never among e (λ k. omega (arith, k)) (λ k. omega (arith, k)) (λ k. omega (arith, k)));
    sink_steady = λ e. absurd (never among e (λ k. omega (arith, k)) (λ k. omega (arith, k)) (λ k. omega (arith, k)));
    refused = λ e. absurd (never among e (λ k. omega (arith, k)) (λ k. omega (arith, k)) (λ k. omega (arith, k)));
    source_cause = λ e. counts ∙ source e;
    source_line = λ e. on (codes "source fault\n") (source_line e);
    cut_off = λ e. absurd (never among e (λ k. omega (arith, k)) (λ k. omega (arith, k)) (λ k. omega (arith, k)));
    sink_cause = λ e. absurd (never among e (λ k. omega (arith, k)) (λ k. omega (arith, k)) (λ k. omega (arith, k)));
    medium_fault = λ e. absurd (never among e (λ k. omega (arith, k)) (λ k. omega (arith, k)) (λ k. omega (arith, k)));
    medium_cause = λ e. absurd (never among e (λ k. omega (arith, k)) (λ k. omega (arith, k)) (λ k. omega (arith, k)));
    host_fault = λ e. inl (none_opened e, on (codes "host fault\n") (host_line e));
    host_cause = λ e. ap (λ (k : Counts). k.host) (counts ∙ ap (λ (h : HostView). h.counts) (host e));
    refused_flash = λ e. absurd (never among e (λ k. omega (arith, k)) (λ k. omega (arith, k)) (λ k. omega (arith, k)));
    no_memory = λ e. inl (on (codes "no memory\n") (memory_line e));
    returned = λ other. let r = returned_along P x y z (returned other) (ap (λ (h : HostView). h.texts) last) in
        record { source = r.source; read = r.read; passes = r.passes; holds = λ not_refused not_source not_memory. absurd (elim among [ inl e ↦ not_source e | inr a ↦ elim a [ inl e ↦ other e | inr e ↦ not_memory e ] ]) };
    returned_or_none = λ e. inl (none_opened e);
    media_back = all_back_none flash x.media z.media (ap (λ (h : HostView). h.media) last ∙ ap (λ (h : HostView). h.media) fetched);
    wires_back = all_back_none address x.wires z.wires (ap (λ (h : HostView). h.wires) last ∙ ap (λ (h : HostView). h.wires) fetched);
    texts_before = λ other. elim among [ inl e ↦ absurd (other e) | inr a ↦ elim a [ inl e ↦ ap (λ (k : Counts). k.texts) (counts ∙ ap (λ (h : HostView). h.counts) (host e)) | inr e ↦ ap (λ (k : Counts). k.texts) (counts ∙ memory e) ] ];
    host_before = λ other. elim among [ inl e ↦ ap (λ (k : Counts). k.host) (counts ∙ source e) | inr a ↦ elim a [ inl e ↦ absurd (other e) | inr e ↦ ap (λ (k : Counts). k.host) (counts ∙ memory e) ] ];
    doors_before = elim among [ inl e ↦ ap (λ (k : Counts). k.doors) (counts ∙ source e) | inr a ↦ elim a [ inl e ↦ ap (λ (k : Counts). k.doors) (counts ∙ ap (λ (h : HostView). h.counts) (host e)) | inr e ↦ ap (λ (k : Counts). k.doors) (counts ∙ memory e) ] ];
    kept_before = ap (λ (h : HostView). h.kept) last ∙ ap (λ (h : HostView). h.kept) fetched;
    gates_before = ap (λ (h : HostView). h.gates) last ∙ ap (λ (h : HostView). h.gates) fetched;
    benches_before = ap (λ (h : HostView). h.benches) last ∙ ap (λ (h : HostView). h.benches) fetched;
  }
    where
      counts : z.counts ≡ y.counts
      counts = ap (λ (h : HostView). h.counts) last

      none_opened : status ≡ 7 → z.texts ≡ x.texts
      none_opened e = ap (λ (h : HostView). h.texts) last ∙ ap (λ (h : HostView). h.texts) (host e)

      on : (line : List ℕ) → Prints line y z → Prints line x z
      on line p = prints_on line x y z (ap (λ (h : HostView). h.sink) fetched) p

      never : {k : ℕ} → (status ≡ 4) ⊎ (status ≡ 7) ⊎ (status ≡ 9) → status ≡ k → (4 ≡ k → ⊥) → (7 ≡ k → ⊥) → (9 ≡ k → ⊥) → ⊥
      never (inl a) e four seven nine = four (sym a ∙ e)
      never (inr (inl a)) e four seven nine = seven (sym a ∙ e)
      never (inr (inr a)) e four seven nine = nine (sym a ∙ e)

  -- by why it was not had
  pub missed : (P : SourceState → Type 0) (missing : Missing) → (missing ≡ missing_by.Source → y.counts ≡ record x.counts { texts = x.counts.texts + 1 }) → (missing ≡ missing_by.Host → y ≡ with_host_fault x) → (missing ≡ missing_by.NoMemory → y.counts ≡ x.counts)
      → (missing ≡ missing_by.Host → (status ≡ 7) × Prints (codes "host fault\n") y z) → (missing ≡ missing_by.Source → (status ≡ 4) × Prints (codes "source fault\n") y z) → (missing ≡ missing_by.NoMemory → (status ≡ 9) × Prints (codes "no memory\n") y z)
      → (missing ≢ missing_by.Host → IsReturned P x y) → RanDrive address flash word status x z
  missed P missing_by.Host source host memory by_host by_source by_memory returned = let p = by_host refl in
      not_had P (inr (inl p.0)) (λ e. absurd (omega (arith, p.0, e))) (λ e. host refl) (λ e. absurd (omega (arith, p.0, e))) (λ e. absurd (omega (arith, p.0, e))) (λ e. p.1) (λ e. absurd (omega (arith, p.0, e))) (λ other. absurd (other p.0))
  missed P missing_by.Source source host memory by_host by_source by_memory returned = let p = by_source refl in
      not_had P (inl p.0) (λ e. source refl) (λ e. absurd (omega (arith, p.0, e))) (λ e. absurd (omega (arith, p.0, e))) (λ e. p.1) (λ e. absurd (omega (arith, p.0, e))) (λ e. absurd (omega (arith, p.0, e))) (λ other. returned (λ k. cc))
  missed P missing_by.NoMemory source host memory by_host by_source by_memory returned = let p = by_memory refl in
      not_had P (inr (inr p.0)) (λ e. absurd (omega (arith, p.0, e))) (λ e. absurd (omega (arith, p.0, e))) (λ e. memory refl) (λ e. absurd (omega (arith, p.0, e))) (λ e. absurd (omega (arith, p.0, e))) (λ e. p.1) (λ other. returned (λ k. cc))

-- ---- why it was not had
pub err_same : {T E : Type 0} (r : Result T E) (a b : E) → r ≡ Err a → r ≡ Err b → a ≡ b
err_same r a b first next = let both : Err a ≡ Err b = sym first ∙ next in cc

pub memory_not_host : (m : Missing) → m ≡ missing_by.NoMemory → m ≡ missing_by.Host → ⊥
memory_not_host m a b = let both : missing_by.NoMemory ≡ missing_by.Host = sym a ∙ b in cc

pub memory_not_source : (m : Missing) → m ≡ missing_by.NoMemory → m ≡ missing_by.Source → ⊥
memory_not_source m a b = let both : missing_by.NoMemory ≡ missing_by.Source = sym a ∙ b in cc

-- a script that was found to have no device
pub tells_none : (o : Option Driven) (script : Script) → o ≡ None → TellsDevice o script → device_in script ≡ None
tells_none o script is tells = subst (λ (v : Option Driven). TellsDevice v script) is tells

-- the first fault of a text that is no script
pub faulty_by : (text : List ℕ) (why : ReadFault) (line : ℕ) (kind : ScriptFault) → why ≡ read_by.Line line kind → Refuses (script_of text) why → IsFaulty text line kind
faulty_by text why line kind is refused = record { is = inl (subst (λ (f : ReadFault). Refuses (script_of text) f) is refused) }

-- How a drive ends: what its steps come to, from the flash that was handed out to the last line.
use Rattle.std.proofs.Common.{◌≡◌, ◌⊎◌, inl, inr, ◌+◌, ◌==◌, ℕ, Bool, true, false, List, [], ◌∷◌, ◌++◌, length, take, None, refl, sym, ap, subst, ◌∙◌, arith}
use Rattle.std.specs.Prelude.{Err, IfErr, IfOk, Ok, Result, codes, if◌then◌else◌}
use Rattle.std.proofs.KnownBytes.{Appends-nil, Appends-trans}
use Rattle.std.proofs.Math.Seq.{take-append-add}
use Rattle.std.specs.Io.KnownBytes.{Appends}
use Rattle.std.proofs.lemmas.Bool.Decides.{nat_tests}
use Rattle.avl_values.specs.Causes.{Rose}
use Rattle.acquisition.specs.Settings.{AcquisitionSettings}
use Rattle.avl_values.specs.declared.order.Order.{Order}
use Rattle.flash_ring.specs.Refusal.{Refuses}
use Rattle.flash_ring.specs.declared.load.ReopenFault.TheVariants as fault
use Rattle.fmb_drive.proofs.History.{balanced, drivable_has_none}
use Rattle.fmb_drive.proofs.Progress.{same_links}
use Rattle.fmb_drive.specs.Drive.{CameTo, Drove, FlashRefusal, IsCutOff, IsDriven, IsRefusal, IsSpent, OfPlayed, Opens, PrintsThen, Says, SaysFailed, SaysRefusal, at_flash, driver_of, ended, failed, in_log, refusal_line, refuses, sequence, size as wrong_size, slot as bad_slot, start, unopened}
use Rattle.fmb_drive.specs.Runs.{Driver, Runs}
use Rattle.fmb_drive.specs.Scripts.{IsDevice}
use Rattle.fmb_drive.specs.Steps.{DrovePlain}
use Rattle.fmb_host.proofs.Stocks.{named_along, named_none, named_one}
use Rattle.fmb_host.specs.Stocks.{PassesNamed, Regains, Stock}
use Rattle.journey_script.specs.Drive.{drive_fault_in}
use Rattle.fmb_drive.specs.Ending.{Drives, EndsEarly, EndsWell, StopsOn}
use Rattle.fmb_drive.specs.Halts.{Halts, stop_line, stop_status}
use Rattle.fmb_drive.specs.Log.{Event, back_in, drive_text, flash_line, given_in}
use Rattle.fmb_drive.specs.declared.stop.Stop.{Stop}
use Rattle.fmb_drive.specs.declared.stop.Stop.TheVariants as stop
use Rattle.fmb_host.specs.Host.{HandsOutMedium, HostView, TakesBackMedium, counted_once, with_host_fault}
use Rattle.fmb_host.specs.declared.host.Counts.{Counts}
use Rattle.fmb_io.specs.Printed.{Prints, PrintsFront, PrintsWhole, SinkFailed, SinkSteady}
use Rattle.links.specs.Links.{LinkState}
use Rattle.medium_model.specs.State.{IfTold, MediumState}
use Rattle.text_streams.specs.States.{SinkState}
use Rattle.text_streams.specs.Writes as writes
use Rattle.trial_model.specs.Script.{Device, Script}

-- the front of a line was printed after a whole text
pub front_after : (text line : List ℕ) (a b c : SinkState) → writes.PrintsWhole text a b → writes.PrintsFront line b c → writes.PrintsFront (text ++ line) a c
front_after text line a b c first (n, next) = (length text + n, subst (λ (t : List ℕ). Appends a.written c.written t) (sym (take-append-add text line n)) (Appends-trans a.written b.written c.written text (take n line) first next))

-- ---- statuses
off : (status n k : ℕ) → (status ≡ n) ⊎ (status ≡ 9) → status ≡ k → (n ≡ k → ⊥) → (9 ≡ k → ⊥) → ⊥
off status n k (inl a) e apart nine = apart (sym a ∙ e)
off status n k (inr a) e apart nine = nine (sym a ∙ e)

at_five : (s : Stop) (status : ℕ) → (status ≡ stop_status s) ⊎ (status ≡ 9) → status ≡ 5 → s ≡ stop.SinkFault
at_five stop.SinkFault status a e = refl
at_five stop.MediumFault status a e = absurd (off status 6 5 a e (λ x. omega (arith, x)) (λ x. omega (arith, x)))
at_five stop.HostFault status a e = absurd (off status 7 5 a e (λ x. omega (arith, x)) (λ x. omega (arith, x)))
at_five (stop.Size got wanted) status a e = absurd (off status 8 5 a e (λ x. omega (arith, x)) (λ x. omega (arith, x)))
at_five (stop.Slot number) status a e = absurd (off status 8 5 a e (λ x. omega (arith, x)) (λ x. omega (arith, x)))
at_five stop.Sequence status a e = absurd (off status 8 5 a e (λ x. omega (arith, x)) (λ x. omega (arith, x)))
at_five stop.NoMemory status a e = absurd (off status 9 5 a e (λ x. omega (arith, x)) (λ x. omega (arith, x)))

at_six : (s : Stop) (status : ℕ) → (status ≡ stop_status s) ⊎ (status ≡ 9) → status ≡ 6 → s ≡ stop.MediumFault
at_six stop.SinkFault status a e = absurd (off status 5 6 a e (λ x. omega (arith, x)) (λ x. omega (arith, x)))
at_six stop.MediumFault status a e = refl
at_six stop.HostFault status a e = absurd (off status 7 6 a e (λ x. omega (arith, x)) (λ x. omega (arith, x)))
at_six (stop.Size got wanted) status a e = absurd (off status 8 6 a e (λ x. omega (arith, x)) (λ x. omega (arith, x)))
at_six (stop.Slot number) status a e = absurd (off status 8 6 a e (λ x. omega (arith, x)) (λ x. omega (arith, x)))
at_six stop.Sequence status a e = absurd (off status 8 6 a e (λ x. omega (arith, x)) (λ x. omega (arith, x)))
at_six stop.NoMemory status a e = absurd (off status 9 6 a e (λ x. omega (arith, x)) (λ x. omega (arith, x)))

at_seven : (s : Stop) (status : ℕ) → (status ≡ stop_status s) ⊎ (status ≡ 9) → status ≡ 7 → s ≡ stop.HostFault
at_seven stop.SinkFault status a e = absurd (off status 5 7 a e (λ x. omega (arith, x)) (λ x. omega (arith, x)))
at_seven stop.MediumFault status a e = absurd (off status 6 7 a e (λ x. omega (arith, x)) (λ x. omega (arith, x)))
at_seven stop.HostFault status a e = refl
at_seven (stop.Size got wanted) status a e = absurd (off status 8 7 a e (λ x. omega (arith, x)) (λ x. omega (arith, x)))
at_seven (stop.Slot number) status a e = absurd (off status 8 7 a e (λ x. omega (arith, x)) (λ x. omega (arith, x)))
at_seven stop.Sequence status a e = absurd (off status 8 7 a e (λ x. omega (arith, x)) (λ x. omega (arith, x)))
at_seven stop.NoMemory status a e = absurd (off status 9 7 a e (λ x. omega (arith, x)) (λ x. omega (arith, x)))

-- the flash is refused
record IsFlashStop (s : Stop) (d : Driver) (slots : ℕ) (script : Script) (given home : MediumState) (log : List Event) : Type 0 where
  refusal : FlashRefusal
  line : stop_line s ≡ refusal_line refusal
  status : 8 ≡ stop_status s
  no_sink_fault : s ≡ stop.SinkFault → ⊥
  is : IsRefusal d slots script given home log refusal

module _ (d : Driver) (slots : ℕ) (script : Script) (given home : MediumState) (log : List Event) where
  at_eight : (s : Stop) (status : ℕ) → ((got wanted : ℕ) → s ≡ stop.Size got wanted → IfTold home.content (λ c. Refuses slots c.reads (fault.WrongSize got wanted)))
      → ((number : ℕ) → s ≡ stop.Slot number → IfTold home.content (λ c. Refuses slots c.reads (fault.BadSlot number))) → (s ≡ stop.Sequence → IsSpent d slots script given log)
      → (status ≡ stop_status s) ⊎ (status ≡ 9) → status ≡ 8 → IsFlashStop s d slots script given home log
  at_eight stop.SinkFault status size_is slot_is spent_is a e = absurd (off status 5 8 a e (λ x. omega (arith, x)) (λ x. omega (arith, x)))
  at_eight stop.MediumFault status size_is slot_is spent_is a e = absurd (off status 6 8 a e (λ x. omega (arith, x)) (λ x. omega (arith, x)))
  at_eight stop.HostFault status size_is slot_is spent_is a e = absurd (off status 7 8 a e (λ x. omega (arith, x)) (λ x. omega (arith, x)))
  at_eight (stop.Size got wanted) status size_is slot_is spent_is a e = record { refusal = wrong_size got wanted; line = refl; status = refl; no_sink_fault = λ x. cc; is = size_is got wanted refl }
  at_eight (stop.Slot number) status size_is slot_is spent_is a e = record { refusal = bad_slot number; line = refl; status = refl; no_sink_fault = λ x. cc; is = slot_is number refl }
  at_eight stop.Sequence status size_is slot_is spent_is a e = record { refusal = sequence; line = refl; status = refl; no_sink_fault = λ x. cc; is = spent_is refl }
  at_eight stop.NoMemory status size_is slot_is spent_is a e = absurd (off status 9 8 a e (λ x. omega (arith, x)) (λ x. omega (arith, x)))

among_of : (s : Stop) (status : ℕ) → (status ≡ stop_status s) ⊎ (status ≡ 9) → (status ≡ 0) ⊎ (status ≡ 5) ⊎ (status ≡ 6) ⊎ (status ≡ 7) ⊎ (status ≡ 8) ⊎ (status ≡ 9)
among_of s status (inr e) = inr (inr (inr (inr (inr e))))
among_of stop.SinkFault status (inl e) = inr (inl e)
among_of stop.MediumFault status (inl e) = inr (inr (inl e))
among_of stop.HostFault status (inl e) = inr (inr (inr (inl e)))
among_of (stop.Size got wanted) status (inl e) = inr (inr (inr (inr (inl e))))
among_of (stop.Slot number) status (inl e) = inr (inr (inr (inr (inl e))))
among_of stop.Sequence status (inl e) = inr (inr (inr (inr (inl e))))
among_of stop.NoMemory status (inl e) = inr (inr (inr (inr (inr e))))

never_done : (s : Stop) (status : ℕ) → (status ≡ stop_status s) ⊎ (status ≡ 9) → status ≡ 0 → ⊥
never_done stop.SinkFault status a e = off status 5 0 a e (λ x. omega (arith, x)) (λ x. omega (arith, x))
never_done stop.MediumFault status a e = off status 6 0 a e (λ x. omega (arith, x)) (λ x. omega (arith, x))
never_done stop.HostFault status a e = off status 7 0 a e (λ x. omega (arith, x)) (λ x. omega (arith, x))
never_done (stop.Size got wanted) status a e = off status 8 0 a e (λ x. omega (arith, x)) (λ x. omega (arith, x))
never_done (stop.Slot number) status a e = off status 8 0 a e (λ x. omega (arith, x)) (λ x. omega (arith, x))
never_done stop.Sequence status a e = off status 8 0 a e (λ x. omega (arith, x)) (λ x. omega (arith, x))
never_done stop.NoMemory status a e = off status 9 0 a e (λ x. omega (arith, x)) (λ x. omega (arith, x))

host_or_not : (s : Stop) → (s ≡ stop.HostFault) ⊎ (s ≡ stop.HostFault → ⊥)
host_or_not stop.SinkFault = inr (λ e. cc)
host_or_not stop.MediumFault = inr (λ e. cc)
host_or_not stop.HostFault = inl refl
host_or_not (stop.Size got wanted) = inr (λ e. cc)
host_or_not (stop.Slot number) = inr (λ e. cc)
host_or_not stop.Sequence = inr (λ e. cc)
host_or_not stop.NoMemory = inr (λ e. cc)

counted_more : (count faults : ℕ) → Rose 0 faults → counted_once count faults ≡ count + 1
counted_more count faults rose = by (faults == 0) refl
  where
    by : (b : Bool) → (faults == 0) ≡ b → (if b then count else count + 1) ≡ count + 1
    by true e = absurd (let zero : faults ≡ 0 = grind (arith, nat_tests) in omega (arith, zero, rose))
    by false e = refl

-- ---- from the flash that was handed out to the last line
module _ (address flash : List ℕ) (script : Script) (x y z w v : HostView) (given home : MediumState) (out : HandsOutMedium x flash given y) (back : TakesBackMedium z home w) (last : v ≡ record w { sink = v.sink }) where
  x_sink : y.sink ≡ x.sink
  x_sink = ap (λ (h : HostView). h.sink) out.others

  z_sink : w.sink ≡ z.sink
  z_sink = ap (λ (h : HostView). h.sink) back.others

  counts_back : v.counts ≡ record z.counts { media = counted_once z.counts.media home.faults }
  counts_back = ap (λ (h : HostView). h.counts) last ∙ ap (λ (h : HostView). h.counts) back.others

  counts_out : y.counts ≡ x.counts
  counts_out = ap (λ (h : HostView). h.counts) out.others

  pub along_sinks : (P : SinkState → SinkState → Type 0) → P y.sink z.sink → P x.sink w.sink
  along_sinks P p = subst (λ (s : SinkState). P s w.sink) x_sink (subst (λ (s : SinkState). P y.sink s) (sym z_sink) p)

  -- nothing changed but what is handed out and taken back, counted and printed
  pub only : z ≡ record y { counts = z.counts; sink = z.sink; wires = z.wires } → v ≡ record x { counts = v.counts; sink = v.sink; media = v.media; wires = v.wires }
  only others = record_same x v
      (ap (λ (h : HostView). h.kept) last ∙ ap (λ (h : HostView). h.kept) back.others ∙ ap (λ (h : HostView). h.kept) others ∙ ap (λ (h : HostView). h.kept) out.others)
      (ap (λ (h : HostView). h.texts) last ∙ ap (λ (h : HostView). h.texts) back.others ∙ ap (λ (h : HostView). h.texts) others ∙ ap (λ (h : HostView). h.texts) out.others)
      (ap (λ (h : HostView). h.gates) last ∙ ap (λ (h : HostView). h.gates) back.others ∙ ap (λ (h : HostView). h.gates) others ∙ ap (λ (h : HostView). h.gates) out.others)
      (ap (λ (h : HostView). h.benches) last ∙ ap (λ (h : HostView). h.benches) back.others ∙ ap (λ (h : HostView). h.benches) others ∙ ap (λ (h : HostView). h.benches) out.others)
    where
      record_same : (x v : HostView) → v.kept ≡ x.kept → v.texts ≡ x.texts → v.gates ≡ x.gates → v.benches ≡ x.benches → v ≡ record x { counts = v.counts; sink = v.sink; media = v.media; wires = v.wires }
      record_same x v kept texts gates benches =
          ap (λ k. let h : HostView = record v { kept = k } in h) kept ∙ ap (λ t. let h : HostView = record v { kept = x.kept; texts = t } in h) texts
          ∙ ap (λ g. let h : HostView = record v { kept = x.kept; texts = x.texts; gates = g } in h) gates
          ∙ ap (λ b. let h : HostView = record v { kept = x.kept; texts = x.texts; gates = x.gates; benches = b } in h) benches

  media_are : z.media ≡ y.media → PassesNamed flash (given ∷ []) (home ∷ []) x.media v.media
  media_are same = subst (λ s. PassesNamed flash (given ∷ []) (home ∷ []) x.media s) (sym (ap (λ (h : HostView). h.media) last))
      (named_one flash given home x.media y.media w.media out.media (subst (λ s. Regains s home w.media) same back.media))

  wires_are : (links ends : List LinkState) → PassesNamed address links ends y.wires z.wires → PassesNamed address links ends x.wires v.wires
  wires_are links ends p = subst (λ s. PassesNamed address links ends s v.wires) (ap (λ (h : HostView). h.wires) out.others)
      (subst (λ s. PassesNamed address links ends y.wires s) (sym (ap (λ (h : HostView). h.wires) last ∙ ap (λ (h : HostView). h.wires) back.others)) p)

  -- the device that was driven
  module _ (imei slots : ℕ) (order : Order) (settings : AcquisitionSettings) (dev : IsDevice imei slots order settings script) where
    abbrev by_words : Driver
    by_words = record { imei = imei; order = order; settings = settings }

    driver_is : by_words ≡ driver_of dev.d
    driver_is = cc (dev.imei, dev.order, dev.settings)

    -- what was begun, in the device's own words
    played : (P : Device → List Event → List MediumState → List MediumState → Type 0) (log : List Event) → z.media ≡ y.media → CameTo by_words slots script (given ∷ []) log → P dev.d log (given ∷ []) (home ∷ []) → OfPlayed flash script x v P
    played P log same came holds = record {
      d = dev.d;
      is = dev.is;
      given = given ∷ [];
      home = home ∷ [];
      log = log;
      came = subst (λ (n : ℕ). CameTo (driver_of dev.d) n script (given ∷ []) log) (sym dev.slots) (subst (λ (d : Driver). CameTo d slots script (given ∷ []) log) driver_is came);
      media = media_are same;
      holds = holds;
    }

    says : (log : List Event) (line : List ℕ) → PrintsWhole (drive_text imei log) y z → SinkSteady y z → Prints line w v → PrintsThen (drive_text dev.d.imei log) line x v
    says log line printed steady p = record {
      mid = w.sink;
      whole = subst (λ (n : ℕ). writes.PrintsWhole (drive_text n log) x.sink w.sink) (sym dev.imei) (along_sinks (writes.PrintsWhole (drive_text imei log)) printed);
      steady = along_sinks writes.IsSteady steady;
      last = p;
    }

    -- a drive that ended early
    pub drives_early : (s : Stop) (status : ℕ) → given.faults ≡ 0 → StopsOn address s by_words slots script given home y z → EndsEarly s status w v → Drives address flash script status x v
    drives_early s status fresh stops ends = record {
      among = among_of s status ends.among;
      done = λ e. absurd (never_done s status ends.among e);
      sink_steady = λ e. absurd (never_done s status ends.among e);
      cut_off = λ e. let is = at_five s status ends.among e in
          played (IsCutOff script x v) h.log same_media h.holds (in_log (given ∷ []) (home ∷ []) (subst (λ (t : HostView). PrintsFront (drive_text dev.d.imei h.log) x t) (sym (ends.sink_fault is).1)
          (subst (λ (n : ℕ). writes.PrintsFront (drive_text n h.log) x.sink w.sink) (sym dev.imei) (along_sinks (writes.PrintsFront (drive_text imei h.log)) h.front))));
      sink_cause = λ e. let is = at_five s status ends.among e in subst (λ (t : HostView). SinkFailed x t) (sym (ends.sink_fault is).1) (along_sinks writes.HasFailed (h.sink_fault is));
      medium_fault = λ e. let is = at_six s status ends.among e in let f = h.medium_fault is in
          played (SaysFailed x v) h.log same_media h.holds (failed given home f.0 f.1, said (codes "medium fault\n") (λ x. let no : stop.MediumFault ≡ stop.SinkFault = sym is ∙ x in cc) (line_at is e));
      medium_cause = λ e. medium_counted (at_six s status ends.among e);
      host_fault = λ e. let is = at_seven s status ends.among e in
          played (Says (codes "host fault\n") x v) h.log same_media h.holds (said (codes "host fault\n") (λ x. let no : stop.HostFault ≡ stop.SinkFault = sym is ∙ x in cc) (line_at is e));
      host_cause = λ e. let is = at_seven s status ends.among e in ap (λ (k : Counts). k.host) counts_back ∙ ap (λ (k : Counts). k.host) (h.host_fault is) ∙ ap (λ (k : Counts). k.host + 1) counts_out;
      refused_flash = λ e. let f = at_eight by_words slots script given home h.log s status h.size h.slot stops.spent ends.among e in
          played (SaysRefusal script x v) h.log same_media h.holds (refuses given home f.refusal (in_words f.refusal f.is)
          (said (refusal_line f.refusal) f.no_sink_fault (subst (λ (l : List ℕ). Prints l w v) f.line (ends.line (e ∙ f.status)))));
      no_memory = λ e. played (Says (codes "no memory\n") x v) h.log same_media h.holds
          (said (codes "no memory\n") (λ x. let five = (ends.sink_fault x).0 in omega (arith, five, e)) (ends.no_memory e));
      media_back = record { given = given ∷ []; back = home ∷ []; same_count = refl; passes = media_are same_media };
      wires_back = record { given = h.links; back = h.ends; same_count = h.same_count; passes = wires_are h.links h.ends h.wires };
      texts_before = ap (λ (k : Counts). k.texts) counts_back ∙ same_count (λ k. k.texts) (λ k. refl) ∙ ap (λ (k : Counts). k.texts) counts_out;
      host_before = λ other. ap (λ (k : Counts). k.host) counts_back ∙ ap (λ (k : Counts). k.host) (h.no_host_fault (λ is. other (ends.host_fault is))) ∙ ap (λ (k : Counts). k.host) counts_out;
      doors_before = ap (λ (k : Counts). k.doors) counts_back ∙ same_count (λ k. k.doors) (λ k. refl) ∙ ap (λ (k : Counts). k.doors) counts_out;
      others = only h.others;
    }
      where
        h : Halts address (λ log now. CameTo by_words slots script (given ∷ []) log) s imei slots y z given home
        h = stops.halts

        same_media : z.media ≡ y.media
        same_media = ap (λ (h : HostView). h.media) h.others

        said : (line : List ℕ) → (s ≡ stop.SinkFault → ⊥) → Prints line w v → PrintsThen (drive_text dev.d.imei h.log) line x v
        said line sound p = says h.log line (h.whole sound).0 (h.whole sound).1 p

        in_words : (refusal : FlashRefusal) → IsRefusal by_words slots script given home h.log refusal → IsRefusal (driver_of dev.d) dev.d.slots script given home h.log refusal
        in_words refusal is = subst (λ (n : ℕ). IsRefusal (driver_of dev.d) n script given home h.log refusal) (sym dev.slots) (subst (λ (d : Driver). IsRefusal d slots script given home h.log refusal) driver_is is)

        same_count : (f : Counts → ℕ) → ((k : Counts) → f (record k { host = k.host + 1 }) ≡ f k) → f z.counts ≡ f y.counts
        same_count f keeps = elim (host_or_not s) [ inl is ↦ ap f (h.host_fault is) ∙ keeps y.counts | inr other ↦ ap f (h.no_host_fault other) ]

        line_at : {t : Stop} → s ≡ t → status ≡ stop_status t → Prints (stop_line t) w v
        line_at {t} is e = subst (λ (u : Stop). Prints (stop_line u) w v) is (ends.line (e ∙ sym (ap stop_status is)))

        medium_counted : s ≡ stop.MediumFault → v.counts ≡ record x.counts { media = x.counts.media + 1 }
        medium_counted is =
            let rose : Rose 0 home.faults = subst (λ (n : ℕ). Rose n home.faults) fresh (h.medium_fault is).0 in
            let same : z.counts ≡ x.counts = h.no_host_fault (λ e. let no : stop.MediumFault ≡ stop.HostFault = sym is ∙ e in cc) ∙ counts_out in
            counts_back ∙ ap (λ (n : ℕ). let k : Counts = record z.counts { media = n } in k) (counted_more z.counts.media home.faults rose) ∙ ap (λ (k : Counts). let c : Counts = record k { media = k.media + 1 } in c) same

    -- a drive that was done
    pub drives_well : (status count : ℕ) → drive_fault_in script ≡ None → DrovePlain address by_words slots script given home count y z → EndsWell count status w v → Drives address flash script status x v
    drives_well status count no_fault p ends = record {
      among = elim ends.among [ inl e ↦ inl e | inr a ↦ elim a [ inl e ↦ inr (inl e) | inr e ↦ inr (inr (inr (inr (inr e)))) ] ];
      done = λ e. driven (ends.printed e);
      sink_steady = λ e. ends.steady e ∙ along_sinks writes.IsSteady p.does.steady;
      cut_off = λ e. played (IsCutOff script x v) p.does.log same_media came (at_flash given home count drove
          (front_after (drive_text dev.d.imei p.does.log) (flash_line count) x.sink w.sink v.sink whole (ends.cut_off e)));
      sink_cause = λ e. let failed = ends.sink_cause e in let steady = along_sinks writes.IsSteady p.does.steady in subst (λ (n : ℕ). Rose n v.sink.faults) steady failed;
      medium_fault = λ e. absurd (not_other ends.among e (λ k. omega (arith, k)) (λ k. omega (arith, k)) (λ k. omega (arith, k)));
      medium_cause = λ e. absurd (not_other ends.among e (λ k. omega (arith, k)) (λ k. omega (arith, k)) (λ k. omega (arith, k)));
      host_fault = λ e. absurd (not_other ends.among e (λ k. omega (arith, k)) (λ k. omega (arith, k)) (λ k. omega (arith, k)));
      host_cause = λ e. absurd (not_other ends.among e (λ k. omega (arith, k)) (λ k. omega (arith, k)) (λ k. omega (arith, k)));
      refused_flash = λ e. absurd (not_other ends.among e (λ k. omega (arith, k)) (λ k. omega (arith, k)) (λ k. omega (arith, k)));
      no_memory = λ e. played (Says (codes "no memory\n") x v) p.does.log same_media came (says p.does.log (codes "no memory\n") p.does.printed p.does.steady (ends.no_memory e));
      media_back = record { given = given ∷ []; back = home ∷ []; same_count = refl; passes = media_are same_media };
      wires_back = record { given = given_in p.does.log; back = back_in p.does.log; same_count = same_links p.does.log; passes = wires_are (given_in p.does.log) (back_in p.does.log) p.does.wires };
      texts_before = ap (λ (k : Counts). k.texts) counts_back ∙ ap (λ (k : Counts). k.texts) same;
      host_before = λ other. ap (λ (k : Counts). k.host) counts_back ∙ ap (λ (k : Counts). k.host) same;
      doors_before = ap (λ (k : Counts). k.doors) counts_back ∙ ap (λ (k : Counts). k.doors) same;
      others = only (plain_others p.does.others);
    }
      where
        not_other : {k : ℕ} → (status ≡ 0) ⊎ (status ≡ 5) ⊎ (status ≡ 9) → status ≡ k → (0 ≡ k → ⊥) → (5 ≡ k → ⊥) → (9 ≡ k → ⊥) → ⊥
        not_other (inl a) e zero five nine = zero (sym a ∙ e)
        not_other (inr (inl a)) e zero five nine = five (sym a ∙ e)
        not_other (inr (inr a)) e zero five nine = nine (sym a ∙ e)

        same : z.counts ≡ x.counts
        same = ap (λ (h : HostView). h.counts) p.does.others ∙ counts_out

        same_media : z.media ≡ y.media
        same_media = ap (λ (h : HostView). h.media) p.does.others

        plain_others : z ≡ record y { sink = z.sink; wires = z.wires } → z ≡ record y { counts = z.counts; sink = z.sink; wires = z.wires }
        plain_others e = e ∙ ap (λ (k : Counts). let h : HostView = record y { counts = k; sink = z.sink; wires = z.wires } in h) (sym (ap (λ (h : HostView). h.counts) e))

        came : CameTo by_words slots script (given ∷ []) p.does.log
        came = ended given p.opening p.closing p.does.log refl p.opens p.does.runs

        whole : PrintsWhole (drive_text dev.d.imei p.does.log) x w
        whole = subst (λ (n : ℕ). writes.PrintsWhole (drive_text n p.does.log) x.sink w.sink) (sym dev.imei) (along_sinks (writes.PrintsWhole (drive_text imei p.does.log)) p.does.printed)

        runs : Runs (driver_of dev.d) script (start p.opening) p.does.log p.closing
        runs = subst (λ (d : Driver). Runs d script (start p.opening) p.does.log p.closing) driver_is p.does.runs

        drove : Drove dev.d script given home p.does.log count
        drove = record {
          opening = p.opening;
          closing = p.closing;
          opens = subst (λ (n : ℕ). Opens n given p.opening) (sym dev.slots) p.opens;
          runs = runs;
          back = p.back;
          open_slots = p.open_slots;
          images = p.durable.medium.same;
          records = λ told. (balanced dev.d script (start p.opening) p.does.log p.closing refl (p.first.told told) (drivable_has_none script no_fault) runs).records;
        }

        driven : PrintsWhole (flash_line count) w v → IsDriven address flash script x v
        driven printed = record {
          d = dev.d;
          is = dev.is;
          given = given;
          home = home;
          log = p.does.log;
          open_slots = count;
          drove = drove;
          works = record { media = media_are same_media; wires = wires_are (given_in p.does.log) (back_in p.does.log) p.does.wires };
          printed = Appends-trans x.sink.written w.sink.written v.sink.written (drive_text dev.d.imei p.does.log) (flash_line count) whole printed;
        }

-- the flash could not be opened, and the line was printed
pub drives_none : (address flash : List ℕ) (script : Script) (imei slots : ℕ) (order : Order) (settings : AcquisitionSettings) (x y v : HostView) → IsDevice imei slots order settings script → y ≡ with_host_fault x → Prints (codes "host fault\n") y v
    → v ≡ record y { sink = v.sink } → Drives address flash script 7 x v
drives_none address flash script imei slots order settings x y v dev faulted line last = record {
  among = inr (inr (inr (inl refl)));
  done = λ e. absurd (omega (arith, e));
  sink_steady = λ e. absurd (omega (arith, e));
  cut_off = λ e. absurd (omega (arith, e));
  sink_cause = λ e. absurd (omega (arith, e));
  medium_fault = λ e. absurd (omega (arith, e));
  medium_cause = λ e. absurd (omega (arith, e));
  host_fault = λ e. record {
    d = dev.d;
    is = dev.is;
    given = [];
    home = [];
    log = [];
    came = unopened;
    media = none flash x.media v.media media;
    holds = record { mid = y.sink; whole = subst (λ (s : SinkState). writes.PrintsWhole [] x.sink s) (sym sinks) (Appends-nil x.sink.written); steady = ap (λ (s : SinkState). s.faults) sinks; last = line };
  };
  host_cause = λ e. ap (λ (h : HostView). h.counts.host) last ∙ ap (λ (h : HostView). h.counts.host) faulted;
  refused_flash = λ e. absurd (omega (arith, e));
  no_memory = λ e. absurd (omega (arith, e));
  media_back = record { given = []; back = []; same_count = refl; passes = none flash x.media v.media media };
  wires_back = record { given = []; back = []; same_count = refl; passes = none address x.wires v.wires (ap (λ (h : HostView). h.wires) last ∙ ap (λ (h : HostView). h.wires) faulted) };
  texts_before = ap (λ (h : HostView). h.counts.texts) last ∙ ap (λ (h : HostView). h.counts.texts) faulted;
  host_before = λ other. absurd (other refl);
  doors_before = ap (λ (h : HostView). h.counts.doors) last ∙ ap (λ (h : HostView). h.counts.doors) faulted;
  others = let joined : v ≡ record (with_host_fault x) { sink = v.sink } = last ∙ ap (λ (h : HostView). record h { sink = v.sink }) faulted in cc;
}
  where
    sinks : y.sink ≡ x.sink
    sinks = ap (λ (h : HostView). h.sink) faulted

    media : v.media ≡ x.media
    media = ap (λ (h : HostView). h.media) last ∙ ap (λ (h : HostView). h.media) faulted

    none : {T : Type 0} (name : List ℕ) (a b : Stock T) → b ≡ a → PassesNamed name [] [] a b
    none name a b same = named_along name [] [] a a b (named_none name a) same

-- it ended one way or the other
pub drives_ended : (address flash : List ℕ) (script : Script) (x y z w v : HostView) (given home : MediumState) (status imei slots : ℕ) (order : Order) (settings : AcquisitionSettings) (ended : Result ℕ Stop) → HandsOutMedium x flash given y → TakesBackMedium z home w
    → IsDevice imei slots order settings script → drive_fault_in script ≡ None → given.faults ≡ 0
    → IfOk ended (λ count. DrovePlain address (let d : Driver = record { imei = imei; order = order; settings = settings } in d) slots script given home count y z)
    → IfErr ended (λ s. StopsOn address s (let d : Driver = record { imei = imei; order = order; settings = settings } in d) slots script given home y z)
    → IfOk ended (λ count. EndsWell count status w v) → IfErr ended (λ s. EndsEarly s status w v) → Drives address flash script status x v
drives_ended address flash script x y z w v given home status imei slots order settings (Ok count) out back dev no_fault fresh plain stops well early =
    drives_well address flash script x y z w v given home out back well.others imei slots order settings dev status count no_fault plain well
drives_ended address flash script x y z w v given home status imei slots order settings (Err s) out back dev no_fault fresh plain stops well early =
    drives_early address flash script x y z w v given home out back early.others imei slots order settings dev s status fresh stops early

-- How a drive comes to an early end, step by step.
use Rattle.std.proofs.Common.{◌≡◌, ◌+◌, ◌≤◌, ◌^◌, ℕ, List, [], ◌∷◌, ◌++◌, length, take, refl, sym, ap, subst, ◌∙◌, append-nil, length-append, arith}
use Rattle.std.proofs.KnownBytes.{Appends-trans}
use Rattle.std.proofs.Math.Seq.{take-append-add}
use Rattle.std.proofs.lemmas.Grind.{flat_map-append}
use Rattle.std.specs.Io.KnownBytes.{Appends}
use Rattle.avl_values.specs.Causes.{Rose}
use Rattle.fmb_host.proofs.Stocks.{named_none, named_then}
use Rattle.fmb_host.specs.Host.{HostView, with_host_fault}
use Rattle.fmb_host.specs.Stocks.{PassesNamed}
use Rattle.fmb_host.specs.declared.host.Counts.{Counts}
use Rattle.fmb_io.specs.Printed.{PrintsFront, PrintsWhole, SinkFailed, SinkSteady}
use Rattle.fmb_drive.proofs.Progress.{prints_none, prints_then}
use Rattle.flash_ring.specs.Ring.{RingView}
use Rattle.fmb_drive.specs.Halts.{Halts}
use Rattle.fmb_drive.specs.Log.{Event, drive_text, event_line}
use Rattle.fmb_drive.specs.Opening.{RefusesFlash}
use Rattle.fmb_drive.specs.declared.stop.Stop.{Stop}
use Rattle.fmb_drive.specs.declared.stop.Stop.TheVariants as stop
use Rattle.links.specs.Links.{LinkState}
use Rattle.medium_model.specs.State.{IsRun, MediumState}

-- the same stop, in other words of what had happened
pub halts_map : (address : List ℕ) (P Q : List Event → RingView → Type 0) (s : Stop) (imei slots : ℕ) (x y : HostView) (old new : MediumState) → ((log : List Event) (now : RingView) → P log now → Q log now) → Halts address P s imei slots x y old new → Halts address Q s imei slots x y old new
halts_map address P Q s imei slots x y old new says h = record {
  log = h.log;
  now = h.now;
  holds = says h.log h.now h.holds;
  spent = h.spent;
  front = h.front;
  whole = h.whole;
  links = h.links;
  ends = h.ends;
  same_count = h.same_count;
  wires = h.wires;
  sink_fault = h.sink_fault;
  medium_fault = h.medium_fault;
  host_fault = h.host_fault;
  no_host_fault = h.no_host_fault;
  size = h.size;
  slot = h.slot;
  later = h.later;
  others = h.others;
}

-- the host is as it was
pub halts_quiet : (address : List ℕ) (P : List Event → RingView → Type 0) (s : Stop) (imei slots : ℕ) (x : HostView) (old new : MediumState) (now : RingView) → P [] now → RefusesFlash s slots old new → Halts address P s imei slots x x old new
halts_quiet address P s imei slots x old new now holds r = record {
  log = [];
  now = now;
  holds = holds;
  spent = λ e. absurd (r.no_sequence e);
  front = (0, prints_none imei x);
  whole = λ _. (prints_none imei x, refl);
  links = [];
  ends = [];
  same_count = refl;
  wires = named_none address x.wires;
  sink_fault = λ e. absurd (r.no_sink_fault e);
  medium_fault = r.medium_fault;
  host_fault = λ e. absurd (r.no_host_fault e);
  no_host_fault = λ _. refl;
  size = r.size;
  slot = r.slot;
  later = r.later;
  others = refl;
}

-- the sequences were at their end, and nothing was done
pub halts_spent : (address : List ℕ) (P : List Event → RingView → Type 0) (imei slots : ℕ) (x : HostView) (m : MediumState) (now : RingView) → P [] now → now.next ≡ 2 ^ 63 → Halts address P stop.Sequence imei slots x x m m
halts_spent address P imei slots x m now holds next = record {
  log = [];
  now = now;
  holds = holds;
  spent = λ e. next;
  front = (0, prints_none imei x);
  whole = λ _. (prints_none imei x, refl);
  links = [];
  ends = [];
  same_count = refl;
  wires = named_none address x.wires;
  sink_fault = λ e. absurd (cc);
  medium_fault = λ e. absurd (cc);
  host_fault = λ e. absurd (cc);
  no_host_fault = λ _. refl;
  size = λ got wanted e. absurd (cc);
  slot = λ number e. absurd (cc);
  later = omega arith;
  others = refl;
}

-- memory ran out, and nothing was done
pub no_memory : (slots : ℕ) (m n : MediumState) → m.faults ≤ n.faults → RefusesFlash stop.NoMemory slots m n
no_memory slots m n later = record {
  medium_fault = λ e. absurd (cc);
  size = λ got wanted e. absurd (cc);
  slot = λ number e. absurd (cc);
  no_sink_fault = λ e. cc;
  no_host_fault = λ e. cc;
  no_sequence = λ e. cc;
  later = omega arith;
}

-- the flash failed
pub flash_failed : (slots : ℕ) (old new : MediumState) (failed : Type 0) → failed → IsRun old new failed → RefusesFlash stop.MediumFault slots old new
flash_failed slots old new failed f run = record {
  medium_fault = λ _. (run.cause f, λ u. run.never u f);
  size = λ got wanted e. absurd (cc);
  slot = λ number e. absurd (cc);
  no_sink_fault = λ e. cc;
  no_host_fault = λ e. cc;
  no_sequence = λ e. cc;
  later = run.later;
}

-- the sink failed on the line of an event
pub halts_at_sink : (address : List ℕ) (P : List Event → RingView → Type 0) (imei slots : ℕ) (e : Event) (x y : HostView) (m : MediumState) (now : RingView) → P (e ∷ []) now → PrintsFront (event_line imei e) x y → SinkFailed x y → y ≡ record x { sink = y.sink } → Halts address P stop.SinkFault imei slots x y m m
halts_at_sink address P imei slots e x y m now holds front failed others = record {
  log = e ∷ [];
  now = now;
  holds = holds;
  spent = λ e. absurd (cc);
  front = subst (λ (t : List ℕ). PrintsFront t x y) (sym (append-nil (event_line imei e))) front;
  whole = λ no. absurd (no refl);
  links = [];
  ends = [];
  same_count = refl;
  wires = subst (λ w. PassesNamed address [] [] x.wires w) (sym (ap (λ (h : HostView). h.wires) others)) (named_none address x.wires);
  sink_fault = λ _. failed;
  medium_fault = λ e. absurd (cc);
  host_fault = λ e. absurd (cc);
  no_host_fault = λ _. ap (λ (h : HostView). h.counts) others;
  size = λ got wanted e. absurd (cc);
  slot = λ number e. absurd (cc);
  later = omega arith;
  others = others ∙ (let same : record x { sink = y.sink } ≡ record x { counts = y.counts; sink = y.sink; wires = y.wires } = (
      ap (λ (h : HostView). record x { counts = h.counts; sink = y.sink; wires = h.wires }) (sym others)) in same);
}

-- the host failed to dial
pub halts_at_dial : (address : List ℕ) (P : List Event → RingView → Type 0) (imei slots : ℕ) (x y : HostView) (m : MediumState) (now : RingView) → P [] now → y ≡ with_host_fault x → Halts address P stop.HostFault imei slots x y m m
halts_at_dial address P imei slots x y m now holds is = subst (λ (h : HostView). Halts address P stop.HostFault imei slots x h m m) (sym is) (record {
  log = [];
  now = now;
  holds = holds;
  spent = λ e. absurd (cc);
  front = (0, prints_none imei x);
  whole = λ _. (prints_none imei x, refl);
  links = [];
  ends = [];
  same_count = refl;
  wires = named_none address x.wires;
  sink_fault = λ e. absurd (cc);
  medium_fault = λ e. absurd (cc);
  host_fault = λ _. refl;
  no_host_fault = λ no. absurd (no refl);
  size = λ got wanted e. absurd (cc);
  slot = λ number e. absurd (cc);
  later = omega arith;
  others = refl;
})

front_then : (imei : ℕ) (log more_log : List Event) (x y z : HostView) → PrintsWhole (drive_text imei log) x y → PrintsFront (drive_text imei more_log) y z → PrintsFront (drive_text imei (log ++ more_log)) x z
front_then imei log more_log x y z first (n, next) =
    let first_text = drive_text imei log in
    let next_text = drive_text imei more_log in
    let whole = flat_map-append (event_line imei) log more_log in (
      length first_text + n,
      subst (λ (t : List ℕ). Appends x.sink.written z.sink.written t) (sym (ap (take (length first_text + n)) whole ∙ take-append-add first_text next_text n))
          (Appends-trans x.sink.written y.sink.written z.sink.written first_text (take n next_text) first next),
    )

-- some was done before, and then the drive came to its early end
module _ (address : List ℕ) (P Q : List Event → RingView → Type 0) (s : Stop) (imei slots : ℕ) (x y z : HostView) (p q r : MediumState) where
  pub halts_after : (log : List Event) → ((more : List Event) (now : RingView) → P more now → Q (log ++ more) now) → PrintsWhole (drive_text imei log) x y → SinkSteady x y → (links ends : List LinkState) → length ends ≡ length links
      → PassesNamed address links ends x.wires y.wires → y ≡ record x { sink = y.sink; wires = y.wires } → IsRun p q ⊥ → Halts address P s imei slots y z q r → Halts address Q s imei slots x z p r
  halts_after log says printed steady links ends same wires others run h = record {
    log = log ++ h.log;
    now = h.now;
    holds = says h.log h.now h.holds;
    spent = h.spent;
    front = front_then imei log h.log x y z printed h.front;
    whole = λ no. let w = h.whole no in (prints_then imei log h.log x y z printed w.0, w.1 ∙ steady);
    links = links ++ h.links;
    ends = ends ++ h.ends;
    same_count = omega (arith, length-append ends h.ends, length-append links h.links, same, h.same_count);
    wires = named_then address links h.links ends h.ends x.wires y.wires z.wires wires h.wires;
    sink_fault = λ e. subst (λ (n : ℕ). Rose n z.sink.faults) steady (h.sink_fault e);
    medium_fault = λ e. let f = h.medium_fault e in ((let rose = f.0 in omega (arith, run.later)), λ u. f.1 (run.left u));
    host_fault = λ e. h.host_fault e ∙ ap (λ (k : Counts). record k { host = k.host + 1 }) counts;
    no_host_fault = λ no. h.no_host_fault no ∙ counts;
    size = h.size;
    slot = h.slot;
    later = omega (arith, run.later, h.later);
    others = h.others ∙ ap (λ (v : HostView). record v { counts = z.counts; sink = z.sink; wires = z.wires }) others;
  }
    where
      counts : y.counts ≡ x.counts
      counts = ap (λ (v : HostView). v.counts) others

-- Steps of a drive, one after the other.
use Rattle.std.proofs.Common.{◌≡◌, ℕ, suc, false, List, [], ◌∷◌, ◌++◌, length, refl, sym, ap, subst, ◌∙◌, append-nil}
use Rattle.std.proofs.KnownBytes.{Appends-nil, Appends-trans}
use Rattle.std.proofs.lemmas.Grind.{flat_map-append}
use Rattle.std.specs.Io.KnownBytes.{Appends}
use Rattle.avl_values.specs.Record.{Record}
use Rattle.flash_ring.specs.Ring.{RingView}
use Rattle.fmb_host.proofs.Stocks.{named_none, named_then}
use Rattle.fmb_host.specs.Host.{HostView}
use Rattle.fmb_host.specs.Stocks.{PassesNamed}
use Rattle.fmb_io.specs.Printed.{PrintsWhole, SinkSteady}
use Rattle.fmb_drive.specs.Log.{Event, back_by, back_in, connected, drive_text, event_line, given_by, given_in, lost}
use Rattle.fmb_drive.specs.Runs.{Driver, Stage, begins, gives_up, goes_on, more, none}
use Rattle.fmb_drive.specs.Steps.{DoesAll, DoesOne, StaysUp, StoresAll}
use Rattle.medium_model.proofs.Images.{counted-none, run-counted, run-then}
use Rattle.medium_model.specs.State.{IsRun, MediumState}
use Rattle.tracker_session.specs.Keeping.{Keeps}
use Rattle.trial_model.specs.Script.{Script}
use Rattle.trial_model.specs.declared.script.ScriptLine.{ScriptLine}

-- as many links came back as were handed out
pub same_links : (log : List Event) → length (back_in log) ≡ length (given_in log)
same_links [] = refl
same_links (lost r ∷ log) = same_links log
same_links (connected c ∷ log) = ap suc (same_links log)

pub run_none : (m : MediumState) → IsRun m m ⊥
run_none m = run-counted (counted-none m)

pub stays_none : (a : RingView) → a.down ≡ false → StaysUp a a
stays_none a up = record { up = up; size = refl; run = run_none a.medium }

pub stays_then : (a b c : RingView) → StaysUp a b → StaysUp b c → StaysUp a c
stays_then a b c first next = record { up = next.up; size = next.size ∙ first.size; run = run-then first.run next.run }

-- what was printed for some events and then for others
pub prints_then : (imei : ℕ) (log more_log : List Event) (x y z : HostView) → PrintsWhole (drive_text imei log) x y → PrintsWhole (drive_text imei more_log) y z → PrintsWhole (drive_text imei (log ++ more_log)) x z
prints_then imei log more_log x y z first next =
    subst (λ (t : List ℕ). Appends x.sink.written z.sink.written t) (sym (flat_map-append (event_line imei) log more_log))
    (Appends-trans x.sink.written y.sink.written z.sink.written (drive_text imei log) (drive_text imei more_log) first next)

-- the line of one event
pub prints_one : (imei : ℕ) (e : Event) (x y : HostView) → PrintsWhole (event_line imei e) x y → PrintsWhole (drive_text imei (e ∷ [])) x y
prints_one imei e x y printed = subst (λ (t : List ℕ). Appends x.sink.written y.sink.written t) (sym (append-nil (event_line imei e))) printed

pub prints_none : (imei : ℕ) (x : HostView) → PrintsWhole (drive_text imei []) x x
prints_none imei x = Appends-nil x.sink.written

sink_others : (x y z : HostView) → y ≡ record x { sink = y.sink } → z ≡ record y { sink = z.sink } → z ≡ record x { sink = z.sink }
sink_others x y z first next = next ∙ ap (λ (h : HostView). record h { sink = z.sink }) first

-- no record was kept
pub stores_none : (imei : ℕ) (a : RingView) (x : HostView) → a.down ≡ false → StoresAll imei [] a a x x
stores_none imei a x up = record { log = []; stores = none a; printed = prints_none imei x; steady = refl; stays = stays_none a up; others = refl }

-- one record more was kept
pub stores_more : (imei : ℕ) (rs : List Record) (r : Record) (a b c : RingView) (x y z : HostView) → StoresAll imei rs a b x y → Keeps r false b c
    → PrintsWhole (drive_text imei (gives_up b)) y z → SinkSteady y z → StaysUp b c → z ≡ record y { sink = z.sink } → StoresAll imei (rs ++ r ∷ []) a c x z
stores_more imei rs r a b c x y z s keeps printed steady stays others = record {
  log = s.log ++ gives_up b;
  stores = more rs r a b c s.log s.stores keeps;
  printed = prints_then imei s.log (gives_up b) x y z s.printed printed;
  steady = steady ∙ s.steady;
  stays = stays_then a b c s.stays stays;
  others = sink_others x y z s.others others;
}

both_others : (x y z : HostView) → y ≡ record x { sink = y.sink; wires = y.wires } → z ≡ record y { sink = z.sink; wires = z.wires } → z ≡ record x { sink = z.sink; wires = z.wires }
both_others x y z first next = next ∙ ap (λ (h : HostView). record h { sink = z.sink; wires = z.wires }) first

-- no line was done
pub does_none : (address : List ℕ) (d : Driver) (a : Stage) (x : HostView) → a.ring.down ≡ false → DoesAll address d [] a a x x
does_none address d a x up = record { log = []; runs = begins a; printed = prints_none d.imei x; steady = refl; wires = named_none address x.wires; stays = stays_none a.ring up; others = refl }

-- one line more was done
pub does_more : (address : List ℕ) (d : Driver) (lines : Script) (line : ℕ × ScriptLine) (a b c : Stage) (x y z : HostView) → DoesAll address d lines a b x y → DoesOne address d line.0 line.1 b c y z → DoesAll address d (lines ++ line ∷ []) a c x z
does_more address d lines line a b c x y z s one = record {
  log = s.log ++ one.log;
  runs = goes_on lines line a b c s.log one.log s.runs one.does;
  printed = prints_then d.imei s.log one.log x y z s.printed one.printed;
  steady = one.steady ∙ s.steady;
  wires = subst (λ given. PassesNamed address given (back_in (s.log ++ one.log)) x.wires z.wires) (sym (flat_map-append given_by s.log one.log))
      (subst (λ back. PassesNamed address (given_in s.log ++ given_in one.log) back x.wires z.wires) (sym (flat_map-append back_by s.log one.log))
      (named_then address (given_in s.log) (given_in one.log) (back_in s.log) (back_in one.log) x.wires y.wires z.wires s.wires one.wires));
  stays = stays_then a.ring b.ring c.ring s.stays one.stays;
  others = both_others x y z s.others one.others;
}

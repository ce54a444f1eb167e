-- A script that was driven on a flash, from its opening.
use Rattle.std.proofs.Common.{◌≡◌, ℕ, false, List, [], ◌∷◌, length, refl, sym, subst, arith}
use Rattle.std.specs.Prelude.{Err, IfErr, Ok, Result}
use Rattle.acquisition.specs.Watching.{Acquiring, powered_up}
use Rattle.flash_ring.specs.Refusal.{Refuses}
use Rattle.flash_ring.specs.Ring.{RingView}
use Rattle.flash_ring.specs.declared.load.ReopenFault.TheVariants as fault
use Rattle.fmb_drive.proofs.Halting.{halts_quiet}
use Rattle.fmb_drive.specs.Drive.{CameTo, Opens, broken_off, start, unopened}
use Rattle.fmb_drive.specs.Ending.{StopsOn}
use Rattle.fmb_drive.specs.Halts.{Halts}
use Rattle.fmb_drive.specs.Opening.{RefusesFlash}
use Rattle.fmb_drive.specs.Runs.{Begins, Driver}
use Rattle.fmb_drive.specs.Steps.{driver, stage}
use Rattle.fmb_drive.specs.declared.stop.Stop.{Stop}
use Rattle.fmb_host.specs.Host.{HostView}
use Rattle.medium_model.specs.State.{IfTold, IsRun, MediumState}
use Rattle.tracker_session.specs.Trackers.{TrackerView}
use Rattle.trial_model.specs.Script.{Script}

-- the flash wasn't opened
pub stops_unopened : (address : List ℕ) (s : Stop) (d : Driver) (slots : ℕ) (script : Script) (given home : MediumState) (x : HostView) → RefusesFlash s slots given home → StopsOn address s d slots script given home x x
stops_unopened address s d slots script given home x r = record {
  halts = halts_quiet address (λ log now. CameTo d slots script (given ∷ []) log) s d.imei slots x given home none unopened r;
  spent = λ e. absurd (r.no_sequence e);
}
  where
    none : RingView
    none = record { medium = home; slots = []; next = 0; down = false }

-- a line was broken off
pub stops_begun : (address : List ℕ) (s : Stop) (d : Driver) (slots : ℕ) (script : Script) (given home : MediumState) (opening : RingView) (x y : HostView) → Opens slots given opening → IsRun given opening.medium ⊥ → length opening.slots ≡ slots
    → Halts address (Begins d script (start opening)) s d.imei (length opening.slots) x y opening.medium home → StopsOn address s d slots script given home x y
stops_begun address s d slots script given home opening x y opens run size h = record {
  halts = record {
    log = h.log;
    now = h.now;
    holds = broken_off given opening h.now h.log refl opens h.holds;
    spent = h.spent;
    front = h.front;
    whole = h.whole;
    links = h.links;
    ends = h.ends;
    same_count = h.same_count;
    wires = h.wires;
    sink_fault = h.sink_fault;
    medium_fault = λ e. let f = h.medium_fault e in ((let rose = f.0 in omega (arith, rose, run.later)), λ u. f.1 (run.left u));
    host_fault = h.host_fault;
    no_host_fault = h.no_host_fault;
    size = λ got wanted e. subst (λ (n : ℕ). IfTold home.content (λ c. Refuses n c.reads (fault.WrongSize got wanted))) size (h.size got wanted e);
    slot = λ number e. subst (λ (n : ℕ). IfTold home.content (λ c. Refuses n c.reads (fault.BadSlot number))) size (h.slot number e);
    later = omega (arith, run.later, h.later);
    others = h.others;
  };
  spent = λ e. record { opening = opening; now = h.now; opens = opens; begins = h.holds; next = h.spent e };
}

-- ---- by the tracker and the acquirer that were made
module _ (address : List ℕ) (d : Driver) (slots : ℕ) (script : Script) (given : MediumState) (opening : RingView) (t u : TrackerView) (p q : Acquiring) (x y : HostView)
    (tracker : t ≡ record { imei = d.imei; ring = opening; order = d.order; talking = false; answered = false; batch = []; have = [] }) (acquirer : p ≡ record { settings = d.settings; watching = powered_up })
    (opens : Opens slots given opening) (run : IsRun given opening.medium ⊥) where
  -- it was broken off
  pub plays_stopped : (s : Stop) (home : MediumState) → length opening.slots ≡ slots → home ≡ u.ring.medium → Halts address (Begins (driver t p) script (stage t p)) s t.imei (length t.ring.slots) x y t.ring.medium u.ring.medium → StopsOn address s d slots script given home x y
  plays_stopped s home size back h = subst (λ (m : MediumState). StopsOn address s d slots script given m x y) (sym back)
      (stops_begun address s d slots script given u.ring.medium opening x y opens run size
      (subst (λ (v : TrackerView). Halts address (Begins (driver v (let a : Acquiring = record { settings = d.settings; watching = powered_up } in a)) script (stage v (let a : Acquiring = record { settings = d.settings; watching = powered_up } in a))) s v.imei (length v.ring.slots) x y v.ring.medium u.ring.medium) tracker
      (subst (λ (a : Acquiring). Halts address (Begins (driver t a) script (stage t a)) s t.imei (length t.ring.slots) x y t.ring.medium u.ring.medium) acquirer h)))

-- ---- a result by how it came to be
pub if_ok : {T E : Type 0} (r : Result T E) (P : E → Type 0) (x : T) → r ≡ Ok x → IfErr r P
if_ok r P x is = subst (λ q. IfErr q P) (sym is) tt

pub if_err : {T E : Type 0} (r : Result T E) (P : E → Type 0) (e : E) → r ≡ Err e → P e → IfErr r P
if_err r P e is holds = subst (λ q. IfErr q P) (sym is) holds

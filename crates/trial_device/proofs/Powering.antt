-- A device's side at the end of a line, and after its own `power` and `fuse` lines.
use Rattle.std.proofs.Common.{◌≡◌, ℕ, false, Option, Some, None, List, refl, sym, ap, ◌∙◌, subst, arith}
use Rattle.acquisition.specs.Watching.{Watching, powered_up}
use Rattle.avl_values.specs.Record.{Record}
use Rattle.flash_ring.specs.Ring.{IsDurable, RingView}
use Rattle.medium_model.specs.CallsLeft.{unlimited}
use Rattle.trial_model.specs.Decisions.{Decision, DeviceHistory, unless_covered}
use Rattle.trial_device.specs.Midway.{AreListsRight}
use Rattle.trial_device.specs.SideLines.{EndsSide, PowersSide, RestartsRing, armed_ring}
use Rattle.trial_device.specs.Sides.{AreHeldRight, IsElsewhere, IsSideSound, Side}
use Rattle.trial_device.proofs.Images.{durable-each, restart-holds}

-- the lists of a side as a line begins
pub lists-of : (heard : List Record) (h : DeviceHistory) (d : Side) → IsSideSound heard h d → AreListsRight heard h.decisions h.load d
lists-of heard h d s = record {
  acquired = s.acquired;
  some = s.some;
  slots = s.slots;
  most = s.most;
  images = durable-each d.ring (AreHeldRight h.decisions h.load (IsElsewhere heard d)) s.durable s.held;
  held = λ up. s.held;
  durable = λ up. s.durable;
  next = λ up. s.next;
  cut_once = s.cut_once;
  overwritten_once = s.overwritten_once;
  cut_wherever = s.cut_wherever;
  cut_only = s.cut_only;
  overwritten = s.overwritten;
}

durable-armed : (v : RingView) (fuse : Option ℕ) → IsDurable v → IsDurable (armed_ring fuse v)
durable-armed v None i = i
durable-armed v (Some k) i = record { up = i.up; medium = record { same = i.medium.same; settled = i.medium.settled }; sound = i.sound; below = i.below }

-- an armed medium, and another fix remembered, change none of them
pub lists-begun : (heard : List Record) (ds : List Decision) (load : ℕ) (fuse : Option ℕ) (watching : Watching) (d : Side) → AreListsRight heard ds load d
    → AreListsRight heard ds load (record d { ring = armed_ring fuse d.ring; watching = watching })
lists-begun heard ds load None watching d l = record {
  acquired = l.acquired;
  some = l.some;
  slots = l.slots;
  most = l.most;
  images = l.images;
  held = l.held;
  durable = l.durable;
  next = l.next;
  cut_once = l.cut_once;
  overwritten_once = l.overwritten_once;
  cut_wherever = l.cut_wherever;
  cut_only = l.cut_only;
  overwritten = l.overwritten;
}
lists-begun heard ds load (Some k) watching d l = record {
  acquired = l.acquired;
  some = l.some;
  slots = l.slots;
  most = l.most;
  images = l.images;
  held = l.held;
  durable = λ up. durable-armed d.ring (Some k) (l.durable up);
  next = l.next;
  cut_once = l.cut_once;
  overwritten_once = l.overwritten_once;
  cut_wherever = l.cut_wherever;
  cut_only = l.cut_only;
  overwritten = l.overwritten;
}

-- the history of a device after these decisions, with no fuse
abbrev pub history : List Decision → ℕ → Watching → DeviceHistory
history ds load watching = record { decisions = ds; watching = watching; fuse = None; load = load }

restart-sound : (heard : List Record) (ds : List Decision) (load : ℕ) (d : Side) (v : RingView) → AreListsRight heard ds load d → RestartsRing d.ring v
    → IsSideSound heard (history ds load powered_up) (record d { ring = v; watching = powered_up; fuse = None })
restart-sound heard ds load d v l restarts =
    let held = restart-holds d.ring v (AreHeldRight ds load (IsElsewhere heard d)) restarts l.images in
    record {
      acquired = l.acquired;
      some = l.some;
      slots = restarts.size ∙ l.slots;
      most = l.most;
      durable = restarts.durable;
      held = held;
      idle = restarts.left;
      next = (let low = held.next in let is = restarts.next in omega arith);
      cut_once = l.cut_once;
      overwritten_once = l.overwritten_once;
      cut_wherever = l.cut_wherever;
      cut_only = l.cut_only;
      overwritten = l.overwritten;
      watching = refl;
      fuse = refl;
    }

pub powered-sound : (heard : List Record) (ds : List Decision) (load : ℕ) (d e : Side) → AreListsRight heard ds load d → PowersSide d e → (e.device ≡ d.device) × IsSideSound heard (history ds load powered_up) e
powered-sound heard ds load d e l p =
    (ap (λ (x : Side). x.device) p.is, subst (IsSideSound heard (history ds load powered_up)) (sym p.is) (restart-sound heard ds load d p.ring l p.restarts))

idle-sound : (heard : List Record) (ds : List Decision) (load : ℕ) (d : Side) → AreListsRight heard ds load d → d.ring.down ≡ false → d.ring.medium.left ≡ unlimited → IsSideSound heard (history ds load d.watching) (record d { fuse = None })
idle-sound heard ds load d l up idle = record {
  acquired = l.acquired;
  some = l.some;
  slots = l.slots;
  most = l.most;
  durable = l.durable up;
  held = l.held up;
  idle = idle;
  next = l.next up;
  cut_once = l.cut_once;
  overwritten_once = l.overwritten_once;
  cut_wherever = l.cut_wherever;
  cut_only = l.cut_only;
  overwritten = l.overwritten;
  watching = refl;
  fuse = refl;
}

-- the end of a line that the fuse could cover
pub ends-sound : (heard : List Record) (ds : List Decision) (load : ℕ) (fuse : Option ℕ) (d e : Side) → AreListsRight heard ds load d → (fuse ≡ None → (d.ring.down ≡ false) × (d.ring.medium.left ≡ unlimited)) → EndsSide fuse d e
    → (e.device ≡ d.device) × IsSideSound heard (history ds load (unless_covered fuse d.watching)) e
ends-sound heard ds load None d e l idle ends =
    let at = idle refl in
    (ap (λ (x : Side). x.device) ends, subst (IsSideSound heard (history ds load d.watching)) (sym ends) (idle-sound heard ds load d l at.0 at.1))
ends-sound heard ds load (Some k) d e l idle ends = powered-sound heard ds load d e l ends

-- A `power` line of the device.
pub side-powered : (heard : List Record) (h : DeviceHistory) (d e : Side) → IsSideSound heard h d → PowersSide d e → (e.device ≡ d.device) × IsSideSound heard (record h { watching = powered_up; fuse = None }) e
side-powered heard h d e s p = powered-sound heard h.decisions h.load d e (lists-of heard h d s) p

-- A `fuse` line of the device.
pub side-fused : (heard : List Record) (h : DeviceHistory) (calls : ℕ) (d : Side) → IsSideSound heard h d → IsSideSound heard (record h { fuse = Some calls }) (record d { fuse = Some calls })
side-fused heard h calls d s = record {
  acquired = s.acquired;
  some = s.some;
  slots = s.slots;
  most = s.most;
  durable = s.durable;
  held = s.held;
  idle = s.idle;
  next = s.next;
  cut_once = s.cut_once;
  overwritten_once = s.overwritten_once;
  cut_wherever = s.cut_wherever;
  cut_only = s.cut_only;
  overwritten = s.overwritten;
  watching = s.watching;
  fuse = refl;
}

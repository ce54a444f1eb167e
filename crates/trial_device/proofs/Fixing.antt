-- A `fix` line keeps its device's side sound.
use Rattle.std.proofs.Common.{◌≡◌, ℕ, Bool, false, List, [], ◌∷◌, fold, Option, Some, None, refl, sym, ap, ◌∙◌, subst, arith}
use Rattle.acquisition.specs.declared.fix.Fix.{Fix}
use Rattle.acquisition.specs.Deciding.{decided}
use Rattle.acquisition.specs.Watching.{Watching}
use Rattle.avl_values.specs.Record.{Record}
use Rattle.flash_ring.specs.Ring.{RingView}
use Rattle.medium_model.specs.CallsLeft.{CallsLeft, after, unlimited}
use Rattle.trial_model.specs.Decisions.{DeviceHistory, LineProgress, after_fix, decide_one, progress_of, unless_covered}
use Rattle.trial_model.specs.Script.{Device, settings_of}
use Rattle.trial_device.specs.Midway.{IsMidway, IsPaced}
use Rattle.trial_device.specs.SideLines.{armed_ring}
use Rattle.trial_device.specs.Sides.{IsSideSound, Side}
use Rattle.trial_device.specs.Storing.{FixesSide, Stores, StoresAll, begun, cut_later, cut_now, stored}
use Rattle.trial_device.proofs.Powering.{ends-sound, history, lists-begun, lists-of}
use Rattle.trial_device.proofs.StoreSteps.{stores-next}

-- what no store changes
pub record IsBeside (d e : Side) : Type 0 where
  pub device : e.device ≡ d.device
  pub watching : e.watching ≡ d.watching
  pub fuse : e.fuse ≡ d.fuse

pub stores-beside : (r : Record) (d e : Side) → Stores r d e → IsBeside d e
stores-beside r d e stores = elim stores as (λ _. IsBeside d e) [
  | stored s ↦ record { device = ap (λ (x : Side). x.device) s.rest; watching = ap (λ (x : Side). x.watching) s.rest; fuse = ap (λ (x : Side). x.fuse) s.rest }
  | cut_now s ↦ record { device = ap (λ (x : Side). x.device) s.rest; watching = ap (λ (x : Side). x.watching) s.rest; fuse = ap (λ (x : Side). x.fuse) s.rest }
  | cut_later s ↦ record { device = ap (λ (x : Side). x.device) s.rest; watching = ap (λ (x : Side). x.watching) s.rest; fuse = ap (λ (x : Side). x.fuse) s.rest }
]

beside-then : (d x e : Side) → IsBeside d x → IsBeside x e → IsBeside d e
beside-then d x e first second = record { device = second.device ∙ first.device; watching = second.watching ∙ first.watching; fuse = second.fuse ∙ first.fuse }

pub all-beside : (rs : List Record) (d e : Side) → StoresAll rs d e → IsBeside d e
all-beside [] d e all = subst (IsBeside d) (sym all) (record { device = refl; watching = refl; fuse = refl })
all-beside (r ∷ rs) d e all = beside-then d all.0 e (stores-beside r d all.0 all.1) (all-beside rs all.0 e all.2)

-- all records of a line
pub stores-all : (heard : List Record) (cover : Option ℕ) (rs : List Record) (m : LineProgress) (d e : Side) → IsMidway heard cover m d → StoresAll rs d e → IsMidway heard cover (fold (decide_one d.device.slots cover) m rs) e
stores-all heard cover [] m d e h all = subst (IsMidway heard cover m) (sym all) h
stores-all heard cover (r ∷ rs) m d e h all =
    let x = all.0 in
    let beside = stores-beside r d x all.1 in
    let rest = stores-all heard cover rs (decide_one d.device.slots cover m r) x e (stores-next heard cover m d r h x all.1) all.2 in
    let P : Device → Type 0 = λ device. IsMidway heard cover (fold (decide_one device.slots cover) (decide_one d.device.slots cover m r) rs) e in
    subst P beside.device rest

paced-first : (fuse : Option ℕ) (v : RingView) → v.down ≡ false → v.medium.left ≡ unlimited → IsPaced fuse 0 0 (armed_ring fuse v).down (armed_ring fuse v).medium.left
paced-first None v up idle = (up, idle)
paced-first (Some k) v up idle = subst (λ (b : Bool). IsPaced (Some k) 0 0 b (after k)) (sym up) (0, ap after (omega arith), omega arith, omega arith, omega arith)

paced-last : (cover : Option ℕ) (number cost : ℕ) (down : Bool) (left : CallsLeft) → IsPaced cover number cost down left → cover ≡ None → (down ≡ false) × (left ≡ unlimited)
paced-last cover number cost down left paced none = subst (λ (c : Option ℕ). IsPaced c number cost down left) none paced

-- A `fix` line of the device.
pub side-fixed : (heard : List Record) (h : DeviceHistory) (fix : Fix) (d e : Side) → IsSideSound heard h d → FixesSide fix d e → (e.device ≡ d.device) × IsSideSound heard (after_fix d.device h fix) e
side-fixed heard h fix d e s f =
    let settings = settings_of d.device in
    let records = (decided settings d.watching fix).records in
    let first : LineProgress = record { decisions = h.decisions; number = 0; load = h.load; cost = 0 } in
    let start : IsMidway heard d.fuse first (begun fix d) = record {
      lists = lists-begun heard h.decisions h.load d.fuse (decided settings d.watching fix).watching d (lists-of heard h d s);
      paced = paced-first d.fuse d.ring s.durable.up s.idle;
    } in
    let all = stores-all heard d.fuse records first (begun fix d) f.kept start f.stores in
    let beside = all-beside records (begun fix d) f.kept f.stores in
    let last = progress_of d.device.slots d.fuse h.decisions h.load records in
    let idle = paced-last d.fuse last.number last.cost f.kept.ring.down f.kept.ring.medium.left all.paced in
    let ends = ends-sound heard last.decisions last.load d.fuse f.kept e all.lists idle f.ends in
    let G : Option ℕ → Watching → Watching → DeviceHistory = λ fuse before now.
    history (progress_of d.device.slots fuse h.decisions h.load (decided settings before fix).records).decisions
    (progress_of d.device.slots fuse h.decisions h.load (decided settings before fix).records).load (unless_covered fuse now) in
    let path =
    ap (λ w. G d.fuse d.watching w) beside.watching
    ∙ ap (λ w. G d.fuse w (decided settings w fix).watching) s.watching
    ∙ ap (λ fuse. G fuse h.watching (decided settings h.watching fix).watching) s.fuse in
    (ends.0 ∙ beside.device, subst (λ g. IsSideSound heard g e) path ends.1)

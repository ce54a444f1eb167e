-- What is true of a device after each of its lines.
use Rattle.std.proofs.Common.{◌≡◌, ℕ, ◌+◌, ◌≤◌, Bool, true, false, List, [], ◌∷◌, length, fold, Option, Some, None, sym, ap, ◌∙◌, subst, arith, length-append}
use Rattle.acquisition.specs.Deciding.{decided, is_due, plain_if}
use Rattle.acquisition.specs.Settings.{AcquisitionSettings}
use Rattle.acquisition.specs.Watching.{Watching, powered_up}
use Rattle.acquisition.specs.declared.fix.Fix.{Fix}
use Rattle.avl_values.specs.Record.{Record}
use Rattle.io_operands.specs.declared.setting.IoSetting.{IoSetting}
use Rattle.trial_model.specs.Decisions.{LineProgress, after_fix, before_all, decide_one}
use Rattle.trial_model.specs.Script.{Device, settings_of}
use Rattle.trial_device.specs.SideLines.{PowersSide}
use Rattle.trial_device.specs.Sides.{Side}
use Rattle.trial_device.specs.Starting.{StartsSide}
use Rattle.trial_device.specs.Storing.{FixesSide}
use Rattle.trial_device.proofs.Fixing.{side-fixed}
use Rattle.trial_device.proofs.Powering.{side-fused, side-powered}
use Rattle.trial_device.proofs.Starting.{side-starts}
use Rattle.device_rows.specs.Played.{IsPlayed}

one-if : (due : Bool) (settings : AcquisitionSettings) (fix : Fix) → length (plain_if due settings fix) ≤ 1
one-if true settings fix = omega arith
one-if false settings fix = omega arith

-- without I/O settings a fix makes one record at most
one-record : (settings : AcquisitionSettings) (watching : Watching) (fix : Fix) → settings.ios ≡ [] → length (decided settings watching fix).records ≤ 1
one-record settings watching fix none =
    let P : List IoSetting → Type 0 = λ ios. length (decided (record settings { ios = ios }) watching fix).records ≤ 1 in
    subst P (sym none) (one-if (is_due (record settings { ios = [] }) watching.last fix) (record settings { ios = [] }) fix)

more-decided : (slots : ℕ) (cover : Option ℕ) (m : LineProgress) (rs : List Record) → length (fold (decide_one slots cover) m rs).decisions ≡ length m.decisions + length rs
more-decided slots cover m [] = omega arith
more-decided slots cover m (r ∷ rs) =
    let next = decide_one slots cover m r in
    let rest = more-decided slots cover next rs in
    let one = length-append m.decisions (record { rec = r; number = m.number; load = m.load; cover = cover; cost = next.cost } ∷ []) in
    omega arith

pub played-starts : (device : Device) (d : Side) → StartsSide device d → device.settings ≡ [] → IsPlayed 0 d
played-starts device d starts plain =
    let start = side-starts device d starts in
    record { history = before_all; sound = start.1; few = omega arith; plain = ap (λ (x : Device). x.settings) start.0 ∙ plain }

pub played-fixed : (n : ℕ) (fix : Fix) (d e : Side) → IsPlayed n d → FixesSide fix d e → IsPlayed (n + 1) e
played-fixed n fix d e p fixes =
    let kept = side-fixed [] p.history fix d e p.sound fixes in
    let records = (decided (settings_of d.device) p.history.watching fix).records in
    let one = one-record (settings_of d.device) p.history.watching fix p.plain in
    let first : LineProgress = record { decisions = p.history.decisions; number = 0; load = p.history.load; cost = 0 } in
    let more = more-decided d.device.slots p.history.fuse first records in
    let few = p.few in
    record { history = after_fix d.device p.history fix; sound = kept.1; few = omega arith; plain = ap (λ (x : Device). x.settings) kept.0 ∙ p.plain }

pub played-powered : (n : ℕ) (d e : Side) → IsPlayed n d → PowersSide d e → IsPlayed (n + 1) e
played-powered n d e p powers =
    let kept = side-powered [] p.history d e p.sound powers in
    let few = p.few in
    record { history = record p.history { watching = powered_up; fuse = None }; sound = kept.1; few = omega arith; plain = ap (λ (x : Device). x.settings) kept.0 ∙ p.plain }

pub played-fused : (n calls : ℕ) (d e : Side) → IsPlayed n d → e ≡ record d { fuse = Some calls } → IsPlayed (n + 1) e
played-fused n calls d e p is =
    let few = p.few in
    let fused : IsPlayed (n + 1) (record d { fuse = Some calls }) = record { history = record p.history { fuse = Some calls }; sound = side-fused [] p.history calls d p.sound; few = omega arith; plain = p.plain } in
    subst (IsPlayed (n + 1)) (sym is) fused

-- What the calls of a line ask for.

pub played-more : (k n : ℕ) (d : Side) → k ≤ n → IsPlayed k d → IsPlayed n d
played-more k n d low p = record { history = p.history; sound = p.sound; few = (let few = p.few in omega arith); plain = p.plain }

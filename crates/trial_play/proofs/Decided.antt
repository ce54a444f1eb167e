-- What was decided stays decided: the records of a front of the lines are among those of all.
use Rattle.std.proofs.Common.{◌≡◌, inl, inr, ℕ, zero, suc, ◌==◌, ◌||◌, Bool, true, false, List, [], ◌∷◌, ◌++◌, fold, slice_get, Option, Some, None, if◌then◌else◌, refl, sym, ◌∙◌, ap, subst, eq-eqb, eqb-true}
use Rattle.std.proofs.lemmas.Bool.{cases_Bool, true≢false}
use Rattle.std.proofs.lemmas.List.{map-append}
use Rattle.std.proofs.lemmas.List.Sums.{fold-append}
use Rattle.avl_values.specs.Record.{Record}
use Rattle.journey_script.specs.Laws.{AreDistinct, is_device}
use Rattle.trial_model.specs.declared.outcome.DeviceEnd.{DeviceEnd}
use Rattle.trial_model.specs.declared.script.ScriptLine.{ScriptLine}
use Rattle.trial_model.specs.declared.script.ScriptLine.TheVariants as Line
use Rattle.trial_model.specs.declared.script.Who.{Who}
use Rattle.trial_model.specs.Cover.{is_who}
use Rattle.trial_model.specs.Decisions.{Decision, DeviceHistory, LineProgress, Step, after_connection, after_fix, after_line, after_step, before_all, decide_one, history_of, records_decided, steps_of}
use Rattle.trial_model.specs.Kept.{earlier_records}
use Rattle.trial_model.specs.RecordLists.{AreIn}
use Rattle.trial_model.specs.Script.{Device}
use Rattle.acquisition.specs.Deciding.{decided}
use Rattle.acquisition.specs.Watching.{powered_up}
use Rattle.trial_model.specs.Script.{settings_of}
use Rattle.trial_server.proofs.Containing.{in-itself, in-left, in-then}
use Rattle.trial_play.proofs.Places.{none-some, some-same}
use Rattle.trial_play.proofs.Steps.{bare, ended, opens, step-none, step-some}

-- the steps of a front of lines are a front of the steps
steps-prefix : (front rest : List ScriptLine) (ends : List DeviceEnd) → (tail : List Step) × (steps_of (front ++ rest) ends ≡ steps_of front ends ++ tail)
steps-prefix [] rest ends = (steps_of rest ends, refl)
steps-prefix (l ∷ front) rest ends = elim (cases_Bool (opens l)) as (λ _. (tail : List Step) × (steps_of (l ∷ (front ++ rest)) ends ≡ steps_of (l ∷ front) ends ++ tail)) [
  | inl has_end ↦ some has_end (λ es. steps-prefix front rest es) ends
  | inr no_end ↦ (let r = steps-prefix front rest ends in (r.0, step-none l (front ++ rest) ends no_end ∙ (ap (λ s. bare l ∷ s) r.1 ∙ sym (ap (λ s. s ++ r.0) (step-none l front ends no_end)))))
]
  where
    some : opens l ≡ true → ((es : List DeviceEnd) → (tail : List Step) × (steps_of (front ++ rest) es ≡ steps_of front es ++ tail)) → (ends : List DeviceEnd)
        → (tail : List Step) × (steps_of (l ∷ (front ++ rest)) ends ≡ steps_of (l ∷ front) ends ++ tail)
    some has_end later [] = (let r = later [] in (r.0, ap (λ s. bare l ∷ s) r.1))
    some has_end later (e ∷ es) = (let r = later es in (r.0, step-some l (front ++ rest) e es has_end ∙ (ap (λ s. ended l e ∷ s) r.1 ∙ sym (ap (λ s. s ++ r.0) (step-some l front e es has_end)))))

-- One record more, one line more, and several steps more.

decided-progress : (slots : ℕ) (cover : Option ℕ) (p : LineProgress) (rs : List Record) → AreIn (records_decided (fold (decide_one slots cover) p rs).decisions) (records_decided p.decisions)
decided-progress slots cover p [] = in-itself (records_decided p.decisions)
decided-progress slots cover p (r ∷ rs) =
    let q = decide_one slots cover p r in
    in-then (records_decided (fold (decide_one slots cover) q rs).decisions) (records_decided q.decisions) (records_decided p.decisions) (decided-progress slots cover q rs)
    (subst (λ l. AreIn l (records_decided p.decisions)) (sym (map-append (λ (d : Decision). d.rec) p.decisions _))
    (in-left (records_decided p.decisions) (r ∷ []) (records_decided p.decisions) (in-itself (records_decided p.decisions))))

decided-if : (b : Bool) (h k : DeviceHistory) → AreIn (records_decided k.decisions) (records_decided h.decisions) → AreIn (records_decided (if b then k else h).decisions) (records_decided h.decisions)
decided-if true h k more = more
decided-if false h k more = in-itself (records_decided h.decisions)

decided-line : (x : Device) (h : DeviceHistory) (end : Option DeviceEnd) (l : ScriptLine) → AreIn (records_decided (after_line x h end l).decisions) (records_decided h.decisions)
decided-line x h end (Line.Device imei codec slots order period distance angle speed known) = in-itself (records_decided h.decisions)
decided-line x h end (Line.Setting imei setting) = in-itself (records_decided h.decisions)
decided-line x h end (Line.Fix imei fix) =
    decided-if (imei == x.imei) h (after_fix x h fix) (decided-progress x.slots h.fuse (record { decisions = h.decisions; number = 0; load = h.load; cost = 0 }) (decided (settings_of x) h.watching fix).records)
decided-line x h end (Line.Round imei piece up down) = decided-if (imei == x.imei) h (after_connection false end h) (in-itself (records_decided h.decisions))
decided-line x h end (Line.Drain imei piece) = decided-if (imei == x.imei) h (after_connection true end h) (in-itself (records_decided h.decisions))
decided-line x h end (Line.Late connection bytes) = in-itself (records_decided h.decisions)
decided-line x h end (Line.Close connection) = in-itself (records_decided h.decisions)
decided-line x h end (Line.Power who) = decided-if (is_who (Who.Device x.imei) who) h (record h { watching = powered_up; fuse = None }) (in-itself (records_decided h.decisions))
decided-line x h end (Line.Fuse who calls tear) = decided-if (is_who (Who.Device x.imei) who) h (record h { fuse = Some calls }) (in-itself (records_decided h.decisions))

decided-steps : (x : Device) (h : DeviceHistory) (steps : List Step) → AreIn (records_decided (fold (after_step x) h steps).decisions) (records_decided h.decisions)
decided-steps x h [] = in-itself (records_decided h.decisions)
decided-steps x h (s ∷ steps) =
    let k = after_step x h s in
    in-then (records_decided (fold (after_step x) k steps).decisions) (records_decided k.decisions) (records_decided h.decisions) (decided-steps x k steps) (decided-line x h s.end s.line)

pub decided-front : (x : Device) (front rest : List ScriptLine) (ends : List DeviceEnd) → AreIn (records_decided (history_of x (steps_of (front ++ rest) ends)).decisions) (records_decided (history_of x (steps_of front ends)).decisions)
decided-front x front rest ends =
    let r = steps-prefix front rest ends in
    let path : history_of x (steps_of (front ++ rest) ends) ≡ fold (after_step x) (history_of x (steps_of front ends)) r.0 = ap (history_of x) r.1 ∙ fold-append (after_step x) before_all (steps_of front ends) r.0 in
    subst (λ (h : DeviceHistory). AreIn (records_decided h.decisions) (records_decided (history_of x (steps_of front ends)).decisions)) (sym path) (decided-steps x (history_of x (steps_of front ends)) r.0)

-- The device of an IMEI, where no two have one.

pub device-at : (ds : List Device) (k : ℕ) (x : Device) → slice_get ds k ≡ Some x → is_device x.imei ds ≡ true
device-at [] k x at = absurd (none-some x at)
device-at (d ∷ ds) zero x at = ap (λ b. b || is_device x.imei ds) (eq-eqb d.imei x.imei (ap (λ (y : Device). y.imei) (some-same d x at)))
device-at (d ∷ ds) (suc k) x at = late (d.imei == x.imei) (device-at ds k x at)
  where
    late : (a : Bool) → is_device x.imei ds ≡ true → (a || is_device x.imei ds) ≡ true
    late true there = refl
    late false there = there

pub earlier-is : (ds : List Device) (k : ℕ) (x : Device) (steps : List Step) → AreDistinct ds → slice_get ds k ≡ Some x → earlier_records x.imei ds steps ≡ records_decided (history_of x steps).decisions
earlier-is [] k x steps distinct at = absurd (none-some x at)
earlier-is (d ∷ ds) zero x steps distinct at =
    ap (λ b. if b then records_decided (history_of d steps).decisions else earlier_records x.imei ds steps) (eq-eqb d.imei x.imei (ap (λ (y : Device). y.imei) (some-same d x at)))
    ∙ ap (λ (y : Device). records_decided (history_of y steps).decisions) (some-same d x at)
earlier-is (d ∷ ds) (suc k) x steps distinct at =
    let other : (d.imei == x.imei) ≡ false = (elim (cases_Bool (d.imei == x.imei)) as (λ _. (d.imei == x.imei) ≡ false) [
      | inl same ↦ absurd (true≢false (sym (device-at ds k x at) ∙ (ap (λ n. is_device n ds) (sym (eqb-true d.imei x.imei same)) ∙ distinct.0)))
      | inr apart ↦ apart
    ]) in
    ap (λ b. if b then records_decided (history_of d steps).decisions else earlier_records x.imei ds steps) other ∙ earlier-is ds k x steps distinct.1 at

-- A script's lines, done one after the other, against what the script decides for its device: the records that were decided are those
-- that are held at the end, were given up or were counted, less those that were held before.
use Rattle.std.proofs.Common.{◌≡◌, ◌+◌, ◌==◌, ◌||◌, ℕ, Bool, true, false, List, [], ◌∷◌, ◌++◌, Option, None, Some, refl, sym, ap, subst, ◌∙◌, append-nil, append_assoc, if◌then◌else◌}
use Rattle.std.specs.Prelude.{IsSome}
use Rattle.std.specs.List.{AllByRecursion, fold}
use Rattle.std.proofs.lemmas.List.{map-append}
use Rattle.std.proofs.lemmas.List.Sums.{fold-append}
use Rattle.acquisition.specs.Deciding.{decided}
use Rattle.acquisition.specs.Watching.{Watching, powered_up}
use Rattle.avl_values.specs.Record.{Record}
use Rattle.flash_ring.specs.Entries.{held_of}
use Rattle.acquisition.specs.declared.fix.Fix.{Fix}
use Rattle.flash_ring.specs.Held.{Held}
use Rattle.flash_ring.specs.Ring.{RingView}
use Rattle.fmb_drive.proofs.Records.{along, connects-same, same_none, same_then, stores-same}
use Rattle.fmb_drive.specs.Drive.{driver_of}
use Rattle.fmb_drive.specs.Log.{Event, lost_in, released_in}
use Rattle.fmb_drive.specs.Runs.{Acquires, AreSame, Connects, DoesLine, IsQuiet, PowersUp, Runs, Stage, Stores, WhereOwn, begins, goes_on, more, none}
use Rattle.journey_script.specs.Drive.{drive_fault_from, drive_fault_in, is_refused_by_drive}
use Rattle.journey_script.specs.Later.{is_device_line}
use Rattle.journey_script.specs.declared.fault.ScriptFault.{ScriptFault}
use Rattle.journey_script.specs.declared.fault.ScriptFault.TheVariants.{NotForDrive}
use Rattle.medium_model.specs.Content.{Content}
use Rattle.medium_model.specs.State.{IfTold}
use Rattle.trial_model.specs.Cover.{is_who}
use Rattle.trial_model.specs.Decisions.{Decision, DeviceHistory, LineProgress, Step, after_connection, after_fix, after_line, after_step, before_all, decide_one, history_of, progress_of, records_decided, steps_of, store_cost, unless_covered}
use Rattle.trial_model.specs.Script.{Device, Script, lines_of, settings_of}
use Rattle.trial_model.specs.declared.script.ScriptLine.{ScriptLine}
use Rattle.trial_model.specs.declared.script.ScriptLine.TheVariants as Line
use Rattle.trial_model.specs.declared.script.Who.TheVariants as Who

-- ---- a script that can be driven has no fuse
abbrev pub HasNoFuse : ScriptLine → Type 0
HasNoFuse (Line.Device imei codec slots order period distance angle speed known) = Unit {0}
HasNoFuse (Line.Setting imei setting) = Unit {0}
HasNoFuse (Line.Fix imei fix) = Unit {0}
HasNoFuse (Line.Round imei piece up down) = Unit {0}
HasNoFuse (Line.Drain imei piece) = Unit {0}
HasNoFuse (Line.Late connection bytes) = Unit {0}
HasNoFuse (Line.Close connection) = Unit {0}
HasNoFuse (Line.Power who) = Unit {0}
HasNoFuse (Line.Fuse who calls tear) = ⊥

no_fuse : (after_device : Bool) (line : ScriptLine) → is_refused_by_drive after_device line ≡ false → HasNoFuse line
no_fuse b (Line.Device imei codec slots order period distance angle speed known) h = tt
no_fuse b (Line.Setting imei setting) h = tt
no_fuse b (Line.Fix imei fix) h = tt
no_fuse b (Line.Round imei piece up down) h = tt
no_fuse b (Line.Drain imei piece) h = tt
no_fuse b (Line.Late connection bytes) h = tt
no_fuse b (Line.Close connection) h = tt
no_fuse b (Line.Power who) h = tt
no_fuse b (Line.Fuse who calls tear) h = cc

abbrev pub HaveNoFuse : Script → Type 0
HaveNoFuse script = AllByRecursion (λ (l : ℕ × ScriptLine). HasNoFuse l.1) script

passed : (b : Bool) (n : ℕ) (rest : Option (ℕ × ScriptFault)) → (if b then Some (n, NotForDrive) else rest) ≡ None → (b ≡ false) × (rest ≡ None)
passed true n rest h = absurd (cc)
passed false n rest h = (refl, h)

none_refused : (b : Bool) (script : Script) → drive_fault_from b script ≡ None → HaveNoFuse script
none_refused b [] h = tt
none_refused b (l ∷ ls) h =
    let p = passed (is_refused_by_drive b l.1) l.0 (drive_fault_from (b || is_device_line l.1) ls) h in
    (no_fuse b l.1 p.0, none_refused (b || is_device_line l.1) ls p.1)

pub drivable_has_none : (script : Script) → drive_fault_in script ≡ None → HaveNoFuse script
drivable_has_none script h = none_refused false script h

fuse_front : (script : Script) (line : ℕ × ScriptLine) → HaveNoFuse (script ++ line ∷ []) → HaveNoFuse script × HasNoFuse line.1
fuse_front [] line h = (tt, h.0)
fuse_front (l ∷ ls) line h = let p = fuse_front ls line h.1 in ((h.0, p.0), p.1)

-- ---- the history of lines, one more at a time
abbrev pub history : Device → Script → DeviceHistory
history d script = history_of d (steps_of (lines_of script) [])

steps_more : (lines : List ScriptLine) (line : ScriptLine) → steps_of (lines ++ line ∷ []) [] ≡ steps_of lines [] ++ (let s : Step = record { line = line; end = None } in s ∷ [])
steps_more [] line = refl
steps_more (l ∷ ls) line = ap (λ (ss : List Step). (let s : Step = record { line = l; end = None } in s ∷ ss)) (steps_more ls line)

history_more : (d : Device) (script : Script) (line : ℕ × ScriptLine) → history d (script ++ line ∷ []) ≡ after_line d (history d script) None line.1
history_more d script line =
    ap (λ (ls : List ScriptLine). history_of d (steps_of ls [])) (map-append (λ (l : ℕ × ScriptLine). l.1) script (line ∷ []))
    ∙ ap (history_of d) (steps_more (lines_of script) line.1)
    ∙ fold-append (after_step d) before_all (steps_of (lines_of script) []) (let s : Step = record { line = line.1; end = None } in s ∷ [])

-- the records of one fix are decided
decided_more : (slots : ℕ) (rs : List Record) (p : LineProgress) → records_decided (fold (decide_one slots None) p rs).decisions ≡ records_decided p.decisions ++ rs
decided_more slots [] p = sym (append-nil (records_decided p.decisions))
decided_more slots (r ∷ rs) p =
    decided_more slots rs (decide_one slots None p r)
    ∙ ap (λ (xs : List Record). xs ++ rs) (map-append (λ (x : Decision). x.rec) p.decisions ((decide_one_of p r) ∷ []))
    ∙ append_assoc (records_decided p.decisions) (r ∷ []) rs
  where
    decide_one_of : LineProgress → Record → Decision
    decide_one_of p r = record { rec = r; number = p.number; load = p.load; cover = None; cost = p.cost + store_cost slots p.load }

-- ---- what is told stays told
stores_told : (rs : List Record) (a b : RingView) (log : List Event) → Stores rs a log b → IsSome a.medium.content → IsSome b.medium.content
stores_told rs a b log (none a') told = told
stores_told rs a b log (more rs' r a' b' c' log' s keeps) told = keeps.counted.told (stores_told rs' a' b' log' s told)

-- What holds after some lines.
pub record Balanced (d : Device) (script : Script) (a : Stage) (log : List Event) (b : Stage) : Type 0 where
  pub fuse : (history d script).fuse ≡ None
  pub watching : b.watching ≡ (history d script).watching
  pub told : IsSome b.ring.medium.content
  pub records : AreSame (held_of b.ring.slots ++ (lost_in log ++ released_in log)) (held_of a.ring.slots ++ records_decided (history d script).decisions)

-- one line more, by what that did
record StepTo (h k : DeviceHistory) (b : Stage) (log : List Event) (c : Stage) : Type 0 where
  gained : List Record
  fuse : k.fuse ≡ None
  watching : c.watching ≡ k.watching
  told : IsSome c.ring.medium.content
  decisions : records_decided k.decisions ≡ records_decided h.decisions ++ gained
  records : AreSame (held_of c.ring.slots ++ (lost_in log ++ released_in log)) (held_of b.ring.slots ++ gained)

module _ (d : Device) (h : DeviceHistory) (b : Stage) (log : List Event) (c : Stage) (fuse : h.fuse ≡ None) (watching : b.watching ≡ h.watching) (told : IsSome b.ring.medium.content) where
  quiet_step : IsQuiet b log c → StepTo h h b log c
  quiet_step (quiet, stays) = record {
    gained = [];
    fuse = fuse;
    watching = ap (λ (x : Stage). x.watching) stays ∙ watching;
    told = subst (λ (x : Stage). IsSome x.ring.medium.content) (sym stays) told;
    decisions = sym (append-nil (records_decided h.decisions));
    records = subst (λ (l : List Event). AreSame (held_of c.ring.slots ++ (lost_in l ++ released_in l)) (held_of b.ring.slots ++ [])) (sym quiet)
        (subst (λ (x : Stage). AreSame (held_of x.ring.slots ++ ([] ++ [])) (held_of b.ring.slots ++ [])) (sym stays) (same_none (held_of b.ring.slots)));
  }

  fix_step : (fix : Fix) → Acquires (driver_of d) fix b log c → StepTo h (after_fix d h fix) b log c
  fix_step fix a =
      let rs = (decided (settings_of d) h.watching fix).records in
      let stores : Stores rs b.ring log c.ring = subst (λ (w : Watching). Stores (decided (settings_of d) w fix).records b.ring log c.ring) watching a.stores in
      subst (λ (f : Option ℕ). StepTo h (record {
        decisions = (progress_of d.slots f h.decisions h.load rs).decisions;
        watching = unless_covered f (decided (settings_of d) h.watching fix).watching;
        fuse = None;
        load = (progress_of d.slots f h.decisions h.load rs).load;
      }) b log c) (sym fuse) (record {
        gained = rs;
        fuse = refl;
        watching = a.watching ∙ ap (λ (w : Watching). (decided (settings_of d) w fix).watching) watching;
        told = stores_told rs b.ring c.ring log stores told;
        decisions = decided_more d.slots rs (record { decisions = h.decisions; number = 0; load = h.load; cost = 0 });
        records = stores-same rs b.ring c.ring log stores;
      })

  -- a connection changes no decision
  connect_step : (k : DeviceHistory) (n most : ℕ) → k.fuse ≡ None → k.watching ≡ h.watching → k.decisions ≡ h.decisions → Connects (driver_of d) n most b log c → StepTo h k b log c
  connect_step k n most unfused same_watching same_decisions x =
      let ring : c.ring ≡ x.c.after = ap (λ (s : Stage). s.ring) x.after in
      record {
        gained = [];
        fuse = unfused;
        watching = ap (λ (s : Stage). s.watching) x.after ∙ watching ∙ sym same_watching;
        told = subst (λ (r : RingView). IsSome r.medium.content) (sym ring) (x.is.run.told (subst (λ (r : RingView). IsSome r.medium.content) (sym x.before) told));
        decisions = ap records_decided same_decisions ∙ sym (append-nil (records_decided h.decisions));
        records = subst (λ (l : List Event). AreSame (held_of c.ring.slots ++ (lost_in l ++ released_in l)) (held_of b.ring.slots ++ [])) (sym x.log)
            (subst (λ (r : RingView). AreSame (held_of r.slots ++ ([] ++ (x.c.released ++ []))) (held_of b.ring.slots ++ [])) (sym ring)
            (subst (λ (r : RingView). AreSame (held_of x.c.after.slots ++ ([] ++ (x.c.released ++ []))) (held_of r.slots ++ [])) x.before
            (connects-same (held_of x.c.after.slots) (held_of x.c.before.slots) x.c.released x.is.released)));
      }

  after_connecting : (t drains : Bool) (n most : ℕ) → Connects (driver_of d) n most b log c → StepTo h (if t then after_connection drains None h else h) b log c
  after_connecting true drains n most x = connect_step (after_connection drains None h) n most refl (ap (λ (f : Option ℕ). unless_covered f h.watching) fuse) refl x
  after_connecting false drains n most x = connect_step h n most fuse refl refl x

  if_told : (o : Option Content) (P : Type 0) → IsSome o → IfTold o (λ _. P) → P
  if_told None P some p = let never : false ≡ true = some in absurd (cc)
  if_told (Some x) P some p = p

  power_step : (t : Bool) → WhereOwn t ((log ≡ []) × PowersUp b c) (IsQuiet b log c) → StepTo h (if t then record h { watching = powered_up; fuse = None } else h) b log c
  power_step false does = quiet_step does
  power_step true (quiet, p) =
      let slots : c.ring.slots ≡ b.ring.slots = if_told b.ring.medium.content (c.ring.slots ≡ b.ring.slots) told p.slots in
      record {
        gained = [];
        fuse = refl;
        watching = p.watching;
        told = p.run.told told;
        decisions = sym (append-nil (records_decided h.decisions));
        records = subst (λ (l : List Event). AreSame (held_of c.ring.slots ++ (lost_in l ++ released_in l)) (held_of b.ring.slots ++ [])) (sym quiet)
            (subst (λ (s : List (Option Held)). AreSame (held_of s ++ ([] ++ [])) (held_of b.ring.slots ++ [])) (sym slots) (same_none (held_of b.ring.slots)));
      }

  after_fixing : (t : Bool) (fix : Fix) → WhereOwn t (Acquires (driver_of d) fix b log c) (IsQuiet b log c) → StepTo h (if t then after_fix d h fix else h) b log c
  after_fixing true fix does = fix_step fix does
  after_fixing false fix does = quiet_step does

  step_of : (n : ℕ) (line : ScriptLine) → HasNoFuse line → DoesLine (driver_of d) n line b log c → StepTo h (after_line d h None line) b log c
  step_of n (Line.Device imei codec slots order period distance angle speed known) plain does = quiet_step does
  step_of n (Line.Setting imei setting) plain does = quiet_step does
  step_of n (Line.Fix imei fix) plain does = after_fixing (imei == d.imei) fix does
  step_of n (Line.Round imei piece up down) plain does = after_connecting (imei == d.imei) false n 1 does
  step_of n (Line.Drain imei piece) plain does = after_connecting (imei == d.imei) true n 4294967295 does
  step_of n (Line.Late connection bytes) plain does = quiet_step does
  step_of n (Line.Close connection) plain does = quiet_step does
  step_of n (Line.Power who) plain does = power_step (is_who (Who.Device d.imei) who) does
  step_of n (Line.Fuse who calls tear) plain does = absurd plain

balanced_more : (d : Device) (script : Script) (line : ℕ × ScriptLine) (a b c : Stage) (log more_log : List Event) → Balanced d script a log b → StepTo (history d script) (after_line d (history d script) None line.1) b more_log c
    → Balanced d (script ++ line ∷ []) a (log ++ more_log) c
balanced_more d script line a b c log more_log w s =
    let h = history d script in
    let k = after_line d h None line.1 in
    let is : history d (script ++ line ∷ []) ≡ k = history_more d script line in
    record {
      fuse = ap (λ (x : DeviceHistory). x.fuse) is ∙ s.fuse;
      watching = s.watching ∙ sym (ap (λ (x : DeviceHistory). x.watching) is);
      told = s.told;
      records = subst (λ (rs : List Record). AreSame (held_of c.ring.slots ++ (lost_in (log ++ more_log) ++ released_in (log ++ more_log))) (held_of a.ring.slots ++ rs))
          (sym (ap (λ (x : DeviceHistory). records_decided x.decisions) is ∙ s.decisions))
          (along (held_of c.ring.slots) (held_of a.ring.slots) (records_decided h.decisions ++ s.gained) log more_log
          (same_then (held_of a.ring.slots) (held_of b.ring.slots) (held_of c.ring.slots) (lost_in log) (lost_in more_log) (released_in log) (released_in more_log) (records_decided h.decisions) s.gained w.records s.records));
    }

-- A script that has no fuse, done from power-up, is balanced.
pub balanced : (d : Device) (script : Script) (a : Stage) (log : List Event) (b : Stage) → a.watching ≡ powered_up → IsSome a.ring.medium.content → HaveNoFuse script → Runs (driver_of d) script a log b → Balanced d script a log b
balanced d script a log b fresh told plain (begins a') = record { fuse = refl; watching = fresh; told = told; records = same_none (held_of a'.ring.slots) }
balanced d script a log b fresh told plain (goes_on lines line a' b' c' log' more_log runs does) =
    let p = fuse_front lines line plain in
    let w = balanced d lines a' log' b' fresh told p.0 runs in
    balanced_more d lines line a' b' c' log' more_log w (step_of d (history d lines) b' more_log c' w.fuse w.watching w.told line.0 line.1 p.1 does)

-- How many records the lines of a script decide at most.
use Rattle.std.proofs.Common.{◌≡◌, ◌≤◌, ◌+◌, ◌*◌, ◌^◌, ◌==◌, ℕ, suc, nat_lt, Bool, true, false, not, List, [], ◌∷◌, ◌++◌, fold, length, take, Option, Some, None, Result, Ok, Err, is_some, refl, ap, arith, length-append, length-take, if◌then◌else◌}
use Rattle.std.specs.List.{enumerate_from, slice_split}
use Rattle.std.specs.Str.Lines.{lines, lines_of_parts}
use Rattle.std.proofs.lemmas.Bool.{ltb-false}
use Rattle.std.proofs.lemmas.List.{length-map}
use Rattle.std.proofs.lemmas.List.FromFn.{length-enumerate_from}
use Rattle.std.proofs.lemmas.List.Splits.{length-slice_split}
use Rattle.std.proofs.lemmas.List.Sums.{count_by-le-length, length-filter}
use Rattle.acquisition.specs.Checking.{bad_width, id_too_wide, or, record_too_long, setting_fault}
use Rattle.acquisition.specs.Deciding.{decided, is_due, made, plain_if}
use Rattle.acquisition.specs.Firing.{fired, watched_by}
use Rattle.acquisition.specs.Settings.{AcquisitionSettings}
use Rattle.acquisition.specs.Watching.{Watching}
use Rattle.acquisition.specs.declared.fix.Fix.{Fix}
use Rattle.acquisition.specs.declared.last_fix.LastFix.{LastFix}
use Rattle.acquisition.specs.declared.settings.SettingFault.TheVariants.{TooMany}
use Rattle.acquisition.proofs.FiringLaws.{watched_length}
use Rattle.avl_values.specs.Record.{Record}
use Rattle.avl_values.specs.declared.codec.Codec.{Codec}
use Rattle.io_operands.specs.Firing.{fires}
use Rattle.io_operands.specs.Watching.{Watched}
use Rattle.io_operands.specs.declared.setting.IoSetting.{IoSetting}
use Rattle.text_lines.specs.Lines.{content_from, content_lines, is_skipped}
use Rattle.trial_model.specs.declared.outcome.DeviceEnd.{DeviceEnd}
use Rattle.trial_model.specs.declared.script.ScriptLine.{ScriptLine}
use Rattle.trial_model.specs.declared.script.ScriptLine.TheVariants as Line
use Rattle.trial_model.specs.declared.script.Who.TheVariants as Who
use Rattle.trial_model.specs.Cover.{is_who}
use Rattle.trial_model.specs.Decisions.{DeviceHistory, LineProgress, Step, after_connection, after_fix, after_line, after_step, before_all, decide_one, history_of, progress_of, steps_of}
use Rattle.trial_model.specs.Script.{Device, Script, lines_of, opening_of, settings_of}
use Rattle.journey_script.specs.Grammar.{IsScript, Refusal, script_of, with_judged, with_line, with_text_line}
use Rattle.journey_script.specs.Later.{later_fault}
use Rattle.journey_script.specs.Lines.{line_of}
use Rattle.journey_script.specs.declared.fault.ScriptFault.{ScriptFault}
use Rattle.journey_script.specs.declared.fault.ScriptFault.TheVariants.{TextTooLong}

-- ---- a script has no more lines than bytes, but for one
abbrev Texts : Type 0
Texts = List (ℕ × List ℕ)

refuses : (all : Texts) (refusal : Refusal) (script : Script) → fold with_text_line (Err refusal) all ≡ Ok script → ⊥
refuses [] refusal script h = cc
refuses (t ∷ ts) refusal script h = refuses ts refusal script h

judged : (all : Texts) (before script : Script) (number : ℕ) (line : ScriptLine) (fault : Option ScriptFault) → fold with_text_line (with_judged before number line fault) all ≡ Ok script
    → fold with_text_line (Ok (before ++ (number, line) ∷ [])) all ≡ Ok script
judged all before script number line None h = h
judged all before script number line (Some fault) h = absurd (refuses all (record { line = number; kind = fault }) script h)

said : (all : Texts) (before script : Script) (number : ℕ) (r : Result ScriptLine ScriptFault) → fold with_text_line (with_line before number r) all ≡ Ok script
    → (line : ScriptLine) × (fold with_text_line (Ok (before ++ (number, line) ∷ [])) all ≡ Ok script)
unfolding with_line
said all before script number (Err fault) h = absurd (refuses all (record { line = number; kind = fault }) script h)
said all before script number (Ok line) h = (line, judged all before script number line (later_fault (lines_of before) line) h)

few_on : (all : Texts) (before script : Script) → fold with_text_line (Ok before) all ≡ Ok script → length script ≤ length before + length all
few_on [] before script h = let e : before ≡ script = cc in omega (arith, ap (λ (xs : Script). length xs) e)
few_on (t ∷ ts) before script h =
    let more = said ts before script t.0 (line_of t.1) h in
    omega (arith, few_on ts (before ++ (t.0, more.0) ∷ []) script more.1, length-append before ((t.0, more.0) ∷ []))

parts_most : (parts : List (List ℕ)) → length (lines_of_parts parts) ≤ length parts
parts_most [] = omega arith
parts_most (x ∷ []) = by (length x == 0)
  where
    by : (b : Bool) → length (if b then [] else x ∷ []) ≤ length (x ∷ [])
    by true = omega arith
    by false = omega arith
parts_most (x ∷ y ∷ more) = omega (arith, parts_most (y ∷ more))

contents_most : (text : List ℕ) → length (content_lines text) ≤ length text + 1
unfolding content_from
contents_most text =
    let kept = length-filter (λ (line : ℕ × List ℕ). not (is_skipped line.1)) (enumerate_from 1 (lines text)) in
    let all = count_by-le-length (λ (line : ℕ × List ℕ). not (is_skipped line.1)) (enumerate_from 1 (lines text)) in
    let parts = slice_split (λ b. b == 10) text in
    omega (arith, kept, all, length-enumerate_from 1 (lines text), parts_most parts, length-slice_split (λ b. b == 10) text, count_by-le-length (λ b. b == 10) text)

pub script_few : (script : Script) → IsScript script → length (lines_of script) ≤ 2 ^ 24 + 1
unfolding script_of
script_few script is = by (nat_lt (2 ^ 24) (length is.text)) refl is.is_read
  where
    by : (b : Bool) → nat_lt (2 ^ 24) (length is.text) ≡ b → (if b then Err (record { line = 0; kind = TextTooLong }) else fold with_text_line (Ok []) (content_lines is.text)) ≡ Ok script → length (lines_of script) ≤ 2 ^ 24 + 1
    by true long h = absurd (cc)
    by false short h = omega (arith, few_on (content_lines is.text) [] script h, contents_most is.text, ltb-false (2 ^ 24) (length is.text) short, length-map script (λ (l : ℕ × ScriptLine). l.1))

-- ---- a fix makes at most 33 records
fired_most : (ws : List Watched) (values : List ℕ) → length (fired ws values) ≤ length ws
fired_most [] values = omega arith
fired_most (w ∷ ws) [] = omega arith
fired_most (w ∷ ws) (v ∷ vs) = by (fires w v) (fired_most ws vs)
  where
    by : (b : Bool) → length (fired ws vs) ≤ length ws → length (if b then w.setting ∷ fired ws vs else fired ws vs) ≤ length (w ∷ ws)
    by true most = omega (arith, most)
    by false most = omega (arith, most)

made_most : (settings : AcquisitionSettings) (last : Option LastFix) (fix : Fix) (ss : List IoSetting) → length (made settings last fix ss) ≤ length ss + 1
made_most settings last fix [] = by (is_due settings last fix)
  where
    by : (b : Bool) → length (plain_if b settings fix) ≤ 1
    by true = omega arith
    by false = omega arith
made_most settings last fix (s ∷ ss) = omega (arith, length-map (s ∷ ss) (Rattle.acquisition.specs.Made.event_record settings fix))

settings_few : (codec : Codec) (ios : List IoSetting) → setting_fault codec ios ≡ None → length ios ≤ 32
settings_few codec ios sound = by (nat_lt 32 (length ios)) refl sound
  where
    by : (b : Bool) → nat_lt 32 (length ios) ≡ b → or (if b then Some TooMany else None) (or (bad_width ios) (or (id_too_wide codec ios) (record_too_long codec ios))) ≡ None → length ios ≤ 32
    by true many h = absurd (let e : Some TooMany ≡ None = h in cc)
    by false few h = ltb-false 32 (length ios) few

pub decided_few : (d : Device) (watching : Watching) (fix : Fix) → setting_fault d.codec d.settings ≡ None → length (decided (settings_of d) watching fix).records ≤ 33
decided_few d watching fix sound =
    let ws = watched_by d.settings watching.watched in
    omega (arith, made_most (settings_of d) watching.last fix (fired ws fix.values.items), fired_most ws fix.values.items, watched_length d.settings watching.watched, settings_few d.codec d.settings sound)

-- ---- and so all lines 33 each
progress_length : (slots : ℕ) (cover : Option ℕ) (p : LineProgress) (rs : List Record) → length (fold (decide_one slots cover) p rs).decisions ≡ length p.decisions + length rs
progress_length slots cover p [] = omega arith
progress_length slots cover p (r ∷ rs) =
    let q = decide_one slots cover p r in
    let grown = length-append p.decisions (record { rec = r; number = p.number; load = p.load; cover = cover; cost = p.cost + Rattle.trial_model.specs.Decisions.store_cost slots p.load } ∷ []) in
    omega (arith, progress_length slots cover q rs, grown)

step_length : (d : Device) (h : DeviceHistory) (s : Step) → setting_fault d.codec d.settings ≡ None → length (after_step d h s).decisions ≤ length h.decisions + 33
step_length d h s sound = by s.line s.end
  where
    of_fix : (fix : Fix) (b : Bool) → length (if b then after_fix d h fix else h).decisions ≤ length h.decisions + 33
    of_fix fix true = omega (arith, progress_length d.slots h.fuse (record { decisions = h.decisions; number = 0; load = h.load; cost = 0 }) (decided (settings_of d) h.watching fix).records, decided_few d h.watching fix sound)
    of_fix fix false = omega arith

    of_round : (drains : Bool) (end : Option DeviceEnd) (b : Bool) → length (if b then after_connection drains end h else h).decisions ≤ length h.decisions + 33
    of_round drains end true = omega arith
    of_round drains end false = omega arith

    of_power : (b : Bool) → length (if b then record h { watching = Rattle.acquisition.specs.Watching.powered_up; fuse = None } else h).decisions ≤ length h.decisions + 33
    of_power true = omega arith
    of_power false = omega arith

    of_fuse : (calls : ℕ) (b : Bool) → length (if b then record h { fuse = Some calls } else h).decisions ≤ length h.decisions + 33
    of_fuse calls true = omega arith
    of_fuse calls false = omega arith

    by : (l : ScriptLine) (end : Option DeviceEnd) → length (after_line d h end l).decisions ≤ length h.decisions + 33
    by (Line.Device imei codec slots order period distance angle speed known) end = omega arith
    by (Line.Setting imei setting) end = omega arith
    by (Line.Fix imei fix) end = of_fix fix (imei == d.imei)
    by (Line.Round imei piece up down) end = of_round false end (imei == d.imei)
    by (Line.Drain imei piece) end = of_round true end (imei == d.imei)
    by (Line.Late connection bytes) end = omega arith
    by (Line.Close connection) end = omega arith
    by (Line.Power who) end = of_power (is_who (Who.Device d.imei) who)
    by (Line.Fuse who calls tear) end = of_fuse calls (is_who (Who.Device d.imei) who)

steps_length : (d : Device) (h : DeviceHistory) (steps : List Step) → setting_fault d.codec d.settings ≡ None → length (fold (after_step d) h steps).decisions ≤ length h.decisions + 33 * length steps
steps_length d h [] sound = omega arith
steps_length d h (s ∷ steps) sound = omega (arith, steps_length d (after_step d h s) steps sound, step_length d h s sound)

steps_count : (lines : List ScriptLine) (ends : List DeviceEnd) → length (steps_of lines ends) ≡ length lines
steps_count [] ends = refl
steps_count (l ∷ lines) [] = ap suc (steps_count lines [])
steps_count (l ∷ lines) (e ∷ ends) = by (is_some (opening_of l)) (steps_count lines ends) (steps_count lines (e ∷ ends))
  where
    by : (b : Bool) → length (steps_of lines ends) ≡ length lines → length (steps_of lines (e ∷ ends)) ≡ length lines → length (if b then record { line = l; end = Some e } ∷ steps_of lines ends else record { line = l; end = None } ∷ steps_of lines (e ∷ ends)) ≡ suc (length lines)
    by true with_end without = ap suc with_end
    by false with_end without = ap suc without

-- there is a sequence for each record that another fix may make
pub history_short : (script : Script) (n : ℕ) (ends : List DeviceEnd) (d : Device) → IsScript script → setting_fault d.codec d.settings ≡ None
    → length (history_of d (steps_of (take n (lines_of script)) ends)).decisions ≤ 2 ^ 30
history_short script n ends d is sound =
    omega (arith, steps_length d before_all (steps_of (take n (lines_of script)) ends) sound, steps_count (take n (lines_of script)) ends, length-take n (lines_of script), script_few script is)

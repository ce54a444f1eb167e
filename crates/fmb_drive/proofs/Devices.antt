-- The device of a script: what its lines say of it, and what every script keeps of it.
use Rattle.std.proofs.Common.{◌≡◌, ◌==◌, ◌+◌, ◌<◌, ◌≤◌, ℕ, suc, Bool, true, false, if◌then◌else◌, List, [], ◌∷◌, ◌++◌, length, take, drop, Option, Some, None, refl, sym, ap, subst, ◌∙◌}
use Rattle.std.specs.Prelude.{option_map, slice_get}
use Rattle.std.specs.List.{AllByRecursion, cons_option, filter_map}
use Rattle.std.proofs.lemmas.List.Elements.{filter_map-append}
use Rattle.acquisition.specs.Checking.{setting_fault}
use Rattle.acquisition.specs.Elements.{ValuesFit}
use Rattle.acquisition.specs.Settings.{AcquisitionSettings}
use Rattle.acquisition.specs.declared.settings.SettingFault.{SettingFault}
use Rattle.avl_values.specs.declared.codec.Codec.{Codec}
use Rattle.avl_values.specs.declared.order.Order.{Order}
use Rattle.fmb_drive.proofs.Places.{finds_more, line_here, lines_parted}
use Rattle.fmb_drive.specs.Drive.{first_of}
use Rattle.fmb_drive.specs.Scripts.{FixesFit, IsDevice, IsFirstDevice}
use Rattle.io_operands.specs.declared.setting.IoSetting.{IoSetting}
use Rattle.journey_script.proofs.ScriptLaws.{script_laws}
use Rattle.journey_script.proofs.SlotLaws.{slot_laws, values_fit}
use Rattle.journey_script.specs.Grammar.{IsScript}
use Rattle.trial_model.specs.Script.{Device, Script, device_on, devices_of, lines_of, setting_on, settings_of}
use Rattle.trial_model.specs.declared.script.ScriptLine.{ScriptLine}
use Rattle.trial_model.specs.declared.script.ScriptLine.TheVariants as Line

cons_found : {Y : Type 0} (o : Option Y) (y : Y) (ys : List Y) → o ≡ Some y → cons_option o ys ≡ y ∷ ys
cons_found None y ys h = absurd (cc)
cons_found {Y} (Some z) y ys h = let e : z ≡ y = cc in ap (λ (x : Y). x ∷ ys) e

-- what a line gives stands first where the lines before it give nothing
first_found : {Y : Type 0} (f : ScriptLine → Option Y) (before after : List ScriptLine) (line : ScriptLine) (y : Y) → filter_map f before ≡ [] → f line ≡ Some y
    → filter_map f (before ++ line ∷ after) ≡ y ∷ filter_map f after
first_found {Y} f before after line y none is =
    filter_map-append f before (line ∷ after) ∙ ap (λ (ys : List Y). ys ++ filter_map f (line ∷ after)) none ∙ cons_found (f line) y (filter_map f after) is

device_there : (script : Script) (i : ℕ) (f : IsFirstDevice script i) → devices_of (lines_of script) ≡ f.d ∷ filter_map (device_on (lines_of script)) (lines_of (drop (suc i) script))
device_there script i f =
    ap (λ (ls : List ScriptLine). filter_map (device_on (lines_of script)) ls) (lines_parted script i f.number f.line f.at)
    ∙ first_found (device_on (lines_of script)) (lines_of (take i script)) (lines_of (drop (suc i) script)) f.line f.d f.before f.is

-- the line at a place is one
same_line : (script : Script) (i number : ℕ) (a b : ScriptLine) → slice_get script i ≡ Some (number, a) → option_map (λ (l : ℕ × ScriptLine). l.1) (slice_get script i) ≡ Some b → a ≡ b
same_line script i number a b h g = let e : Some a ≡ Some b = ap (λ (o : Option (ℕ × ScriptLine)). option_map (λ (l : ℕ × ScriptLine). l.1) o) (sym h) ∙ g in cc

-- the first `device` line is one of a device
pub device_here : (script : Script) (i : ℕ) (f : IsFirstDevice script i) (line : ScriptLine) → option_map (λ (l : ℕ × ScriptLine). l.1) (slice_get script i) ≡ Some line → device_on (lines_of script) line ≡ Some f.d
device_here script i f line h = ap (device_on (lines_of script)) (sym (same_line script i f.number f.line line f.at h)) ∙ f.is

-- a line before the place of the first `device` line, or the line there
pub first_here : (script : Script) (i : ℕ) (line : ScriptLine) (d : Device) → i < length script → filter_map (device_on (lines_of script)) (lines_of (take i script)) ≡ []
    → option_map (λ (l : ℕ × ScriptLine). l.1) (slice_get script i) ≡ Some line → device_on (lines_of script) line ≡ Some d → IsFirstDevice script i
first_here script i line d low none h is = let p = line_here script i line h in record { low = low; before = none; number = p.0; line = line; at = p.1; d = d; is = is }

-- the settings of the first device are sound
pub settings_sound : (script : Script) (i : ℕ) (f : IsFirstDevice script i) → IsScript script → setting_fault f.d.codec f.d.settings ≡ None
settings_sound script i f is =
    let laws = script_laws script is in
    let each : AllByRecursion (λ (d : Device). setting_fault d.codec d.settings ≡ None) (f.d ∷ filter_map (device_on (lines_of script)) (lines_of (drop (suc i) script))) =
    subst (AllByRecursion (λ (d : Device). setting_fault d.codec d.settings ≡ None)) (device_there script i f) laws.settings in
    each.0

pub slots_sound : (script : Script) (i : ℕ) (f : IsFirstDevice script i) → IsScript script → (1 ≤ f.d.slots) × (f.d.slots ≤ 4096)
slots_sound script i f is =
    let each : AllByRecursion (λ (d : Device). (1 ≤ d.slots) × (d.slots ≤ 4096)) (f.d ∷ filter_map (device_on (lines_of script)) (lines_of (drop (suc i) script))) =
    subst (AllByRecursion (λ (d : Device). (1 ≤ d.slots) × (d.slots ≤ 4096))) (device_there script i f) (slot_laws script is) in
    each.0

-- the values of a fix fit the settings of its device
fixes_fit : (script : Script) → IsScript script → (imei : ℕ) (settings : AcquisitionSettings) → settings.ios ≡ filter_map (setting_on imei) (lines_of script) → FixesFit imei settings script
fixes_fit script is imei settings same i number fix at =
    subst (λ (ios : List IoSetting). ValuesFit ios fix.values.items) (sym same)
    (values_fit (filter_map (setting_on imei) (lines_of script)) fix.values.items
    ((script_laws script is).values (lines_of (take i script)) (lines_of (drop (suc i) script)) imei fix (lines_parted script i number (Line.Fix imei fix) at)))

-- What is driven: the first device of the script.
pub is_device : (script : Script) (i : ℕ) (f : IsFirstDevice script i) → IsScript script → (settings : AcquisitionSettings) → settings ≡ settings_of f.d → f.d.settings ≡ filter_map (setting_on f.d.imei) (lines_of script)
    → IsDevice f.d.imei f.d.slots f.d.order settings script
is_device script i f is settings same ios = record {
  d = f.d;
  is = ap first_of (device_there script i f);
  imei = refl;
  slots = refl;
  order = refl;
  settings = sym same;
  some = (slots_sound script i f is).0;
  few = (slots_sound script i f is).1;
  fit = fixes_fit script is f.d.imei settings (ap (λ (s : AcquisitionSettings). s.ios) same ∙ ios);
}

-- ---- the lines one after the other, as the code comes by them

-- a line that is no `device` line gives no device
pub not_device : (lines : List ScriptLine) (line : ScriptLine) → ((imei : ℕ) (codec : Codec) (slots : ℕ) (order : Order) (period distance angle speed : ℕ) (known : Bool) → line ≡ Line.Device imei codec slots order period distance angle speed known → ⊥)
    → filter_map (device_on lines) (line ∷ []) ≡ []
not_device lines (Line.Device imei codec slots order period distance angle speed known) never = absurd (never imei codec slots order period distance angle speed known refl)
not_device lines (Line.Setting imei setting) never = refl
not_device lines (Line.Fix imei fix) never = refl
not_device lines (Line.Round imei piece up down) never = refl
not_device lines (Line.Drain imei piece) never = refl
not_device lines (Line.Late connection bytes) never = refl
not_device lines (Line.Close connection) never = refl
not_device lines (Line.Power who) never = refl
not_device lines (Line.Fuse who calls tear) never = refl

-- an `io` line of this device gives its setting, and every other line none
pub own_setting : (imei who : ℕ) (setting : IoSetting) (line : ScriptLine) → line ≡ Line.Setting who setting → (who == imei) ≡ true → filter_map (setting_on imei) (line ∷ []) ≡ setting ∷ []
own_setting imei who setting line is own =
    ap (λ (l : ScriptLine). filter_map (setting_on imei) (l ∷ [])) is ∙ ap (λ (b : Bool). cons_option (if b then Some setting else None) []) own

pub other_setting : (imei who : ℕ) (setting : IoSetting) (line : ScriptLine) → line ≡ Line.Setting who setting → (who == imei) ≡ false → filter_map (setting_on imei) (line ∷ []) ≡ []
other_setting imei who setting line is own =
    ap (λ (l : ScriptLine). filter_map (setting_on imei) (l ∷ [])) is ∙ ap (λ (b : Bool). cons_option (if b then Some setting else None) []) own

pub no_setting : (imei : ℕ) (line : ScriptLine) → ((who : ℕ) (setting : IoSetting) → line ≡ Line.Setting who setting → ⊥) → filter_map (setting_on imei) (line ∷ []) ≡ []
no_setting imei (Line.Device who codec slots order period distance angle speed known) never = refl
no_setting imei (Line.Setting who setting) never = absurd (never who setting refl)
no_setting imei (Line.Fix who fix) never = refl
no_setting imei (Line.Round who piece up down) never = refl
no_setting imei (Line.Drain who piece) never = refl
no_setting imei (Line.Late connection bytes) never = refl
no_setting imei (Line.Close connection) never = refl
no_setting imei (Line.Power who) never = refl
no_setting imei (Line.Fuse who calls tear) never = refl

pub settings_more : (imei : ℕ) (script : Script) (i : ℕ) (line : ScriptLine) (old new : List IoSetting) → option_map (λ (l : ℕ × ScriptLine). l.1) (slice_get script i) ≡ Some line
    → old ≡ filter_map (setting_on imei) (lines_of (take i script)) → new ≡ old ++ filter_map (setting_on imei) (line ∷ []) → new ≡ filter_map (setting_on imei) (lines_of (take (i + 1) script))
settings_more imei script i line old new at before more = more ∙ sym (finds_more (setting_on imei) script i line old at (sym before))

-- the first `device` line, by its words
module _ (script : Script) (i : ℕ) (f : IsFirstDevice script i) (is : IsScript script) (imei : ℕ) (codec : Codec) (slots : ℕ) (order : Order) (period distance angle speed : ℕ) (known : Bool)
    (at : option_map (λ (l : ℕ × ScriptLine). l.1) (slice_get script i) ≡ Some (Line.Device imei codec slots order period distance angle speed known)) where
  abbrev the_device : Device
  the_device = record { imei = imei; codec = codec; slots = slots; order = order; period = period; distance = distance; angle = angle; speed = speed; known = known; settings = filter_map (setting_on imei) (lines_of script) }

  device_is : f.d ≡ the_device
  device_is =
      let found : Some the_device ≡ Some f.d = device_here script i f (Line.Device imei codec slots order period distance angle speed known) at in
      cc

  -- its settings are not refused
  pub never_refused : (ios : List IoSetting) (refused : SettingFault) → ios ≡ filter_map (setting_on imei) (lines_of script) → setting_fault codec ios ≡ Some refused → ⊥
  never_refused ios refused same found =
      let sound : setting_fault codec the_device.settings ≡ None = subst (λ (d : Device). setting_fault d.codec d.settings ≡ None) device_is (settings_sound script i f is) in
      let bad : Some refused ≡ None = sym found ∙ ap (setting_fault codec) same ∙ sound in
      cc

  pub device_by : (ios : List IoSetting) (settings : AcquisitionSettings) → ios ≡ filter_map (setting_on imei) (lines_of script)
      → settings ≡ (let s : AcquisitionSettings = record { codec = codec; period = period; distance = distance; angle = angle; speed = speed; ios = ios } in s) → IsDevice imei slots order settings script
  device_by ios settings same given =
      let whole : settings ≡ settings_of the_device = given ∙ ap (λ (l : List IoSetting). let s : AcquisitionSettings = record { codec = codec; period = period; distance = distance; angle = angle; speed = speed; ios = l } in s) same in
      let own : f.d.settings ≡ filter_map (setting_on f.d.imei) (lines_of script) = subst (λ (d : Device). d.settings ≡ filter_map (setting_on d.imei) (lines_of script)) (sym device_is) refl in
      subst (λ (d : Device). IsDevice d.imei d.slots d.order settings script) device_is (is_device script i f is settings (whole ∙ sym (ap settings_of device_is)) own)

-- The settings of each device of a script, and the values of its fixes.
use Rattle.std.proofs.Common.{◌≡◌, ◌==◌, ℕ, Bool, true, false, arith, List, [], ◌∷◌, ◌++◌, Option, Some, None, refl, sym, ap, subst, ◌∙◌, if◌then◌else◌}
use Rattle.std.specs.Prelude.{is_some, option_map}
use Rattle.std.specs.List.{AllByRecursion, filter_map}
use Rattle.std.proofs.lemmas.Bool.{eqb-true}
use Rattle.std.proofs.lemmas.Bool.Decides.{nat_tests}
use Rattle.std.proofs.lemmas.List.{append-nil}
use Rattle.std.proofs.lemmas.List.Elements.{filter_map-append}
use Rattle.std.proofs.lemmas.List.Sums.{fold-append}
use Rattle.acquisition.specs.Checking.{setting_fault}
use Rattle.acquisition.specs.declared.fix.Fix.{Fix}
use Rattle.acquisition.specs.declared.settings.SettingFault.{SettingFault}
use Rattle.avl_values.specs.declared.codec.Codec.{Codec}
use Rattle.avl_values.specs.declared.codec.Codec.TheVariants.{C8, C8E, C16}
use Rattle.io_operands.specs.declared.setting.IoSetting.{IoSetting}
use Rattle.trial_model.specs.Script.{Device, device_on, setting_on}
use Rattle.trial_model.specs.declared.script.ScriptLine.{ScriptLine}
use Rattle.trial_model.specs.declared.script.ScriptLine.TheVariants as Line
use Rattle.trial_model.specs.declared.script.Who.TheVariants as Who
use Rattle.journey_script.specs.declared.fault.ScriptFault.TheVariants.{BadSetting, SettingsClosed}
use Rattle.journey_script.specs.Later.{Enrolled, ◌then◌, device_count, device_fault, enrolled_after, enrolled_in, fix_fault, later_fault, setting_line_fault, values_fault, when, with_closed, with_setting}

push : (before : List ScriptLine) (line : ScriptLine) (imei : ℕ) → enrolled_in (before ++ line ∷ []) imei ≡ enrolled_after imei (enrolled_in before imei) line
push before line imei = fold-append (enrolled_after imei) None before (line ∷ [])

-- What stays of a device over a line.
record IsLater (old : Enrolled) (now : Option Enrolled) : Type 0 where
  new : Enrolled
  is : now ≡ Some new
  codec : new.codec ≡ old.codec
  closed : old.closed ≡ true → (new.closed ≡ true) × (new.settings ≡ old.settings)

same_device : (e : Enrolled) (now : Option Enrolled) → now ≡ Some e → IsLater e now
same_device e now h = record { new = e; is = h; codec = refl; closed = λ c. (c, refl) }

closed_device : (b : Bool) (e : Enrolled) → IsLater e (if b then Some (with_closed e) else Some e)
closed_device true e = record { new = with_closed e; is = refl; codec = refl; closed = λ c. (refl, refl) }
closed_device false e = same_device e (Some e) refl

set_device : (b : Bool) (e : Enrolled) (setting : IoSetting) → (b ≡ true → e.closed ≡ false) → IsLater e (if b then Some (with_setting setting e) else Some e)
set_device true e setting before = record { new = with_setting setting e; is = refl; codec = refl; closed = λ c. absurd (clash e.closed c (before refl)) }
  where
    clash : (b : Bool) → b ≡ true → b ≡ false → ⊥
    clash b t f = cc
set_device false e setting before = same_device e (Some e) refl

twice : (e : Enrolled) (n : ℕ) → device_fault (Some e) n ≡ None → ⊥
twice e n h = cc

not_closed : (e : Enrolled) (setting : IoSetting) → setting_line_fault (Some e) setting ≡ None → e.closed ≡ false
not_closed e setting h = by e.closed refl h
  where
    by : (b : Bool) → e.closed ≡ b → (when b SettingsClosed then when (is_some (setting_fault e.codec (e.settings ++ setting ∷ []))) BadSetting) ≡ None → e.closed ≡ false
    by true is h = absurd (cc)
    by false is h = is

later : (before : List ScriptLine) (line : ScriptLine) (imei : ℕ) (e : Enrolled) → enrolled_in before imei ≡ Some e → later_fault before line ≡ None → IsLater e (enrolled_after imei (Some e) line)
unfolding later_fault
later before (Line.Device who codec slots order period distance angle speed known) imei e is none = by (who == imei) refl
  where
    by : (b : Bool) → (who == imei) ≡ b → IsLater e (if b then Some (record { codec = codec; settings = []; closed = false }) else Some e)
    by true at =
        let same : who ≡ imei = eqb-true who imei at in
        absurd (twice e (device_count before) (ap (λ (o : Option Enrolled). device_fault o (device_count before)) (sym (ap (enrolled_in before) same ∙ is)) ∙ none))
    by false at = same_device e (Some e) refl
later before (Line.Setting who setting) imei e is none =
    set_device (who == imei) e setting (λ at. not_closed e setting (ap (λ (o : Option Enrolled). setting_line_fault o setting) (sym (ap (enrolled_in before) (eqb-true who imei at) ∙ is)) ∙ none))
later before (Line.Fix who fix) imei e is none = closed_device (who == imei) e
later before (Line.Round who piece up down) imei e is none = closed_device (who == imei) e
later before (Line.Drain who piece) imei e is none = closed_device (who == imei) e
later before (Line.Late connection bytes) imei e is none = same_device e (Some e) refl
later before (Line.Close connection) imei e is none = same_device e (Some e) refl
later before (Line.Power (Who.Device who)) imei e is none = closed_device (who == imei) e
later before (Line.Power Who.Server) imei e is none = same_device e (Some e) refl
later before (Line.Fuse (Who.Device who) calls tear) imei e is none = closed_device (who == imei) e
later before (Line.Fuse Who.Server calls tear) imei e is none = same_device e (Some e) refl

-- a device's line and a fix, by what all lines say of the device
record HasCodec (lines : List ScriptLine) (imei : ℕ) (codec : Codec) : Type 0 where
  device : Enrolled
  is : enrolled_in lines imei ≡ Some device
  same : device.codec ≡ codec

record HasValues (lines : List ScriptLine) (imei : ℕ) (values : List ℕ) : Type 0 where
  device : Enrolled
  is : enrolled_in lines imei ≡ Some device
  closed : device.closed ≡ true
  fit : values_fault device.settings values ≡ None

abbrev Holds : List ScriptLine → ScriptLine → Type 0
Holds lines (Line.Device imei codec slots order period distance angle speed known) = HasCodec lines imei codec
Holds lines (Line.Setting imei setting) = Unit {0}
Holds lines (Line.Fix imei fix) = HasValues lines imei fix.values.items
Holds lines (Line.Round imei piece up down) = Unit {0}
Holds lines (Line.Drain imei piece) = Unit {0}
Holds lines (Line.Late connection bytes) = Unit {0}
Holds lines (Line.Close connection) = Unit {0}
Holds lines (Line.Power who) = Unit {0}
Holds lines (Line.Fuse who calls tear) = Unit {0}

holds_on : (before : List ScriptLine) (line l : ScriptLine) → later_fault before line ≡ None → Holds before l → Holds (before ++ line ∷ []) l
holds_on before line (Line.Device imei codec slots order period distance angle speed known) none h =
    let p = later before line imei h.device h.is none in
    record { device = p.new; is = push before line imei ∙ ap (λ (o : Option Enrolled). enrolled_after imei o line) h.is ∙ p.is; same = p.codec ∙ h.same }
holds_on before line (Line.Setting imei setting) none h = tt
holds_on before line (Line.Fix imei fix) none h =
    let p = later before line imei h.device h.is none in
    let c = p.closed h.closed in
    record {
      device = p.new;
      is = push before line imei ∙ ap (λ (o : Option Enrolled). enrolled_after imei o line) h.is ∙ p.is;
      closed = c.0;
      fit = ap (λ (ss : List IoSetting). values_fault ss fix.values.items) c.1 ∙ h.fit;
    }
holds_on before line (Line.Round imei piece up down) none h = tt
holds_on before line (Line.Drain imei piece) none h = tt
holds_on before line (Line.Late connection bytes) none h = tt
holds_on before line (Line.Close connection) none h = tt
holds_on before line (Line.Power who) none h = tt
holds_on before line (Line.Fuse who calls tear) none h = tt

itself : (n : ℕ) → (n == n) ≡ true
itself n = grind (arith, nat_tests)

enrolled_fits : (o : Option Enrolled) (values : List ℕ) → fix_fault o values ≡ None → (e : Enrolled) × (o ≡ Some e) × (values_fault e.settings values ≡ None)
enrolled_fits None values h = absurd (cc)
enrolled_fits (Some e) values h = (e, refl, h)

holds_now : (before : List ScriptLine) (line : ScriptLine) → later_fault before line ≡ None → Holds (before ++ line ∷ []) line
unfolding later_fault
holds_now before (Line.Device imei codec slots order period distance angle speed known) none =
    let new : Enrolled = record { codec = codec; settings = []; closed = false } in
    record {
      device = new;
      is = push before (Line.Device imei codec slots order period distance angle speed known) imei ∙ ap (λ (b : Bool). if b then Some new else enrolled_in before imei) (itself imei);
      same = refl;
    }
holds_now before (Line.Setting imei setting) none = tt
holds_now before (Line.Fix imei fix) none =
    let p = enrolled_fits (enrolled_in before imei) fix.values.items none in
    record {
      device = with_closed p.0;
      is = push before (Line.Fix imei fix) imei ∙ ap (λ (o : Option Enrolled). enrolled_after imei o (Line.Fix imei fix)) p.1 ∙ ap (λ (b : Bool). if b then Some (with_closed p.0) else Some p.0) (itself imei);
      closed = refl;
      fit = p.2;
    }
holds_now before (Line.Round imei piece up down) none = tt
holds_now before (Line.Drain imei piece) none = tt
holds_now before (Line.Late connection bytes) none = tt
holds_now before (Line.Close connection) none = tt
holds_now before (Line.Power who) none = tt
holds_now before (Line.Fuse who calls tear) none = tt

-- the settings that all lines give a device
abbrev Fits : Option Enrolled → List IoSetting → Type 0
Fits None settings = settings ≡ []
Fits (Some e) settings = (e.settings ≡ settings) × (setting_fault e.codec e.settings ≡ None)

no_settings : (codec : Codec) → setting_fault codec [] ≡ None
no_settings C8 = refl
no_settings C8E = refl
no_settings C16 = refl

fits_closed : (b : Bool) (o : Option Enrolled) (settings : List IoSetting) → Fits o settings → Fits (if b then option_map with_closed o else o) (settings ++ [])
fits_closed b None settings h = by b
  where
    by : (b : Bool) → Fits (if b then option_map with_closed None else None) (settings ++ [])
    by true = append-nil settings ∙ h
    by false = append-nil settings ∙ h
fits_closed true (Some e) settings h = (h.0 ∙ sym (append-nil settings), h.1)
fits_closed false (Some e) settings h = (h.0 ∙ sym (append-nil settings), h.1)

fits_same : (o : Option Enrolled) (settings : List IoSetting) → Fits o settings → Fits o (settings ++ [])
fits_same o settings h = fits_closed false o settings h

is_sound : (e : Enrolled) (setting : IoSetting) → setting_line_fault (Some e) setting ≡ None → setting_fault e.codec (e.settings ++ setting ∷ []) ≡ None
is_sound e setting h = by e.closed (setting_fault e.codec (e.settings ++ setting ∷ [])) h
  where
    by : (b : Bool) (o : Option SettingFault) → (when b SettingsClosed then when (is_some o) BadSetting) ≡ None → o ≡ None
    by true o h = absurd (cc)
    by false None h = refl
    by false (Some f) h = absurd (cc)

fits_setting : (b : Bool) (o : Option Enrolled) (settings : List IoSetting) (setting : IoSetting) → (b ≡ true → setting_line_fault o setting ≡ None) → Fits o settings
    → Fits (if b then option_map (with_setting setting) o else o) (settings ++ filter_map (λ (u : Option IoSetting). u) ((if b then Some setting else None) ∷ []))
fits_setting true None settings setting none h = absurd (nothing (none refl))
  where
    nothing : setting_line_fault None setting ≡ None → ⊥
    nothing h = cc
fits_setting true (Some e) settings setting none h = (ap (λ (ss : List IoSetting). ss ++ setting ∷ []) h.0, is_sound e setting (none refl))
fits_setting false o settings setting none h = fits_same o settings h

fits_device : (b : Bool) (o : Option Enrolled) (codec : Codec) (settings : List IoSetting) → (b ≡ true → is_some o ≡ false) → Fits o settings
    → Fits (if b then Some (record { codec = codec; settings = []; closed = false }) else o) (settings ++ [])
fits_device true None codec settings none h = (sym (append-nil settings ∙ h), no_settings codec)
fits_device true (Some e) codec settings none h = absurd (there (none refl))
  where
    there : is_some (Some e) ≡ false → ⊥
    there h = cc
fits_device false o codec settings none h = fits_same o settings h

new_device : (o : Option Enrolled) (n : ℕ) → device_fault o n ≡ None → is_some o ≡ false
new_device None n h = refl
new_device (Some e) n h = absurd (cc)

fits_step : (before : List ScriptLine) (line : ScriptLine) (imei : ℕ) → later_fault before line ≡ None → Fits (enrolled_in before imei) (filter_map (setting_on imei) before)
    → Fits (enrolled_after imei (enrolled_in before imei) line) (filter_map (setting_on imei) before ++ filter_map (setting_on imei) (line ∷ []))
unfolding later_fault
fits_step before (Line.Device who codec slots order period distance angle speed known) imei none h =
    fits_device (who == imei) (enrolled_in before imei) codec (filter_map (setting_on imei) before)
    (λ at. ap (λ (i : ℕ). is_some (enrolled_in before i)) (sym (eqb-true who imei at)) ∙ new_device (enrolled_in before who) (device_count before) none) h
fits_step before (Line.Setting who setting) imei none h =
    fits_setting (who == imei) (enrolled_in before imei) (filter_map (setting_on imei) before) setting
    (λ at. ap (λ (i : ℕ). setting_line_fault (enrolled_in before i) setting) (sym (eqb-true who imei at)) ∙ none) h
fits_step before (Line.Fix who fix) imei none h = fits_closed (who == imei) (enrolled_in before imei) (filter_map (setting_on imei) before) h
fits_step before (Line.Round who piece up down) imei none h = fits_closed (who == imei) (enrolled_in before imei) (filter_map (setting_on imei) before) h
fits_step before (Line.Drain who piece) imei none h = fits_closed (who == imei) (enrolled_in before imei) (filter_map (setting_on imei) before) h
fits_step before (Line.Late connection bytes) imei none h = fits_same (enrolled_in before imei) (filter_map (setting_on imei) before) h
fits_step before (Line.Close connection) imei none h = fits_same (enrolled_in before imei) (filter_map (setting_on imei) before) h
fits_step before (Line.Power (Who.Device who)) imei none h = fits_closed (who == imei) (enrolled_in before imei) (filter_map (setting_on imei) before) h
fits_step before (Line.Power Who.Server) imei none h = fits_same (enrolled_in before imei) (filter_map (setting_on imei) before) h
fits_step before (Line.Fuse (Who.Device who) calls tear) imei none h = fits_closed (who == imei) (enrolled_in before imei) (filter_map (setting_on imei) before) h
fits_step before (Line.Fuse Who.Server calls tear) imei none h = fits_same (enrolled_in before imei) (filter_map (setting_on imei) before) h

-- What is kept line after line.
pub record HasSettings (lines : List ScriptLine) : Type 0 where
  fits : (imei : ℕ) → Fits (enrolled_in lines imei) (filter_map (setting_on imei) lines)
  each : AllByRecursion (λ l. Holds lines l) lines

each_on : (before : List ScriptLine) (line : ScriptLine) (ls : List ScriptLine) → later_fault before line ≡ None → AllByRecursion (λ l. Holds before l) ls → AllByRecursion (λ l. Holds (before ++ line ∷ []) l) ls
each_on before line [] none h = tt
each_on before line (l ∷ ls) none h = (holds_on before line l none h.0, each_on before line ls none h.1)

each_push : (all ls : List ScriptLine) (line : ScriptLine) → AllByRecursion (λ l. Holds all l) ls → Holds all line → AllByRecursion (λ l. Holds all l) (ls ++ line ∷ [])
each_push all [] line h last = (last, tt)
each_push all (l ∷ ls) line h last = (h.0, each_push all ls line h.1 last)

pub setting_step : (before : List ScriptLine) (line : ScriptLine) → HasSettings before → later_fault before line ≡ None → HasSettings (before ++ line ∷ [])
setting_step before line h none = record {
  fits = λ imei. subst (λ (o : Option Enrolled). Fits o (filter_map (setting_on imei) (before ++ line ∷ []))) (sym (push before line imei))
      (subst (Fits (enrolled_after imei (enrolled_in before imei) line)) (sym (filter_map-append (setting_on imei) before (line ∷ []))) (fits_step before line imei none (h.fits imei)));
  each = each_push (before ++ line ∷ []) before line (each_on before line before none h.each) (holds_now before line none);
}

pub no_lines : HasSettings []
no_lines = record { fits = λ imei. refl; each = tt }

sound_settings : (all : List ScriptLine) (imei : ℕ) (codec : Codec) → HasSettings all → HasCodec all imei codec → setting_fault codec (filter_map (setting_on imei) all) ≡ None
sound_settings all imei codec h c =
    let f : Fits (Some c.device) (filter_map (setting_on imei) all) = subst (λ (o : Option Enrolled). Fits o (filter_map (setting_on imei) all)) c.is (h.fits imei) in
    ap (λ (k : Codec). setting_fault k (filter_map (setting_on imei) all)) (sym c.same) ∙ ap (setting_fault c.device.codec) (sym f.0) ∙ f.1

settings_among : (all ls : List ScriptLine) → HasSettings all → AllByRecursion (λ l. Holds all l) ls → AllByRecursion (λ (d : Device). setting_fault d.codec d.settings ≡ None) (filter_map (device_on all) ls)
settings_among all [] h each = tt
settings_among all (Line.Device imei codec slots order period distance angle speed known ∷ ls) h each = (sound_settings all imei codec h each.0, settings_among all ls h each.1)
settings_among all (Line.Setting who setting ∷ ls) h each = settings_among all ls h each.1
settings_among all (Line.Fix who fix ∷ ls) h each = settings_among all ls h each.1
settings_among all (Line.Round who piece up down ∷ ls) h each = settings_among all ls h each.1
settings_among all (Line.Drain who piece ∷ ls) h each = settings_among all ls h each.1
settings_among all (Line.Late connection bytes ∷ ls) h each = settings_among all ls h each.1
settings_among all (Line.Close connection ∷ ls) h each = settings_among all ls h each.1
settings_among all (Line.Power who ∷ ls) h each = settings_among all ls h each.1
settings_among all (Line.Fuse who calls tear ∷ ls) h each = settings_among all ls h each.1

pub all_settings : (lines : List ScriptLine) → HasSettings lines → AllByRecursion (λ (d : Device). setting_fault d.codec d.settings ≡ None) (filter_map (device_on lines) lines)
all_settings lines h = settings_among lines lines h h.each

one_of : (all before after : List ScriptLine) (line : ScriptLine) → AllByRecursion (λ l. Holds all l) (before ++ line ∷ after) → Holds all line
one_of all [] after line h = h.0
one_of all (b ∷ bs) after line h = one_of all bs after line h.1

pub all_values : (lines before after : List ScriptLine) (imei : ℕ) (fix : Fix) → HasSettings lines → lines ≡ before ++ Line.Fix imei fix ∷ after
    → values_fault (filter_map (setting_on imei) lines) fix.values.items ≡ None
all_values lines before after imei fix h e =
    let v = one_of lines before after (Line.Fix imei fix) (subst (AllByRecursion (λ l. Holds lines l)) e h.each) in
    let f : Fits (Some v.device) (filter_map (setting_on imei) lines) = subst (λ (o : Option Enrolled). Fits o (filter_map (setting_on imei) lines)) v.is (h.fits imei) in
    ap (λ (ss : List IoSetting). values_fault ss fix.values.items) (sym f.0) ∙ v.fit

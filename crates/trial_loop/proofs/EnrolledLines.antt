-- What one line more does to the devices of the lines so far.
use Rattle.std.proofs.Common.{◌≡◌, ◌==◌, ◌+◌, ◌<◌, ◌≤◌, ℕ, zero, suc, Bool, true, false, nat_lt, arith, List, [], ◌∷◌, ◌++◌, map, length, length-append, append_assoc, take, drop, set, get_or, Option, Some, None, refl, sym, ap, subst, ◌∙◌, if◌then◌else◌}
use Rattle.std.specs.Prelude.{slice_get, option_map}
use Rattle.std.specs.List.{AllByRecursion, filter_map}
use Rattle.std.proofs.lemmas.Bool.{eqb-true}
use Rattle.std.proofs.lemmas.Bool.Decides.{nat_tests}
use Rattle.std.proofs.lemmas.List.{append-nil}
use Rattle.std.proofs.lemmas.List.Elements.{filter_map-append}
use Rattle.std.proofs.lemmas.List.Sums.{fold-append}
use Rattle.acquisition.specs.Checking.{or, setting_fault}
use Rattle.acquisition.specs.declared.settings.SettingFault.{SettingFault}
use Rattle.acquisition.specs.declared.settings.SettingFault.TheVariants.{TooMany}
use Rattle.avl_values.specs.declared.codec.Codec.{Codec}
use Rattle.avl_values.specs.declared.order.Order.{Order}
use Rattle.io_operands.specs.declared.setting.IoSetting.{IoSetting}
use Rattle.trial_model.specs.Script.{Device, device_on, devices_of, setting_on}
use Rattle.trial_model.specs.declared.script.ScriptLine.{ScriptLine}
use Rattle.trial_model.specs.declared.script.ScriptLine.TheVariants as Line
use Rattle.trial_model.specs.declared.script.Who.TheVariants as Who
use Rattle.journey_script.specs.Laws.{HasLaws}
use Rattle.journey_script.specs.Later.{Enrolled, device_count, device_fault, enrolled_in, later_fault, setting_line_fault, with_closed}
use Rattle.journey_script.specs.Later as later
use Rattle.trial_loop.specs.Enrolling.{FitsNext, HasRoom, enrolled_after, with_setting}

-- ---- settings of devices that stand already
-- what a line gives a device
abbrev given : ScriptLine → Device → Device
given line d = record d { settings = d.settings ++ filter_map (setting_on d.imei) (line ∷ []) }

abbrev one : ℕ → Codec → ℕ → Order → ℕ → ℕ → ℕ → ℕ → Bool → List IoSetting → Device
one imei codec slots order period distance angle speed known settings = record {
  imei = imei;
  codec = codec;
  slots = slots;
  order = order;
  period = period;
  distance = distance;
  angle = angle;
  speed = speed;
  known = known;
  settings = settings;
}

redone : (all : List ScriptLine) (line : ScriptLine) (ls : List ScriptLine) → filter_map (device_on (all ++ line ∷ [])) ls ≡ map (given line) (filter_map (device_on all) ls)
redone all line [] = refl
redone all line (Line.Device imei codec slots order period distance angle speed known ∷ ls) =
    ap (λ (ss : List IoSetting). one imei codec slots order period distance angle speed known ss ∷ filter_map (device_on (all ++ line ∷ [])) ls) (filter_map-append (setting_on imei) all (line ∷ []))
    ∙ ap (λ (ds : List Device). one imei codec slots order period distance angle speed known (filter_map (setting_on imei) all ++ filter_map (setting_on imei) (line ∷ [])) ∷ ds) (redone all line ls)
redone all line (Line.Setting who setting ∷ ls) = redone all line ls
redone all line (Line.Fix who fix ∷ ls) = redone all line ls
redone all line (Line.Round who piece up down ∷ ls) = redone all line ls
redone all line (Line.Drain who piece ∷ ls) = redone all line ls
redone all line (Line.Late connection bytes ∷ ls) = redone all line ls
redone all line (Line.Close connection ∷ ls) = redone all line ls
redone all line (Line.Power who ∷ ls) = redone all line ls
redone all line (Line.Fuse who calls tear ∷ ls) = redone all line ls

-- a line that gives nobody a setting
kept : (line : ScriptLine) (ds : List Device) → ((imei : ℕ) → filter_map (setting_on imei) (line ∷ []) ≡ []) → map (given line) ds ≡ ds
kept line [] none = refl
kept line (d ∷ ds) none =
    ap (λ (ss : List IoSetting). record d { settings = ss } ∷ map (given line) ds) (ap (λ (ss : List IoSetting). d.settings ++ ss) (none d.imei) ∙ append-nil d.settings)
    ∙ ap (λ (es : List Device). d ∷ es) (kept line ds none)

same_way : (x y : ℕ) → (x == y) ≡ (y == x)
same_way x y = by (x == y) (y == x) refl refl
  where
    by : (a b : Bool) → (x == y) ≡ a → (y == x) ≡ b → a ≡ b
    by true true p q = refl
    by true false p q = absurd (grind (arith, nat_tests))
    by false true p q = absurd (grind (arith, nat_tests))
    by false false p q = refl

given_setting : (who : ℕ) (setting : IoSetting) (ds : List Device) → map (given (Line.Setting who setting)) ds ≡ with_setting who setting ds
given_setting who setting [] = refl
given_setting who setting (d ∷ ds) =
    ap (λ (e : Device). e ∷ map (given (Line.Setting who setting)) ds) (by (who == d.imei) (d.imei == who) (same_way who d.imei))
    ∙ ap (λ (es : List Device). (if d.imei == who then record d { settings = d.settings ++ setting ∷ [] } else d) ∷ es) (given_setting who setting ds)
  where
    by : (a b : Bool) → a ≡ b → record d { settings = d.settings ++ filter_map (λ (u : Option IoSetting). u) ((if a then Some setting else None) ∷ []) } ≡ (if b then record d { settings = d.settings ++ setting ∷ [] } else d)
    by true true e = refl
    by true false e = absurd (cc)
    by false true e = absurd (cc)
    by false false e = ap (λ (ss : List IoSetting). record d { settings = ss }) (append-nil d.settings)

-- ---- no setting before its device
abbrev NoneYet : List ScriptLine → Type 0
NoneYet before = (imei : ℕ) → enrolled_in before imei ≡ None → filter_map (setting_on imei) before ≡ []

push : (before : List ScriptLine) (line : ScriptLine) (imei : ℕ) → enrolled_in (before ++ line ∷ []) imei ≡ later.enrolled_after imei (enrolled_in before imei) line
push before line imei = fold-append (later.enrolled_after imei) None before (line ∷ [])

of_none : (b : Bool) (change : Enrolled → Enrolled) (o : Option Enrolled) → (if b then option_map change o else o) ≡ None → o ≡ None
of_none true change None h = refl
of_none true change (Some d) h = absurd (cc)
of_none false change o h = h

device_none : (b : Bool) (d : Enrolled) (o : Option Enrolled) → (if b then Some d else o) ≡ None → o ≡ None
device_none true d o h = absurd (cc)
device_none false d o h = h

before_none : (line : ScriptLine) (imei : ℕ) (o : Option Enrolled) → later.enrolled_after imei o line ≡ None → o ≡ None
before_none (Line.Device who codec slots order period distance angle speed known) imei o h = device_none (who == imei) (record { codec = codec; settings = []; closed = false }) o h
before_none (Line.Setting who setting) imei o h = of_none (who == imei) (later.with_setting setting) o h
before_none (Line.Fix who fix) imei o h = of_none (who == imei) with_closed o h
before_none (Line.Round who piece up down) imei o h = of_none (who == imei) with_closed o h
before_none (Line.Drain who piece) imei o h = of_none (who == imei) with_closed o h
before_none (Line.Late connection bytes) imei o h = h
before_none (Line.Close connection) imei o h = h
before_none (Line.Power (Who.Device who)) imei o h = of_none (who == imei) with_closed o h
before_none (Line.Power Who.Server) imei o h = h
before_none (Line.Fuse (Who.Device who) calls tear) imei o h = of_none (who == imei) with_closed o h
before_none (Line.Fuse Who.Server calls tear) imei o h = h

-- a device without its line has no `io` line
not_enrolled : (setting : IoSetting) → setting_line_fault None setting ≡ None → ⊥
not_enrolled setting h = cc

nothing_given : (before : List ScriptLine) (line : ScriptLine) (imei : ℕ) → later_fault before line ≡ None → enrolled_in before imei ≡ None → filter_map (setting_on imei) (line ∷ []) ≡ []
unfolding later_fault
nothing_given before (Line.Device who codec slots order period distance angle speed known) imei none is = refl
nothing_given before (Line.Setting who setting) imei none is = by (who == imei) refl
  where
    by : (b : Bool) → (who == imei) ≡ b → filter_map (λ (u : Option IoSetting). u) ((if b then Some setting else None) ∷ []) ≡ []
    by true at = absurd (not_enrolled setting (ap (λ (o : Option Enrolled). setting_line_fault o setting) (sym (ap (enrolled_in before) (eqb-true who imei at) ∙ is)) ∙ none))
    by false at = refl
nothing_given before (Line.Fix who fix) imei none is = refl
nothing_given before (Line.Round who piece up down) imei none is = refl
nothing_given before (Line.Drain who piece) imei none is = refl
nothing_given before (Line.Late connection bytes) imei none is = refl
nothing_given before (Line.Close connection) imei none is = refl
nothing_given before (Line.Power who) imei none is = refl
nothing_given before (Line.Fuse who calls tear) imei none is = refl

none_step : (before : List ScriptLine) (line : ScriptLine) → later_fault before line ≡ None → NoneYet before → NoneYet (before ++ line ∷ [])
none_step before line none yet imei is =
    let was : enrolled_in before imei ≡ None = before_none line imei (enrolled_in before imei) (sym (push before line imei) ∙ is) in
    filter_map-append (setting_on imei) before (line ∷ []) ∙ ap (λ (ss : List IoSetting). ss ++ filter_map (setting_on imei) (line ∷ [])) (yet imei was) ∙ nothing_given before line imei none was

none_along : (lines start more after : List ScriptLine) → HasLaws lines → lines ≡ start ++ (more ++ after) → NoneYet start → NoneYet (start ++ more)
none_along lines start [] after laws is yet = subst NoneYet (sym (append-nil start)) yet
none_along lines start (line ∷ more) after laws is yet =
    let step = none_step start line (laws.sound start (more ++ after) line is) yet in
    subst NoneYet (append_assoc start (line ∷ []) more) (none_along lines (start ++ line ∷ []) more after laws (is ∙ sym (append_assoc start (line ∷ []) (more ++ after))) step)

none_yet : (lines before after : List ScriptLine) → HasLaws lines → lines ≡ before ++ after → NoneYet before
none_yet lines before after laws is = none_along lines [] before after laws is (λ imei e. refl)

-- ---- one line more
same_devices : (before : List ScriptLine) (line : ScriptLine) → ((imei : ℕ) → filter_map (setting_on imei) (line ∷ []) ≡ []) → filter_map (device_on (before ++ line ∷ [])) before ≡ devices_of before
same_devices before line none = redone before line before ∙ kept line (devices_of before) none

no_device : (before : List ScriptLine) (line : ScriptLine) → ((imei : ℕ) → filter_map (setting_on imei) (line ∷ []) ≡ []) → filter_map (device_on (before ++ line ∷ [])) (line ∷ []) ≡ [] → devices_of (before ++ line ∷ []) ≡ devices_of before
no_device before line none not =
    filter_map-append (device_on (before ++ line ∷ [])) before (line ∷ []) ∙ ap (λ (ds : List Device). filter_map (device_on (before ++ line ∷ [])) before ++ ds) not
    ∙ append-nil (filter_map (device_on (before ++ line ∷ [])) before) ∙ same_devices before line none

new_device : (o : Option Enrolled) (n : ℕ) → device_fault o n ≡ None → o ≡ None
new_device None n h = refl
new_device (Some e) n h = absurd (cc)

enrolls : (before : List ScriptLine) (line : ScriptLine) → NoneYet before → later_fault before line ≡ None → devices_of (before ++ line ∷ []) ≡ enrolled_after (devices_of before) line
unfolding later_fault
enrolls before (Line.Device imei codec slots order period distance angle speed known) yet none =
    let line = Line.Device imei codec slots order period distance angle speed known in
    let no_settings : filter_map (setting_on imei) (before ++ line ∷ []) ≡ [] =
    filter_map-append (setting_on imei) before (line ∷ []) ∙ ap (λ (ss : List IoSetting). ss ++ []) (yet imei (new_device (enrolled_in before imei) (device_count before) none)) in
    filter_map-append (device_on (before ++ line ∷ [])) before (line ∷ [])
    ∙ ap (λ (ss : List IoSetting). filter_map (device_on (before ++ line ∷ [])) before ++ one imei codec slots order period distance angle speed known ss ∷ []) no_settings
    ∙ ap (λ (ds : List Device). ds ++ one imei codec slots order period distance angle speed known [] ∷ []) (same_devices before line (λ i. refl))
enrolls before (Line.Setting who setting) yet none =
    let line = Line.Setting who setting in
    filter_map-append (device_on (before ++ line ∷ [])) before (line ∷ []) ∙ append-nil (filter_map (device_on (before ++ line ∷ [])) before) ∙ redone before line before ∙ given_setting who setting (devices_of before)
enrolls before (Line.Fix who fix) yet none = no_device before (Line.Fix who fix) (λ i. refl) refl
enrolls before (Line.Round who piece up down) yet none = no_device before (Line.Round who piece up down) (λ i. refl) refl
enrolls before (Line.Drain who piece) yet none = no_device before (Line.Drain who piece) (λ i. refl) refl
enrolls before (Line.Late connection bytes) yet none = no_device before (Line.Late connection bytes) (λ i. refl) refl
enrolls before (Line.Close connection) yet none = no_device before (Line.Close connection) (λ i. refl) refl
enrolls before (Line.Power who) yet none = no_device before (Line.Power who) (λ i. refl) refl
enrolls before (Line.Fuse who calls tear) yet none = no_device before (Line.Fuse who calls tear) (λ i. refl) refl

-- ---- room for a setting
abbrev CanHave : Device → Type 0
CanHave d = setting_fault d.codec d.settings ≡ None

few_settings : (codec : Codec) (ss : List IoSetting) → setting_fault codec ss ≡ None → length ss ≤ 32
few_settings codec ss h = by (nat_lt 32 (length ss)) refl _ h
  where
    by : (b : Bool) → nat_lt 32 (length ss) ≡ b → (next : Option SettingFault) → or (if b then Some TooMany else None) next ≡ None → length ss ≤ 32
    by true e next h = absurd (cc)
    by false e next h = grind (arith, nat_tests)

-- The settings so far of a device, and all of them.
record HasSettings (all lines : List ScriptLine) (d : Device) : Type 0 where
  so_far : d.settings ≡ filter_map (setting_on d.imei) all
  few : length (filter_map (setting_on d.imei) lines) ≤ 32

settings_at : (all lines ls : List ScriptLine) (n : ℕ) (d : Device) → AllByRecursion CanHave (filter_map (device_on lines) ls) → slice_get (filter_map (device_on all) ls) n ≡ Some d → HasSettings all lines d
settings_at all lines [] n d can at = absurd (cc)
settings_at all lines (Line.Device imei codec slots order period distance angle speed known ∷ ls) zero d can at =
    let is : one imei codec slots order period distance angle speed known (filter_map (setting_on imei) all) ≡ d = cc in
    subst (HasSettings all lines) is (record { so_far = refl; few = few_settings codec (filter_map (setting_on imei) lines) can.0 })
settings_at all lines (Line.Device imei codec slots order period distance angle speed known ∷ ls) (suc n) d can at = settings_at all lines ls n d can.1 at
settings_at all lines (Line.Setting who setting ∷ ls) n d can at = settings_at all lines ls n d can at
settings_at all lines (Line.Fix who fix ∷ ls) n d can at = settings_at all lines ls n d can at
settings_at all lines (Line.Round who piece up down ∷ ls) n d can at = settings_at all lines ls n d can at
settings_at all lines (Line.Drain who piece ∷ ls) n d can at = settings_at all lines ls n d can at
settings_at all lines (Line.Late connection bytes ∷ ls) n d can at = settings_at all lines ls n d can at
settings_at all lines (Line.Close connection ∷ ls) n d can at = settings_at all lines ls n d can at
settings_at all lines (Line.Power who ∷ ls) n d can at = settings_at all lines ls n d can at
settings_at all lines (Line.Fuse who calls tear ∷ ls) n d can at = settings_at all lines ls n d can at

front : (P : Device → Type 0) (xs ys : List Device) → AllByRecursion P (xs ++ ys) → AllByRecursion P xs
front P [] ys h = tt
front P (x ∷ xs) ys h = (h.0, front P xs ys h.1)

can_before : (lines before after : List ScriptLine) → lines ≡ before ++ after → AllByRecursion CanHave (devices_of lines) → AllByRecursion CanHave (filter_map (device_on lines) before)
can_before lines before after is h =
    let cut : devices_of lines ≡ filter_map (device_on lines) before ++ filter_map (device_on lines) after = ap (filter_map (device_on lines)) is ∙ filter_map-append (device_on lines) before after in
    front CanHave (filter_map (device_on lines) before) (filter_map (device_on lines) after) (subst (AllByRecursion CanHave) cut h)

itself : (n : ℕ) → (n == n) ≡ true
itself n = grind (arith, nat_tests)

first_given : (imei : ℕ) (setting : IoSetting) (after : List ScriptLine) → filter_map (setting_on imei) (Line.Setting imei setting ∷ after) ≡ setting ∷ filter_map (setting_on imei) after
first_given imei setting after =
    filter_map-append (setting_on imei) (Line.Setting imei setting ∷ []) after ∙ ap (λ (ss : List IoSetting). ss ++ filter_map (setting_on imei) after) (by (imei == imei) (itself imei))
  where
    by : (b : Bool) → b ≡ true → filter_map (λ (u : Option IoSetting). u) ((if b then Some setting else None) ∷ []) ≡ setting ∷ []
    by true e = refl
    by false e = absurd (cc)

one_less : (imei : ℕ) (setting : IoSetting) (before after : List ScriptLine) → length (filter_map (setting_on imei) (before ++ Line.Setting imei setting ∷ after)) ≤ 32 → length (filter_map (setting_on imei) before) < 32
one_less imei setting before after few =
    let so_far = filter_map (setting_on imei) before in
    let more = filter_map (setting_on imei) after in
    let cut : filter_map (setting_on imei) (before ++ Line.Setting imei setting ∷ after) ≡ so_far ++ setting ∷ more =
    filter_map-append (setting_on imei) before (Line.Setting imei setting ∷ after) ∙ ap (λ (ss : List IoSetting). so_far ++ ss) (first_given imei setting after) in
    omega (arith, few, ap (λ (ss : List IoSetting). length ss) cut, length-append so_far (setting ∷ more))

has_room : (lines before after : List ScriptLine) (imei : ℕ) (setting : IoSetting) → HasLaws lines → lines ≡ before ++ Line.Setting imei setting ∷ after → HasRoom imei (devices_of before)
has_room lines before after imei setting laws is n d at same =
    let h = settings_at before lines before n d (can_before lines before (Line.Setting imei setting ∷ after) is laws.settings) at in
    let here : d.imei ≡ imei = eqb-true d.imei imei same in
    let few : length (filter_map (setting_on imei) (before ++ Line.Setting imei setting ∷ after)) ≤ 32 =
    subst (λ (ls : List ScriptLine). length (filter_map (setting_on imei) ls) ≤ 32) is (subst (λ (i : ℕ). length (filter_map (setting_on i) lines) ≤ 32) here h.few) in
    subst (λ (ss : List IoSetting). length ss < 32) (sym (h.so_far ∙ ap (λ (i : ℕ). filter_map (setting_on i) before) here)) (one_less imei setting before after few)

fits : (lines before after : List ScriptLine) (line : ScriptLine) → HasLaws lines → lines ≡ before ++ line ∷ after → FitsNext (devices_of before) line
fits lines before after (Line.Device imei codec slots order period distance angle speed known) laws is = tt
fits lines before after (Line.Setting imei setting) laws is = has_room lines before after imei setting laws is
fits lines before after (Line.Fix imei fix) laws is = tt
fits lines before after (Line.Round imei piece up down) laws is = tt
fits lines before after (Line.Drain imei piece) laws is = tt
fits lines before after (Line.Late connection bytes) laws is = tt
fits lines before after (Line.Close connection) laws is = tt
fits lines before after (Line.Power who) laws is = tt
fits lines before after (Line.Fuse who calls tear) laws is = tt

-- ---- at a place
whole : (lines : List ScriptLine) (n : ℕ) (line : ScriptLine) → slice_get lines n ≡ Some line → lines ≡ take n lines ++ line ∷ drop (suc n) lines
whole [] n line at = absurd (cc)
whole (l ∷ ls) zero line at = let is : l ≡ line = cc in ap (λ (x : ScriptLine). x ∷ ls) is
whole (l ∷ ls) (suc n) line at = ap (λ (xs : List ScriptLine). l ∷ xs) (whole ls n line at)

so_far : (lines : List ScriptLine) (n : ℕ) (line : ScriptLine) → slice_get lines n ≡ Some line → take (suc n) lines ≡ take n lines ++ line ∷ []
so_far [] n line at = absurd (cc)
so_far (l ∷ ls) zero line at = let is : l ≡ line = cc in ap (λ (x : ScriptLine). x ∷ []) is
so_far (l ∷ ls) (suc n) line at = ap (λ (xs : List ScriptLine). l ∷ xs) (so_far ls n line at)

-- the next line can be taken
pub next-fits : (lines : List ScriptLine) (n : ℕ) (line : ScriptLine) → HasLaws lines → slice_get lines n ≡ Some line → FitsNext (devices_of (take n lines)) line
next-fits lines n line laws at = fits lines (take n lines) (drop (suc n) lines) line laws (whole lines n line at)

-- and then the devices are those of one line more
pub next-enrolled : (lines : List ScriptLine) (n : ℕ) (line : ScriptLine) → HasLaws lines → slice_get lines n ≡ Some line → enrolled_after (devices_of (take n lines)) line ≡ devices_of (take (n + 1) lines)
next-enrolled lines n line laws at =
    let is = whole lines n line at in
    let yet = none_yet lines (take n lines) (line ∷ drop (suc n) lines) laws is in
    let step = enrolls (take n lines) line yet (laws.sound (take n lines) (drop (suc n) lines) line is) in
    let next : suc n ≡ n + 1 = omega arith in
    sym (ap devices_of (so_far lines n line at) ∙ step) ∙ ap (λ (k : ℕ). devices_of (take k lines)) next

pub all-taken : (lines : List ScriptLine) (n : ℕ) → length lines ≤ n → take n lines ≡ lines
all-taken [] zero few = refl
all-taken [] (suc n) few = refl
all-taken (l ∷ ls) zero few = absurd (omega (arith, few))
all-taken (l ∷ ls) (suc n) few = ap (λ (xs : List ScriptLine). l ∷ xs) (all-taken ls n (omega (arith, few)))

-- ---- a setting for the devices up to a place
abbrev changed : ℕ → IoSetting → Device → Device
changed imei setting d = if d.imei == imei then record d { settings = d.settings ++ setting ∷ [] } else d

abbrev up_to : ℕ → IoSetting → List Device → ℕ → List Device
up_to imei setting ds k = with_setting imei setting (take k ds) ++ drop k ds

one_further : (imei : ℕ) (setting : IoSetting) (ds : List Device) (k : ℕ) (x d new : Device) → k < length ds → d ≡ get_or (up_to imei setting ds k) k x → new ≡ changed imei setting d
    → set (up_to imei setting ds k) k new ≡ up_to imei setting ds (suc k)
one_further imei setting [] k x d new below is made = absurd (omega (arith, below))
one_further imei setting (e ∷ ds) zero x d new below is made = ap (λ (n : Device). n ∷ ds) (made ∙ ap (changed imei setting) is)
one_further imei setting (e ∷ ds) (suc k) x d new below is made = ap (λ (es : List Device). changed imei setting e ∷ es) (one_further imei setting ds k x d new (omega (arith, below)) is made)

further : (imei : ℕ) (setting : IoSetting) (ds now : List Device) (k : ℕ) (x d new : Device) → now ≡ up_to imei setting ds k → k < length ds → d ≡ get_or now k x → new ≡ changed imei setting d
    → set now k new ≡ up_to imei setting ds (k + 1)
further imei setting ds now k x d new so_far below is made =
    let next : suc k ≡ k + 1 = omega arith in
    ap (λ (es : List Device). set es k new) so_far
    ∙ one_further imei setting ds k x d new below (is ∙ ap (λ (es : List Device). get_or es k x) so_far) made
    ∙ ap (up_to imei setting ds) next

pub set-further : (imei : ℕ) (setting : IoSetting) (ds now : List Device) (k : ℕ) (x d : Device) (settings : List IoSetting) → now ≡ up_to imei setting ds k → k < length ds → d ≡ get_or now k x
    → (d.imei == imei) ≡ true → settings ≡ d.settings ++ setting ∷ [] → set now k (record d { settings = settings }) ≡ up_to imei setting ds (k + 1)
set-further imei setting ds now k x d settings so_far below is same made =
    further imei setting ds now k x d (record d { settings = settings }) so_far below is
    (ap (λ (ss : List IoSetting). record d { settings = ss }) made ∙ sym (ap (λ (b : Bool). if b then record d { settings = d.settings ++ setting ∷ [] } else d) same))

pub same-further : (imei : ℕ) (setting : IoSetting) (ds now : List Device) (k : ℕ) (x d : Device) → now ≡ up_to imei setting ds k → k < length ds → d ≡ get_or now k x → (d.imei == imei) ≡ false
    → set now k (get_or now k x) ≡ up_to imei setting ds (k + 1)
same-further imei setting ds now k x d so_far below is other =
    further imei setting ds now k x d (get_or now k x) so_far below is
    (sym is ∙ sym (ap (λ (b : Bool). if b then record d { settings = d.settings ++ setting ∷ [] } else d) other))

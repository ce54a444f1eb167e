-- What every script keeps: by induction over its lines, each of which has no fault by those before it.
use Rattle.std.proofs.Common.{◌≡◌, ◌==◌, ◌+◌, ◌-◌, ◌<◌, ◌≤◌, ◌||◌, ℕ, zero, suc, Bool, true, false, nat_lt, nat_le, cond, not, lit≤, List, [], ◌∷◌, ◌++◌, map, length, length-append, Option, Some, None, Result, Ok, Err, refl, sym, ap, subst, ◌∙◌, append_assoc, arith, if◌then◌else◌}
use Rattle.std.specs.Prelude.{is_some, slice_get, option_map}
use Rattle.std.specs.List.{AllByRecursion, filter_map, fold}
use Rattle.std.proofs.lemmas.Bool.Decides.{nat_tests}
use Rattle.std.proofs.lemmas.List.{append-nil, length-map, map_push}
use Rattle.std.proofs.lemmas.List.Elements.{filter_map-append}
use Rattle.std.proofs.lemmas.List.Sums.{count_by-le-length, fold-append, length-filter}
use Rattle.text_lines.specs.Lines.{content_lines}
use Rattle.trial_model.specs.Connections.{ConnectionHistory, at_number, closed, connections_after, connections_of, if_covered, restarted, server_of, with_more, plus}
use Rattle.trial_model.specs.Script.{Device, Opening, Script, device_on, devices_of, lines_of, opening_of}
use Rattle.trial_model.specs.declared.script.ScriptLine.{ScriptLine}
use Rattle.trial_model.specs.declared.script.ScriptLine.TheVariants as Line
use Rattle.trial_model.specs.declared.script.Who.TheVariants as Who
use Rattle.journey_script.specs.declared.fault.ScriptFault.{ScriptFault}
use Rattle.journey_script.specs.declared.fault.ScriptFault.TheVariants.{TooManyDevices, TooManyOpen}
use Rattle.journey_script.specs.Grammar.{IsScript, Refusal, with_judged, with_line, with_text_line}
use Rattle.journey_script.specs.Later.{Enrolled, device_count, device_fault, enrolled_after, enrolled_in, is_device_line, later_fault, of_device, open_count, unless_enrolled, when, with_closed, with_setting}
use Rattle.journey_script.specs.Laws.{AreDistinct, HasLaws, is_device}
use Rattle.journey_script.specs.Lines.{line_of}
use Rattle.journey_script.specs.Standing.{open_from}
use Rattle.journey_script.proofs.ConnectionLemmas.{connections_push, count_push, open_append, open_closed, open_length, open_more, open_restarted}
use Rattle.journey_script.proofs.SettingLaws.{HasSettings, all_settings, all_values, no_lines, setting_step}
use Rattle.journey_script.proofs.StandingLemmas.{some_number}
use Rattle.journey_script.proofs.WrittenLemmas.{is_short}

-- ---- lines without a fault by those before them
abbrev pub AreSound : List ScriptLine → List ScriptLine → Type 0
AreSound before [] = Unit {0}
AreSound before (line ∷ lines) = (later_fault before line ≡ None) × AreSound (before ++ line ∷ []) lines

abbrev Texts : Type 0
Texts = List (ℕ × List ℕ)

refuses : (all : Texts) (refusal : Refusal) (script : Script) → fold with_text_line (Err refusal) all ≡ Ok script → ⊥
refuses [] refusal script h = cc
refuses (t ∷ ts) refusal script h = refuses ts refusal script h

judged : (all : Texts) (before script : Script) (number : ℕ) (line : ScriptLine) (fault : Option ScriptFault) → fold with_text_line (with_judged before number line fault) all ≡ Ok script
    → (fault ≡ None) × (fold with_text_line (Ok (before ++ (number, line) ∷ [])) all ≡ Ok script)
judged all before script number line None h = (refl, h)
judged all before script number line (Some fault) h = absurd (refuses all (record { line = number; kind = fault }) script h)

said : (all : Texts) (before script : Script) (number : ℕ) (r : Result ScriptLine ScriptFault) → fold with_text_line (with_line before number r) all ≡ Ok script
    → (line : ScriptLine) × (later_fault (lines_of before) line ≡ None) × (fold with_text_line (Ok (before ++ (number, line) ∷ [])) all ≡ Ok script)
unfolding with_line
said all before script number (Err fault) h = absurd (refuses all (record { line = number; kind = fault }) script h)
said all before script number (Ok line) h = let p = judged all before script number line (later_fault (lines_of before) line) h in (line, p.0, p.1)

record IsSoundOn (before script : Script) : Type 0 where
  more : List ScriptLine
  whole : lines_of script ≡ lines_of before ++ more
  sound : AreSound (lines_of before) more

sound_on : (all : Texts) (before script : Script) → fold with_text_line (Ok before) all ≡ Ok script → IsSoundOn before script
sound_on [] before script h = record { more = []; whole = let is : before ≡ script = cc in ap lines_of (sym is) ∙ sym (append-nil (lines_of before)); sound = tt }
sound_on (t ∷ ts) before script h =
    let p = said ts before script t.0 (line_of t.1) h in
    let rest = sound_on ts (before ++ (t.0, p.0) ∷ []) script p.2 in
    let push : lines_of (before ++ (t.0, p.0) ∷ []) ≡ lines_of before ++ p.0 ∷ [] = map_push (λ (l : ℕ × ScriptLine). l.1) before (t.0, p.0) in
    record {
      more = p.0 ∷ rest.more;
      whole = rest.whole ∙ ap (λ (ls : List ScriptLine). ls ++ rest.more) push ∙ append_assoc (lines_of before) (p.0 ∷ []) rest.more;
      sound = (p.1, subst (λ (ls : List ScriptLine). AreSound ls rest.more) push rest.sound);
    }

all_sound : (script : Script) → IsScript script → AreSound [] (lines_of script)
all_sound script is =
    let p = is_short is.text script is.is_read in
    let r = sound_on (content_lines is.text) [] script p.1 in
    subst (AreSound []) (sym r.whole) r.sound

-- what holds before all lines and is kept by each holds of them all
along : (F : List ScriptLine → Type 0) → ((before : List ScriptLine) (line : ScriptLine) → F before → later_fault before line ≡ None → F (before ++ line ∷ [])) → (before more : List ScriptLine) → F before
    → AreSound before more → F (before ++ more)
along F step before [] h sound = subst F (sym (append-nil before)) h
along F step before (line ∷ lines) h sound = subst F (append_assoc before (line ∷ []) lines) (along F step (before ++ line ∷ []) lines (step before line h sound.0) sound.1)

-- the fault of one line among them
sound_at : (start before after : List ScriptLine) (line : ScriptLine) → AreSound start (before ++ line ∷ after) → later_fault (start ++ before) line ≡ None
sound_at start [] after line h = ap (λ (ls : List ScriptLine). later_fault ls line) (append-nil start) ∙ h.0
sound_at start (b ∷ bs) after line h = ap (λ (ls : List ScriptLine). later_fault ls line) (sym (append_assoc start (b ∷ []) bs)) ∙ sound_at (start ++ b ∷ []) bs after line h.1

-- ---- IMEIs
abbrev imei_on : ScriptLine → Option ℕ
imei_on (Line.Device imei codec slots order period distance angle speed known) = Some imei
imei_on (Line.Setting who setting) = None
imei_on (Line.Fix who fix) = None
imei_on (Line.Round who piece up down) = None
imei_on (Line.Drain who piece) = None
imei_on (Line.Late connection bytes) = None
imei_on (Line.Close connection) = None
imei_on (Line.Power who) = None
imei_on (Line.Fuse who calls tear) = None

abbrev imeis : List ScriptLine → List ℕ
imeis lines = filter_map imei_on lines

abbrev is_among : ℕ → List ℕ → Bool
is_among imei [] = false
is_among imei (x ∷ xs) = (x == imei) || is_among imei xs

abbrev AreApart : List ℕ → Type 0
AreApart [] = Unit {0}
AreApart (x ∷ xs) = (is_among x xs ≡ false) × AreApart xs

or_none : (a : Bool) → (a || false) ≡ a
or_none true = refl
or_none false = refl

or_assoc : (a b c : Bool) → ((a || b) || c) ≡ (a || (b || c))
or_assoc true b c = refl
or_assoc false b c = refl

or_true : (a : Bool) → (a || true) ≡ true
or_true true = refl
or_true false = refl

among_push : (imei x : ℕ) (xs : List ℕ) → is_among imei (xs ++ x ∷ []) ≡ (is_among imei xs || (x == imei))
among_push imei x [] = or_none (x == imei)
among_push imei x (y ∷ ys) = ap (λ (b : Bool). (y == imei) || b) (among_push imei x ys) ∙ sym (or_assoc (y == imei) (is_among imei ys) (x == imei))

both_false : (a b : Bool) → (a || b) ≡ false → (a ≡ false) × (b ≡ false)
both_false true b h = absurd (cc)
both_false false b h = (refl, h)

other_way : (x y : ℕ) → (x == y) ≡ false → (y == x) ≡ false
other_way x y h = grind (arith, nat_tests)

apart_push : (x : ℕ) (xs : List ℕ) → AreApart xs → is_among x xs ≡ false → AreApart (xs ++ x ∷ [])
apart_push x [] h none = (refl, tt)
apart_push x (y ∷ ys) h none =
    let p = both_false (y == x) (is_among x ys) none in
    (among_push y x ys ∙ ap (λ (b : Bool). b || (x == y)) h.0 ∙ other_way y x p.0, apart_push x ys h.1 p.1)

-- the devices' IMEIs are those of the `device` lines
same_imeis : (all lines : List ScriptLine) → map (λ (d : Device). d.imei) (filter_map (device_on all) lines) ≡ imeis lines
same_imeis all [] = refl
same_imeis all (Line.Device imei codec slots order period distance angle speed known ∷ lines) = ap (λ (xs : List ℕ). imei ∷ xs) (same_imeis all lines)
same_imeis all (Line.Setting who setting ∷ lines) = same_imeis all lines
same_imeis all (Line.Fix who fix ∷ lines) = same_imeis all lines
same_imeis all (Line.Round who piece up down ∷ lines) = same_imeis all lines
same_imeis all (Line.Drain who piece ∷ lines) = same_imeis all lines
same_imeis all (Line.Late connection bytes ∷ lines) = same_imeis all lines
same_imeis all (Line.Close connection ∷ lines) = same_imeis all lines
same_imeis all (Line.Power who ∷ lines) = same_imeis all lines
same_imeis all (Line.Fuse who calls tear ∷ lines) = same_imeis all lines

device_among : (imei : ℕ) (ds : List Device) → is_device imei ds ≡ is_among imei (map (λ (d : Device). d.imei) ds)
device_among imei [] = refl
device_among imei (d ∷ ds) = ap (λ (b : Bool). (d.imei == imei) || b) (device_among imei ds)

distinct_from : (ds : List Device) → AreApart (map (λ (d : Device). d.imei) ds) → AreDistinct ds
distinct_from [] h = tt
distinct_from (d ∷ ds) h = (device_among d.imei ds ∙ h.0, distinct_from ds h.1)

-- ---- connections
-- how each was opened
abbrev openings : List ConnectionHistory → List Opening
openings cs = map (λ (c : ConnectionHistory). c.opening) cs

restarted_opening : (b : Bool) (c : ConnectionHistory) → (if b then record c { half_open = false; restarted = true } else c).opening ≡ c.opening
restarted_opening true c = refl
restarted_opening false c = refl

openings_restarted : (cs : List ConnectionHistory) → openings (map restarted cs) ≡ openings cs
openings_restarted [] = refl
openings_restarted (c ∷ cs) = ap (λ (o : Opening). o ∷ openings (map restarted cs)) (restarted_opening c.half_open c) ∙ ap (λ (os : List Opening). c.opening ∷ os) (openings_restarted cs)

openings_covered : (fuse : Option ℕ) (cs : List ConnectionHistory) → openings (if_covered fuse cs) ≡ openings cs
openings_covered None cs = refl
openings_covered (Some k) cs = openings_restarted cs

openings_at : (change : ConnectionHistory → ConnectionHistory) (k : ℕ) (cs : List ConnectionHistory) → ((c : ConnectionHistory) → (change c).opening ≡ c.opening) → openings (at_number change k cs) ≡ openings cs
openings_at change k [] same = refl
openings_at change k (c ∷ cs) same = by (k == 1) (openings_at change (k - 1) cs same)
  where
    by : (b : Bool) → openings (at_number change (k - 1) cs) ≡ openings cs → openings (if b then change c ∷ cs else c ∷ at_number change (k - 1) cs) ≡ c.opening ∷ openings cs
    by true rest = ap (λ (o : Opening). o ∷ openings cs) (same c)
    by false rest = ap (λ (os : List Opening). c.opening ∷ os) rest

more_opening : (n : Option ℕ) (b : Bool) (c : ConnectionHistory) → (if b then record c { allowed = plus c.allowed n } else c).opening ≡ c.opening
more_opening n true c = refl
more_opening n false c = refl

-- one line more
openings_after : (lines : List ScriptLine) (line : ScriptLine) → openings (connections_after (server_of lines) line) ≡ openings (connections_of lines) ++ filter_map opening_of (line ∷ [])
openings_after lines (Line.Device imei codec slots order period distance angle speed known) = sym (append-nil _)
openings_after lines (Line.Setting who setting) = sym (append-nil _)
openings_after lines (Line.Fix who fix) = sym (append-nil _)
openings_after lines (Line.Round who piece up down) = openings_covered (server_of lines).fuse _ ∙ map_push (λ (c : ConnectionHistory). c.opening) (connections_of lines) _
openings_after lines (Line.Drain who piece) = openings_covered (server_of lines).fuse _ ∙ map_push (λ (c : ConnectionHistory). c.opening) (connections_of lines) _
openings_after lines (Line.Late connection bytes) =
    openings_covered (server_of lines).fuse _ ∙ openings_at (with_more bytes) connection (connections_of lines) (λ c. more_opening bytes c.half_open c) ∙ sym (append-nil _)
openings_after lines (Line.Close connection) = openings_at closed connection (connections_of lines) (λ c. refl) ∙ sym (append-nil _)
openings_after lines (Line.Power (Who.Device imei)) = sym (append-nil _)
openings_after lines (Line.Power Who.Server) = openings_restarted (connections_of lines) ∙ sym (append-nil _)
openings_after lines (Line.Fuse who calls tear) = sym (append-nil _)

-- ---- what each line keeps
record IsOrdered (lines : List ScriptLine) : Type 0 where
  enrolled : (imei : ℕ) → is_among imei (imeis lines) ≡ is_some (enrolled_in lines imei)
  apart : AreApart (imeis lines)
  few : length (imeis lines) ≤ 64
  count : length (imeis lines) ≡ device_count lines
  opened : openings (connections_of lines) ≡ filter_map opening_of lines
  placed : AllByRecursion (λ (o : Opening). is_among o.imei (imeis lines) ≡ true) (filter_map opening_of lines)

kept_some : (who imei : ℕ) (change : Enrolled → Enrolled) (e : Option Enrolled) → is_some (of_device who change imei e) ≡ is_some e
kept_some who imei change e = by (who == imei) e
  where
    by : (b : Bool) (e : Option Enrolled) → is_some (if b then option_map change e else e) ≡ is_some e
    by true None = refl
    by true (Some d) = refl
    by false e = refl

enrolled_new : (b : Bool) (d : Enrolled) (e : Option Enrolled) (old : Bool) → old ≡ is_some e → (old || b) ≡ is_some (if b then Some d else e)
enrolled_new true d e old h = or_true old
enrolled_new false d e old h = or_none old ∙ h

enrolled_step : (before : List ScriptLine) (line : ScriptLine) (imei : ℕ) → is_among imei (imeis before) ≡ is_some (enrolled_in before imei)
    → is_among imei (imeis before ++ filter_map imei_on (line ∷ [])) ≡ is_some (enrolled_after imei (enrolled_in before imei) line)
enrolled_step before (Line.Device who codec slots order period distance angle speed known) imei h =
    among_push imei who (imeis before) ∙ enrolled_new (who == imei) (record { codec = codec; settings = []; closed = false }) (enrolled_in before imei) (is_among imei (imeis before)) h
enrolled_step before (Line.Setting who setting) imei h = ap (is_among imei) (append-nil (imeis before)) ∙ h ∙ sym (kept_some who imei (with_setting setting) (enrolled_in before imei))
enrolled_step before (Line.Fix who fix) imei h = ap (is_among imei) (append-nil (imeis before)) ∙ h ∙ sym (kept_some who imei with_closed (enrolled_in before imei))
enrolled_step before (Line.Round who piece up down) imei h = ap (is_among imei) (append-nil (imeis before)) ∙ h ∙ sym (kept_some who imei with_closed (enrolled_in before imei))
enrolled_step before (Line.Drain who piece) imei h = ap (is_among imei) (append-nil (imeis before)) ∙ h ∙ sym (kept_some who imei with_closed (enrolled_in before imei))
enrolled_step before (Line.Late connection bytes) imei h = ap (is_among imei) (append-nil (imeis before)) ∙ h
enrolled_step before (Line.Close connection) imei h = ap (is_among imei) (append-nil (imeis before)) ∙ h
enrolled_step before (Line.Power (Who.Device who)) imei h = ap (is_among imei) (append-nil (imeis before)) ∙ h ∙ sym (kept_some who imei with_closed (enrolled_in before imei))
enrolled_step before (Line.Power Who.Server) imei h = ap (is_among imei) (append-nil (imeis before)) ∙ h
enrolled_step before (Line.Fuse (Who.Device who) calls tear) imei h = ap (is_among imei) (append-nil (imeis before)) ∙ h ∙ sym (kept_some who imei with_closed (enrolled_in before imei))
enrolled_step before (Line.Fuse Who.Server calls tear) imei h = ap (is_among imei) (append-nil (imeis before)) ∙ h

-- What a `device` line without a fault says.
none_of : (e : Option Enrolled) (n : ℕ) → device_fault e n ≡ None → (is_some e ≡ false) × (n < 64)
none_of None n h = (refl, by (nat_le 64 n) refl h)
  where
    by : (b : Bool) → nat_le 64 n ≡ b → when b TooManyDevices ≡ None → n < 64
    by true e h = absurd (cc)
    by false e h = grind (arith, nat_tests)
none_of (Some d) n h = absurd (cc)

-- the IMEIs with those of one line more
record IsStep (before : List ScriptLine) (new : List ℕ) : Type 0 where
  apart : AreApart (imeis before ++ new)
  few : length (imeis before ++ new) ≤ 64

stays : (before : List ScriptLine) → IsOrdered before → IsStep before []
stays before h = record { apart = subst AreApart (sym (append-nil (imeis before))) h.apart; few = subst (λ (xs : List ℕ). length xs ≤ 64) (sym (append-nil (imeis before))) h.few }

imeis_step : (before : List ScriptLine) (line : ScriptLine) → IsOrdered before → later_fault before line ≡ None → IsStep before (filter_map imei_on (line ∷ []))
unfolding later_fault
imeis_step before (Line.Device who codec slots order period distance angle speed known) h none =
    let p = none_of (enrolled_in before who) (device_count before) none in
    record {
      apart = apart_push who (imeis before) h.apart (h.enrolled who ∙ p.0);
      few = omega (arith, length-append (imeis before) (who ∷ []), h.count, p.1);
    }
imeis_step before (Line.Setting who setting) h none = stays before h
imeis_step before (Line.Fix who fix) h none = stays before h
imeis_step before (Line.Round who piece up down) h none = stays before h
imeis_step before (Line.Drain who piece) h none = stays before h
imeis_step before (Line.Late connection bytes) h none = stays before h
imeis_step before (Line.Close connection) h none = stays before h
imeis_step before (Line.Power who) h none = stays before h
imeis_step before (Line.Fuse who calls tear) h none = stays before h

one_imei : (line : ScriptLine) → length (filter_map imei_on (line ∷ [])) ≡ cond (is_device_line line) 1 0
one_imei (Line.Device who codec slots order period distance angle speed known) = refl
one_imei (Line.Setting who setting) = refl
one_imei (Line.Fix who fix) = refl
one_imei (Line.Round who piece up down) = refl
one_imei (Line.Drain who piece) = refl
one_imei (Line.Late connection bytes) = refl
one_imei (Line.Close connection) = refl
one_imei (Line.Power who) = refl
one_imei (Line.Fuse who calls tear) = refl

there : (e : Option Enrolled) (next : Enrolled → Option ScriptFault) → unless_enrolled e next ≡ None → is_some e ≡ true
there None next h = absurd (cc)
there (Some d) next h = refl

opened_there : (before : List ScriptLine) (line : ScriptLine) → later_fault before line ≡ None → AllByRecursion (λ (o : Opening). is_some (enrolled_in before o.imei) ≡ true) (filter_map opening_of (line ∷ []))
unfolding later_fault
opened_there before (Line.Device who codec slots order period distance angle speed known) none = tt
opened_there before (Line.Setting who setting) none = tt
opened_there before (Line.Fix who fix) none = tt
opened_there before (Line.Round who piece up down) none = (there (enrolled_in before who) _ none, tt)
opened_there before (Line.Drain who piece) none = (there (enrolled_in before who) _ none, tt)
opened_there before (Line.Late connection bytes) none = tt
opened_there before (Line.Close connection) none = tt
opened_there before (Line.Power who) none = tt
opened_there before (Line.Fuse who calls tear) none = tt

among_more : (imei : ℕ) (xs ys : List ℕ) → is_among imei xs ≡ true → is_among imei (xs ++ ys) ≡ true
among_more imei [] ys h = absurd (cc)
among_more imei (x ∷ xs) ys h = by (x == imei) h (among_more imei xs ys)
  where
    by : (b : Bool) → (b || is_among imei xs) ≡ true → (is_among imei xs ≡ true → is_among imei (xs ++ ys) ≡ true) → (b || is_among imei (xs ++ ys)) ≡ true
    by true h rest = refl
    by false h rest = rest h

all_more : (os : List Opening) (xs ys : List ℕ) → AllByRecursion (λ (o : Opening). is_among o.imei xs ≡ true) os → AllByRecursion (λ (o : Opening). is_among o.imei (xs ++ ys) ≡ true) os
all_more [] xs ys h = tt
all_more (o ∷ os) xs ys h = (among_more o.imei xs ys h.0, all_more os xs ys h.1)

all_there : (before : List ScriptLine) (os : List Opening) → ((imei : ℕ) → is_among imei (imeis before) ≡ is_some (enrolled_in before imei))
    → AllByRecursion (λ (o : Opening). is_some (enrolled_in before o.imei) ≡ true) os → AllByRecursion (λ (o : Opening). is_among o.imei (imeis before) ≡ true) os
all_there before [] e h = tt
all_there before (o ∷ os) e h = (e o.imei ∙ h.0, all_there before os e h.1)

all_append : (P : Opening → Type 0) (xs ys : List Opening) → AllByRecursion P xs → AllByRecursion P ys → AllByRecursion P (xs ++ ys)
all_append P [] ys hx hy = hy
all_append P (x ∷ xs) ys hx hy = (hx.0, all_append P xs ys hx.1 hy)

ordered_step : (before : List ScriptLine) (line : ScriptLine) → IsOrdered before → later_fault before line ≡ None → IsOrdered (before ++ line ∷ [])
ordered_step before line h none =
    let new = filter_map imei_on (line ∷ []) in
    let push : imeis (before ++ line ∷ []) ≡ imeis before ++ new = filter_map-append imei_on before (line ∷ []) in
    let opens : filter_map opening_of (before ++ line ∷ []) ≡ filter_map opening_of before ++ filter_map opening_of (line ∷ []) = filter_map-append opening_of before (line ∷ []) in
    let step = imeis_step before line h none in
    let all = all_append (λ (o : Opening). is_among o.imei (imeis before) ≡ true) (filter_map opening_of before) (filter_map opening_of (line ∷ [])) h.placed
    (all_there before (filter_map opening_of (line ∷ [])) h.enrolled (opened_there before line none)) in
    record {
      enrolled = λ imei. ap (is_among imei) push ∙ enrolled_step before line imei (h.enrolled imei)
          ∙ ap (λ (e : Option Enrolled). is_some e) (sym (fold-append (enrolled_after imei) None before (line ∷ [])));
      apart = subst AreApart (sym push) step.apart;
      few = subst (λ (xs : List ℕ). length xs ≤ 64) (sym push) step.few;
      count = ap (λ (xs : List ℕ). length xs) push ∙ omega (arith, length-append (imeis before) new, h.count, one_imei line, count_push is_device_line before line);
      opened = ap openings (connections_push before line) ∙ openings_after before line ∙ ap (λ (os : List Opening). os ++ filter_map opening_of (line ∷ [])) h.opened ∙ sym opens;
      placed = subst (λ (os : List Opening). AllByRecursion (λ (o : Opening). is_among o.imei (imeis (before ++ line ∷ [])) ≡ true) os) (sym opens)
          (subst (λ (xs : List ℕ). AllByRecursion (λ (o : Opening). is_among o.imei xs ≡ true) (filter_map opening_of before ++ filter_map opening_of (line ∷ []))) (sym push)
          (all_more (filter_map opening_of before ++ filter_map opening_of (line ∷ [])) (imeis before) new all));
    }

-- ---- half-open connections
abbrev IsRoomy : List ScriptLine → Type 0
IsRoomy lines = length (open_from 1 (connections_of lines)) ≤ 64

roomy_by : (before : List ScriptLine) (line : ScriptLine) → length (open_from 1 (connections_after (server_of before) line)) ≤ 64 → IsRoomy (before ++ line ∷ [])
roomy_by before line h = subst (λ (cs : List ConnectionHistory). length (open_from 1 cs) ≤ 64) (sym (connections_push before line)) h

covered_few : (fuse : Option ℕ) (cs : List ConnectionHistory) (xs : List ℕ) → open_from 1 cs ≡ xs → length xs ≤ 64 → length (open_from 1 (if_covered fuse cs)) ≤ 64
covered_few None cs xs e h = subst (λ (ys : List ℕ). length ys ≤ 64) (sym e) h
covered_few (Some k) cs xs e h = subst (λ (ys : List ℕ). length ys ≤ 64) (sym (open_restarted 1 cs)) (lit≤ tt)

not_too_many : (n : ℕ) → when (nat_lt 64 n) TooManyOpen ≡ None → n ≤ 64
not_too_many n h = by (nat_lt 64 n) refl h
  where
    by : (b : Bool) → nat_lt 64 n ≡ b → when b TooManyOpen ≡ None → n ≤ 64
    by true e h = absurd (cc)
    by false e h = grind (arith, nat_tests)

enrolled_then : (e : Option Enrolled) (fault : Option ScriptFault) → unless_enrolled e (λ d. fault) ≡ None → fault ≡ None
enrolled_then None fault h = absurd (cc)
enrolled_then (Some d) fault h = h

roomy_step : (before : List ScriptLine) (line : ScriptLine) → IsRoomy before → later_fault before line ≡ None → IsRoomy (before ++ line ∷ [])
unfolding later_fault
roomy_step before (Line.Device who codec slots order period distance angle speed known) h none = roomy_by before (Line.Device who codec slots order period distance angle speed known) h
roomy_step before (Line.Setting who setting) h none = roomy_by before (Line.Setting who setting) h
roomy_step before (Line.Fix who fix) h none = roomy_by before (Line.Fix who fix) h
roomy_step before (Line.Round who piece up down) h none =
    let few = not_too_many (open_count (before ++ Line.Round who piece up down ∷ [])) (enrolled_then (enrolled_in before who) _ none) in
    omega (arith, open_length 1 (connections_of (before ++ Line.Round who piece up down ∷ [])), few)
roomy_step before (Line.Drain who piece) h none =
    roomy_by before (Line.Drain who piece) (covered_few (server_of before).fuse _ (open_from 1 (connections_of before)) (open_append 1 (1 + length (connections_of before)) (connections_of before) _ refl) h)
roomy_step before (Line.Late connection bytes) h none =
    roomy_by before (Line.Late connection bytes) (covered_few (server_of before).fuse _ (open_from 1 (connections_of before)) (open_more bytes 1 connection (connections_of before)) h)
roomy_step before (Line.Close connection) h none =
    let xs = open_from 1 (connections_of before) in
    let shut = open_closed connection (connections_of before) (some_number _ connection none) in
    roomy_by before (Line.Close connection) (omega (arith, ap (λ (ys : List ℕ). length ys) shut, length-filter (λ j. not (j == connection)) xs, count_by-le-length (λ j. not (j == connection)) xs, h))
roomy_step before (Line.Power (Who.Device imei)) h none = roomy_by before (Line.Power (Who.Device imei)) h
roomy_step before (Line.Power Who.Server) h none =
    roomy_by before (Line.Power Who.Server) (subst (λ (ys : List ℕ). length ys ≤ 64) (sym (open_restarted 1 (connections_of before))) (lit≤ tt))
roomy_step before (Line.Fuse who calls tear) h none = roomy_by before (Line.Fuse who calls tear) h

-- ---- the whole
opening_at : (n : ℕ) (cs : List ConnectionHistory) (h : ConnectionHistory) (xs : List ℕ) → AllByRecursion (λ (o : Opening). is_among o.imei xs ≡ true) (openings cs) → slice_get cs n ≡ Some h → is_among h.opening.imei xs ≡ true
opening_at n [] h xs all e = absurd (cc)
opening_at zero (c ∷ cs) h xs all e = let is : c ≡ h = cc in subst (λ (x : ConnectionHistory). is_among x.opening.imei xs ≡ true) is all.0
opening_at (suc n) (c ∷ cs) h xs all e = opening_at n cs h xs all.1 e

pub script_laws : (script : Script) → IsScript script → HasLaws (lines_of script)
script_laws script is =
    let lines = lines_of script in
    let sound = all_sound script is in
    let ordered = along IsOrdered ordered_step [] lines (record { enrolled = λ imei. refl; apart = tt; few = lit≤ tt; count = refl; opened = refl; placed = tt }) sound in
    let roomy = along IsRoomy roomy_step [] lines (lit≤ tt) sound in
    let settings = along HasSettings setting_step [] lines no_lines sound in
    let same = same_imeis lines lines in
    record {
      sound = λ before after line e. sound_at [] before after line (subst (AreSound []) e sound);
      distinct = distinct_from (devices_of lines) (subst AreApart (sym same) ordered.apart);
      few_devices = omega (arith, length-map (devices_of lines) (λ (d : Device). d.imei), ap (λ (xs : List ℕ). length xs) same, ordered.few);
      placed = λ n h e. device_among h.opening.imei (devices_of lines) ∙ ap (is_among h.opening.imei) same
          ∙ opening_at n (connections_of lines) h (imeis lines) (subst (λ (os : List Opening). AllByRecursion (λ (o : Opening). is_among o.imei (imeis lines) ≡ true) os) (sym ordered.opened) ordered.placed) e;
      settings = all_settings lines settings;
      values = λ before after imei fix e. all_values lines before after imei fix settings e;
      few_open = omega (arith, open_length 1 (connections_of lines), roomy);
    }

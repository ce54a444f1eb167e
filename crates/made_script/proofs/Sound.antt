-- No line of a made script has a fault by the lines before it.
use Rattle.std.proofs.Common.{◌≡◌, ◌==◌, ◌+◌, ◌^◌, ◌<◌, ◌≤◌, ◌&&◌, ℕ, zero, suc, Bool, true, false, nat_le, nat_lt, not, cond, List, [], ◌∷◌, ◌++◌, filter, length, length-append, option_map, Option, Some, None, refl, sym, ap, subst, ◌∙◌, append_assoc, arith, if◌then◌else◌}
use Rattle.std.specs.Prelude.{is_some}
use Rattle.std.proofs.lemmas.Bool.Decides.{nat_tests}
use Rattle.std.proofs.lemmas.List.{append-nil}
use Rattle.std.proofs.lemmas.List.Sums.{fold-append, sum_by-append}
use Rattle.avl_values.specs.declared.codec.Codec.{Codec}
use Rattle.avl_values.specs.declared.codec.Codec.TheVariants.{C8, C8E, C16}
use Rattle.avl_values.specs.declared.order.Order.TheVariants.{Oldest}
use Rattle.io_operands.specs.declared.setting.IoSetting.{IoSetting}
use Rattle.trial_model.specs.Connections.{ConnectionHistory, connections_after, connections_of, if_covered, server_of, opened, at_number, closed, with_more}
use Rattle.trial_model.specs.Script.{Opening, opening_of}
use Rattle.trial_model.specs.declared.script.ScriptLine.{ScriptLine}
use Rattle.trial_model.specs.declared.script.ScriptLine.TheVariants as Line
use Rattle.trial_model.specs.declared.script.Who.TheVariants as Who
use Rattle.journey_script.specs.declared.fault.ScriptFault.{ScriptFault}
use Rattle.journey_script.specs.declared.fault.ScriptFault.TheVariants.{TooManyOpen, ValueCount, ValueTooWide}
use Rattle.journey_script.specs.Later.{Enrolled, ◌then◌, connection_count, connection_fault, device_count, device_fault, enrolled_after, enrolled_in, is_device_line, later_fault, of_device, open_count, setting_line_fault, unless_enrolled, values_fault, when, with_closed, with_setting}
use Rattle.journey_script.specs.Standing.{open_from}
use Rattle.journey_script.proofs.ConnectionLemmas.{connections_push, count_push, length-at_number, length-covered, made_by, open_append, open_closed, open_covered, open_length, open_more}
use Rattle.journey_script.proofs.ScriptLaws.{AreSound}
use Rattle.made_script.specs.declared.turn.Event.{Event}
use Rattle.made_script.specs.declared.turn.Event.TheVariants.{CutRound, DeviceFuse, Nothing, Power, ServerFuse, WholeRound}
use Rattle.made_script.specs.declared.turn.Turn.{Turn}
use Rattle.made_script.specs.Draws.{drawn_turns, seeded}
use Rattle.made_script.specs.Made.{Stand, after_turn, codec_at, device_lines, drain_lines, event_lines, fix_of, ignition_setting, imei_at, lines_at, made_lines, of_devices, rounds_of, started, turn_lines, voltage_setting}
use Rattle.made_script.specs.Ranges.{IsTurn}
use Rattle.made_script.proofs.Turns.{AreTurns, turns_range}

abbrev both : List IoSetting
both = ignition_setting ∷ voltage_setting ∷ []

abbrev settings_by : Option Enrolled → Option (List IoSetting)
settings_by e = option_map (λ d. d.settings) e

-- ---- what the lines so far say
-- Each device has its `device` line and its settings.
record Enrols (devices : ℕ) (lines : List ScriptLine) : Type 0 where
  settings : (device : ℕ) → 1 ≤ device → device ≤ devices → settings_by (enrolled_in lines (imei_at device)) ≡ Some both

-- N connections were made, and none is half-open.
record IsQuiet (rounds : ℕ) (lines : List ScriptLine) : Type 0 where
  count : connection_count lines ≡ rounds
  made : length (connections_of lines) ≡ rounds
  none_open : open_from 1 (connections_of lines) ≡ []

-- The last one alone may be half-open.
record IsHalf (rounds : ℕ) (lines : List ScriptLine) : Type 0 where
  count : connection_count lines ≡ rounds
  made : length (connections_of lines) ≡ rounds
  few : length (open_from 1 (connections_of lines)) ≤ 1
  only : filter (λ j. not (j == rounds)) (open_from 1 (connections_of lines)) ≡ []

-- Further lines have no fault, and leave it so.
record Takes (devices rounds : ℕ) (lines more : List ScriptLine) : Type 0 where
  sound : AreSound lines more
  enrols : Enrols devices (lines ++ more)
  quiet : IsQuiet rounds (lines ++ more)

-- ---- one line more
enrolled_push : (lines : List ScriptLine) (line : ScriptLine) (imei : ℕ) → enrolled_in (lines ++ line ∷ []) imei ≡ enrolled_after imei (enrolled_in lines imei) line
enrolled_push lines line imei = fold-append (enrolled_after imei) None lines (line ∷ [])

abbrev KeepsSettings : ScriptLine → Type 0
KeepsSettings line = (imei : ℕ) (e : Option Enrolled) → settings_by (enrolled_after imei e line) ≡ settings_by e

enrols_push : (devices : ℕ) (lines : List ScriptLine) (line : ScriptLine) → Enrols devices lines → KeepsSettings line → Enrols devices (lines ++ line ∷ [])
enrols_push devices lines line known keeps = record {
  settings = λ device first last.
      ap settings_by (enrolled_push lines line (imei_at device)) ∙ keeps (imei_at device) (enrolled_in lines (imei_at device)) ∙ known.settings device first last;
}

closes : (who imei : ℕ) (e : Option Enrolled) → settings_by (of_device who with_closed imei e) ≡ settings_by e
closes who imei e = by (who == imei) e
  where
    by : (b : Bool) (e : Option Enrolled) → settings_by (if b then option_map with_closed e else e) ≡ settings_by e
    by true None = refl
    by true (Some d) = refl
    by false e = refl

-- a line that makes no connection and changes none
quiet_push : (rounds : ℕ) (lines : List ScriptLine) (line : ScriptLine) → IsQuiet rounds lines → opening_of line ≡ None → connections_after (server_of lines) line ≡ connections_of lines
    → IsQuiet rounds (lines ++ line ∷ [])
quiet_push rounds lines line known none same =
    let connections = connections_push lines line ∙ same in
    let no : made_by (opening_of line) ≡ 0 = ap made_by none in
    record {
      count = omega (arith, known.count, count_push (λ (l : ScriptLine). is_some (opening_of l)) lines line, no);
      made = ap (λ (cs : List ConnectionHistory). length cs) connections ∙ known.made;
      none_open = ap (λ (cs : List ConnectionHistory). open_from 1 cs) connections ∙ known.none_open;
    }

abbrev one_if : Bool → ℕ
one_if b = cond b 1 0

-- What a line leaves that makes a connection.
record IsAdded (rounds : ℕ) (lines : List ScriptLine) (covered half : Bool) : Type 0 where
  count : connection_count lines ≡ rounds + 1
  made : length (connections_of lines) ≡ rounds + 1
  left_open : open_from 1 (connections_of lines) ≡ (if covered then [] else if half then (rounds + 1) ∷ [] else [])

added : (rounds : ℕ) (lines : List ScriptLine) (line : ScriptLine) (c : ConnectionHistory) → IsQuiet rounds lines → is_some (opening_of line) ≡ true
    → connections_after (server_of lines) line ≡ if_covered (server_of lines).fuse (connections_of lines ++ c ∷ []) → IsAdded rounds (lines ++ line ∷ []) (is_some (server_of lines).fuse) c.half_open
added rounds lines line c known some is =
    let fuse = (server_of lines).fuse in
    let all = connections_of lines ++ c ∷ [] in
    let connections = connections_push lines line ∙ is in
    let one : one_if (is_some (opening_of line)) ≡ 1 = ap one_if some in
    let appended = open_append 1 (rounds + 1) (connections_of lines) c (omega (arith, known.made)) in
    record {
      count = omega (arith, known.count, count_push (λ (l : ScriptLine). is_some (opening_of l)) lines line, one);
      made = ap (λ (cs : List ConnectionHistory). length cs) connections ∙ omega (arith, length-covered fuse all, length-append (connections_of lines) (c ∷ []), known.made);
      left_open = ap (λ (cs : List ConnectionHistory). open_from 1 cs) connections ∙ open_covered fuse 1 all
          ∙ ap (λ (xs : List ℕ). if is_some fuse then [] else xs) (appended ∙ ap (λ (xs : List ℕ). if c.half_open then xs ++ (rounds + 1) ∷ [] else xs) known.none_open);
    }

none_left : (covered : Bool) (xs : List ℕ) → xs ≡ [] → (if covered then [] else xs) ≡ []
none_left true xs e = refl
none_left false xs e = e

one_left : (k : ℕ) (covered : Bool) → (length (if covered then [] else k ∷ []) ≤ 1) × (filter (λ j. not (j == k)) (if covered then [] else k ∷ []) ≡ [])
one_left k true = (omega arith, refl)
one_left k false = let same : (k == k) ≡ true = grind (arith, nat_tests) in (omega arith, rw same refl)

-- ---- single lines without a fault
unless_ok : (e : Option Enrolled) (next : Enrolled → Option ScriptFault) → settings_by e ≡ Some both → ((d : Enrolled) → d.settings ≡ both → next d ≡ None) → unless_enrolled e next ≡ None
unless_ok None next h ok = absurd (cc)
unless_ok (Some d) next h ok = ok d (cc)

fitting : (a b : Bool) → a ≡ true → b ≡ true → (when (not true) ValueCount then when (not (a && (b && true))) ValueTooWide) ≡ None
fitting a b ea eb = rw (ea, eb) refl

values_fit : (ignition voltage : ℕ) → ignition ≤ 1 → voltage < 16000 → values_fault both (ignition ∷ voltage ∷ []) ≡ None
values_fit ignition voltage small low =
    let a : nat_lt ignition (2 ^ 8) ≡ true = grind (arith, nat_tests) in
    let b : nat_lt voltage (2 ^ 16) ≡ true = grind (arith, nat_tests) in
    fitting (nat_lt ignition (2 ^ 8)) (nat_lt voltage (2 ^ 16)) a b

not_many : (n : ℕ) → n ≤ 1 → when (nat_lt 64 n) TooManyOpen ≡ None
not_many n h = let e : nat_lt 64 n ≡ false = grind (arith, nat_tests) in rw e refl

there : (rounds : ℕ) → 1 ≤ rounds → connection_fault rounds rounds ≡ None
there rounds h =
    let a : (rounds == 0) ≡ false = grind (arith, nat_tests) in
    let b : nat_lt rounds rounds ≡ false = grind (arith, nat_tests) in
    rw (a, b) refl

-- ---- lines of a turn
sound_append : (before more last : List ScriptLine) → AreSound before more → AreSound (before ++ more) last → AreSound before (more ++ last)
sound_append before [] last h k = subst (λ (ls : List ScriptLine). AreSound ls last) (append-nil before) k
sound_append before (line ∷ lines) last h k =
    (h.0, sound_append (before ++ line ∷ []) lines last h.1 (subst (λ (ls : List ScriptLine). AreSound ls last) (sym (append_assoc before (line ∷ []) lines)) k))

takes_append : (devices rounds between : ℕ) (lines more last : List ScriptLine) → Takes devices between lines more → Takes devices rounds (lines ++ more) last → Takes devices rounds lines (more ++ last)
takes_append devices rounds between lines more last first next = record {
  sound = sound_append lines more last first.sound next.sound;
  enrols = subst (Enrols devices) (append_assoc lines more last) next.enrols;
  quiet = subst (IsQuiet rounds) (append_assoc lines more last) next.quiet;
}

takes_none : (devices rounds : ℕ) (lines : List ScriptLine) → Enrols devices lines → IsQuiet rounds lines → Takes devices rounds lines []
takes_none devices rounds lines enrols quiet = record {
  sound = tt;
  enrols = subst (Enrols devices) (sym (append-nil lines)) enrols;
  quiet = subst (IsQuiet rounds) (sym (append-nil lines)) quiet;
}

-- a line of a device that makes no connection
takes_line : (devices rounds : ℕ) (lines : List ScriptLine) (line : ScriptLine) → Enrols devices lines → IsQuiet rounds lines → later_fault lines line ≡ None → KeepsSettings line
    → opening_of line ≡ None → connections_after (server_of lines) line ≡ connections_of lines → Takes devices rounds lines (line ∷ [])
takes_line devices rounds lines line enrols quiet sound keeps none same =
    record { sound = (sound, tt); enrols = enrols_push devices lines line enrols keeps; quiet = quiet_push rounds lines line quiet none same }

fix_takes : (devices rounds : ℕ) (lines : List ScriptLine) (stand : Stand) (turn : Turn) → Enrols devices lines → IsQuiet rounds lines → IsTurn devices turn
    → Takes devices rounds lines (Line.Fix (imei_at turn.device) (fix_of stand turn) ∷ [])
unfolding later_fault
fix_takes devices rounds lines stand turn enrols quiet range =
    takes_line devices rounds lines (Line.Fix (imei_at turn.device) (fix_of stand turn)) enrols quiet (unless_ok (enrolled_in lines (imei_at turn.device)) _ (enrols.settings turn.device range.first range.last)
    (λ d is. ap (λ (s : List IoSetting). values_fault s (turn.ignition ∷ turn.voltage ∷ [])) is ∙ values_fit turn.ignition turn.voltage range.ignition range.voltage))
    (λ imei e. closes (imei_at turn.device) imei e) refl refl

power_takes : (devices rounds device : ℕ) (lines : List ScriptLine) → Enrols devices lines → IsQuiet rounds lines → 1 ≤ device → device ≤ devices
    → Takes devices rounds lines (Line.Power (Who.Device (imei_at device)) ∷ [])
unfolding later_fault
power_takes devices rounds device lines enrols quiet first last =
    takes_line devices rounds lines (Line.Power (Who.Device (imei_at device))) enrols quiet
    (unless_ok (enrolled_in lines (imei_at device)) (λ d. None) (enrols.settings device first last) (λ d is. refl)) (λ imei e. closes (imei_at device) imei e) refl refl

fuse_takes : (devices rounds device calls : ℕ) (tear : _) (lines : List ScriptLine) → Enrols devices lines → IsQuiet rounds lines → 1 ≤ device → device ≤ devices
    → Takes devices rounds lines (Line.Fuse (Who.Device (imei_at device)) calls tear ∷ [])
unfolding later_fault
fuse_takes devices rounds device calls tear lines enrols quiet first last =
    takes_line devices rounds lines (Line.Fuse (Who.Device (imei_at device)) calls tear) enrols quiet
    (unless_ok (enrolled_in lines (imei_at device)) (λ d. None) (enrols.settings device first last) (λ d is. refl)) (λ imei e. closes (imei_at device) imei e) refl refl

server_fuse_takes : (devices rounds calls : ℕ) (tear : _) (lines : List ScriptLine) → Enrols devices lines → IsQuiet rounds lines → Takes devices rounds lines (Line.Fuse Who.Server calls tear ∷ [])
unfolding later_fault
server_fuse_takes devices rounds calls tear lines enrols quiet =
    takes_line devices rounds lines (Line.Fuse Who.Server calls tear) enrols quiet refl (λ imei e. refl) refl refl

drain_takes : (devices rounds device piece : ℕ) (lines : List ScriptLine) → Enrols devices lines → IsQuiet rounds lines → 1 ≤ device → device ≤ devices
    → Takes devices (rounds + 1) lines (Line.Drain (imei_at device) piece ∷ [])
unfolding later_fault
drain_takes devices rounds device piece lines enrols quiet first last =
    let line = Line.Drain (imei_at device) piece in
    let opening : Opening = record { imei = imei_at device; drains = true; up = None; down = None } in
    let a = added rounds lines line (opened (server_of lines).lines line opening) quiet refl refl in
    record {
      sound = (unless_ok (enrolled_in lines (imei_at device)) (λ d. None) (enrols.settings device first last) (λ d is. refl), tt);
      enrols = enrols_push devices lines line enrols (λ imei e. closes (imei_at device) imei e);
      quiet = record { count = a.count; made = a.made; none_open = a.left_open ∙ none_left (is_some (server_of lines).fuse) [] refl };
    }

open_few : (lines : List ScriptLine) → length (open_from 1 (connections_of lines)) ≤ 1 → when (nat_lt 64 (open_count lines)) TooManyOpen ≡ None
open_few lines few = not_many (open_count lines) (omega (arith, few, open_length 1 (connections_of lines)))

round_takes : (devices rounds device piece : ℕ) (lines : List ScriptLine) → Enrols devices lines → IsQuiet rounds lines → 1 ≤ device → device ≤ devices
    → Takes devices (rounds + 1) lines (Line.Round (imei_at device) piece None None ∷ [])
unfolding later_fault
round_takes devices rounds device piece lines enrols quiet first last =
    let line = Line.Round (imei_at device) piece None None in
    let opening : Opening = record { imei = imei_at device; drains = false; up = None; down = None } in
    let a = added rounds lines line (opened (server_of lines).lines line opening) quiet refl refl in
    let none = a.left_open ∙ none_left (is_some (server_of lines).fuse) [] refl in
    let few = open_few (lines ++ line ∷ []) (omega (arith, ap (λ (xs : List ℕ). length xs) none)) in
    record {
      sound = (unless_ok (enrolled_in lines (imei_at device)) _ (enrols.settings device first last) (λ d is. few), tt);
      enrols = enrols_push devices lines line enrols (λ imei e. closes (imei_at device) imei e);
      quiet = record { count = a.count; made = a.made; none_open = none };
    }

-- a round that is cut, its late bytes, and its end
record CutTakes (devices rounds : ℕ) (lines : List ScriptLine) (line : ScriptLine) : Type 0 where
  sound : later_fault lines line ≡ None
  enrols : Enrols devices (lines ++ line ∷ [])
  half : IsHalf rounds (lines ++ line ∷ [])

cut_takes : (devices rounds device piece up : ℕ) (lines : List ScriptLine) → Enrols devices lines → IsQuiet rounds lines → 1 ≤ device → device ≤ devices
    → CutTakes devices (rounds + 1) lines (Line.Round (imei_at device) piece (Some up) None)
unfolding later_fault
cut_takes devices rounds device piece up lines enrols quiet first last =
    let line = Line.Round (imei_at device) piece (Some up) None in
    let opening : Opening = record { imei = imei_at device; drains = false; up = Some up; down = None } in
    let a = added rounds lines line (opened (server_of lines).lines line opening) quiet refl refl in
    let left = one_left (rounds + 1) (is_some (server_of lines).fuse) in
    let half : IsHalf (rounds + 1) (lines ++ line ∷ []) = record {
      count = a.count;
      made = a.made;
      few = omega (arith, ap (λ (xs : List ℕ). length xs) a.left_open, left.0);
      only = ap (λ (xs : List ℕ). filter (λ j. not (j == rounds + 1)) xs) a.left_open ∙ left.1;
    } in
    record {
      sound = unless_ok (enrolled_in lines (imei_at device)) _ (enrols.settings device first last) (λ d is. open_few (lines ++ line ∷ []) half.few);
      enrols = enrols_push devices lines line enrols (λ imei e. closes (imei_at device) imei e);
      half = half;
    }

fewer : (k : ℕ) (covered : Bool) (xs : List ℕ) → length xs ≤ 1 → filter (λ j. not (j == k)) xs ≡ []
    → (length (if covered then [] else xs) ≤ 1) × (filter (λ j. not (j == k)) (if covered then [] else xs) ≡ [])
fewer k true xs few only = (omega arith, refl)
fewer k false xs few only = (few, only)

late_takes : (devices rounds : ℕ) (lines : List ScriptLine) → Enrols devices lines → IsHalf rounds lines → 1 ≤ rounds → CutTakes devices rounds lines (Line.Late rounds None)
unfolding later_fault
late_takes devices rounds lines enrols half some =
    let line = Line.Late rounds None in
    let fuse = (server_of lines).fuse in
    let changed = at_number (with_more None) rounds (connections_of lines) in
    let connections = connections_push lines line in
    let still : open_from 1 (connections_of (lines ++ line ∷ [])) ≡ (if is_some fuse then [] else open_from 1 (connections_of lines)) =
    ap (λ (cs : List ConnectionHistory). open_from 1 cs) connections ∙ open_covered fuse 1 changed
    ∙ ap (λ (xs : List ℕ). if is_some fuse then [] else xs) (open_more None 1 rounds (connections_of lines)) in
    let left = fewer rounds (is_some fuse) (open_from 1 (connections_of lines)) half.few half.only in
    record {
      sound = ap (λ (n : ℕ). connection_fault n rounds) half.count ∙ there rounds some;
      enrols = enrols_push devices lines line enrols (λ imei e. refl);
      half = record {
        count = omega (arith, half.count, count_push (λ (l : ScriptLine). is_some (opening_of l)) lines line);
        made = ap (λ (cs : List ConnectionHistory). length cs) connections ∙ omega (arith, length-covered fuse changed, length-at_number (with_more None) rounds (connections_of lines), half.made);
        few = omega (arith, ap (λ (xs : List ℕ). length xs) still, left.0);
        only = ap (λ (xs : List ℕ). filter (λ j. not (j == rounds)) xs) still ∙ left.1;
      };
    }

close_takes : (devices rounds : ℕ) (lines : List ScriptLine) → Enrols devices lines → IsHalf rounds lines → 1 ≤ rounds → Takes devices rounds lines (Line.Close rounds ∷ [])
unfolding later_fault
close_takes devices rounds lines enrols half some =
    let line = Line.Close rounds in
    let connections = connections_push lines line in
    record {
      sound = (ap (λ (n : ℕ). connection_fault n rounds) half.count ∙ there rounds some, tt);
      enrols = enrols_push devices lines line enrols (λ imei e. refl);
      quiet = record {
        count = omega (arith, half.count, count_push (λ (l : ScriptLine). is_some (opening_of l)) lines line);
        made = ap (λ (cs : List ConnectionHistory). length cs) connections ∙ omega (arith, length-at_number closed rounds (connections_of lines), half.made);
        none_open = ap (λ (cs : List ConnectionHistory). open_from 1 cs) connections ∙ open_closed rounds (connections_of lines) some ∙ half.only;
      };
    }

-- the three lines in a row
cut_round_takes : (devices rounds device piece up : ℕ) (lines : List ScriptLine) → Enrols devices lines → IsQuiet rounds lines → 1 ≤ device → device ≤ devices
    → Takes devices (rounds + 1) lines (event_lines (imei_at device) (rounds + 1) (CutRound piece up))
cut_round_takes devices rounds device piece up lines enrols quiet first last =
    let round = Line.Round (imei_at device) piece (Some up) None in
    let late = Line.Late (rounds + 1) None in
    let close = Line.Close (rounds + 1) in
    let a = cut_takes devices rounds device piece up lines enrols quiet first last in
    let lines1 = lines ++ round ∷ [] in
    let b = late_takes devices (rounds + 1) lines1 a.enrols a.half (omega arith) in
    let lines2 = lines1 ++ late ∷ [] in
    let c = close_takes devices (rounds + 1) lines2 b.enrols b.half (omega arith) in
    let whole : lines2 ++ close ∷ [] ≡ lines ++ round ∷ late ∷ close ∷ [] = append_assoc lines1 (late ∷ []) (close ∷ []) ∙ append_assoc lines (round ∷ []) (late ∷ close ∷ []) in
    record {
      sound = (a.sound, (b.sound, c.sound));
      enrols = subst (Enrols devices) whole c.enrols;
      quiet = subst (IsQuiet (rounds + 1)) whole c.quiet;
    }

same_rounds : (devices rounds : ℕ) (lines more : List ScriptLine) → Takes devices rounds lines more → Takes devices (rounds + 0) lines more
same_rounds devices rounds lines more h = let e : rounds ≡ rounds + 0 = omega arith in subst (λ (n : ℕ). Takes devices n lines more) e h

event_takes : (devices rounds device : ℕ) (event : Event) (lines : List ScriptLine) → Enrols devices lines → IsQuiet rounds lines → 1 ≤ device → device ≤ devices
    → Takes devices (rounds + rounds_of event) lines (event_lines (imei_at device) (rounds + rounds_of event) event)
event_takes devices rounds device (WholeRound piece) lines enrols quiet first last = round_takes devices rounds device piece lines enrols quiet first last
event_takes devices rounds device (CutRound piece up) lines enrols quiet first last = cut_round_takes devices rounds device piece up lines enrols quiet first last
event_takes devices rounds device Power lines enrols quiet first last = same_rounds devices rounds lines _ (power_takes devices rounds device lines enrols quiet first last)
event_takes devices rounds device (DeviceFuse calls tear) lines enrols quiet first last = same_rounds devices rounds lines _ (fuse_takes devices rounds device calls tear lines enrols quiet first last)
event_takes devices rounds device (ServerFuse calls tear) lines enrols quiet first last = same_rounds devices rounds lines _ (server_fuse_takes devices rounds calls tear lines enrols quiet)
event_takes devices rounds device Nothing lines enrols quiet first last = same_rounds devices rounds lines _ (takes_none devices rounds lines enrols quiet)

turn_takes : (devices : ℕ) (stand : Stand) (turn : Turn) (lines : List ScriptLine) → IsTurn devices turn → Enrols devices lines → IsQuiet stand.rounds lines
    → Takes devices (after_turn stand turn).rounds lines (lines_at (after_turn stand turn) turn)
unfolding after_turn
turn_takes devices stand turn lines range enrols quiet =
    let after = after_turn stand turn in
    let fix = fix_takes devices stand.rounds lines after turn enrols quiet range in
    let event = event_takes devices stand.rounds turn.device turn.event _ fix.enrols fix.quiet range.first range.last in
    takes_append devices after.rounds stand.rounds lines (Line.Fix (imei_at turn.device) (fix_of after turn) ∷ []) (event_lines (imei_at turn.device) after.rounds turn.event) fix event

-- Further lines have no fault, and leave it so, however many connections they make.
record TakesSome (devices : ℕ) (lines more : List ScriptLine) : Type 0 where
  rounds : ℕ
  takes : Takes devices rounds lines more

turns_take : (devices : ℕ) (stand : Stand) (turns : List Turn) (lines : List ScriptLine) → AreTurns devices turns → Enrols devices lines → IsQuiet stand.rounds lines
    → TakesSome devices lines (turn_lines stand turns)
unfolding turn_lines
turns_take devices stand [] lines range enrols quiet = record { rounds = stand.rounds; takes = takes_none devices stand.rounds lines enrols quiet }
turns_take devices stand (turn ∷ turns) lines range enrols quiet =
    let after = after_turn stand turn in
    let first = turn_takes devices stand turn lines range.0 enrols quiet in
    let rest = turns_take devices after turns (lines ++ lines_at after turn) range.1 first.enrols first.quiet in
    record { rounds = rest.rounds; takes = takes_append devices rest.rounds after.rounds lines (lines_at after turn) (turn_lines after turns) first rest.takes }

drains_take : (devices rounds device : ℕ) (lines : List ScriptLine) → device ≤ devices → Enrols devices lines → IsQuiet rounds lines → TakesSome devices lines (of_devices drain_lines device)
unfolding of_devices
drains_take devices rounds zero lines few enrols quiet = record { rounds = rounds; takes = takes_none devices rounds lines enrols quiet }
drains_take devices rounds (suc device) lines few enrols quiet =
    let before = drains_take devices rounds device lines (omega arith) enrols quiet in
    let front = of_devices drain_lines device in
    let drain = Line.Drain (imei_at (suc device)) 512 in
    let one = drain_takes devices before.rounds (suc device) 512 (lines ++ front) before.takes.enrols before.takes.quiet (omega arith) few in
    let two = drain_takes devices (before.rounds + 1) (suc device) 512 ((lines ++ front) ++ drain ∷ []) one.enrols one.quiet (omega arith) few in
    let last = takes_append devices (before.rounds + 1 + 1) (before.rounds + 1) (lines ++ front) (drain ∷ []) (drain ∷ []) one two in
    record { rounds = before.rounds + 1 + 1; takes = takes_append devices (before.rounds + 1 + 1) before.rounds lines front (drain_lines (suc device)) before.takes last }

-- ---- lines of the devices
record Begins (count : ℕ) (lines : List ScriptLine) : Type 0 where
  settings : (device : ℕ) → 1 ≤ device → device ≤ count → settings_by (enrolled_in lines (imei_at device)) ≡ Some both
  absent : (device : ℕ) → count < device → enrolled_in lines (imei_at device) ≡ None
  devices : device_count lines ≡ count
  quiet : IsQuiet 0 lines

abbrev enrolled_with : Codec → List IoSetting → Enrolled
enrolled_with codec settings = record { codec = codec; settings = settings; closed = false }

setting_ok : (codec : Codec) → setting_line_fault (Some (enrolled_with codec [])) ignition_setting ≡ None
setting_ok C8 = refl
setting_ok C8E = refl
setting_ok C16 = refl

settings_ok : (codec : Codec) → setting_line_fault (Some (enrolled_with codec (ignition_setting ∷ []))) voltage_setting ≡ None
settings_ok C8 = refl
settings_ok C8E = refl
settings_ok C16 = refl

-- what the three lines of a device leave of one
abbrev of_three : (b : Bool) (codec : Codec) (e : Option Enrolled) → Option Enrolled
of_three b codec e = let first = if b then Some (enrolled_with codec []) else e in
    let second = if b then option_map (with_setting ignition_setting) first else first in
    if b then option_map (with_setting voltage_setting) second else second

own_device : (imei : ℕ) → (imei == imei) ≡ true
own_device imei = grind (arith, nat_tests)

three_enrolled : (lines : List ScriptLine) (device imei : ℕ) → enrolled_in (lines ++ device_lines device) imei ≡ of_three (imei_at device == imei) (codec_at device) (enrolled_in lines imei)
three_enrolled lines device imei = fold-append (enrolled_after imei) None lines (device_lines device)

three_settings : (count device : ℕ) (lines : List ScriptLine) → Begins count lines → 1 ≤ device → device ≤ suc count
    → settings_by (of_three (imei_at (suc count) == imei_at device) (codec_at (suc count)) (enrolled_in lines (imei_at device))) ≡ Some both
three_settings count device lines known first last = by (imei_at (suc count) == imei_at device) refl
  where
    by : (b : Bool) → (imei_at (suc count) == imei_at device) ≡ b → settings_by (of_three b (codec_at (suc count)) (enrolled_in lines (imei_at device))) ≡ Some both
    by true e = refl
    by false e = let before : device ≤ count = grind (arith, nat_tests) in known.settings device first before

three_absent : (count device : ℕ) (lines : List ScriptLine) → Begins count lines → suc count < device
    → of_three (imei_at (suc count) == imei_at device) (codec_at (suc count)) (enrolled_in lines (imei_at device)) ≡ None
three_absent count device lines known above =
    let apart : (imei_at (suc count) == imei_at device) ≡ false = grind (arith, nat_tests) in
    ap (λ (b : Bool). of_three b (codec_at (suc count)) (enrolled_in lines (imei_at device))) apart ∙ known.absent device (omega arith)

three_count : (lines : List ScriptLine) (device : ℕ) → device_count (lines ++ device_lines device) ≡ device_count lines + 1
three_count lines device = omega (arith, sum_by-append (λ (l : ScriptLine). cond (is_device_line l) 1 0) lines (device_lines device))

no_device : (count : ℕ) (e : Option Enrolled) → e ≡ None → count < 64 → device_fault e count ≡ None
no_device count e none few = let room : nat_le 64 count ≡ false = grind (arith, nat_tests) in rw (none, room) refl

three_sound : (count : ℕ) (lines : List ScriptLine) → Begins count lines → count < 64 → AreSound lines (device_lines (suc count))
unfolding later_fault
three_sound count lines known few =
    let who = imei_at (suc count) in
    let codec = codec_at (suc count) in
    let device = Line.Device who codec 64 Oldest 10000 100 15 10 true in
    let lines1 = lines ++ device ∷ [] in
    let first : enrolled_in lines1 who ≡ Some (enrolled_with codec []) =
    enrolled_push lines device who ∙ ap (λ (b : Bool). if b then Some (enrolled_with codec []) else enrolled_in lines who) (own_device who) in
    let setting = Line.Setting who ignition_setting in
    let second : enrolled_in (lines1 ++ setting ∷ []) who ≡ Some (enrolled_with codec (ignition_setting ∷ [])) =
    enrolled_push lines1 setting who ∙ ap (of_device who (with_setting ignition_setting) who) first
    ∙ ap (λ (b : Bool). if b then Some (enrolled_with codec (ignition_setting ∷ [])) else Some (enrolled_with codec [])) (own_device who) in (
      no_device (device_count lines) (enrolled_in lines who) (known.absent (suc count) (omega arith)) (omega (arith, known.devices)),
      (ap (λ e. setting_line_fault e ignition_setting) first ∙ setting_ok codec, (ap (λ e. setting_line_fault e voltage_setting) second ∙ settings_ok codec, tt)),
    )

three_quiet : (lines : List ScriptLine) (device : ℕ) → IsQuiet 0 lines → IsQuiet 0 (lines ++ device_lines device)
three_quiet lines device quiet =
    let a = Line.Device (imei_at device) (codec_at device) 64 Oldest 10000 100 15 10 true in
    let b = Line.Setting (imei_at device) ignition_setting in
    let c = Line.Setting (imei_at device) voltage_setting in
    let one = quiet_push 0 lines a quiet refl refl in
    let two = quiet_push 0 (lines ++ a ∷ []) b one refl refl in
    let three = quiet_push 0 ((lines ++ a ∷ []) ++ b ∷ []) c two refl refl in
    subst (IsQuiet 0) (append_assoc (lines ++ a ∷ []) (b ∷ []) (c ∷ []) ∙ append_assoc lines (a ∷ []) (b ∷ c ∷ [])) three

begins_more : (count : ℕ) (lines : List ScriptLine) → Begins count lines → Begins (suc count) (lines ++ device_lines (suc count))
begins_more count lines known = record {
  settings = λ device first last. ap settings_by (three_enrolled lines (suc count) (imei_at device)) ∙ three_settings count device lines known first last;
  absent = λ device above. three_enrolled lines (suc count) (imei_at device) ∙ three_absent count device lines known above;
  devices = omega (arith, three_count lines (suc count), known.devices);
  quiet = three_quiet lines (suc count) known.quiet;
}

no_lines : Begins 0 []
no_lines = record { settings = λ device first last. absurd (omega arith); absent = λ device above. refl; devices = refl; quiet = record { count = refl; made = refl; none_open = refl } }

begins : (devices : ℕ) → devices ≤ 64 → AreSound [] (of_devices device_lines devices) × Begins devices (of_devices device_lines devices)
unfolding of_devices
begins zero few = (tt, no_lines)
begins (suc devices) few =
    let before = begins devices (omega arith) in
    let front = of_devices device_lines devices in
    (sound_append [] front (device_lines (suc devices)) before.0 (three_sound devices front before.1 (omega arith)), begins_more devices front before.1)

-- ---- all lines
pub made_sound : (seed devices fixes : ℕ) → 1 ≤ devices → devices ≤ 64 → AreSound [] (made_lines seed devices fixes)
unfolding made_lines
made_sound seed devices fixes some few =
    let first = of_devices device_lines devices in
    let turns = turn_lines (started devices) (drawn_turns devices fixes (seeded seed)) in
    let last = of_devices drain_lines devices in
    let start = begins devices few in
    let enrols : Enrols devices first = record { settings = start.1.settings } in
    let middle = turns_take devices (started devices) (drawn_turns devices fixes (seeded seed)) first (turns_range devices fixes (seeded seed) some) enrols start.1.quiet in
    let end = drains_take devices middle.rounds devices (first ++ turns) (omega arith) middle.takes.enrols middle.takes.quiet in
    sound_append [] first (turns ++ last) start.0 (sound_append first turns last middle.takes.sound end.takes.sound)

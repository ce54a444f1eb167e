-- What the reader keeps after one line more, for each kind of line.
use Rattle.std.proofs.Common.{◌≡◌, ◌==◌, ◌+◌, ℕ, ◌≤◌, ◌||◌, ◌&&◌, Bool, true, false, cond, not, nat_lt, List, [], ◌∷◌, ◌++◌, filter, length, length-append, Option, Some, None, refl, sym, ap, subst, ◌∙◌, arith, if◌then◌else◌}
use Rattle.std.specs.Prelude.{is_none, is_some}
use Rattle.std.specs.BTreeMap.{btree_map_len}
use Rattle.std.proofs.lemmas.Bool.Decides.{nat_tests}
use Rattle.std.proofs.lemmas.List.Sums.{fold-append}
use Rattle.std.proofs.lemmas.List.{length-map}
use Rattle.avl_values.specs.declared.codec.Codec.{Codec}
use Rattle.avl_values.specs.declared.order.Order.{Order}
use Rattle.io_operands.specs.declared.setting.IoSetting.{IoSetting}
use Rattle.medium_model.specs.declared.bench.Tear.{Tear}
use Rattle.trial_model.specs.Connections.{ConnectionHistory, at_number, closed, if_covered, connections_after, connections_of, opened, restarted, server_of, with_more}
use Rattle.trial_model.specs.Cover.{fuse_after, fuse_of}
use Rattle.trial_model.specs.Script.{Opening, opening_of}
use Rattle.trial_model.specs.declared.script.ScriptLine.{ScriptLine}
use Rattle.trial_model.specs.declared.script.ScriptLine.TheVariants as Line
use Rattle.trial_model.specs.declared.script.Who.TheVariants as Who
use Rattle.journey_script.specs.Compact.{fix_line}
use Rattle.journey_script.specs.declared.compact.CompactFix.{CompactFix}
use Rattle.journey_script.specs.declared.connections.Connections.{Connections}
use Rattle.journey_script.specs.declared.fault.LineFault.{LineFault}
use Rattle.journey_script.specs.declared.fault.ScriptFault.{ScriptFault}
use Rattle.journey_script.specs.declared.fault.ScriptFault.TheVariants.{NoConnection, TooManyOpen}
use Rattle.journey_script.specs.declared.standing.Standing.{Standing}
use Rattle.journey_script.specs.Later.{Enrolled, connection_count, connection_fault, device_count, device_fault, enrolled_after, enrolled_in, fix_fault, is_device_line, later_fault, of_device, open_count, setting_line_fault, unless_enrolled, when, with_closed, with_setting}
use Rattle.journey_script.specs.Standing.{KnowsConnections, RefusesLater, enrolled_at, open_after, open_from}
use Rattle.journey_script.specs.Taking.{IsRefusedBy, Knows, Takes}
use Rattle.journey_script.proofs.ConnectionLemmas.{connections_push, count_push, knows_connections, made_by, length-at_number, length-covered, open_closed, open_covered, open_length, open_more, open_restarted, open_rounded, server_fuse, untouched}

enrolled_push : (lines : List ScriptLine) (line : ScriptLine) (imei : ℕ) → enrolled_in (lines ++ line ∷ []) imei ≡ enrolled_after imei (enrolled_in lines imei) line
enrolled_push lines line imei = fold-append (enrolled_after imei) None lines (line ∷ [])

-- how many `device` lines a line is
abbrev device_line_count : Bool → ℕ
device_line_count is = cond is 1 0

abbrev device_lines : ScriptLine → ℕ
device_lines line = device_line_count (is_device_line line)

-- one line more, by its parts
knows_next : (old new : Standing) (lines : List ScriptLine) (line : ScriptLine) → Knows old lines
    → ((q : ℕ) → enrolled_at new.devices q ≡ enrolled_after q (enrolled_at old.devices q) line)
    → btree_map_len new.devices ≡ btree_map_len old.devices + device_lines line → KnowsConnections new.connections (lines ++ line ∷ []) → Knows new (lines ++ line ∷ [])
knows_next old new lines line known enrolled count connections = record {
  enrolled = λ q. enrolled q ∙ ap (λ (e : Option Enrolled). enrolled_after q e line) (known.enrolled q) ∙ sym (enrolled_push lines line q);
  device_lines = omega (arith, count, known.device_lines, count_push is_device_line lines line);
  connection_lines = connections;
}

-- devices that a line leaves alone
alone : (old new : Standing) (lines : List ScriptLine) (line : ScriptLine) → Knows old lines → new.devices ≡ old.devices → ((q : ℕ) (e : Option Enrolled) → enrolled_after q e line ≡ e)
    → is_device_line line ≡ false → KnowsConnections new.connections (lines ++ line ∷ []) → Knows new (lines ++ line ∷ [])
alone old new lines line known same stays none connections =
    knows_next old new lines line known (λ q. ap (λ (d : _). enrolled_at d q) same ∙ sym (stays q _))
    (let zero : device_lines line ≡ 0 = ap device_line_count none in ap (λ (d : _). btree_map_len d) same ∙ omega (arith, zero))
    connections

-- connections that a line leaves alone
quiet : (old new : Standing) (lines : List ScriptLine) (line : ScriptLine) → Knows old lines → new.connections ≡ old.connections → opening_of line ≡ None
    → connections_after (server_of lines) line ≡ connections_of lines → fuse_after Who.Server (fuse_of Who.Server lines) line ≡ fuse_of Who.Server lines
    → KnowsConnections new.connections (lines ++ line ∷ [])
quiet old new lines line known same none stays fuse = subst (λ (cs : Connections). KnowsConnections cs (lines ++ line ∷ [])) (sym same) (untouched old.connections lines line known.connection_lines none stays fuse)

pub device_taken : (old new : Standing) (imei : ℕ) (codec : Codec) (slots : ℕ) (order : Order) (period distance angle speed : ℕ) (known : Bool) → new.connections ≡ old.connections
    → device_fault (enrolled_at old.devices imei) (btree_map_len old.devices) ≡ None
    → ((q : ℕ) → enrolled_at new.devices q ≡ (if imei == q then Some (record { codec = codec; settings = []; closed = false }) else enrolled_at old.devices q))
    → btree_map_len new.devices ≡ btree_map_len old.devices + 1 → Takes old new (Line.Device imei codec slots order period distance angle speed known)
unfolding later_fault
device_taken old new imei codec slots order period distance angle speed flag same sound enrolled count = λ lines known. record {
  sound = ap (λ (e : Option Enrolled). device_fault e (device_count lines)) (sym (known.enrolled imei)) ∙ ap (λ (n : ℕ). device_fault (enrolled_at old.devices imei) n) (sym known.device_lines) ∙ sound;
  knows = knows_next old new lines (Line.Device imei codec slots order period distance angle speed flag) known enrolled count (quiet old new lines (Line.Device imei codec slots order period distance angle speed flag) known same refl refl refl);
}

pub device_refused : (old : Standing) (imei : ℕ) (codec : Codec) (slots : ℕ) (order : Order) (period distance angle speed : ℕ) (known : Bool) (fault : LineFault)
    → RefusesLater (device_fault (enrolled_at old.devices imei) (btree_map_len old.devices)) fault → IsRefusedBy old (Line.Device imei codec slots order period distance angle speed known) fault
unfolding later_fault
device_refused old imei codec slots order period distance angle speed flag fault h = λ lines known.
    subst (λ (f : Option ScriptFault). RefusesLater f fault) (ap (λ (n : ℕ). device_fault (enrolled_at old.devices imei) n) known.device_lines ∙ ap (λ (e : Option Enrolled). device_fault e (device_count lines)) (known.enrolled imei)) h

pub setting_taken : (old new : Standing) (imei : ℕ) (setting : IoSetting) → new.connections ≡ old.connections → setting_line_fault (enrolled_at old.devices imei) setting ≡ None
    → ((q : ℕ) → enrolled_at new.devices q ≡ of_device imei (with_setting setting) q (enrolled_at old.devices q)) → btree_map_len new.devices ≡ btree_map_len old.devices
    → Takes old new (Line.Setting imei setting)
unfolding later_fault
setting_taken old new imei setting same sound enrolled count = λ lines known. record {
  sound = ap (λ (e : Option Enrolled). setting_line_fault e setting) (sym (known.enrolled imei)) ∙ sound;
  knows = knows_next old new lines (Line.Setting imei setting) known enrolled (omega (arith, count)) (quiet old new lines (Line.Setting imei setting) known same refl refl refl);
}

pub setting_refused : (old : Standing) (imei : ℕ) (setting : IoSetting) (fault : ScriptFault) → setting_line_fault (enrolled_at old.devices imei) setting ≡ Some fault
    → IsRefusedBy old (Line.Setting imei setting) (LineFault.Fault fault)
unfolding later_fault
setting_refused old imei setting fault h = λ lines known. ap (λ (e : Option Enrolled). setting_line_fault e setting) (sym (known.enrolled imei)) ∙ h

pub fix_taken : (old new : Standing) (imei : ℕ) (fix : CompactFix) (values : List ℕ) → values ≡ fix.values.items → new.connections ≡ old.connections → fix_fault (enrolled_at old.devices imei) values ≡ None
    → ((q : ℕ) → enrolled_at new.devices q ≡ of_device imei with_closed q (enrolled_at old.devices q)) → btree_map_len new.devices ≡ btree_map_len old.devices
    → Takes old new (fix_line imei fix)
unfolding later_fault
fix_taken old new imei fix values is same sound enrolled count = λ lines known. record {
  sound = ap (λ (e : Option Enrolled). fix_fault e fix.values.items) (sym (known.enrolled imei)) ∙ ap (fix_fault (enrolled_at old.devices imei)) (sym is) ∙ sound;
  knows = knows_next old new lines (fix_line imei fix) known enrolled (omega (arith, count)) (quiet old new lines (fix_line imei fix) known same refl refl refl);
}

pub fix_refused : (old : Standing) (imei : ℕ) (fix : CompactFix) (values : List ℕ) (fault : ScriptFault) → values ≡ fix.values.items → fix_fault (enrolled_at old.devices imei) values ≡ Some fault → IsRefusedBy old (fix_line imei fix) (LineFault.Fault fault)
unfolding later_fault
fix_refused old imei fix values fault is h = λ lines known. ap (λ (e : Option Enrolled). fix_fault e fix.values.items) (sym (known.enrolled imei)) ∙ ap (fix_fault (enrolled_at old.devices imei)) (sym is) ∙ h

-- a line whose one fault is that its device isn't there
abbrev pub absent : Option Enrolled → Option ScriptFault
absent e = unless_enrolled e (λ d. None)

pub power_taken : (old new : Standing) (imei : ℕ) → new.connections ≡ old.connections → absent (enrolled_at old.devices imei) ≡ None
    → ((q : ℕ) → enrolled_at new.devices q ≡ of_device imei with_closed q (enrolled_at old.devices q)) → btree_map_len new.devices ≡ btree_map_len old.devices
    → Takes old new (Line.Power (Who.Device imei))
unfolding later_fault
power_taken old new imei same sound enrolled count = λ lines known. record {
  sound = ap absent (sym (known.enrolled imei)) ∙ sound;
  knows = knows_next old new lines (Line.Power (Who.Device imei)) known enrolled (omega (arith, count)) (quiet old new lines (Line.Power (Who.Device imei)) known same refl refl refl);
}

pub power_refused : (old : Standing) (imei : ℕ) (fault : ScriptFault) → absent (enrolled_at old.devices imei) ≡ Some fault → IsRefusedBy old (Line.Power (Who.Device imei)) (LineFault.Fault fault)
unfolding later_fault
power_refused old imei fault h = λ lines known. ap absent (sym (known.enrolled imei)) ∙ h

pub fuse_taken : (old new : Standing) (imei calls : ℕ) (tear : Tear) → new.connections ≡ old.connections → absent (enrolled_at old.devices imei) ≡ None
    → ((q : ℕ) → enrolled_at new.devices q ≡ of_device imei with_closed q (enrolled_at old.devices q)) → btree_map_len new.devices ≡ btree_map_len old.devices
    → Takes old new (Line.Fuse (Who.Device imei) calls tear)
unfolding later_fault
fuse_taken old new imei calls tear same sound enrolled count = λ lines known. record {
  sound = ap absent (sym (known.enrolled imei)) ∙ sound;
  knows = knows_next old new lines (Line.Fuse (Who.Device imei) calls tear) known enrolled (omega (arith, count)) (quiet old new lines (Line.Fuse (Who.Device imei) calls tear) known same refl refl refl);
}

pub fuse_refused : (old : Standing) (imei calls : ℕ) (tear : Tear) (fault : ScriptFault) → absent (enrolled_at old.devices imei) ≡ Some fault
    → IsRefusedBy old (Line.Fuse (Who.Device imei) calls tear) (LineFault.Fault fault)
unfolding later_fault
fuse_refused old imei calls tear fault h = λ lines known. ap absent (sym (known.enrolled imei)) ∙ h

pub server_power_taken : (old new : Standing) → new.devices ≡ old.devices → new.connections.count ≡ old.connections.count → new.connections.half_open.items ≡ [] → new.connections.armed ≡ false
    → Takes old new (Line.Power Who.Server)
unfolding later_fault
server_power_taken old new same count none off = λ lines known. record {
  sound = refl;
  knows = alone old new lines (Line.Power Who.Server) known same (λ q e. refl) refl
      (knows_connections old.connections new.connections lines (Line.Power Who.Server) known.connection_lines (omega (arith, count))
      (omega (arith, length-map (connections_of lines) restarted)) (none ∙ sym (open_restarted 1 (connections_of lines))) off);
}

pub server_fuse_taken : (old new : Standing) (calls : ℕ) (tear : Tear) → new.devices ≡ old.devices → new.connections.count ≡ old.connections.count
    → new.connections.half_open.items ≡ old.connections.half_open.items → new.connections.armed ≡ true → Takes old new (Line.Fuse Who.Server calls tear)
unfolding later_fault
server_fuse_taken old new calls tear same count half_open on = λ lines known. record {
  sound = refl;
  knows = alone old new lines (Line.Fuse Who.Server calls tear) known same (λ q e. refl) refl
      (knows_connections old.connections new.connections lines (Line.Fuse Who.Server calls tear) known.connection_lines (omega (arith, count))
      (omega arith) (half_open ∙ known.connection_lines.half_open) on);
}

-- the fault of a connection's number
numbered : (old : Standing) (lines : List ScriptLine) (connection : ℕ) → Knows old lines → connection_fault (connection_count lines) connection ≡ connection_fault old.connections.count connection
numbered old lines connection known = ap (λ (n : ℕ). connection_fault n connection) (sym known.connection_lines.count)

no_fault : (b : Bool) (kind : ScriptFault) → when b kind ≡ None → b ≡ false
no_fault true kind h = absurd (cc)
no_fault false kind h = refl

not_first : (a b : Bool) → (a || b) ≡ false → a ≡ false
not_first true b h = h
not_first false b h = refl

pub some_number : (count connection : ℕ) → connection_fault count connection ≡ None → 1 ≤ connection
some_number count connection sound =
    let some : (connection == 0) ≡ false = not_first (connection == 0) (nat_lt count connection) (no_fault _ NoConnection sound) in grind (arith, nat_tests)

pub close_taken : (old new : Standing) (connection : ℕ) → new.devices ≡ old.devices → connection_fault old.connections.count connection ≡ None → new.connections.count ≡ old.connections.count
    → new.connections.half_open.items ≡ filter (λ n. not (n == connection)) old.connections.half_open.items → new.connections.armed ≡ old.connections.armed
    → Takes old new (Line.Close connection)
unfolding later_fault
close_taken old new connection same sound count half_open armed = λ lines known. record {
  sound = numbered old lines connection known ∙ sound;
  knows = alone old new lines (Line.Close connection) known same (λ q e. refl) refl
      (knows_connections old.connections new.connections lines (Line.Close connection) known.connection_lines (omega (arith, count))
      (omega (arith, length-at_number closed connection (connections_of lines)))
      (half_open ∙ ap (λ (xs : List ℕ). filter (λ n. not (n == connection)) xs) known.connection_lines.half_open
      ∙ sym (open_closed connection (connections_of lines) (some_number old.connections.count connection sound)))
      (armed ∙ known.connection_lines.armed));
}

pub close_refused : (old : Standing) (connection : ℕ) (fault : ScriptFault) → connection_fault old.connections.count connection ≡ Some fault → IsRefusedBy old (Line.Close connection) (LineFault.Fault fault)
unfolding later_fault
close_refused old connection fault h = λ lines known. numbered old lines connection known ∙ h

pub late_refused : (old : Standing) (connection : ℕ) (bytes : Option ℕ) (fault : ScriptFault) → connection_fault old.connections.count connection ≡ Some fault
    → IsRefusedBy old (Line.Late connection bytes) (LineFault.Fault fault)
unfolding later_fault
late_refused old connection bytes fault h = λ lines known. numbered old lines connection known ∙ h

-- the server's fuse, as it is kept
armed_as : (old : Standing) (lines : List ScriptLine) → Knows old lines → is_some (server_of lines).fuse ≡ old.connections.armed
armed_as old lines known = ap (λ (o : Option ℕ). is_some o) (server_fuse lines) ∙ sym known.connection_lines.armed

late_open : (old : Standing) (lines : List ScriptLine) (connection : ℕ) (bytes : Option ℕ) → Knows old lines
    → open_after old.connections.armed false old.connections.count old.connections.half_open.items ≡ open_from 1 (connections_after (server_of lines) (Line.Late connection bytes))
late_open old lines connection bytes known =
    let cs = connections_of lines in
    ap (λ (xs : List ℕ). if old.connections.armed then [] else xs) (known.connection_lines.half_open ∙ sym (open_more bytes 1 connection cs))
    ∙ ap (λ (b : Bool). if b then [] else open_from 1 (at_number (with_more bytes) connection cs)) (sym (armed_as old lines known))
    ∙ sym (open_covered (server_of lines).fuse 1 (at_number (with_more bytes) connection cs))

pub late_taken : (old new : Standing) (connection : ℕ) (bytes : Option ℕ) → new.devices ≡ old.devices → connection_fault old.connections.count connection ≡ None
    → new.connections.count ≡ old.connections.count → new.connections.half_open.items ≡ open_after old.connections.armed false old.connections.count old.connections.half_open.items
    → new.connections.armed ≡ false → Takes old new (Line.Late connection bytes)
unfolding later_fault
late_taken old new connection bytes same sound count half_open off = λ lines known. record {
  sound = numbered old lines connection known ∙ sound;
  knows = alone old new lines (Line.Late connection bytes) known same (λ q e. refl) refl
      (knows_connections old.connections new.connections lines (Line.Late connection bytes) known.connection_lines (omega (arith, count))
      (omega (arith, length-covered (server_of lines).fuse (at_number (with_more bytes) connection (connections_of lines)), length-at_number (with_more bytes) connection (connections_of lines)))
      (half_open ∙ late_open old lines connection bytes known) off);
}

-- what a `round` or `drain` line leaves, by its connection
abbrev pub after_round : Standing → Bool → List ℕ
after_round old limited = open_after old.connections.armed limited old.connections.count old.connections.half_open.items

round_open : (old : Standing) (lines : List ScriptLine) (c : ConnectionHistory) (limited : Bool) → Knows old lines → c.half_open ≡ limited
    → open_from 1 (if_covered (server_of lines).fuse (connections_of lines ++ c ∷ [])) ≡ after_round old limited
round_open old lines c limited known is =
    open_rounded lines c old.connections.count old.connections.armed old.connections.half_open.items (known.connection_lines.count ∙ sym known.connection_lines.made) known.connection_lines.armed known.connection_lines.half_open
    ∙ ap (after_round old) is

round_knows : (old new : Standing) (lines : List ScriptLine) (line : ScriptLine) (o : Opening) (c : ConnectionHistory) (limited : Bool) (imei : ℕ) → Knows old lines → opening_of line ≡ Some o → is_device_line line ≡ false
    → connections_after (server_of lines) line ≡ if_covered (server_of lines).fuse (connections_of lines ++ c ∷ []) → fuse_after Who.Server (fuse_of Who.Server lines) line ≡ None
    → ((q : ℕ) (e : Option Enrolled) → enrolled_after q e line ≡ of_device imei with_closed q e) → c.half_open ≡ limited
    → ((q : ℕ) → enrolled_at new.devices q ≡ of_device imei with_closed q (enrolled_at old.devices q)) → btree_map_len new.devices ≡ btree_map_len old.devices
    → new.connections.count ≡ old.connections.count + 1 → new.connections.half_open.items ≡ after_round old limited → new.connections.armed ≡ false
    → Knows new (lines ++ line ∷ [])
round_knows old new lines line o c limited imei known opens no_device after fuse closes is enrolled devices count half_open off =
    let one : made_by (opening_of line) ≡ 1 = ap made_by opens in
    let none : device_lines line ≡ 0 = ap device_line_count no_device in
    knows_next old new lines line known (λ q. enrolled q ∙ sym (closes q _)) (omega (arith, devices, none))
    (knows_connections old.connections new.connections lines line known.connection_lines (omega (arith, count, one))
    (ap (λ (cs : List ConnectionHistory). length cs) after ∙ omega (arith, length-covered (server_of lines).fuse (connections_of lines ++ c ∷ []), length-append (connections_of lines) (c ∷ []), one))
    (half_open ∙ sym (round_open old lines c limited known is) ∙ ap (λ (cs : List ConnectionHistory). open_from 1 cs) (sym after))
    (off ∙ ap (λ (f : Option ℕ). is_some f) (sym fuse)))

-- how many are half-open with it
round_count : (old : Standing) (lines : List ScriptLine) (line : ScriptLine) (c : ConnectionHistory) (limited : Bool) → Knows old lines
    → connections_after (server_of lines) line ≡ if_covered (server_of lines).fuse (connections_of lines ++ c ∷ []) → c.half_open ≡ limited
    → open_count (lines ++ line ∷ []) ≡ length (after_round old limited)
round_count old lines line c limited known after is =
    open_length 1 (connections_of (lines ++ line ∷ [])) ∙ ap (λ (cs : List ConnectionHistory). length (open_from 1 cs)) (connections_push lines line ∙ after)
    ∙ ap (λ (xs : List ℕ). length xs) (round_open old lines c limited known is)

-- a limit either way
limited_is : (up down : Option ℕ) → not (is_none up && is_none down) ≡ (is_some up || is_some down)
limited_is None None = refl
limited_is None (Some n) = refl
limited_is (Some n) down = refl

abbrev pub too_many : Standing → Bool → Option ScriptFault
too_many old limited = when (nat_lt 64 (length (after_round old limited))) TooManyOpen

neither : (e : Option Enrolled) (fault : Option ScriptFault) → absent e ≡ None → fault ≡ None → unless_enrolled e (λ d. fault) ≡ None
neither None fault none sound = absurd (cc)
neither (Some d) fault none sound = sound

first : (e : Option Enrolled) (fault : Option ScriptFault) (kind : ScriptFault) → absent e ≡ Some kind → unless_enrolled e (λ d. fault) ≡ Some kind
first None fault kind h = h
first (Some d) fault kind h = absurd (cc)

second : (e : Option Enrolled) (fault : Option ScriptFault) (kind : ScriptFault) → absent e ≡ None → fault ≡ Some kind → unless_enrolled e (λ d. fault) ≡ Some kind
second None fault kind none h = absurd (cc)
second (Some d) fault kind none h = h

-- a `round` line
abbrev round_opening : ℕ → Option ℕ → Option ℕ → Opening
round_opening imei up down = record { imei = imei; drains = false; up = up; down = down }

round_fault : (old : Standing) (lines : List ScriptLine) (imei piece : ℕ) (up down : Option ℕ) → Knows old lines
    → when (nat_lt 64 (open_count (lines ++ Line.Round imei piece up down ∷ []))) TooManyOpen ≡ too_many old (is_some up || is_some down)
round_fault old lines imei piece up down known =
    ap (λ (n : ℕ). when (nat_lt 64 n) TooManyOpen) (round_count old lines (Line.Round imei piece up down) (opened (server_of lines).lines (Line.Round imei piece up down) (round_opening imei up down))
    (is_some up || is_some down) known refl (limited_is up down))

pub round_taken : (old new : Standing) (imei piece : ℕ) (up down : Option ℕ) (limited : Bool) → limited ≡ (is_some up || is_some down) → absent (enrolled_at old.devices imei) ≡ None
    → too_many old limited ≡ None
    → ((q : ℕ) → enrolled_at new.devices q ≡ of_device imei with_closed q (enrolled_at old.devices q)) → btree_map_len new.devices ≡ btree_map_len old.devices
    → new.connections.count ≡ old.connections.count + 1 → new.connections.half_open.items ≡ after_round old limited → new.connections.armed ≡ false
    → Takes old new (Line.Round imei piece up down)
unfolding later_fault
round_taken old new imei piece up down limited is enrolled_sound open_sound enrolled devices count half_open off = λ lines known. record {
  sound = neither (enrolled_in lines imei) _ (ap absent (sym (known.enrolled imei)) ∙ enrolled_sound) (round_fault old lines imei piece up down known ∙ ap (too_many old) (sym is) ∙ open_sound);
  knows = round_knows old new lines (Line.Round imei piece up down) (round_opening imei up down) (opened (server_of lines).lines (Line.Round imei piece up down) (round_opening imei up down))
      limited imei known refl refl refl refl (λ q e. refl) (limited_is up down ∙ sym is) enrolled devices count half_open off;
}

pub round_absent : (old : Standing) (imei piece : ℕ) (up down : Option ℕ) (fault : ScriptFault) → absent (enrolled_at old.devices imei) ≡ Some fault → IsRefusedBy old (Line.Round imei piece up down) (LineFault.Fault fault)
unfolding later_fault
round_absent old imei piece up down fault h = λ lines known. first (enrolled_in lines imei) _ fault (ap absent (sym (known.enrolled imei)) ∙ h)

pub round_refused : (old : Standing) (imei piece : ℕ) (up down : Option ℕ) (limited : Bool) (fault : ScriptFault) → limited ≡ (is_some up || is_some down) → absent (enrolled_at old.devices imei) ≡ None
    → too_many old limited ≡ Some fault
    → IsRefusedBy old (Line.Round imei piece up down) (LineFault.Fault fault)
unfolding later_fault
round_refused old imei piece up down limited fault is none h = λ lines known.
    second (enrolled_in lines imei) _ fault (ap absent (sym (known.enrolled imei)) ∙ none) (round_fault old lines imei piece up down known ∙ ap (too_many old) (sym is) ∙ h)

-- a `drain` line
abbrev drain_opening : ℕ → Opening
drain_opening imei = record { imei = imei; drains = true; up = None; down = None }

pub drain_taken : (old new : Standing) (imei piece : ℕ) → absent (enrolled_at old.devices imei) ≡ None
    → ((q : ℕ) → enrolled_at new.devices q ≡ of_device imei with_closed q (enrolled_at old.devices q)) → btree_map_len new.devices ≡ btree_map_len old.devices
    → new.connections.count ≡ old.connections.count + 1 → new.connections.half_open.items ≡ after_round old false → new.connections.armed ≡ false
    → Takes old new (Line.Drain imei piece)
unfolding later_fault
drain_taken old new imei piece sound enrolled devices count half_open off = λ lines known. record {
  sound = ap absent (sym (known.enrolled imei)) ∙ sound;
  knows = round_knows old new lines (Line.Drain imei piece) (drain_opening imei) (opened (server_of lines).lines (Line.Drain imei piece) (drain_opening imei))
      false imei known refl refl refl refl (λ q e. refl) refl enrolled devices count half_open off;
}

pub drain_refused : (old : Standing) (imei piece : ℕ) (fault : ScriptFault) → absent (enrolled_at old.devices imei) ≡ Some fault → IsRefusedBy old (Line.Drain imei piece) (LineFault.Fault fault)
unfolding later_fault
drain_refused old imei piece fault h = λ lines known. ap absent (sym (known.enrolled imei)) ∙ h

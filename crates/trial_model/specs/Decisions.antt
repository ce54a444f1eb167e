-- What a script decides for a device, line after line, with what is told of each decision.
use Rattle.std.specs.Prelude.{ℕ, ◌+◌, ◌==◌, Bool, true, false, is_some, List, [], ◌∷◌, ◌++◌, map, Option, Some, None, if◌then◌else◌}
use Rattle.std.specs.List.{fold}
use Rattle.acquisition.specs.declared.fix.Fix.{Fix}
use Rattle.acquisition.specs.Deciding.{decided}
use Rattle.acquisition.specs.Watching.{Watching, powered_up}
use Rattle.avl_values.specs.Record.{Record}
use Rattle.trial_model.specs.declared.outcome.DeviceEnd.{DeviceEnd}
use Rattle.trial_model.specs.declared.script.ScriptLine.{ScriptLine}
use Rattle.trial_model.specs.declared.script.ScriptLine.TheVariants as Line
use Rattle.trial_model.specs.declared.script.Who.{Who}
use Rattle.trial_model.specs.Cover.{is_who}
use Rattle.trial_model.specs.Load.{load_by, one_more}
use Rattle.trial_model.specs.Script.{Device, opening_of, settings_of}

-- A line, and on a `round` or `drain` line how its connection ended for the device.
pub record Step : Type 0 where
  pub line : ScriptLine
  pub end : Option DeviceEnd

-- the lines, and beside each line that connects the next end
abbrev pub steps_of : List ScriptLine → List DeviceEnd → List Step
steps_of [] ends = []
steps_of (line ∷ lines) [] = record { line = line; end = None } ∷ steps_of lines []
steps_of (line ∷ lines) (end ∷ ends) =
    if is_some (opening_of line)
    then record { line = line; end = Some end } ∷ steps_of lines ends
    else record { line = line; end = None } ∷ steps_of lines (end ∷ ends)

-- A record that is decided. Its place is that in the list of all decisions of its device.
pub record Decision : Type 0 where
  pub rec : Record
  -- its number on its line, from 0
  pub number : ℕ
  -- the load just before
  pub load : ℕ
  -- the medium calls that a fuse leaves to its line, where one covers it
  pub cover : Option ℕ
  -- the most medium calls that the line's stores up to this one make
  pub cost : ℕ

-- a store makes two medium calls for room in a full ring, and four for the record
abbrev pub store_cost : ℕ → ℕ → ℕ
store_cost slots load = if load == slots then 6 else 4

-- The decisions up to somewhere in a line.
pub record LineProgress : Type 0 where
  pub decisions : List Decision
  pub number : ℕ
  pub load : ℕ
  pub cost : ℕ

abbrev pub decide_one : ℕ → Option ℕ → LineProgress → Record → LineProgress
decide_one slots cover p r = record {
  decisions = p.decisions ++ record { rec = r; number = p.number; load = p.load; cover = cover; cost = p.cost + store_cost slots p.load } ∷ [];
  number = p.number + 1;
  load = one_more slots p.load;
  cost = p.cost + store_cost slots p.load;
}

-- after these records of one line
abbrev pub progress_of : ℕ → Option ℕ → List Decision → ℕ → List Record → LineProgress
progress_of slots cover decisions load records = fold (decide_one slots cover) (record { decisions = decisions; number = 0; load = load; cost = 0 }) records

-- What the lines so far say of a device.
pub record DeviceHistory : Type 0 where
  pub decisions : List Decision
  pub watching : Watching
  -- the calls of the fuse that waits
  pub fuse : Option ℕ
  pub load : ℕ

abbrev pub before_all : DeviceHistory
before_all = record { decisions = []; watching = powered_up; fuse = None; load = 0 }

-- last fix and watched values are forgotten after a line that is covered
abbrev pub unless_covered : Option ℕ → Watching → Watching
unless_covered None watching = watching
unless_covered (Some k) watching = powered_up

abbrev pub after_fix : Device → DeviceHistory → Fix → DeviceHistory
after_fix device h fix = record {
  decisions = (progress_of device.slots h.fuse h.decisions h.load (decided (settings_of device) h.watching fix).records).decisions;
  watching = unless_covered h.fuse (decided (settings_of device) h.watching fix).watching;
  fuse = None;
  load = (progress_of device.slots h.fuse h.decisions h.load (decided (settings_of device) h.watching fix).records).load;
}

abbrev pub after_connection : Bool → Option DeviceEnd → DeviceHistory → DeviceHistory
after_connection drains end h = record {
  decisions = h.decisions;
  watching = unless_covered h.fuse h.watching;
  fuse = None;
  load = load_by drains end h.load;
}

abbrev pub after_line : Device → DeviceHistory → Option DeviceEnd → ScriptLine → DeviceHistory
after_line device h end (Line.Device imei codec slots order period distance angle speed known) = h
after_line device h end (Line.Setting imei setting) = h
after_line device h end (Line.Fix imei fix) = if imei == device.imei then after_fix device h fix else h
after_line device h end (Line.Round imei piece up down) = if imei == device.imei then after_connection false end h else h
after_line device h end (Line.Drain imei piece) = if imei == device.imei then after_connection true end h else h
after_line device h end (Line.Late connection bytes) = h
after_line device h end (Line.Close connection) = h
after_line device h end (Line.Power who) = if is_who (Who.Device device.imei) who then record h { watching = powered_up; fuse = None } else h
after_line device h end (Line.Fuse who calls tear) = if is_who (Who.Device device.imei) who then record h { fuse = Some calls } else h

abbrev pub after_step : Device → DeviceHistory → Step → DeviceHistory
after_step device h step = after_line device h step.end step.line

abbrev pub history_of : Device → List Step → DeviceHistory
history_of device steps = fold (after_step device) before_all steps

abbrev pub records_decided : List Decision → List Record
records_decided decisions = map (λ d. d.rec) decisions

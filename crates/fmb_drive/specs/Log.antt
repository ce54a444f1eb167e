-- What a drive prints, as a function of what happened: the records that were given up, and the connections (this project's own).
use Rattle.std.specs.Prelude.{ℕ, List, [], ◌∷◌, ◌++◌, codes, decimal}
use Rattle.std.specs.List.{flat_map}
use Rattle.avl_values.specs.Record.{Record}
use Rattle.flash_ring.specs.Ring.{RingView}
use Rattle.fmb_text.specs.Ends.{device_end_words}
use Rattle.fmb_text.specs.Report.{record_line}
use Rattle.links.specs.Links.{LinkState}
use Rattle.tracker_session.specs.declared.heard.Got.{Got}
use Rattle.tracker_session.specs.declared.heard.Got.TheVariants as got
use Rattle.tracker_session.specs.declared.round_end.RoundEnd.{RoundEnd}
use Rattle.tracker_session.specs.declared.round_end.RoundEnd.TheVariants as end
use Rattle.trial_model.specs.declared.got.Got as trial
use Rattle.trial_model.specs.declared.got.Got.TheVariants as said
use Rattle.trial_model.specs.declared.outcome.DeviceEnd.{DeviceEnd}
use Rattle.trial_model.specs.declared.outcome.DeviceEnd.TheVariants as device

-- A connection: the script's line, how many batches it may send, the ring before and after it, the link as it was handed out and as
-- it came back, how the round ended, and the records of the batches that were counted.
pub record Connection : Type 0 where
  pub line : ℕ
  pub most : ℕ
  pub before : RingView
  pub after : RingView
  pub given : LinkState
  pub back : LinkState
  pub end : RoundEnd
  pub released : List Record

-- what happened, in order
pub data Event : Type 0 where
  -- a record was given up for a newer one
  lost : Record → Event
  -- a connection was made and came to its end
  connected : Connection → Event

abbrev pub got_by : Got → trial.Got
got_by (got.Login byte) = said.Login byte
got_by (got.Count count) = said.Count count
got_by (got.Frame found) = said.Frame found

-- how a round ended, as the report has it
abbrev pub end_by : RoundEnd → DeviceEnd
end_by (end.Done records) = device.Done records
end_by end.Empty = device.Empty
end_by end.Refused = device.Refused
end_by end.Broken = device.Broken
end_by (end.WrongAnswer g) = device.WrongAnswer (got_by g)
end_by end.TooManyCommands = device.TooManyCommands

-- `round N END`
unfoldable pub round_line : ℕ → RoundEnd → List ℕ
round_line line end = codes "round " ++ decimal line ++ codes " " ++ device_end_words (end_by end) ++ codes "\n"

-- `lost IMEI CODEC HEX`
abbrev pub lost_line : ℕ → Record → List ℕ
lost_line imei r = record_line (codes "lost") imei r

abbrev pub event_line : ℕ → Event → List ℕ
event_line imei (lost r) = lost_line imei r
event_line imei (connected c) = round_line c.line c.end

-- one line for each event
abbrev pub drive_text : ℕ → List Event → List ℕ
drive_text imei log = flat_map (event_line imei) log

-- `flash N`: the open slots
unfoldable pub flash_line : ℕ → List ℕ
flash_line open_slots = codes "flash " ++ decimal open_slots ++ codes "\n"

-- the records that were given up, those of the batches that were counted, and the connections' links as they were handed out and as
-- they came back

abbrev pub lost_by : Event → List Record
lost_by (lost r) = r ∷ []
lost_by (connected c) = []

abbrev pub released_by : Event → List Record
released_by (lost r) = []
released_by (connected c) = c.released

abbrev pub given_by : Event → List LinkState
given_by (lost r) = []
given_by (connected c) = c.given ∷ []

abbrev pub back_by : Event → List LinkState
back_by (lost r) = []
back_by (connected c) = c.back ∷ []

abbrev pub lost_in : List Event → List Record
lost_in log = flat_map lost_by log

abbrev pub released_in : List Event → List Record
released_in log = flat_map released_by log

abbrev pub given_in : List Event → List LinkState
given_in log = flat_map given_by log

abbrev pub back_in : List Event → List LinkState
back_in log = flat_map back_by log

-- A trial as a line begins, and what is true of it by the lines so far.
use Rattle.std.specs.Prelude.{◌≡◌, ◌≤◌, ℕ, ◌+◌, ◌==◌, Bool, false, List, [], ◌∷◌, ◌++◌, map, length, slice_get, is_some, Option, Some, if◌then◌else◌}
use Rattle.std.specs.List.{AllZip}
use Rattle.avl_values.specs.Record.{Record}
use Rattle.medium_model.specs.CallsLeft.{unlimited}
use Rattle.shelf.specs.Shelf.{ShelfView}
use Rattle.trial_model.specs.declared.outcome.ConnectionOutcome.{ConnectionOutcome}
use Rattle.trial_model.specs.declared.script.ScriptLine.{ScriptLine}
use Rattle.trial_model.specs.declared.script.Who.TheVariants as Who
use Rattle.trial_model.specs.Answers.{counted_of}
use Rattle.trial_model.specs.Connections.{ConnectionHistory, connections_of, server_of}
use Rattle.trial_model.specs.Cover.{cover_on, fuse_of}
use Rattle.trial_model.specs.Decisions.{DeviceHistory, history_of, steps_of}
use Rattle.trial_model.specs.Delivery.{heard_of, records_given}
use Rattle.trial_model.specs.Frames.{Frame, records_in}
use Rattle.trial_model.specs.Kept.{earlier_records, ends_of}
use Rattle.trial_model.specs.Script.{Device, is_known, opening_of}
use Rattle.trial_device.specs.Sides.{IsSideSound, Side}
use Rattle.trial_server.specs.Archives.{Account, IsRightShelf}
use Rattle.trial_wire.specs.Connections.{Connection, IsConnectionSound}

-- Both ends: each device's side, in the order of the script's `device` lines; all connections, in order of number; the server's archive;
-- and the calls of the server's fuse that waits.
pub record TrialState : Type 0 where
  pub sides : List Side
  pub connections : List Connection
  pub shelf : ShelfView
  pub fuse : Option ℕ

abbrev pub logs_of : List Connection → List ConnectionOutcome
logs_of connections = map (λ w. w.log) connections

-- The records of some frames of each log, by its device: so which were counted, and which were heard.

abbrev pub records_by : (ConnectionOutcome → List Frame) → List ConnectionOutcome → Account
records_by frames [] imei = []
records_by frames (c ∷ logs) imei = (if c.imei == imei then records_in (frames c) else []) ++ records_by frames logs imei

abbrev pub counted_in : List ConnectionOutcome → Account
counted_in logs = records_by counted_of logs

abbrev pub heard_in : List ConnectionOutcome → Account
heard_in logs = records_by heard_of logs

-- and which were delivered, by what the lines say of the connections
abbrev pub given_in : List ConnectionHistory → List ConnectionOutcome → Account
given_in histories logs imei = records_given imei histories logs

-- What the headline says of a connection by the lines before its own: whether its device is known, the fuse that covers its line for the
-- device, and the records that were decided.

abbrev pub known_by : List Device → ConnectionHistory → Bool
known_by devices h = is_known h.opening.imei devices

abbrev pub cover_by : ConnectionHistory → Option ℕ
cover_by h = cover_on (Who.Device h.opening.imei) (fuse_of (Who.Device h.opening.imei) h.before) h.line

abbrev pub earlier_by : List Device → List ConnectionOutcome → ConnectionHistory → List Record
earlier_by devices logs h = earlier_records h.opening.imei devices (steps_of h.before (ends_of logs))

-- how many of these lines connect
abbrev pub connecting : List ScriptLine → ℕ
connecting [] = 0
connecting (l ∷ lines) = (if is_some (opening_of l) then 1 else 0) + connecting lines

-- these lines begin with those
pub record BeginsWith (front lines : List ScriptLine) : Type 0 where
  pub rest : List ScriptLine
  pub is : lines ≡ front ++ rest

-- what is true of the connection at place n, by its history and the script's devices
abbrev pub IsSoundBy : List Device → List ScriptLine → List ConnectionOutcome → ℕ → ConnectionHistory → Connection → Type 0
IsSoundBy devices lines logs n h w = IsConnectionSound lines logs (known_by devices h) (cover_by h) (earlier_by devices logs h) n h w

-- There is one connection for each history, in order, and each is sound by it. The lines begin with those before a connection's own line,
-- of which at most as many connect as its place.
pub record AreConnectionsSound (devices : List Device) (lines : List ScriptLine) (histories : List ConnectionHistory) (connections : List Connection) : Type 0 where
  pub as_many : length connections ≡ length histories
  pub places : (n : ℕ) (h : ConnectionHistory) → slice_get histories n ≡ Some h → connecting h.before ≤ n
  pub begins : (n : ℕ) (h : ConnectionHistory) → slice_get histories n ≡ Some h → BeginsWith h.before lines
  pub each : (n : ℕ) (h : ConnectionHistory) (w : Connection) → slice_get histories n ≡ Some h → slice_get connections n ≡ Some w
      → IsSoundBy devices lines (logs_of connections) n h w

-- The server's part: the connections, and the archive by the accounts of all logs. Its medium is up, and no fuse counts yet.
pub record IsServerSound (devices : List Device) (lines : List ScriptLine) (t : TrialState) : Type 0 where
  pub connections : AreConnectionsSound devices lines (connections_of lines) t.connections
  pub archive : IsRightShelf (given_in (connections_of lines) (logs_of t.connections)) (counted_in (logs_of t.connections)) t.shelf
  pub up : t.shelf.down ≡ false
  pub idle : t.shelf.medium.left ≡ unlimited
  pub fuse : t.fuse ≡ (server_of lines).fuse

-- what the lines say of a device, by the ends in the logs
abbrev pub history_in : List ScriptLine → List ConnectionOutcome → Device → DeviceHistory
history_in lines logs device = history_of device (steps_of lines (ends_of logs))

-- a side for each device, sound by what was heard of it and by what the lines say of it
abbrev pub AreSidesSound : Account → (Device → DeviceHistory) → List Device → List Side → Type 0
AreSidesSound heard history devices sides = AllZip (λ device d. (d.device ≡ device) × IsSideSound (heard device.imei) (history device) d) devices sides

-- All that is true of a trial as a line begins. The devices are those of the whole script.
pub record IsTrialSound (devices : List Device) (lines : List ScriptLine) (t : TrialState) : Type 0 where
  pub server : IsServerSound devices lines t
  pub sides : AreSidesSound (heard_in (logs_of t.connections)) (history_in lines (logs_of t.connections)) devices t.sides

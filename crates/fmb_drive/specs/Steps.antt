-- What single steps of a drive do to the ring, and print.
use Rattle.std.specs.Prelude.{◌≡◌, ℕ, Bool, false, List, [], ◌∷◌, length}
use Rattle.acquisition.specs.Watching.{Acquiring}
use Rattle.avl_values.specs.Record.{Record}
use Rattle.avl_values.specs.declared.order.Order.{Order}
use Rattle.flash_ring.specs.Ring.{RingView}
use Rattle.fmb_drive.specs.Log.{Connection, Event, back_in, drive_text, given_in, round_line}
use Rattle.fmb_drive.specs.Runs.{Driver, DoesLine, IsConnected, MayGiveUp, PowersUp, Runs, Stage, Stores, WhereOwn}
use Rattle.fmb_host.specs.Host.{HostView}
use Rattle.fmb_host.specs.Stocks.{PassesNamed}
use Rattle.fmb_io.specs.Printed.{PrintsWhole, SinkSteady}
use Rattle.medium_model.specs.State.{IsRun, MediumState}
use Rattle.tracker_session.specs.Trackers.{TrackerView}
use Rattle.flash_ring.specs.Entries.{held_of}
use Rattle.flash_ring.specs.Ring.{IsDurable}
use Rattle.fmb_drive.specs.Drive.{Opens, start}
use Rattle.trial_model.specs.Script.{Script}
use Rattle.trial_model.specs.declared.script.ScriptLine.{ScriptLine}

-- a tracker and an acquirer as one device
abbrev pub driver : TrackerView → Acquiring → Driver
driver tracker acquirer = record { imei = tracker.imei; order = tracker.order; settings = acquirer.settings }

abbrev pub stage : TrackerView → Acquiring → Stage
stage tracker acquirer = record { ring = tracker.ring; watching = acquirer.watching }

-- a ring that stays up, of as many slots
pub record StaysUp (a b : RingView) : Type 0 where
  pub up : b.down ≡ false
  pub size : length b.slots ≡ length a.slots
  pub run : IsRun a.medium b.medium ⊥

-- a record wasn't kept: its ring, as it stands, has given up nothing, or its oldest record
abbrev pub Gives : RingView → List Event → RingView → Type 0
Gives v log now = MayGiveUp v log × (now ≡ v)

-- these records were kept, and those that were given up were printed
pub record StoresAll (imei : ℕ) (records : List Record) (a b : RingView) (before after : HostView) : Type 0 where
  pub log : List Event
  pub stores : Stores records a log b
  pub printed : PrintsWhole (drive_text imei log) before after
  pub steady : SinkSteady before after
  pub stays : StaysUp a b
  pub others : after ≡ record before { sink = after.sink }

-- a connection to this address was made, and its end was printed
pub record MakesOne (address : List ℕ) (imei : ℕ) (order : Order) (at limit : ℕ) (a b : RingView) (x y : HostView) : Type 0 where
  pub c : Connection
  pub is : IsConnected imei order c
  pub line : c.line ≡ at
  pub most : c.most ≡ limit
  pub before : c.before ≡ a
  pub after : b ≡ c.after
  pub printed : PrintsWhole (round_line at c.end) x y
  pub steady : SinkSteady x y
  pub wires : PassesNamed address (c.given ∷ []) (c.back ∷ []) x.wires y.wires
  pub stays : StaysUp a b
  pub others : y ≡ record x { sink = y.sink; wires = y.wires }

-- The power was lost and came back where it was this device's, and nothing was done where it was another's.
abbrev pub MayPowerUp : Bool → Stage → Stage → Type 0
MayPowerUp own a b = WhereOwn own (PowersUp a b) (b ≡ a)

-- a line was done, over links of this address
pub record DoesOne (address : List ℕ) (d : Driver) (line : ℕ) (it : ScriptLine) (a b : Stage) (before after : HostView) : Type 0 where
  pub log : List Event
  pub does : DoesLine d line it a log b
  pub printed : PrintsWhole (drive_text d.imei log) before after
  pub steady : SinkSteady before after
  pub wires : PassesNamed address (given_in log) (back_in log) before.wires after.wires
  pub stays : StaysUp a.ring b.ring
  pub others : after ≡ record before { sink = after.sink; wires = after.wires }

-- some lines were done, over links of this address
pub record DoesAll (address : List ℕ) (d : Driver) (lines : Script) (a b : Stage) (before after : HostView) : Type 0 where
  pub log : List Event
  pub runs : Runs d lines a log b
  pub printed : PrintsWhole (drive_text d.imei log) before after
  pub steady : SinkSteady before after
  pub wires : PassesNamed address (given_in log) (back_in log) before.wires after.wires
  pub stays : StaysUp a.ring b.ring
  pub others : after ≡ record before { sink = after.sink; wires = after.wires }

-- A script was done over links of this address, on a flash that was opened and is given back.
pub record DrovePlain (address : List ℕ) (d : Driver) (slots : ℕ) (script : Script) (given home : MediumState) (count : ℕ) (before after : HostView) : Type 0 where
  pub opening : RingView
  pub closing : Stage
  pub opens : Opens slots given opening
  pub first : IsRun given opening.medium ⊥
  pub does : DoesAll address d script (start opening) closing before after
  pub back : home ≡ closing.ring.medium
  pub open_slots : count ≡ length (held_of closing.ring.slots)
  pub durable : IsDurable closing.ring

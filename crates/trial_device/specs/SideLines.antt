-- What `power`, `fuse`, `round` and `drain` lines do to their device's side.
use Rattle.std.specs.Prelude.{◌≡◌, ℕ, Bool, true, false, List, [], length, Option, Some, None, Result, Ok, Err, IsSome}
use Rattle.acquisition.specs.Watching.{powered_up}
use Rattle.avl_values.specs.Record.{Record}
use Rattle.avl_values.specs.declared.errors.MediumFault.{MediumFault}
use Rattle.flash_ring.specs.Entries.{held_of}
use Rattle.flash_ring.specs.Held.{next_of}
use Rattle.flash_ring.specs.Ring.{IsDurable, MayHold, RingView}
use Rattle.medium_model.specs.CallsLeft.{after, unlimited}
use Rattle.tracker_session.specs.RingRounds.{RoundsRing}
use Rattle.tracker_session.specs.declared.heard.Got as tracker
use Rattle.tracker_session.specs.declared.heard.Got.TheVariants as heard
use Rattle.tracker_session.specs.declared.round_end.RoundEnd.{RoundEnd}
use Rattle.tracker_session.specs.declared.round_end.RoundEnd.TheVariants as end
use Rattle.trial_model.specs.declared.got.Got.{Got}
use Rattle.trial_model.specs.declared.outcome.DeviceEnd.{DeviceEnd}
use Rattle.trial_model.specs.declared.outcome.DeviceEnd.TheVariants as End
use Rattle.trial_device.specs.Sides.{Side}

-- A ring's power loss and power-up: it holds what one of the images held that the power loss might have left.
pub record RestartsRing (w v : RingView) : Type 0 where
  pub told : IsSome w.medium.content
  pub may : MayHold w v.slots
  pub size : length v.slots ≡ length w.slots
  pub durable : IsDurable v
  pub next : v.next ≡ next_of v.slots
  pub left : v.medium.left ≡ unlimited

-- a device's power loss and power-up: it forgets what it remembers, and its fuse is out
pub record PowersSide (d e : Side) : Type 0 where
  pub ring : RingView
  pub restarts : RestartsRing d.ring ring
  pub is : e ≡ record d { ring = ring; watching = powered_up; fuse = None }

-- the ring's medium is armed where a fuse waits
abbrev pub armed_ring : Option ℕ → RingView → RingView
armed_ring None v = v
armed_ring (Some k) v = record v { medium = record v.medium { left = after k } }

-- A line that the fuse covered ends with a power loss and power-up; each line that it could cover uses it up.
abbrev pub EndsSide : Option ℕ → Side → Side → Type 0
EndsSide None d e = e ≡ record d { fuse = None }
EndsSide (Some k) d e = PowersSide d e

-- what was heard, in the words of an outcome
abbrev pub got_of : tracker.Got → Got
got_of (heard.Login byte) = Got.Login byte
got_of (heard.Count count) = Got.Count count
got_of (heard.Frame found) = Got.Frame found

-- how a connection ended for its device, by the end of its round
abbrev pub end_of : Result RoundEnd MediumFault → DeviceEnd
end_of (Ok (end.Done n)) = End.Done n
end_of (Ok end.Empty) = End.Empty
end_of (Ok end.Refused) = End.Refused
end_of (Ok end.Broken) = End.Broken
end_of (Ok (end.WrongAnswer got)) = End.WrongAnswer (got_of got)
end_of (Ok end.TooManyCommands) = End.TooManyCommands
end_of (Err fault) = End.MediumFault

-- a drain that ended Done has emptied the ring
abbrev pub HasDrained : Bool → DeviceEnd → RingView → Type 0
HasDrained true (End.Done n) v = held_of v.slots ≡ []
HasDrained true End.Empty v = Unit {0}
HasDrained true End.Refused v = Unit {0}
HasDrained true End.Broken v = Unit {0}
HasDrained true (End.WrongAnswer got) v = Unit {0}
HasDrained true End.TooManyCommands v = Unit {0}
HasDrained true End.MediumFault v = Unit {0}
HasDrained false end v = Unit {0}

-- A `round` or `drain` line: the round over the armed ring, in which the counts of N frames were heard, with these records.
pub record RoundsSide (drains : Bool) (result : Result RoundEnd MediumFault) (frames : ℕ) (released : List Record) (d e : Side) : Type 0 where
  pub between : RingView
  pub ring : RoundsRing result frames released (armed_ring d.fuse d.ring) between
  pub drained : HasDrained drains (end_of result) between
  pub ends : EndsSide d.fuse (record d { ring = between }) e

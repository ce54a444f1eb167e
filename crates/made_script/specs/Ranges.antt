-- The ranges of what is drawn.
use Rattle.std.specs.Prelude.{ℕ, ◌<◌, ◌≤◌}
use Rattle.made_script.specs.declared.turn.Event.{Event}
use Rattle.made_script.specs.declared.turn.Event.TheVariants.{CutRound, DeviceFuse, Nothing, Power, ServerFuse, WholeRound}
use Rattle.made_script.specs.declared.turn.Turn.{Turn}

abbrev pub IsPiece : ℕ → Type 0
IsPiece piece = (1 ≤ piece) × (piece ≤ 64)

abbrev pub IsEvent : Event → Type 0
IsEvent (WholeRound piece) = IsPiece piece
IsEvent (CutRound piece up) = IsPiece piece × (up < 200)
IsEvent Power = Unit {0}
IsEvent (DeviceFuse calls tear) = calls < 8
IsEvent (ServerFuse calls tear) = calls < 4
IsEvent Nothing = Unit {0}

pub record IsTurn (devices : ℕ) (turn : Turn) : Type 0 where
  pub first : 1 ≤ turn.device
  pub last : turn.device ≤ devices
  pub speed : turn.speed < 120
  pub bend : turn.bend < 31
  pub east : turn.east < 1000000
  pub north : turn.north < 1000000
  pub ignition : turn.ignition ≤ 1
  pub voltage : turn.voltage < 16000
  pub event : IsEvent turn.event

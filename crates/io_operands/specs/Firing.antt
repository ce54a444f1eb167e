-- When an operand fires, by the value before and the value now (this project's own).
use Rattle.std.specs.Prelude.{ℕ, ◌==◌, nat_le, nat_lt, Bool, false, not, ◌&&◌, ◌||◌, Option, None, Some}
use Rattle.io_operands.specs.declared.setting.Operand.{Operand}
use Rattle.io_operands.specs.Watching.{Watched}

-- low ≤ value ≤ high
abbrev pub is_in_range : ℕ → ℕ → ℕ → Bool
is_in_range low high value = nat_le low value && nat_le value high

abbrev pub leaves : ℕ → ℕ → ℕ → ℕ → Bool
leaves low high before now = is_in_range low high before && not (is_in_range low high now)

abbrev pub enters : ℕ → ℕ → ℕ → ℕ → Bool
enters low high before now = not (is_in_range low high before) && is_in_range low high now

-- an operand over a range, with the value before and the value now
abbrev pub fires_by : Operand → ℕ → ℕ → ℕ → ℕ → Bool
fires_by Operand.Exit low high before now = leaves low high before now
fires_by Operand.Entrance low high before now = enters low high before now
fires_by Operand.Both low high before now = enters low high before now || leaves low high before now
fires_by Operand.Hysteresis low high before now = (nat_le before high && nat_lt high now) || (nat_le low before && nat_lt now low)
fires_by Operand.Change low high before now = not (before == now)
fires_by Operand.Monitoring low high before now = false

abbrev pub fires_after : Watched → Option ℕ → ℕ → Bool
fires_after w None now = false
fires_after w (Some before) now = fires_by w.setting.operand w.setting.low w.setting.high before now

-- whether a watched element fires at a value: never at the first one
abbrev pub fires : Watched → ℕ → Bool
fires w now = fires_after w w.last now

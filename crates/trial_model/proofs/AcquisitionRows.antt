-- Worked rows of what a device's settings decide on a script's lines. Each computes.
use Rattle.std.proofs.Common.{◌≡◌, ℕ, List, [], ◌∷◌, map, length, drop, refl}
use Rattle.std.specs.Prelude.{true}
use Rattle.avl_values.specs.declared.codec.Codec.TheVariants.{C8E, C16}
use Rattle.io_operands.specs.declared.setting.IoSetting.{IoSetting}
use Rattle.io_operands.specs.declared.setting.Operand.TheVariants.{Change}
use Rattle.avl_values.specs.declared.order.Order.TheVariants.{Oldest}
use Rattle.trial_model.specs.declared.script.ScriptLine.{ScriptLine}
use Rattle.trial_model.specs.declared.script.ScriptLine.TheVariants as Line
use Rattle.trial_model.specs.Decisions.{Decision, history_of, steps_of}
use Rattle.trial_model.specs.Script.{devices_of}
use Rattle.trial_model.proofs.Lines.{fix_at, imei}

-- what these lines decide, for each device
abbrev decisions_of : List ScriptLine → List (List Decision)
decisions_of lines = map (λ d. (history_of d (steps_of lines [])).decisions) (devices_of lines)

-- an `io` line after its device, and fixes with one value each
abbrev ignition : IoSetting
ignition = record { id = 239; width = 1; operand = Change; low = 0; high = 0; priority = 1 }

abbrev fix_with : ℕ → ℕ → ScriptLine
fix_with seconds value = Line.Fix imei (record (fix_at seconds) { values = record { items = value ∷ [] } })

abbrev ignition_turned_on : List ScriptLine
ignition_turned_on = Line.Device imei C8E 16 Oldest 0 0 0 0 true ∷ Line.Setting imei ignition ∷ fix_with 0 0 ∷ fix_with 1 1 ∷ fix_with 2 1 ∷ []

-- the first fix and the changed value make a record each
pub changed_value_decides : map length (decisions_of ignition_turned_on) ≡ 2 ∷ []
changed_value_decides = refl

-- that of the changed value carries its event, its priority and the value
pub event_is_carried : map (λ ds. map (λ d. d.rec.bytes) (drop 1 ds)) (decisions_of ignition_turned_on)
    ≡ ((0x00 ∷ 0x00 ∷ 0x01 ∷ 0x6b ∷ 0x40 ∷ 0xd8 ∷ 0xee ∷ 0x18 ∷ 0x01 ∷ 0 ∷ 0 ∷ 0 ∷ 0 ∷ 0 ∷ 0 ∷ 0 ∷ 0 ∷ 0 ∷ 0 ∷ 0 ∷ 0 ∷ 0 ∷ 0 ∷ 0 ∷ 0x00 ∷ 0xef ∷ 0x00 ∷ 0x01 ∷ 0x00 ∷ 0x01 ∷ 0x00
    ∷ 0xef ∷ 0x01 ∷ 0x00 ∷ 0x00 ∷ 0x00 ∷ 0x00 ∷ 0x00 ∷ 0x00 ∷ 0x00 ∷ 0x00 ∷ []) ∷ []) ∷ []
event_is_carried = refl

-- a direction over north counts the shorter way round, from 5 km/h on
abbrev turned : ℕ → ℕ → ℕ → ScriptLine
turned seconds angle speed = Line.Fix imei (record (fix_at seconds) { gps = record (fix_at seconds).gps { angle = angle; speed = speed } })

pub turn_over_north_decides : map length (decisions_of (Line.Device imei C16 16 Oldest 0 0 10 0 true ∷ turned 0 359 50 ∷ turned 1 1 50 ∷ turned 2 9 50 ∷ turned 3 30 4 ∷ [])) ≡ 2 ∷ []
turn_over_north_decides = refl

-- Which records a fix makes, by the fixes before (this project's own).
use Rattle.std.specs.Prelude.{ℕ, ◌-◌, ◌%◌, ◌==◌, ◌&&◌, ◌||◌, min, nat_le, not, Bool, true, false, List, [], ◌∷◌, map, Option, None, Some}
use Rattle.std.specs.Int.{abs_diff}
use Rattle.avl_values.specs.Record.{Record}
use Rattle.io_operands.specs.declared.setting.IoSetting.{IoSetting}
use Rattle.acquisition.specs.declared.fix.Fix.{Fix}
use Rattle.acquisition.specs.declared.last_fix.LastFix.{LastFix}
use Rattle.acquisition.specs.Firing.{fired, watched_by}
use Rattle.acquisition.specs.Made.{event_record, plain_record}
use Rattle.acquisition.specs.Settings.{AcquisitionSettings}
use Rattle.acquisition.specs.Watching.{Watching}

-- a difference is at least its setting, which isn't switched off
abbrev pub reaches : ℕ → ℕ → Bool
reaches setting difference = not (setting == 0) && nat_le setting difference

-- the angle between two directions in degrees, the shorter way round
abbrev pub turned : ℕ → ℕ → ℕ
turned a b = let d = abs_diff a b % 360 in min d (360 - d)

-- the fix differs enough from the last one that made a record; directions count from 5 km/h on
abbrev pub differs : AcquisitionSettings → LastFix → Fix → Bool
differs settings last fix =
    reaches settings.period (abs_diff fix.time last.time)
    || reaches settings.distance (abs_diff fix.odometer last.odometer)
    || (nat_le 5 fix.gps.speed && reaches settings.angle (turned fix.gps.angle last.angle))
    || reaches settings.speed (abs_diff fix.gps.speed last.speed)

abbrev pub is_due : AcquisitionSettings → Option LastFix → Fix → Bool
is_due settings None fix = true
is_due settings (Some last) fix = differs settings last fix

abbrev pub plain_if : Bool → AcquisitionSettings → Fix → List Record
plain_if true settings fix = plain_record settings fix ∷ []
plain_if false settings fix = []

-- one record for each setting that fires; where none does, one if the fix is due
abbrev pub made : AcquisitionSettings → Option LastFix → Fix → List IoSetting → List Record
made settings last fix [] = plain_if (is_due settings last fix) settings fix
made settings last fix (s ∷ ss) = map (event_record settings fix) (s ∷ ss)

-- what is kept of a fix that made records
abbrev pub last_of : Fix → LastFix
last_of fix = record { time = fix.time; odometer = fix.odometer; angle = fix.gps.angle; speed = fix.gps.speed }

abbrev pub last_after : Option LastFix → Fix → List Record → Option LastFix
last_after last fix [] = last
last_after last fix (r ∷ rs) = Some (last_of fix)

-- The records of a fix, in order, and what is remembered after it.
pub record Decided : Type 0 where
  pub records : List Record
  pub watching : Watching

abbrev pub decided : AcquisitionSettings → Watching → Fix → Decided
decided settings before fix =
    let values = fix.values.items in
    let records = made settings before.last fix (fired (watched_by settings.ios before.watched) values) in
    record { records = records; watching = record { last = last_after before.last fix records; watched = values } }

-- Words about counts of faults. A count never falls, and stands still at the end of its type.
use Rattle.std.specs.Prelude.{ℕ, ◌+◌, ◌-◌, ◌^◌, ◌≤◌, ◌≡◌, min, Result, OnErr, OnOk}

-- one more, up to the type's end
abbrev pub more_by_one : ℕ → ℕ
more_by_one count = min (count + 1) (2 ^ 64 - 1)

-- a count has risen, or stands at its type's end
abbrev pub Rose : ℕ → ℕ → Type 0
Rose before now = more_by_one before ≤ now

-- a count is above an earlier one, or stands at its type's end
abbrev pub IsAbove : ℕ → ℕ → Type 0
IsAbove count earlier = more_by_one earlier ≤ count

-- a call's count of faults, before and after: it fails only where the count rose, and passes over no failure
pub record HasCause {T E : Type 0} (before now : ℕ) (result : Result T E) : Type 0 where
  pub later : before ≤ now
  pub failed : OnErr result (Rose before now)
  pub passed : OnOk result (now ≡ before)

-- Which calls of a thing in memory fail on purpose (this project's own).
use Rattle.std.specs.Prelude.{ℕ, List, Contains}
use Rattle.avl_values.specs.Causes.{more_by_one}

-- the numbers of the calls that fail, and how many calls were made
pub record Plan : Type 0 where
  pub failing : List ℕ
  pub calls : ℕ

-- The call of a number fails exactly where that number was chosen. The first call has number 0.
abbrev pub FailsAt : List ℕ → ℕ → Type 0
FailsAt failing call = Contains failing call

-- the next call fails
abbrev pub FailsNext : Plan → Type 0
FailsNext plan = FailsAt plan.failing plan.calls

-- no call was made yet
abbrev pub planned : List ℕ → Plan
planned failing = record { failing = failing; calls = 0 }

-- one more call was made
abbrev pub after_call : Plan → Plan
after_call plan = record plan { calls = more_by_one plan.calls }

-- How many more calls of `len`, `read`, `write` and `sync` of a medium pass before one fails (this project's own). A medium
-- need not tell.
use Rattle.std.specs.Prelude.{◌≡◌, ℕ, ◌-◌, ◌<◌, ◌≤◌, nat_le, if◌then◌else◌}

pub data CallsLeft : Type 0 where
  -- it doesn't tell
  unknown : CallsLeft
  -- none will fail
  unlimited : CallsLeft
  -- that many pass, and the next one fails
  after : ℕ → CallsLeft
  -- one has failed, and so does each further one
  exhausted : CallsLeft

-- what is left after n calls, or after those up to the first that failed
abbrev pub less : ℕ → CallsLeft → CallsLeft
less n unknown = unknown
less n unlimited = unlimited
less n (after k) = if nat_le n k then after (k - n) else exhausted
less n exhausted = exhausted

-- that n calls pass is told
abbrev pub Passes : ℕ → CallsLeft → Type 0
Passes n unknown = n ≡ 0
Passes n unlimited = Unit {0}
Passes n (after k) = n ≤ k
Passes n exhausted = n ≡ 0

-- that one of n calls fails is told
abbrev pub Fails : ℕ → CallsLeft → Type 0
Fails n unknown = ⊥
Fails n unlimited = ⊥
Fails n (after k) = k < n
Fails n exhausted = 0 < n

-- that a `reserve` may fail below the greatest place
abbrev pub MayFail : CallsLeft → Type 0
MayFail unknown = Unit {0}
MayFail unlimited = ⊥
MayFail (after k) = ⊥
MayFail exhausted = Unit {0}

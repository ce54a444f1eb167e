-- A history of several callers: each call under the number of the seat that made it.
use Rattle.std.specs.Prelude.{◌≡◌, ℕ, zero, suc, ◌+◌, ◌==◌, List, [], ◌∷◌, ◌++◌, map, if◌then◌else◌}
use Rattle.shelf.specs.Admits.{Shelved}
use Rattle.shelf.specs.Calls.{Brought}
use Rattle.shelf.specs.Histories.{IsLegalFor, AreCounted, StandsFor}

-- a call, under the number of the seat that made it
pub record Entry : Type 0 where
  pub seat : ℕ
  pub brought : Brought

abbrev pub entry : ℕ → Brought → Entry
entry n b = record { seat = n; brought = b }

-- what the calls brought, in order
abbrev pub all_brought : List Entry → List Brought
all_brought log = map (λ e. e.brought) log

abbrev pub IsLegalLog : Shelved → List Entry → Type 0
IsLegalLog o log = IsLegalFor o (all_brought log)

abbrev pub AreCountedIn : ℕ → ℕ → List Entry → Type 0
AreCountedIn low high log = AreCounted low high (all_brought log)

-- a shelf that opened as o, after these calls and no others
abbrev pub StandsAfter : Shelved → List Entry → Shelved → Type 0
StandsAfter o log s = StandsFor o (all_brought log) s

-- how often n is in the list
abbrev pub times : ℕ → List ℕ → ℕ
times n [] = 0
times n (x ∷ xs) = (if n == x then 1 else 0) + times n xs

abbrev pub kept_if : ℕ → Entry → List Entry → List Entry
kept_if zero e es = es
kept_if (suc _) e es = e ∷ es

-- the calls under these numbers
abbrev pub calls_by : List ℕ → List Entry → List Entry
calls_by ns [] = []
calls_by ns (e ∷ es) = kept_if (times e.seat ns) e (calls_by ns es)

-- the calls under one number
abbrev pub calls_of : ℕ → List Entry → List Entry
calls_of n log = calls_by (n ∷ []) log

abbrev pub StartsWith : List Entry → List Entry → Type 0
StartsWith log seen = (rest : List Entry) × (log ≡ seen ++ rest)

-- n numbers from i on
abbrev pub counting : ℕ → ℕ → List ℕ
counting i zero = []
counting i (suc n) = i ∷ counting (suc i) n

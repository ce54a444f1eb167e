-- What a link tells of its bytes, and what calls do to it (this project's own).
use Rattle.std.specs.Prelude.{◌≡◌, ◌↔◌, ℕ, ◌<◌, ◌≤◌, Bool, true, List, ◌++◌, [], length, take, Option, Some, None, IfSome}

-- the bytes that reads took from it, and those that were written to it
pub record Traffic : Type 0 where
  pub taken : List ℕ
  pub written : List ℕ

-- What contracts see of a link: its bytes, where it tells them; whether it is at its end now, which speaks only where its
-- bytes are told; and how often it has failed.
pub record LinkState : Type 0 where
  pub told : Option Traffic
  pub ended : Bool
  pub faults : ℕ

-- more bytes taken, and more written
abbrev pub with_more : List ℕ → List ℕ → Traffic → Traffic
with_more taken written before = record { taken = before.taken ++ taken; written = before.written ++ written }

-- The link took these bytes and wrote these. A link that tells nothing goes on telling nothing.
abbrev pub Moves : List ℕ → List ℕ → Option Traffic → Option Traffic → Type 0
Moves taken written None after = after ≡ None
Moves taken written (Some before) after = after ≡ Some (with_more taken written before)

-- some of the bytes were written, the first ones, and not all
abbrev pub WritesPart : List ℕ → Option Traffic → Option Traffic → Type 0
WritesPart bytes before after = (n : ℕ) × (n < length bytes) × Moves [] (take n bytes) before after

-- What further calls may do to any link: bytes that are told only grow at their ends, and the count of faults never falls.
pub record IsLater (before after : LinkState) : Type 0 where
  pub taken : List ℕ
  pub written : List ℕ
  pub moves : Moves taken written before.told after.told
  pub faults : before.faults ≤ after.faults

-- A read is empty exactly at the end, where the bytes are told.
abbrev pub IsEmptyAtEnd : LinkState → ℕ → Type 0
IsEmptyAtEnd link n = IfSome link.told (λ _. n ≡ 0 ↔ link.ended ≡ true)

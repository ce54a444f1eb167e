-- What a medium holds, and what each call does to it (this project's own model of a flash or a file whose power may be cut).
use Rattle.std.specs.Prelude.{◌≡◌, ℕ, ◌+◌, ◌-◌, ◌<◌, ◌≤◌, max, Bool, true, false, List, [], ◌++◌, length, get_or, take, drop, replicate}

-- What a read gives, what the last sync made durable, and which bytes were written since: after a power loss these may
-- hold anything, and the end may be anywhere between the old end and the greatest end written.
pub record Content : Type 0 where
  pub reads : List ℕ
  pub durable : List ℕ
  -- one mark for each byte up to the greatest end written since the last sync
  pub dirty : List Bool

-- n elements, those of the list and then the filler
abbrev pub filled : {A : Type 0} → A → ℕ → List A → List A
filled d n xs = take n xs ++ replicate (n - length xs) d

-- the list with others written at a place, the gap after its end filled
abbrev pub written : {A : Type 0} → A → ℕ → List A → List A → List A
written d at ys xs = filled d at xs ++ (ys ++ drop (at + length ys) xs)

-- all that is read is durable
abbrev pub settled : List ℕ → Content
settled image = record { reads = image; durable = image; dirty = [] }

abbrev pub after_write : ℕ → List ℕ → Content → Content
after_write at bytes c = record { reads = written 0 at bytes c.reads; durable = c.durable; dirty = written false at (replicate (length bytes) true) c.dirty }

-- after a sync a power loss leaves what a read gives
abbrev pub after_sync : Content → Content
after_sync c = settled c.reads

-- A write of n bytes that failed may have written any bytes in its range, and moved the end up to the range's end.
pub record FailedWrite (at n : ℕ) (old new : Content) : Type 0 where
  pub durable : new.durable ≡ old.durable
  pub dirty : new.dirty ≡ written false at (replicate n true) old.dirty
  pub no_shorter : length old.reads ≤ length new.reads
  pub no_longer : length new.reads ≤ max (length old.reads) (at + n)
  pub before : (k : ℕ) → k < at → k < length old.reads → get_or new.reads k 0 ≡ get_or old.reads k 0
  pub behind : (k : ℕ) → at + n ≤ k → k < length old.reads → get_or new.reads k 0 ≡ get_or old.reads k 0

-- A reader that takes a stream in pieces, over any rows: what a piece does to it, and what it has read (this project's own).
-- `rows false` are the rows of the stream's first item, and `rows true` those of each later one.
use Rattle.std.specs.Prelude.{◌≡◌, ℕ, ◌+◌, ◌<◌, ◌≤◌, Bool, true, false, List, [], ◌∷◌, ◌++◌, length, take, drop}
use Rattle.avl_values.specs.declared.fault.FaultKind.{FaultKind}
use Rattle.layout.specs.Rows.{Rows, Verdict, whole, short, fault, judge}
use Rattle.item_streams.specs.Streams.{Item, reading_of, next_rows}

-- A reader: the bytes of its unfinished item, whether the first item has come, whether it has failed, and the body of the
-- frame that was last whole.
pub record Reader : Type 0 where
  pub have : List ℕ
  pub after_first : Bool
  pub failed : Bool
  pub body : List ℕ

-- before the first item, or after it, with nothing read yet
abbrev pub fresh : Bool → Reader
fresh after_first = record { have = []; after_first = after_first; failed = false; body = [] }

-- what a reader answers: no decision yet, an item, or a fault with its place in the item
pub data Decided (V : Type 0) : Type 0 where
  more : Decided V
  item : V → Decided V
  broken : FaultKind → ℕ → Decided V

-- the verdict on n bytes that an answer is
abbrev pub decided_verdict : {V : Type 0} → Decided V → ℕ → Verdict V
decided_verdict more n = short
decided_verdict (item v) n = whole v n
decided_verdict (broken kind place) n = fault kind place

-- the item that an answer adds to those that were read; it ends where the bytes taken end
abbrev pub added : {V : Type 0} → Decided V → ℕ → List (Item V)
added more end = []
added (item v) end = (record { value = v; end = end }) ∷ []
added (broken kind place) end = []

-- The reader after these bytes of an item and its answer. `lent` says which body is lent after an item, by the one before.
abbrev pub reader_after : {V : Type 0} → (V → List ℕ → List ℕ) → Reader → List ℕ → Decided V → Reader
reader_after lent old bytes more = record old { have = bytes }
reader_after lent old bytes (item v) = record old { have = []; after_first = true; body = lent v old.body }
reader_after lent old bytes (broken kind place) = record old { have = bytes; failed = true }

-- The first n bytes of the piece were taken. The answer is the verdict on them after the bytes that it had, and with fewer of
-- them it was short. More takes the whole piece.
pub record Pushed {V : Type 0} (rows : Bool → Rows V) (lent : V → List ℕ → List ℕ) (old new : Reader) (piece : List ℕ) (n : ℕ) (decided : Decided V) : Type 0 where
  pub within_piece : n ≤ length piece
  pub some : 0 < length piece → 0 < n
  pub verdict : judge (rows old.after_first) 0 (old.have ++ take n piece) ≡ decided_verdict decided (length (old.have ++ take n piece))
  pub first : (k : ℕ) → k < n → judge (rows old.after_first) 0 (old.have ++ take k piece) ≡ short
  pub all_for_more : decided ≡ more → n ≡ length piece
  pub state : new ≡ reader_after lent old (old.have ++ take n piece) decided

-- The same of one byte, which is taken always.
pub record PushedByte {V : Type 0} (rows : Bool → Rows V) (lent : V → List ℕ → List ℕ) (old new : Reader) (byte : ℕ) (decided : Decided V) : Type 0 where
  pub verdict : judge (rows old.after_first) 0 (old.have ++ byte ∷ []) ≡ decided_verdict decided (length (old.have ++ byte ∷ []))
  pub state : new ≡ reader_after lent old (old.have ++ byte ∷ []) decided

-- the rows of a stream whose items are never empty
abbrev pub Begin : {V : Type 0} → (Bool → Rows V) → Type 0
Begin rows = (after_first : Bool) → judge (rows after_first) 0 [] ≡ short

-- Of the bytes that a reader took these are the items, and the rest is what it has. Unless it failed the rest is short.
pub record HasRead {V : Type 0} (rows : Bool → Rows V) (after_first : Bool) (bytes : List ℕ) (items : List (Item V)) (s : Reader) : Type 0 where
  pub is : reading_of (rows after_first) (rows true) 0 bytes ≡ record { items = items; rest = s.have }
  pub place : next_rows (rows after_first) (rows true) items ≡ rows s.after_first
  pub unfinished : s.failed ≡ false → judge (rows s.after_first) 0 s.have ≡ short

-- Of a list of bytes all up to a place were taken, and the reader goes on: what stays true in a loop over pieces.
pub record ReadTo {V : Type 0} (rows : Bool → Rows V) (after_first : Bool) (bytes : List ℕ) (at : ℕ) (items : List (Item V)) (s : Reader) : Type 0 where
  pub has : HasRead rows after_first (take at bytes) items s
  pub going : s.failed ≡ false
  pub within : at ≤ length bytes

-- The bytes are read as these items and this rest, which is judged so.
pub record ReadsAs {V : Type 0} (rows : Bool → Rows V) (after_first : Bool) (bytes : List ℕ) (items : List (Item V)) (rest : List ℕ) (verdict : Verdict V) : Type 0 where
  pub is : reading_of (rows after_first) (rows true) 0 bytes ≡ record { items = items; rest = rest }
  pub judged : judge (next_rows (rows after_first) (rows true) items) 0 rest ≡ verdict

-- no fault
abbrev pub GoesOn : {V : Type 0} → Decided V → Type 0
GoesOn more = Unit {0}
GoesOn (item v) = Unit {0}
GoesOn (broken kind place) = ⊥

-- However a stream is cut, a reader gives its items, and has the rest.
abbrev pub PushesRead : Type 0 → Type 0
PushesRead V = (rows : Bool → Rows V) (lent : V → List ℕ → List ℕ) (after_first : Bool) (bytes : List ℕ) (items : List (Item V)) (old new : Reader) (piece : List ℕ) (n : ℕ) (d : Decided V)
    → Begin rows → HasRead rows after_first bytes items old → Pushed rows lent old new piece n d
    → HasRead rows after_first (bytes ++ take n piece) (items ++ added d (length (bytes ++ take n piece))) new

-- A loop that pushes what is left goes on from each place.
abbrev pub ReadsOn : Type 0 → Type 0
ReadsOn V = (rows : Bool → Rows V) (lent : V → List ℕ → List ℕ) (after_first : Bool) (bytes : List ℕ) (at n : ℕ) (items : List (Item V)) (old new : Reader) (d : Decided V)
    → Begin rows → ReadTo rows after_first bytes at items old → Pushed rows lent old new (drop at bytes) n d → GoesOn d
    → ReadTo rows after_first bytes (at + n) (items ++ added d (at + n)) new

-- At the end of the bytes they are read as the items so far, and the rest is short.
abbrev pub ReadsAll : Type 0 → Type 0
ReadsAll V = (rows : Bool → Rows V) (after_first : Bool) (bytes : List ℕ) (at : ℕ) (items : List (Item V)) (s : Reader) → ReadTo rows after_first bytes at items s → length bytes ≤ at
    → ReadsAs rows after_first bytes items s.have short

-- At a fault they are read as the items so far, and the rest begins with the fault, whatever follows.
abbrev pub ReadsBroken : Type 0 → Type 0
ReadsBroken V = (rows : Bool → Rows V) (lent : V → List ℕ → List ℕ) (after_first : Bool) (bytes : List ℕ) (at n : ℕ) (items : List (Item V)) (old new : Reader) (kind : FaultKind) (place : ℕ)
    → Begin rows → ReadTo rows after_first bytes at items old → Pushed rows lent old new (drop at bytes) n (broken kind place)
    → ReadsAs rows after_first bytes items (new.have ++ drop (at + n) bytes) (fault kind place)

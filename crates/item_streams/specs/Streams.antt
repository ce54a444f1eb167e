-- Streams of items, for any rows: whole items, one after the other, and a rest (this project's own). A stream's first item
-- has rows of its own, as a login, and each later item has others; for a stream of one kind both are the same.
use Rattle.std.specs.Prelude.{◌≡◌, ℕ, zero, suc, ◌+◌, List, [], ◌∷◌, ◌++◌, length, drop, map, filter, nat_le}
use Rattle.layout.specs.Rows.{Rows, Verdict, whole, short, fault, judge, Fills}

-- an item: what it says, and the place after its last byte
pub record Item (V : Type 0) : Type 0 where
  pub value : V
  pub end : ℕ

-- the items that were read, and the bytes after them
pub record Reading (V : Type 0) : Type 0 where
  pub items : List (Item V)
  pub rest : List ℕ

-- what the items say
abbrev pub values : {V : Type 0} → List (Item V) → List V
values items = map (λ item. item.value) items

-- the rows of the item that comes after these
abbrev pub next_rows : {V : Type 0} → Rows V → Rows V → List (Item V) → Rows V
next_rows first later [] = first
next_rows first later (item ∷ items) = later

-- the place after these items, the first of which begins at a place
abbrev pub place_after : {V : Type 0} → ℕ → List (Item V) → ℕ
place_after place [] = place
place_after place (item ∷ items) = place_after item.end items

-- The bytes, from a place on, are these items joined, and then this rest.
abbrev pub AreItems : {V : Type 0} → Rows V → Rows V → ℕ → List (Item V) → List ℕ → List ℕ → Type 0
AreItems first later place [] rest bytes = bytes ≡ rest
AreItems first later place (item ∷ items) rest bytes =
    (front : List ℕ) × (more : List ℕ) × (bytes ≡ front ++ more) × Fills first item.value front × (item.end ≡ place + length front)
    × AreItems later later item.end items rest more

-- a verdict that is no whole item: too few bytes, or a fault
abbrev pub IsNotWhole : {V : Type 0} → Verdict V → Type 0
IsNotWhole (whole v n) = ⊥
IsNotWhole short = Unit {0}
IsNotWhole (fault kind place) = Unit {0}

-- The bytes, from a place on, are the items of this reading and a rest that is short or begins with a fault.
pub record IsReading {V : Type 0} (first later : Rows V) (place : ℕ) (bytes : List ℕ) (reading : Reading V) : Type 0 where
  pub joined : AreItems first later place reading.items reading.rest bytes
  pub unfinished : IsNotWhole (judge (next_rows first later reading.items) 0 reading.rest)

-- nothing but bytes that are no whole item
abbrev pub only_rest : {V : Type 0} → List ℕ → Reading V
only_rest bytes = record { items = []; rest = bytes }

-- an item, and then what was read after it
abbrev pub with_front : {V : Type 0} → Item V → Reading V → Reading V
with_front item reading = record { items = item ∷ reading.items; rest = reading.rest }

-- items, and then what was read after them
abbrev pub with_items : {V : Type 0} → List (Item V) → Reading V → Reading V
with_items items reading = record { items = items ++ reading.items; rest = reading.rest }

-- by the verdict on the front: what was read after the whole item, or nothing but a rest
abbrev pub after_front : {V : Type 0} → Verdict V → List ℕ → (V → ℕ → Reading V) → Reading V
after_front (whole v n) bytes next = next v n
after_front short bytes next = only_rest bytes
after_front (fault kind place) bytes next = only_rest bytes

-- at most N items: the whole item at the front, and then those of the bytes after it
unfoldable pub read_items : {V : Type 0} → ℕ → Rows V → Rows V → ℕ → List ℕ → Reading V
read_items zero first later place bytes = only_rest bytes
read_items (suc most) first later place bytes =
    after_front (judge first 0 bytes) bytes (λ v n. with_front (record { value = v; end = place + n }) (read_items most later later (place + n) (drop n bytes)))

-- The reading of bytes, the first of which stands at a place. There are at most as many items as bytes.
abbrev pub reading_of : {V : Type 0} → Rows V → Rows V → ℕ → List ℕ → Reading V
reading_of first later place bytes = read_items (length bytes) first later place bytes

-- the bytes after a stream's items
abbrev pub rest_of : {V : Type 0} → Rows V → Rows V → List ℕ → List ℕ
rest_of first later bytes = (reading_of first later 0 bytes).rest

-- the items that end at a place or before it
abbrev pub ended_by : {V : Type 0} → ℕ → List (Item V) → List (Item V)
ended_by place items = filter (λ item. nat_le item.end place) items

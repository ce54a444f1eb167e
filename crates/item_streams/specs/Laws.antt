-- The laws of streams, over all rows that are short of bytes where there are none.
use Rattle.std.specs.Prelude.{◌≡◌, ℕ, ◌+◌, ◌<◌, ◌⊎◌, List, [], ◌∷◌, ◌++◌, length, drop}
use Rattle.avl_values.specs.declared.fault.FaultKind.{FaultKind}
use Rattle.layout.specs.Rows.{Rows, whole, short, fault, judge, Fills}
use Rattle.item_streams.specs.Streams.{Item, Reading, values, next_rows, place_after, IsNotWhole, IsReading, only_rest, with_front, with_items, reading_of, ended_by}

-- the rows of a stream: no item has no bytes, and none fails before its first byte
pub record AreStreamRows {V : Type 0} (first later : Rows V) : Type 0 where
  pub first_begins : judge first 0 [] ≡ short
  pub later_begins : judge later 0 [] ≡ short

-- Every list of bytes has a reading.
abbrev pub EachHasReading : Type 0 → Type 0
EachHasReading V = (first later : Rows V) (place : ℕ) (bytes : List ℕ) → AreStreamRows first later → IsReading first later place bytes (reading_of first later place bytes)

-- And it has no other.
abbrev pub OneReading : Type 0 → Type 0
OneReading V = (first later : Rows V) (place : ℕ) (bytes : List ℕ) (reading : Reading V) → AreStreamRows first later → IsReading first later place bytes reading
    → reading ≡ reading_of first later place bytes

-- The reading of bytes and more is the items of the bytes, and then the reading of their rest and more.
abbrev pub StreamsCompose : Type 0 → Type 0
StreamsCompose V = (first later : Rows V) (place : ℕ) (bytes more : List ℕ) → AreStreamRows first later →
    let before : Reading V = reading_of first later place bytes in
    reading_of first later place (bytes ++ more) ≡ with_items before.items (reading_of (next_rows first later before.items) later (place_after place before.items) (before.rest ++ more))

-- The items of a prefix are a prefix of the items.
abbrev pub PrefixHasPrefix : Type 0 → Type 0
PrefixHasPrefix V = (first later : Rows V) (place : ℕ) (bytes more : List ℕ) → AreStreamRows first later
    → (others : List (Item V)) × ((reading_of first later place (bytes ++ more)).items ≡ (reading_of first later place bytes).items ++ others)

-- They are just those that end inside it.
abbrev pub PrefixItemsEndInside : Type 0 → Type 0
PrefixItemsEndInside V = (first later : Rows V) (place : ℕ) (bytes more : List ℕ) → AreStreamRows first later
    → (reading_of first later place bytes).items ≡ ended_by (place + length bytes) (reading_of first later place (bytes ++ more)).items

-- The rest is short or begins with a fault.
abbrev pub RestIsNotWhole : Type 0 → Type 0
RestIsNotWhole V = (first later : Rows V) (place : ℕ) (bytes : List ℕ) → AreStreamRows first later →
    let reading : Reading V = reading_of first later place bytes in
    let rows : Rows V = next_rows first later reading.items in
    (judge rows 0 reading.rest ≡ short) ⊎ ((kind : FaultKind) × (at : ℕ) × (judge rows 0 reading.rest ≡ fault kind at))

-- An item is never empty.
abbrev pub NoneIsEmpty : Type 0 → Type 0
NoneIsEmpty V = (rows : Rows V) (v : V) (bytes : List ℕ) → judge rows 0 [] ≡ short → Fills rows v bytes → 0 < length bytes

-- While the rest and more is no whole item, only the rest grows.
abbrev pub RestGrows : Type 0 → Type 0
RestGrows V = (first later : Rows V) (place : ℕ) (bytes more : List ℕ) → AreStreamRows first later →
    let reading : Reading V = reading_of first later place bytes in
    IsNotWhole (judge (next_rows first later reading.items) 0 (reading.rest ++ more)) → reading_of first later place (bytes ++ more) ≡ record reading { rest = reading.rest ++ more }

-- Where the rest and more is just one whole item, it is the next one, and no byte is left.
abbrev pub RestCompletes : Type 0 → Type 0
RestCompletes V = (first later : Rows V) (place : ℕ) (v : V) (bytes more : List ℕ) → AreStreamRows first later →
    let reading : Reading V = reading_of first later place bytes in
    judge (next_rows first later reading.items) 0 (reading.rest ++ more) ≡ whole v (length (reading.rest ++ more))
    → reading_of first later place (bytes ++ more) ≡ record { items = reading.items ++ (record { value = v; end = place + length (bytes ++ more) }) ∷ []; rest = [] }

-- After a fault nothing more is read, however the bytes go on, and the fault stays.
abbrev pub FaultEndsStream : Type 0 → Type 0
FaultEndsStream V = (first later : Rows V) (place : ℕ) (bytes more : List ℕ) (kind : FaultKind) (at : ℕ) → AreStreamRows first later →
    let reading : Reading V = reading_of first later place bytes in
    let rows : Rows V = next_rows first later reading.items in
    judge rows 0 reading.rest ≡ fault kind at
    → (reading_of first later place (bytes ++ more) ≡ record reading { rest = reading.rest ++ more }) × (judge rows 0 (reading.rest ++ more) ≡ fault kind at)

-- Where an item is whole at the front, it is read, and then the bytes after it.
abbrev pub FrontIsRead : Type 0 → Type 0
FrontIsRead V = (first later : Rows V) (place n : ℕ) (v : V) (bytes : List ℕ) → AreStreamRows first later → judge first 0 bytes ≡ whole v n
    → reading_of first later place bytes ≡ with_front (record { value = v; end = place + n }) (reading_of later later (place + n) (drop n bytes))

-- Where no item is whole at the front, nothing is read.
abbrev pub NothingIsRead : Type 0 → Type 0
NothingIsRead V = (first later : Rows V) (place : ℕ) (bytes : List ℕ) → IsNotWhole (judge first 0 bytes) → reading_of first later place bytes ≡ only_rest bytes

-- Where the bytes are just one whole item, it is read, and no byte is left.
abbrev pub ItemAloneIsRead : Type 0 → Type 0
ItemAloneIsRead V = (first later : Rows V) (place : ℕ) (v : V) (bytes : List ℕ) → AreStreamRows first later → judge first 0 bytes ≡ whole v (length bytes)
    → reading_of first later place bytes ≡ record { items = (record { value = v; end = place + length bytes }) ∷ []; rest = [] }

-- The place after the items and the bytes of the rest add up to the place after all bytes.
abbrev pub PlacesAddUp : Type 0 → Type 0
PlacesAddUp V = (first later : Rows V) (place : ℕ) (bytes : List ℕ) → AreStreamRows first later →
    let reading : Reading V = reading_of first later place bytes in
    place_after place reading.items + length reading.rest ≡ place + length bytes

-- What is read doesn't depend on the place at which the bytes begin.
abbrev pub PlaceSaysNothing : Type 0 → Type 0
PlaceSaysNothing V = (first later : Rows V) (place other : ℕ) (bytes : List ℕ) →
    let reading : Reading V = reading_of first later place bytes in
    let moved : Reading V = reading_of first later other bytes in
    (values reading.items ≡ values moved.items) × (reading.rest ≡ moved.rest)

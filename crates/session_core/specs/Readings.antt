-- What was read of a stream up in some bytes, whatever had been read before them.
use Rattle.std.specs.Prelude.{◌≡◌, ℕ, false, List, ◌++◌}
use Rattle.avl_values.specs.declared.fault.Fault.{Fault}
use Rattle.layout.specs.Rows.{fault}
use Rattle.item_streams.specs.Readers.{HasRead, Reader, ReadsAs}
use Rattle.item_streams.specs.Streams.{Item, values}
use Rattle.frame_layout.specs.Readings.{up_reading}
use Rattle.frame_layout.specs.UpRows.{up_rows}
use Rattle.frame_layout.specs.Values.{UpValue}

-- a reader that had read these items in these bytes
abbrev pub HadRead : List ℕ → List (Item UpValue) → Reader → Type 0
HadRead bytes items s = HasRead up_rows false bytes items s

-- after the items before, the bytes say just this
pub record ReadsMore (bytes : List ℕ) (said : List UpValue) (before : List ℕ) (items : List (Item UpValue)) (now : Reader) : Type 0 where
  pub further : List (Item UpValue)
  pub say : values further ≡ said
  pub has : HadRead (before ++ bytes) (items ++ further) now

pub record Reads (bytes : List ℕ) (said : List UpValue) (old new : Reader) : Type 0 where
  pub reads : (before : List ℕ) (items : List (Item UpValue)) → HadRead before items old → ReadsMore bytes said before items new

-- after the items before, the bytes say this first, and perhaps more
pub record HeadsMore (bytes : List ℕ) (said : List UpValue) (before : List ℕ) (items : List (Item UpValue)) : Type 0 where
  pub further : List (Item UpValue)
  pub others : List (Item UpValue)
  pub say : values further ≡ said
  pub are : (up_reading false (before ++ bytes)).items ≡ items ++ (further ++ others)

pub record Heads (bytes : List ℕ) (said : List UpValue) (old : Reader) : Type 0 where
  pub heads : (before : List ℕ) (items : List (Item UpValue)) → HadRead before items old → HeadsMore bytes said before items

-- after the items before, the bytes say this, and then there is a fault
pub record BreaksMore (found : Fault) (bytes : List ℕ) (said : List UpValue) (before : List ℕ) (items : List (Item UpValue)) : Type 0 where
  pub further : List (Item UpValue)
  pub rest : List ℕ
  pub say : values further ≡ said
  pub read : ReadsAs up_rows false (before ++ bytes) (items ++ further) rest (fault found.kind found.place)

pub record ReadsFault (found : Fault) (bytes : List ℕ) (said : List UpValue) (old : Reader) : Type 0 where
  pub reads : (before : List ℕ) (items : List (Item UpValue)) → HadRead before items old → BreaksMore found bytes said before items

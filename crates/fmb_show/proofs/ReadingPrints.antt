-- What is printed of a reading, over any rows.
use Rattle.std.proofs.Common.{◌≡◌, ℕ, Bool, true, List, [], ◌++◌, ap, ◌∙◌}
use Rattle.std.specs.List.{flat_map}
use Rattle.avl_values.specs.declared.fault.FaultKind.{FaultKind}
use Rattle.layout.specs.Rows.{Rows, Verdict, fault}
use Rattle.item_streams.specs.Readers.{ReadsAs}
use Rattle.item_streams.specs.Streams.{Item, Reading, reading_of}
use Rattle.show_lines.specs.ItemTexts.{fault_text}
use Rattle.show_lines.specs.Json.{as_line}
use Rattle.fmb_show.specs.Shown.{and_then, ended_by_fault, only, reading_print, rest_print}

abbrev pub item_lines : {V : Type 0} → (V → ℕ → List ℕ) → List (Item V) → ℕ → List ℕ
item_lines lines items line = flat_map (λ item. lines item.value line) items

module _ {V : Type 0} (lines : V → ℕ → List ℕ) (rows : Bool → Rows V) (after_first : Bool) (bytes : List ℕ) (items : List (Item V)) (rest : List ℕ) (line : ℕ) where
  -- by the verdict on the rest
  printed_by : (verdict : Verdict V) → ReadsAs rows after_first bytes items rest verdict
      → reading_print lines (rows after_first) (rows true) (reading_of (rows after_first) (rows true) 0 bytes) line ≡ and_then (only (item_lines lines items line)) (rest_print verdict rest line)
  printed_by verdict reads =
      ap (λ (r : Reading V). reading_print lines (rows after_first) (rows true) r line) reads.is
      ∙ ap (λ (v : Verdict V). and_then (only (item_lines lines items line)) (rest_print v rest line)) reads.judged

  -- a rest that begins with a fault
  pub ends_broken : (kind : FaultKind) (place : ℕ) → ReadsAs rows after_first bytes items rest (fault kind place)
      → reading_print lines (rows after_first) (rows true) (reading_of (rows after_first) (rows true) 0 bytes) line
      ≡ ended_by_fault (item_lines lines items line ++ as_line (fault_text (record { kind = kind; place = place }) line))
  ends_broken kind place reads = printed_by (fault kind place) reads

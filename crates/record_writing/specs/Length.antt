-- How many bytes a record has, without spelling it (Teltonika, Data Sending Protocols: Codec 8, Codec 8 Extended, Codec 16).
use Rattle.std.specs.Prelude.{ℕ, ◌+◌, List, [], ◌∷◌, length, sum_by}
use Rattle.avl_values.specs.IoElement.{IoElement}
use Rattle.avl_values.specs.RecordValue.{RecordValue}
use Rattle.avl_values.specs.Width.{bytes_of}
use Rattle.avl_values.specs.declared.codec.Codec.{Codec}
use Rattle.avl_values.specs.declared.codec.Codec.TheVariants.{C8, C8E, C16}
use Rattle.avl_values.specs.declared.width.Width.{Width}
use Rattle.record_layout.specs.declared.part.Part.{Part}
use Rattle.record_layout.specs.declared.part.Part.TheVariants.{Plain, Total, Pairs, Triples}
use Rattle.record_layout.specs.Spelling.{PartValue, PartValues, part_values}
use Rattle.record_layout.specs.Table.{parts_of}

-- pairs of id and value of these widths
abbrev pub pairs_length : Width → Width → List (ℕ × ℕ) → ℕ
pairs_length id value es = sum_by (λ e. bytes_of id + bytes_of value) es

-- triples of id, length and N bytes, with id and length of these widths
abbrev pub triples_length : Width → Width → List (ℕ × List ℕ) → ℕ
triples_length id len es = sum_by (λ e. bytes_of id + bytes_of len + length e.1) es

abbrev pub part_length : (p : Part) → PartValue p → ℕ
part_length (Plain field width) n = bytes_of width
part_length (Total width) n = bytes_of width
part_length (Pairs count id value) es = bytes_of count + pairs_length id value es
part_length (Triples count id len) es = bytes_of count + triples_length id len es

abbrev pub parts_length : (ps : List Part) → PartValues ps → ℕ
parts_length [] values = 0
parts_length (p ∷ ps) values = part_length p values.0 + parts_length ps values.1

-- the sum over the parts of a record in this codec
abbrev pub record_length : Codec → RecordValue → ℕ
record_length codec v = parts_length (parts_of codec) (part_values codec v)

-- The same as a sum over the elements: a record without any, and what each element of 1, 2, 4 or 8 bytes takes.

abbrev pub shortest_length : Codec → ℕ
shortest_length C8 = 30
shortest_length C8E = 38
shortest_length C16 = 32

abbrev pub ios_length : Width → List IoElement → ℕ
ios_length id ios = sum_by (λ io. bytes_of id + bytes_of io.width) ios

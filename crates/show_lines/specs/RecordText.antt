-- What is printed of a record: one object of compact JSON with its keys in alphabetical order (this project's own).
use Rattle.std.specs.Prelude.{ℕ, List, [], ◌∷◌, map, codes, decimal, option_map}
use Rattle.std.specs.Fmt.{signed_decimal}
use Rattle.std.specs.List.{concat}
use Rattle.hex.specs.Hex.{encode_lower}
use Rattle.avl_values.specs.IoElement.{IoElement}
use Rattle.avl_values.specs.RecordValue.{RecordValue}
use Rattle.avl_values.specs.Width.{bytes_of}
use Rattle.avl_values.specs.declared.codec.Codec.{Codec}
use Rattle.record_codecs.specs.Elements.{ios_of}
use Rattle.record_codecs.specs.Shown.{generation_in}
use Rattle.show_lines.specs.Json.{in_brackets, in_quotes, or_null}

-- an element of 1, 2, 4 or 8 bytes, as its id, width and value: `[21,1,3]`
abbrev pub element_text : IoElement → List ℕ
element_text e = concat
    (codes "[" ∷ decimal e.id ∷ codes "," ∷ decimal (bytes_of e.width) ∷ codes "," ∷ decimal e.value ∷ codes "]" ∷ [])

-- an element of any length, as its id and its bytes in lower-case hexadecimal: `[385,"0a1b"]`
abbrev pub nx_text : ℕ × List ℕ → List ℕ
nx_text e = concat (codes "[" ∷ decimal e.0 ∷ codes "," ∷ in_quotes (encode_lower e.1) ∷ codes "]" ∷ [])

-- The elements are in the record's order. Only Codec 16 has a generation type; elsewhere it is `null`.
unfoldable pub record_text : Codec → RecordValue → ℕ → List ℕ
record_text codec v line = concat
    (codes "{\"altitude\":" ∷ signed_decimal v.altitude
    ∷ codes ",\"angle\":" ∷ decimal v.angle
    ∷ codes ",\"event\":" ∷ decimal v.event
    ∷ codes ",\"generation\":" ∷ or_null (option_map decimal (generation_in codec v))
    ∷ codes ",\"io\":" ∷ in_brackets (map element_text (ios_of v))
    ∷ codes ",\"item\":\"record\",\"latitude\":" ∷ signed_decimal v.latitude
    ∷ codes ",\"line\":" ∷ decimal line
    ∷ codes ",\"longitude\":" ∷ signed_decimal v.longitude
    ∷ codes ",\"nx\":" ∷ in_brackets (map nx_text v.nx)
    ∷ codes ",\"priority\":" ∷ decimal v.priority
    ∷ codes ",\"satellites\":" ∷ decimal v.satellites
    ∷ codes ",\"speed\":" ∷ decimal v.speed
    ∷ codes ",\"time\":" ∷ decimal v.time ∷ codes "}" ∷ [])

-- How a record's value is spelled in a codec (Teltonika, Data Sending Protocols).
use Rattle.std.specs.Prelude.{◌≡◌, ℕ, ◌+◌, ◌<◌, List, [], ◌∷◌, ◌++◌, length, FitsSigned}
use Rattle.std.specs.List.{flat_map, AllByRecursion}
use Rattle.std.specs.Int.{bytes_high_first, w16, w32, cast_unsigned}
use Rattle.avl_values.specs.RecordValue.{RecordValue}
use Rattle.avl_values.specs.Width.{bytes_of, limit}
use Rattle.avl_values.specs.declared.codec.Codec.{Codec}
use Rattle.avl_values.specs.declared.codec.Codec.TheVariants.{C8, C8E, C16}
use Rattle.avl_values.specs.declared.width.Width.{Width}
use Rattle.avl_values.specs.declared.width.Width.TheVariants.{W1, W2, W4, W8}
use Rattle.layout.specs.Bytes.{AreBytes}
use Rattle.record_layout.specs.declared.part.Field.{Field}
use Rattle.record_layout.specs.declared.part.Field.TheVariants.{Time, Priority, Longitude, Latitude, Altitude, Angle, Satellites, Speed, Event, Generation}
use Rattle.record_layout.specs.declared.part.Part.{Part}
use Rattle.record_layout.specs.declared.part.Part.TheVariants.{Plain, Total, Pairs, Triples}
use Rattle.record_layout.specs.Table.{parts_of}

-- a number in the bytes of its width, the highest first
abbrev pub spell : Width → ℕ → List ℕ
spell width n = bytes_high_first (bytes_of width) n

-- what a part of a record says: a number, pairs of id and value, or pairs of id and bytes
abbrev pub PartValue : Part → Type 0
PartValue (Plain field width) = ℕ
PartValue (Total width) = ℕ
PartValue (Pairs count id value) = List (ℕ × ℕ)
PartValue (Triples count id len) = List (ℕ × List ℕ)

abbrev pub PartValues : List Part → Type 0
PartValues [] = Unit {0}
PartValues (p ∷ ps) = PartValue p × PartValues ps

abbrev pub pair_bytes : Width → Width → ℕ × ℕ → List ℕ
pair_bytes id value e = spell id e.0 ++ spell value e.1

abbrev pub triple_bytes : Width → Width → ℕ × List ℕ → List ℕ
triple_bytes id len e = spell id e.0 ++ (spell len (length e.1) ++ e.1)

-- a part's bytes
abbrev pub part_bytes : (p : Part) → PartValue p → List ℕ
part_bytes (Plain field width) n = spell width n
part_bytes (Total width) n = spell width n
part_bytes (Pairs count id value) es = spell count (length es) ++ flat_map (pair_bytes id value) es
part_bytes (Triples count id len) es = spell count (length es) ++ flat_map (triple_bytes id len) es

-- the parts' bytes, joined
abbrev pub joined : (ps : List Part) → PartValues ps → List ℕ
joined [] values = []
joined (p ∷ ps) values = part_bytes p values.0 ++ joined ps values.1

-- each number fits its field
abbrev pub PartFits : (p : Part) → PartValue p → Type 0
PartFits (Plain field width) n = n < limit width
PartFits (Total width) n = n < limit width
PartFits (Pairs count id value) es = (length es < limit count) × AllByRecursion (λ e. (e.0 < limit id) × (e.1 < limit value)) es
PartFits (Triples count id len) es = (length es < limit count) × AllByRecursion (λ e. (e.0 < limit id) × (length e.1 < limit len) × AreBytes e.1) es

abbrev pub AllFit : (ps : List Part) → PartValues ps → Type 0
AllFit [] values = Unit {0}
AllFit (p ∷ ps) values = PartFits p values.0 × AllFit ps values.1

-- the number of elements
abbrev pub total_of : RecordValue → ℕ
total_of v = length v.ones + length v.twos + length v.fours + length v.eights + length v.nx

-- what a number of a record is; coordinates and the altitude are in two's complement
abbrev pub field_of : Field → RecordValue → ℕ
field_of Time v = v.time
field_of Priority v = v.priority
field_of Longitude v = cast_unsigned w32 v.longitude
field_of Latitude v = cast_unsigned w32 v.latitude
field_of Altitude v = cast_unsigned w16 v.altitude
field_of Angle v = v.angle
field_of Satellites v = v.satellites
field_of Speed v = v.speed
field_of Event v = v.event
field_of Generation v = v.generation

-- the elements of a width
abbrev pub elements_of : Width → RecordValue → List (ℕ × ℕ)
elements_of W1 v = v.ones
elements_of W2 v = v.twos
elements_of W4 v = v.fours
elements_of W8 v = v.eights

-- what a part says of the value
abbrev pub part_of : (p : Part) → RecordValue → PartValue p
part_of (Plain field width) v = field_of field v
part_of (Total width) v = total_of v
part_of (Pairs count id value) v = elements_of value v
part_of (Triples count id len) v = v.nx

abbrev pub parts_say : (ps : List Part) → RecordValue → PartValues ps
parts_say [] v = tt
parts_say (p ∷ ps) v = (part_of p v, parts_say ps v)

-- what the parts of a record in this codec say of the value
abbrev pub part_values : (codec : Codec) → RecordValue → PartValues (parts_of codec)
part_values codec v = parts_say (parts_of codec) v

-- only Codec 8 Extended has elements of any length, and only Codec 16 a generation type
abbrev pub HasNoOther : Codec → RecordValue → Type 0
HasNoOther C8 v = (v.nx ≡ []) × (v.generation ≡ 0)
HasNoOther C8E v = v.generation ≡ 0
HasNoOther C16 v = v.nx ≡ []

-- the one spelling of a value in a codec
abbrev pub spelled : Codec → RecordValue → List ℕ
spelled codec v = joined (parts_of codec) (part_values codec v)

-- these bytes are the record of this value
pub record IsRecord (codec : Codec) (v : RecordValue) (bytes : List ℕ) : Type 0 where
  pub is : bytes ≡ spelled codec v
  pub fits : AllFit (parts_of codec) (part_values codec v)
  pub longitude : FitsSigned w32 v.longitude
  pub latitude : FitsSigned w32 v.latitude
  pub altitude : FitsSigned w16 v.altitude
  pub no_other : HasNoOther codec v

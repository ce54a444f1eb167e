-- What a record is made of, part by part (Teltonika, Data Sending Protocols: Codec 8, Codec 8 Extended, Codec 16).
use Rattle.std.specs.Prelude.{List, [], ◌∷◌}
use Rattle.avl_values.specs.declared.codec.Codec.{Codec}
use Rattle.avl_values.specs.declared.codec.Codec.TheVariants.{C8, C8E, C16}
use Rattle.avl_values.specs.declared.width.Width.{Width}
use Rattle.avl_values.specs.declared.width.Width.TheVariants.{W1, W2, W4, W8}
use Rattle.record_layout.specs.declared.part.Field.TheVariants.{Time, Priority, Longitude, Latitude, Altitude, Angle, Satellites, Speed, Event, Generation}
use Rattle.record_layout.specs.declared.part.Part.{Part}
use Rattle.record_layout.specs.declared.part.Part.TheVariants.{Plain, Total, Pairs, Triples}

-- Numbers with their widths; the total of the elements; then the groups of elements of 1, 2, 4 and 8 bytes, and in Codec 8 Extended
-- those of any length.
abbrev pub parts_of : Codec → List Part
parts_of C8 = Plain Time W8 ∷ Plain Priority W1 ∷ Plain Longitude W4 ∷ Plain Latitude W4 ∷ Plain Altitude W2 ∷ Plain Angle W2 ∷ Plain Satellites W1 ∷ Plain Speed W2
    ∷ Plain Event W1 ∷ Total W1
    ∷ Pairs W1 W1 W1 ∷ Pairs W1 W1 W2 ∷ Pairs W1 W1 W4 ∷ Pairs W1 W1 W8 ∷ []
parts_of C8E = Plain Time W8 ∷ Plain Priority W1 ∷ Plain Longitude W4 ∷ Plain Latitude W4 ∷ Plain Altitude W2 ∷ Plain Angle W2 ∷ Plain Satellites W1 ∷ Plain Speed W2
    ∷ Plain Event W2 ∷ Total W2
    ∷ Pairs W2 W2 W1 ∷ Pairs W2 W2 W2 ∷ Pairs W2 W2 W4 ∷ Pairs W2 W2 W8 ∷ Triples W2 W2 W2 ∷ []
parts_of C16 = Plain Time W8 ∷ Plain Priority W1 ∷ Plain Longitude W4 ∷ Plain Latitude W4 ∷ Plain Altitude W2 ∷ Plain Angle W2 ∷ Plain Satellites W1 ∷ Plain Speed W2
    ∷ Plain Event W2 ∷ Plain Generation W1 ∷ Total W1
    ∷ Pairs W1 W2 W1 ∷ Pairs W1 W2 W2 ∷ Pairs W1 W2 W4 ∷ Pairs W1 W2 W8 ∷ []

-- the width of an element's id, and of the event's
abbrev pub id_width : Codec → Width
id_width C8 = W1
id_width C8E = W2
id_width C16 = W2

-- the width of a group's count, and of the total
abbrev pub count_width : Codec → Width
count_width C8 = W1
count_width C8E = W2
count_width C16 = W1

-- A record's value, read from its bytes (Teltonika, Data Sending Protocols, AVL data). Of bytes that are no record this says nothing
-- of use.
use Rattle.std.specs.Prelude.{ℕ, List, drop}
use Rattle.std.specs.Int.{w16, w32, cast_signed}
use Rattle.avl_values.specs.RecordValue.{RecordValue, pairs_of}
use Rattle.avl_values.specs.declared.codec.Codec.{Codec}
use Rattle.avl_values.specs.declared.codec.Codec.TheVariants.{C8, C8E, C16}
use Rattle.avl_values.specs.declared.width.Width.{Width}
use Rattle.avl_values.specs.declared.width.Width.TheVariants.{W1, W2, W4, W8}
use Rattle.record_layout.specs.Table.{id_width}
use Rattle.record_codecs.specs.Elements.{all_widths, behind_groups, front_number, groups_in, nx_of}
use Rattle.record_codecs.specs.Shown.{elements_from}

-- the number of this width at a place
abbrev pub number_at : ℕ → Width → List ℕ → ℕ
number_at place width bytes = front_number width (drop place bytes)

-- the generation type, which only Codec 16 has
abbrev pub generation_at : Codec → List ℕ → ℕ
generation_at C8 bytes = 0
generation_at C8E bytes = 0
generation_at C16 bytes = number_at 26 W1 bytes

-- the elements of one width
abbrev pub pairs_at : Width → Codec → List ℕ → List (ℕ × ℕ)
pairs_at width codec bytes = pairs_of width (groups_in codec all_widths (drop (elements_from codec) bytes))

unfoldable pub value_in : Codec → List ℕ → RecordValue
value_in codec bytes = record {
  time = number_at 0 W8 bytes;
  priority = number_at 8 W1 bytes;
  longitude = cast_signed w32 (number_at 9 W4 bytes);
  latitude = cast_signed w32 (number_at 13 W4 bytes);
  altitude = cast_signed w16 (number_at 17 W2 bytes);
  angle = number_at 19 W2 bytes;
  satellites = number_at 21 W1 bytes;
  speed = number_at 22 W2 bytes;
  event = number_at 24 (id_width codec) bytes;
  generation = generation_at codec bytes;
  ones = pairs_at W1 codec bytes;
  twos = pairs_at W2 codec bytes;
  fours = pairs_at W4 codec bytes;
  eights = pairs_at W8 codec bytes;
  nx = nx_of codec (behind_groups codec all_widths (drop (elements_from codec) bytes));
}

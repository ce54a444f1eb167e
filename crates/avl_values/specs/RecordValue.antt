-- What an AVL record says, whatever codec it is spelled in (Teltonika, Data Sending Protocols, AVL data).
use Rattle.std.specs.Prelude.{ℕ, ℤ, List, [], ◌∷◌, if◌then◌else◌}
use Rattle.avl_values.specs.declared.width.Width.{Width}
use Rattle.avl_values.specs.declared.width.Width.TheVariants.{W1, W2, W4, W8}
use Rattle.avl_values.specs.declared.avl_record.AvlRecord.{AvlRecord}
use Rattle.avl_values.specs.IoElement.{IoElement}
use Rattle.avl_values.specs.Width.{is_width}

-- the head, the elements of 1, 2, 4 and 8 bytes as pairs of id and value, and those of any length as pairs of id and bytes
pub record RecordValue : Type 0 where
  pub time : ℕ
  pub priority : ℕ
  pub longitude : ℤ
  pub latitude : ℤ
  pub altitude : ℤ
  pub angle : ℕ
  pub satellites : ℕ
  pub speed : ℕ
  pub event : ℕ
  pub generation : ℕ
  pub ones : List (ℕ × ℕ)
  pub twos : List (ℕ × ℕ)
  pub fours : List (ℕ × ℕ)
  pub eights : List (ℕ × ℕ)
  pub nx : List (ℕ × List ℕ)

-- the elements of one width, in their order
abbrev pub pairs_of : Width → List IoElement → List (ℕ × ℕ)
pairs_of width [] = []
pairs_of width (io ∷ ios) = if is_width io.width width then (io.id, io.value) ∷ pairs_of width ios else pairs_of width ios

-- a record as contracts see it
abbrev pub value_of : AvlRecord → RecordValue
value_of r = record {
  time = r.time;
  priority = r.priority;
  longitude = r.gps.longitude;
  latitude = r.gps.latitude;
  altitude = r.gps.altitude;
  angle = r.gps.angle;
  satellites = r.gps.satellites;
  speed = r.gps.speed;
  event = r.event;
  generation = r.generation;
  ones = pairs_of W1 r.ios.items;
  twos = pairs_of W2 r.ios.items;
  fours = pairs_of W4 r.ios.items;
  eights = pairs_of W8 r.ios.items;
  nx = r.nx;
}

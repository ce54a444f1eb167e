-- A record in pieces, as it is written: its head, its event, the number of elements, the groups of elements of 1, 2, 4 and 8
-- bytes, and that of elements of any length (Teltonika, Data Sending Protocols: Codec 8, Codec 8 Extended, Codec 16).
use Rattle.std.specs.Prelude.{ℕ, ◌+◌, ◌<◌, List, [], ◌++◌, length, FitsSigned}
use Rattle.std.specs.Int.{w16, w32, cast_unsigned}
use Rattle.avl_values.specs.IoElement.{IoElement}
use Rattle.avl_values.specs.RecordValue.{pairs_of}
use Rattle.avl_values.specs.Width.{bytes_of, limit}
use Rattle.avl_values.specs.declared.avl_record.AvlRecord.{AvlRecord}
use Rattle.avl_values.specs.declared.codec.Codec.{Codec}
use Rattle.avl_values.specs.declared.codec.Codec.TheVariants.{C8, C8E, C16}
use Rattle.avl_values.specs.declared.gps.Gps.{Gps}
use Rattle.avl_values.specs.declared.width.Width.{Width}
use Rattle.avl_values.specs.declared.width.Width.TheVariants.{W1, W2, W4, W8}
use Rattle.record_layout.specs.Spelling.{spell, part_bytes, PartFits}
use Rattle.record_layout.specs.declared.part.Part.TheVariants.{Pairs, Triples}
use Rattle.record_layout.specs.Table.{count_width, id_width}
use Rattle.record_writing.specs.Length.{part_length}

-- The head, in which coordinates and the altitude are in two's complement.

abbrev pub gps_bytes : Gps → List ℕ
gps_bytes g =
    spell W4 (cast_unsigned w32 g.longitude)
    ++ (spell W4 (cast_unsigned w32 g.latitude)
    ++ (spell W2 (cast_unsigned w16 g.altitude) ++ (spell W2 g.angle ++ (spell W1 g.satellites ++ spell W2 g.speed))))

abbrev pub head_bytes : AvlRecord → List ℕ
head_bytes r = spell W8 r.time ++ (spell W1 r.priority ++ gps_bytes r.gps)

pub record GpsFits (g : Gps) : Type 0 where
  pub longitude : FitsSigned w32 g.longitude
  pub latitude : FitsSigned w32 g.latitude
  pub altitude : FitsSigned w16 g.altitude
  pub angle : g.angle < limit W2
  pub satellites : g.satellites < limit W1
  pub speed : g.speed < limit W2

pub record HeadFits (r : AvlRecord) : Type 0 where
  pub time : r.time < limit W8
  pub priority : r.priority < limit W1
  pub gps : GpsFits r.gps

-- The event's id, and in Codec 16 the generation type.

abbrev pub generation_bytes : Codec → ℕ → List ℕ
generation_bytes C8 n = []
generation_bytes C8E n = []
generation_bytes C16 n = spell W1 n

abbrev pub event_length : Codec → ℕ
event_length C8 = 1
event_length C8E = 2
event_length C16 = 3

abbrev pub event_bytes : Codec → AvlRecord → List ℕ
event_bytes codec r = spell (id_width codec) r.event ++ generation_bytes codec r.generation

pub record EventFits (codec : Codec) (r : AvlRecord) : Type 0 where
  pub event : r.event < limit (id_width codec)
  pub generation : r.generation < limit W1

-- The groups of elements of 1, 2, 4 and 8 bytes.

abbrev pub group_bytes : Codec → Width → List IoElement → List ℕ
group_bytes codec width ios = part_bytes (Pairs (count_width codec) (id_width codec) width) (pairs_of width ios)

abbrev pub group_length : Codec → Width → List IoElement → ℕ
group_length codec width ios = part_length (Pairs (count_width codec) (id_width codec) width) (pairs_of width ios)

abbrev pub GroupFits : Codec → Width → List IoElement → Type 0
GroupFits codec width ios = PartFits (Pairs (count_width codec) (id_width codec) width) (pairs_of width ios)

abbrev pub groups_bytes : Codec → List IoElement → List ℕ
groups_bytes codec ios = group_bytes codec W1 ios ++ (group_bytes codec W2 ios ++ (group_bytes codec W4 ios ++ group_bytes codec W8 ios))

abbrev pub groups_length : Codec → List IoElement → ℕ
groups_length codec ios = group_length codec W1 ios + group_length codec W2 ios + group_length codec W4 ios + group_length codec W8 ios

pub record GroupsFit (codec : Codec) (ios : List IoElement) : Type 0 where
  pub ones : GroupFits codec W1 ios
  pub twos : GroupFits codec W2 ios
  pub fours : GroupFits codec W4 ios
  pub eights : GroupFits codec W8 ios

-- Only Codec 8 Extended has a group of elements of any length.

abbrev pub nx_bytes : Codec → List (ℕ × List ℕ) → List ℕ
nx_bytes C8 nx = []
nx_bytes C8E nx = part_bytes (Triples W2 W2 W2) nx
nx_bytes C16 nx = []

abbrev pub nx_length : Codec → List (ℕ × List ℕ) → ℕ
nx_length C8 nx = 0
nx_length C8E nx = part_length (Triples W2 W2 W2) nx
nx_length C16 nx = 0

abbrev pub NxFits : Codec → List (ℕ × List ℕ) → Type 0
NxFits C8 nx = Unit {0}
NxFits C8E nx = PartFits (Triples W2 W2 W2) nx
NxFits C16 nx = Unit {0}

-- The number of all elements, and their groups.

abbrev pub elements_bytes : Codec → AvlRecord → List ℕ
elements_bytes codec r = spell (count_width codec) (length r.ios.items + length r.nx) ++ (groups_bytes codec r.ios.items ++ nx_bytes codec r.nx)

abbrev pub elements_length : Codec → AvlRecord → ℕ
elements_length codec r = bytes_of (count_width codec) + groups_length codec r.ios.items + nx_length codec r.nx

pub record ElementsFit (codec : Codec) (r : AvlRecord) : Type 0 where
  pub total : length r.ios.items + length r.nx < limit (count_width codec)
  pub groups : GroupsFit codec r.ios.items
  pub nx : NxFits codec r.nx

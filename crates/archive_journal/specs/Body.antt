-- How an entry's body lies in the archive's file (this project's own): length (4 bytes), which counts what follows it in the
-- body; IMEI as a number (8), below 10^15; codec id (1); number of records (1), 1 to 255; N whole records of that codec,
-- and nothing more. So a body is a data body under a length and an IMEI, without the second number of records.
use Rattle.std.specs.Prelude.{ℕ, ◌+◌, ◌^◌, ◌==◌, ◌&&◌, nat_lt, Bool, true, false, List, ◌∷◌, ◌++◌, length, take, drop}
use Rattle.std.specs.Int.{w32, w64, to_be_bytes, from_be_bytes}
use Rattle.std.specs.List.{flat_map}
use Rattle.avl_values.specs.Codec.{id_of}
use Rattle.avl_values.specs.Record.{Record}
use Rattle.avl_values.specs.declared.codec.Codec.{Codec}
use Rattle.layout.specs.Rows.{Verdict, whole, short, fault}
use Rattle.record_layout.specs.PacketRows.{packet_verdict}
use Rattle.record_layout.specs.RecordsOf.{records_of}
use Rattle.record_layout.specs.declared.head.PacketHead.{PacketHead}

-- an entry: a device, and some of its records in a row
pub record EntryValue : Type 0 where
  pub imei : ℕ
  pub records : List Record

-- the number in a body's first four bytes
unfoldable pub length_in : List ℕ → ℕ
length_in body = from_be_bytes w32 (take 4 body)

-- the number in the eight bytes after them
unfoldable pub imei_in : List ℕ → ℕ
imei_in body = from_be_bytes w64 (take 8 (drop 4 body))

-- the data body of a body: what follows its IMEI, and the number of records once more
abbrev pub packet_in : List ℕ → List ℕ
packet_in body = drop 12 body ++ take 1 (drop 13 body)

abbrev pub is_whole : Verdict PacketHead → Bool
is_whole (whole head n) = true
is_whole short = false
is_whole (fault kind place) = false

-- A body is well formed where its length is that of what follows, its IMEI is one, and its data body is whole.
unfoldable pub is_body : List ℕ → Bool
is_body body = (length body == 4 + length_in body) && (nat_lt (imei_in body) (10 ^ 15) && is_whole (packet_verdict (length (packet_in body)) (packet_in body)))

-- what a well-formed body says
abbrev pub entry_in : List ℕ → EntryValue
entry_in body = record { imei = imei_in body; records = records_of (packet_in body) }

-- the bytes of records, one after the other
abbrev pub joined : List Record → List ℕ
joined records = flat_map (λ r. r.bytes) records

-- the one body of these records of a device
unfoldable pub body_bytes : ℕ → Codec → List Record → List ℕ
body_bytes imei codec records = to_be_bytes w32 (10 + length (joined records)) ++ (to_be_bytes w64 imei ++ (id_of codec ∷ length records ∷ joined records))

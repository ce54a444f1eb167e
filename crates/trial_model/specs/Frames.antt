-- What a stream up holds: a login, and then data frames (Teltonika, Data Sending Protocols, "Codec 8 protocol sending
-- over TCP"). A frame has one data body, of any codec.
use Rattle.std.specs.Prelude.{ℕ, zero, suc, ◌+◌, ◌&&◌, nat_eq, nat_le, Bool, true, false, List, [], ◌∷◌, length, take, drop, if◌then◌else◌}
use Rattle.std.specs.List.{filter, flat_map, starts_with}
use Rattle.std.specs.Int.{from_be_bytes, w32}
use Rattle.avl_values.specs.Record.{Record}
use Rattle.layout.specs.Rows.{Verdict, whole, short, fault}
use Rattle.record_layout.specs.PacketRows.{packet_verdict}
use Rattle.record_layout.specs.RecordsOf.{records_of}
use Rattle.frame_layout.specs.Items.{count_bytes, frame_of}

-- how many bytes a login has
abbrev pub login_size : ℕ
login_size = 17

abbrev pub is_whole : {V : Type 0} → Verdict V → Bool
is_whole (whole v n) = true
is_whole short = false
is_whole (fault kind place) = false

-- the bytes are a whole data body, and nothing more
abbrev pub is_packet : List ℕ → Bool
is_packet body = is_whole (packet_verdict (length body) body)

-- the body that the length field of a frame at the front tells
abbrev pub body_at : List ℕ → List ℕ
body_at bytes = take (from_be_bytes w32 (take 4 (drop 4 bytes))) (drop 8 bytes)

-- a whole data frame lies at the front
abbrev pub has_frame : List ℕ → Bool
has_frame bytes = is_packet (body_at bytes) && starts_with nat_eq bytes (frame_of (body_at bytes))

-- A frame, with the place after its last byte.
pub record Frame : Type 0 where
  pub end : ℕ
  pub records : List Record

pub record Stream : Type 0 where
  pub frames : List Frame
  pub rest : List ℕ

abbrev pub with_frame : Frame → Stream → Stream
with_frame f s = record { frames = f ∷ s.frames; rest = s.rest }

-- at most N frames of these bytes, of which the first has this place
unfoldable pub frames_from : ℕ → ℕ → List ℕ → Stream
frames_from zero place bytes = record { frames = []; rest = bytes }
frames_from (suc most) place bytes =
    if has_frame bytes
    then with_frame (record { end = place + (12 + length (body_at bytes)); records = records_of (body_at bytes) })
    (frames_from most (place + (12 + length (body_at bytes))) (drop (12 + length (body_at bytes)) bytes))
    else record { frames = []; rest = bytes }

-- what follows the login: frames, and a rest that begins with none
abbrev pub stream_of : List ℕ → Stream
stream_of up = frames_from (length up) login_size (drop login_size up)

abbrev pub frames_of : List ℕ → List Frame
frames_of up = (stream_of up).frames

-- the frames that lie whole in the first n bytes
abbrev pub frames_within : ℕ → List ℕ → List Frame
frames_within n up = filter (λ f. nat_le f.end n) (frames_of up)

abbrev pub records_in : List Frame → List Record
records_in frames = flat_map (λ f. f.records) frames

-- the counts, down: for each frame the number of its records
abbrev pub counts_of : List Frame → List ℕ
counts_of frames = flat_map (λ f. count_bytes (length f.records)) frames

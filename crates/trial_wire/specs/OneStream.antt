-- The frames of which a trial's statement speaks (`trial_model/specs/Frames.antt`) are those that a server reads in the same bytes
-- (`frame_layout/specs/Readings.antt`). The statement's words stop at a response, and have no longest frame; a server reads on after a
-- response, and refuses a longer frame.
use Rattle.std.specs.Prelude.{◌≡◌, ℕ, ◌+◌, nat_le, false, true, List, [], ◌∷◌, if◌then◌else◌}
use Rattle.avl_values.specs.declared.fault.FaultKind.{FaultKind}
use Rattle.layout.specs.Bytes.{AreBytes}
use Rattle.layout.specs.Rows.{fault, judge, whole}
use Rattle.record_layout.specs.RecordsOf.{records_of}
use Rattle.item_streams.specs.Streams.{IsNotWhole, Item, Reading}
use Rattle.command_layout.specs.declared.way.Way.TheVariants.{Up}
use Rattle.frame_layout.specs.FrameBodies.{longest_body}
use Rattle.frame_layout.specs.Readings.{responses_of, up_reading}
use Rattle.frame_layout.specs.UpRows.{up_rows, up_verdict}
use Rattle.frame_layout.specs.Values.{UpValue, login, packet, response}
use Rattle.trial_model.specs.Frames.{Frame, Stream, frames_of, login_size, stream_of}
use Rattle.trial_wire.specs.Hearing.{as_frames}

-- the data frames among items that were read, up to the first response
abbrev pub frame_and : ℕ → UpValue → List Frame → List Frame
frame_and end (login imei) more = more
frame_and end (packet head body) more = record { end = end; records = records_of body } ∷ more
frame_and end (response body) more = []

abbrev pub frames_read : List (Item UpValue) → List Frame
frames_read [] = []
frames_read (i ∷ items) = frame_and i.end i.value (frames_read items)

-- the frames up to the first that is longer than any that a server reads; the first of them begins at this place
abbrev pub frames_allowed : ℕ → List Frame → List Frame
frames_allowed place [] = []
frames_allowed place (f ∷ frames) = if nat_le f.end (place + (12 + longest_body Up)) then f ∷ frames_allowed f.end frames else []

-- For all bytes that don't begin with what can be no login, both say the same frames.
abbrev pub FramesAreRead : Type 0
FramesAreRead = (up : List ℕ) → AreBytes up → ((kind : FaultKind) (at : ℕ) → up_verdict false up ≡ fault kind at → ⊥)
    → frames_allowed login_size (frames_of up) ≡ frames_read (up_reading false up).items

-- no longer frame is there, and no response at the front of what follows the frames
pub record HasNoOther (place : ℕ) (s : Stream) : Type 0 where
  pub allowed : frames_allowed place s.frames ≡ s.frames
  pub no_response : IsNotWhole (judge (up_rows true) 0 s.rest)

-- the items are these frames, and the rest is the same
pub record IsReadAs (s : Stream) (reading : Reading UpValue) : Type 0 where
  pub frames : as_frames reading.items ≡ s.frames
  pub responses : responses_of reading.items ≡ []
  pub rest : reading.rest ≡ s.rest

-- For all bytes after a login, where there is nothing that only one of the two takes, both say the same frames and the same rest.
abbrev pub RestIsRead : Type 0
RestIsRead = (imei : ℕ) (up : List ℕ) → AreBytes up → up_verdict false up ≡ whole (login imei) login_size → HasNoOther login_size (stream_of up)
    → IsReadAs (stream_of up) (up_reading false up)

-- What was sent up, and how much of both ways was delivered: the log of a connection.
use Rattle.std.specs.Prelude.{ℕ, ◌+◌, ◌*◌, ◌≡◌, ◌≤◌, nat_le, min, Bool, true, false, List, [], ◌∷◌, length, take, if◌then◌else◌}
use Rattle.std.specs.List.{All}
use Rattle.avl_values.specs.Record.{Record}
use Rattle.frame_layout.specs.Items.{login_of}
use Rattle.trial_model.specs.declared.outcome.ConnectionOutcome.{ConnectionOutcome}
use Rattle.trial_model.specs.declared.outcome.DeviceEnd.{DeviceEnd}
use Rattle.trial_model.specs.declared.outcome.DeviceEnd.TheVariants as End
use Rattle.trial_model.specs.Connections.{ConnectionHistory, up_to}
use Rattle.trial_model.specs.Delivery.{heard_bytes, heard_of}
use Rattle.trial_model.specs.Frames.{frames_of, frames_within, login_size, stream_of}
use Rattle.trial_model.specs.RecordLists.{AreIn}

-- The bytes up are the device's login, and whole data frames of 1 to 255 records that earlier lines decided. A frame was
-- sent only after the login's answer 1 was delivered, and each frame but the last was heard.
pub record IsWholeStream (earlier : List Record) (c : ConnectionOutcome) : Type 0 where
  pub login : take login_size c.up ≡ login_of c.imei
  pub whole : (stream_of c.up).rest ≡ []
  pub some : All (λ f. 1 ≤ length f.records) (frames_of c.up)
  pub few : All (λ f. length f.records ≤ 255) (frames_of c.up)
  pub decided : All (λ f. AreIn earlier f.records) (frames_of c.up)
  pub accepted : 1 ≤ length (frames_of c.up) → take 1 (heard_bytes c) ≡ 1 ∷ []
  pub heard : length (frames_of c.up) ≤ length (heard_of c) + 1

-- nothing where the device ended Empty
abbrev pub IsSent : DeviceEnd → List Record → ConnectionOutcome → Type 0
IsSent (End.Done n) earlier c = IsWholeStream earlier c
IsSent End.Empty earlier c = c.up ≡ []
IsSent End.Refused earlier c = IsWholeStream earlier c
IsSent End.Broken earlier c = IsWholeStream earlier c
IsSent (End.WrongAnswer got) earlier c = IsWholeStream earlier c
IsSent End.TooManyCommands earlier c = IsWholeStream earlier c
IsSent End.MediumFault earlier c = IsWholeStream earlier c

-- a `round` line sends at most one frame
abbrev pub HasFewFrames : Bool → ConnectionOutcome → Type 0
HasFewFrames false c = length (frames_of c.up) ≤ 1
HasFewFrames true c = Unit {0}

-- the bytes down that answer a login or a frame which lies whole in the first n bytes up
abbrev pub answers_to : ℕ → ConnectionOutcome → ℕ
answers_to n c = if nat_le login_size n then min (length c.down) (1 + 4 * length (frames_within n c.up)) else 0

-- The delivered bytes up are those sent, up to what the connection's own line and the `late` lines allow. The delivered
-- bytes down are those that answer its own line's bytes, up to that line's limit.
pub record HasWholeLog (earlier : List Record) (h : ConnectionHistory) (c : ConnectionOutcome) : Type 0 where
  pub imei : c.imei ≡ h.opening.imei
  pub sent : IsSent c.device earlier c
  pub few : HasFewFrames h.opening.drains c
  pub up : c.up_given ≡ up_to h.allowed (length c.up)
  pub down : c.down_given ≡ up_to h.opening.down (answers_to (up_to h.opening.up (length c.up)) c)

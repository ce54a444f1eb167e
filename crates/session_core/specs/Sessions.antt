-- What contracts see of a session, and what it does with a piece.
use Rattle.std.specs.Prelude.{◌≡◌, ℕ, Bool, true, false, List, Option, Some, None}
use Rattle.item_streams.specs.Readers.{Decided, Pushed, Reader, broken, fresh, item, more}
use Rattle.command_layout.specs.declared.way.Way.TheVariants as way
use Rattle.record_layout.specs.declared.head.PacketHead.{PacketHead}
use Rattle.frame_layout.specs.Readings.{IsFramedCommand, IsFramedPacket}
use Rattle.frame_layout.specs.UpRows.{up_rows}
use Rattle.frame_layout.specs.Values.{UpValue, login, packet, response}
use Rattle.frame_channel.specs.UpPushes.{lent_up}
use Rattle.session_core.specs.declared.session.Step.{Step}
use Rattle.session_core.specs.declared.session.Step.TheVariants.{More, Login, Packet, Response, Broken}
use Rattle.session_core.specs.Talks.{Talk, nobody, device, stranger}

-- what its reader has, the login's IMEI, whether the last item still has to be answered, and whether the login was refused
pub record SessionState : Type 0 where
  pub reader : Reader
  pub imei : Option ℕ
  pub owes : Bool
  pub refused : Bool

abbrev pub is_there : Option ℕ → Bool
is_there None = false
is_there (Some imei) = true

-- before the login
abbrev pub new_session : SessionState
new_session = record { reader = fresh false; imei = None; owes = false; refused = false }

-- the last item still has to be answered
pub record Owes (s : SessionState) : Type 0 where
  pub is : s.owes ≡ true

-- It can hear: the last login or packet was answered, nothing was broken, and no login was refused.
pub record IsReady (s : SessionState) : Type 0 where
  pub answered : s.owes ≡ false
  pub going : s.reader.failed ≡ false
  pub welcome : s.refused ≡ false

-- a data frame of this body, within a frame's bound
pub record IsPacketOf (body : List ℕ) (d : Decided UpValue) : Type 0 where
  pub head : PacketHead
  pub is : d ≡ item (packet head body)
  pub framed : IsFramedPacket head body

-- the frame of a response of this body, within a frame's bound
pub record IsResponseOf (body : List ℕ) (d : Decided UpValue) : Type 0 where
  pub is : d ≡ item (response body)
  pub framed : IsFramedCommand way.Up body

-- what its reader decided, by the step and the body that is lent then
abbrev pub StepSays : Step → List ℕ → Decided UpValue → Type 0
StepSays More body d = d ≡ more
StepSays (Login imei) body d = d ≡ item (login imei)
StepSays Packet body d = IsPacketOf body d
StepSays Response body d = IsResponseOf body d
StepSays (Broken found) body d = d ≡ broken found.kind found.place

abbrev pub imei_after : Option ℕ → Step → Option ℕ
imei_after imei More = imei
imei_after imei (Login who) = Some who
imei_after imei Packet = imei
imei_after imei Response = imei
imei_after imei (Broken found) = imei

abbrev pub owes_after : Step → Bool
owes_after More = false
owes_after (Login imei) = true
owes_after Packet = true
owes_after Response = false
owes_after (Broken found) = false

-- The first n bytes of the piece were taken, and the reader decided what the step says.
pub record Heard (old new : SessionState) (piece : List ℕ) (n : ℕ) (step : Step) : Type 0 where
  pub place : old.reader.after_first ≡ is_there old.imei
  pub decided : Decided UpValue
  pub pushed : Pushed up_rows lent_up old.reader new.reader piece n decided
  pub says : StepSays step new.reader.body decided
  pub imei : new.imei ≡ imei_after old.imei step
  pub owes : new.owes ≡ owes_after step
  pub refused : new.refused ≡ old.refused

-- the talk that a session is in, with these orders
abbrev pub talk_with : {O : Type 0} → Option ℕ → Bool → O → Talk O
talk_with None refused o = nobody o
talk_with (Some imei) true o = stranger imei o
talk_with (Some imei) false o = device imei o

abbrev pub talk_of : {O : Type 0} → SessionState → O → Talk O
talk_of s o = talk_with s.imei s.refused o

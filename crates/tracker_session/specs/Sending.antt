-- What a device sends up: its login, and frames of data bodies (Teltonika, Data Sending Protocols, "Codec 8 protocol sending over
-- TCP").
use Rattle.std.specs.Prelude.{ℕ, List, [], ◌∷◌, ◌++◌}
use Rattle.std.specs.List.{flat_map}
use Rattle.command_layout.specs.declared.way.Way.TheVariants.{Up}
use Rattle.record_layout.specs.declared.head.PacketHead.{PacketHead}
use Rattle.frame_layout.specs.Items.{IsFrame, frame_of, login_of}
use Rattle.frame_layout.specs.declared.body_kind.BodyKind.TheVariants.{Packet}

-- a data body that may be in a frame up
pub record IsSentBody (body : List ℕ) : Type 0 where
  pub head : PacketHead
  pub frame : IsFrame Up (Packet head) body (frame_of body)

abbrev pub AreSentBodies : List (List ℕ) → Type 0
AreSentBodies [] = Unit {0}
AreSentBodies (b ∷ bodies) = IsSentBody b × AreSentBodies bodies

-- the login of this IMEI, and then the frames of these bodies
abbrev pub stream_up : ℕ → List (List ℕ) → List ℕ
stream_up imei bodies = login_of imei ++ flat_map frame_of bodies

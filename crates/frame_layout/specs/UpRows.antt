-- The rows of a stream up: a login, and then frames of data bodies and of responses (Teltonika, Data Sending Protocols, "Codec 8
-- protocol sending over TCP" and Codecs 12 to 15). Places are counted from an item's first byte.
use Rattle.std.specs.Prelude.{ℕ, Bool, true, false, List}
use Rattle.layout.specs.Rows.{Rows, done, Verdict, judge}
use Rattle.layout.specs.MappedRows.{map_value}
use Rattle.command_layout.specs.declared.way.Way.TheVariants.{Up}
use Rattle.frame_layout.specs.FrameBodies.{body_kind_rows, longest_body}
use Rattle.frame_layout.specs.FrameRows.{frame_rows}
use Rattle.frame_layout.specs.Logins.{login_rows}
use Rattle.frame_layout.specs.Values.{UpValue, login, frame_value}

-- after the digits of a login there is nothing more
abbrev pub login_end : ℕ → Rows UpValue
login_end imei = done (login imei)

-- a frame of a data body or of a response
unfoldable pub up_frame_rows : Rows UpValue
up_frame_rows = map_value (λ f. frame_value f.0 f.1) (frame_rows (longest_body Up) (body_kind_rows Up))

-- the item at a place of the stream: a login at the first, and then frames
abbrev pub up_rows : Bool → Rows UpValue
up_rows false = login_rows login_end
up_rows true = up_frame_rows

-- the verdict on bytes before the login or after it
abbrev pub up_verdict : Bool → List ℕ → Verdict UpValue
up_verdict after_login bytes = judge (up_rows after_login) 0 bytes

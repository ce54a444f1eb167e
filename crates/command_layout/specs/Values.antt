-- What a command or a response says (Teltonika, Data Sending Protocols: Codecs 12, 13, 14, 15).
use Rattle.std.specs.Prelude.{ℕ, List, Option}

-- The codec id; the type; the time in seconds and the IMEI, where the codec has them; and the text, which is any bytes.
pub record CommandValue : Type 0 where
  pub codec : ℕ
  pub kind : ℕ
  pub time : Option ℕ
  pub imei : Option ℕ
  pub text : List ℕ

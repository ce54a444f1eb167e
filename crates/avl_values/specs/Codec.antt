-- Codec ids (Teltonika, Data Sending Protocols: Codec 8, Codec 8 Extended, Codec 16).
use Rattle.std.specs.Prelude.{ℕ, ◌==◌, Bool, true, false, Option, Some, None, if◌then◌else◌}
use Rattle.avl_values.specs.declared.codec.Codec.{Codec}
use Rattle.avl_values.specs.declared.codec.Codec.TheVariants.{C8, C8E, C16}

abbrev pub id_of : Codec → ℕ
id_of C8 = 0x08
id_of C8E = 0x8e
id_of C16 = 0x10

-- the codec of an id, None for any other id
abbrev pub codec_of : ℕ → Option Codec
codec_of id = if id == 0x08 then Some C8 else if id == 0x8e then Some C8E else if id == 0x10 then Some C16 else None

abbrev pub is_codec : Codec → Codec → Bool
is_codec C8 C8 = true
is_codec C8 C8E = false
is_codec C8 C16 = false
is_codec C8E C8 = false
is_codec C8E C8E = true
is_codec C8E C16 = false
is_codec C16 C8 = false
is_codec C16 C8E = false
is_codec C16 C16 = true

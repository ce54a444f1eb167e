-- What a command has of each codec and way (Teltonika, Data Sending Protocols: Codecs 12, 13, 14, 15; which types pass
-- which way, and that Codecs 13 and 15 pass up alone, is this project's own).
use Rattle.std.specs.Prelude.{◌≡◌, ℕ, ◌+◌, ◌==◌, ◌||◌, List, [], ◌∷◌, Bool, true, false, Option, Some, None, if◌then◌else◌}
use Rattle.command_layout.specs.declared.way.Way.{Way}
use Rattle.command_layout.specs.declared.way.Way.TheVariants.{Up, Down}
use Rattle.std.specs.Option.{is_some}
use Rattle.command_layout.specs.Values.{CommandValue}

-- the types that may be in it, and whether its content begins with a time, and goes on with an IMEI; then comes the text
pub record CommandRow : Type 0 where
  pub kinds : List ℕ
  pub time : Bool
  pub imei : Bool

-- Up, Codec 12 has responses (06), Codec 13 messages with a time (06), Codec 14 answers and refusals (06, 11) with an IMEI, and
-- Codec 15 messages with both (0B). Down there are commands (05) of Codec 12 and, with an IMEI, of Codec 14.
abbrev pub row_of : Way → ℕ → Option CommandRow
row_of Up id =
    if id == 0x0c then Some (record { kinds = 0x06 ∷ []; time = false; imei = false })
    else if id == 0x0d then Some (record { kinds = 0x06 ∷ []; time = true; imei = false })
    else if id == 0x0e then Some (record { kinds = 0x06 ∷ 0x11 ∷ []; time = false; imei = true })
    else if id == 0x0f then Some (record { kinds = 0x0b ∷ []; time = true; imei = true })
    else None
row_of Down id =
    if id == 0x0c then Some (record { kinds = 0x05 ∷ []; time = false; imei = false })
    else if id == 0x0e then Some (record { kinds = 0x05 ∷ []; time = false; imei = true })
    else None

abbrev pub is_among : ℕ → List ℕ → Bool
is_among n [] = false
is_among n (k ∷ ks) = (n == k) || is_among n ks

-- the least size of the content: 4 bytes of time, and 8 of an IMEI
abbrev pub least_size : CommandRow → ℕ
least_size row = (if row.time then 4 else 0) + (if row.imei then 8 else 0)

-- the type is one of the row's, and time and IMEI are there exactly where the row has them
pub record IsOfRow (row : CommandRow) (v : CommandValue) : Type 0 where
  pub kind : is_among v.kind row.kinds ≡ true
  pub time : is_some v.time ≡ row.time
  pub imei : is_some v.imei ≡ row.imei

abbrev pub IsOf : Option CommandRow → CommandValue → Type 0
IsOf (Some row) v = IsOfRow row v
IsOf None v = ⊥

-- a value that a command of this way may say
abbrev pub WellFormed : Way → CommandValue → Type 0
WellFormed way v = IsOf (row_of way v.codec) v

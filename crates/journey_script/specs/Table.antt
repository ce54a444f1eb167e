-- The nine kinds of line, each with its fields, and what a field may be. Both the judgement of a line and its spelling go by this table
-- (this project's own).
--
--     device IMEI CODEC SLOTS ORDER PERIOD DISTANCE ANGLE SPEED FLAG
--     io IMEI ID WIDTH OPERAND LOW HIGH PRIORITY
--     fix IMEI TIME LON LAT ALT ANGLE SATS SPEED ODO V1 .. Vn
--     round IMEI PIECE UP DOWN
--     drain IMEI PIECE
--     late C N
--     close C
--     power IMEI, power server
--     fuse IMEI K TEAR, fuse server K TEAR
use Rattle.std.specs.Prelude.{ℕ, ℤ, ◌-◌, ◌^◌, ◌==◌, Bool, nat_le, List, [], ◌∷◌, length, Option, Some, None, Result, Ok, Err, codes, decimal, if◌then◌else◌}
use Rattle.std.specs.Fmt.{signed_decimal}
use Rattle.std.specs.Str.{bytes_eq}
use Rattle.avl_values.specs.Imei.{imei_text}
use Rattle.avl_values.specs.declared.codec.Codec.{Codec}
use Rattle.avl_values.specs.declared.order.Order.{Order}
use Rattle.io_operands.specs.declared.setting.Operand.{Operand}
use Rattle.medium_model.specs.declared.bench.Tear.{Tear}
use Rattle.trial_model.specs.declared.script.Who.{Who}
use Rattle.journey_script.specs.declared.fault.ScriptFault.{ScriptFault}
use Rattle.journey_script.specs.declared.fault.ScriptFault.TheVariants.{BadChoice, BadImei, BadNumber}
use Rattle.journey_script.specs.declared.word.LineWord.{LineWord}
use Rattle.journey_script.specs.Numbers.{imei_of, number_within, signed_within}
use Rattle.journey_script.specs.Words.{codec_name, codecs, flag_name, flags, named, operand_name, operands, order_name, orders, tear_name, tears}

-- What a field may be.
pub data FieldKind : Type 0 where
  ImeiField : FieldKind
  -- an IMEI, or `server`
  WhoseField : FieldKind
  -- a number from the first to the second
  NumberField : (low high : ℕ) → FieldKind
  -- a number from -(limit + 1) to limit
  SignedField : (limit : ℕ) → FieldKind
  -- a number below 2^32, or `-` for no limit
  LimitField : FieldKind
  CodecField : FieldKind
  OrderField : FieldKind
  FlagField : FieldKind
  OperandField : FieldKind
  TearField : FieldKind

-- a number below this
abbrev pub below : ℕ → FieldKind
below limit = NumberField 0 (limit - 1)

-- The table.
abbrev pub kinds_of : LineWord → List FieldKind
kinds_of LineWord.Device = ImeiField ∷ CodecField ∷ NumberField 1 4096 ∷ OrderField ∷ below (2 ^ 64) ∷ below (2 ^ 64) ∷ below (2 ^ 16) ∷ below (2 ^ 16) ∷ FlagField ∷ []
kinds_of LineWord.Io = ImeiField ∷ below (2 ^ 16) ∷ below (2 ^ 8) ∷ OperandField ∷ below (2 ^ 64) ∷ below (2 ^ 64) ∷ below (2 ^ 8) ∷ []
kinds_of LineWord.Fix = ImeiField ∷ below (2 ^ 64) ∷ SignedField (2 ^ 31 - 1) ∷ SignedField (2 ^ 31 - 1) ∷ SignedField (2 ^ 15 - 1)
    ∷ below (2 ^ 16) ∷ below (2 ^ 8) ∷ below (2 ^ 16) ∷ below (2 ^ 64) ∷ []
kinds_of LineWord.Round = ImeiField ∷ NumberField 1 65536 ∷ LimitField ∷ LimitField ∷ []
kinds_of LineWord.Drain = ImeiField ∷ NumberField 1 65536 ∷ []
kinds_of LineWord.Late = below (2 ^ 32) ∷ LimitField ∷ []
kinds_of LineWord.Close = below (2 ^ 32) ∷ []
kinds_of LineWord.Power = WhoseField ∷ []
kinds_of LineWord.Fuse = WhoseField ∷ NumberField 0 1000000 ∷ TearField ∷ []

-- a `fix` line has one value for each I/O setting of its device after these fields; no other line has more
abbrev pub value_kind : FieldKind
value_kind = below (2 ^ 64)

-- whether a line may have this number of fields after its word
abbrev pub is_count_of : LineWord → ℕ → Bool
is_count_of LineWord.Device n = n == length (kinds_of LineWord.Device)
is_count_of LineWord.Io n = n == length (kinds_of LineWord.Io)
is_count_of LineWord.Fix n = nat_le (length (kinds_of LineWord.Fix)) n
is_count_of LineWord.Round n = n == length (kinds_of LineWord.Round)
is_count_of LineWord.Drain n = n == length (kinds_of LineWord.Drain)
is_count_of LineWord.Late n = n == length (kinds_of LineWord.Late)
is_count_of LineWord.Close n = n == length (kinds_of LineWord.Close)
is_count_of LineWord.Power n = n == length (kinds_of LineWord.Power)
is_count_of LineWord.Fuse n = n == length (kinds_of LineWord.Fuse)

-- what a field of this kind says
abbrev pub Said : FieldKind → Type 0
Said ImeiField = ℕ
Said WhoseField = Who
Said (NumberField low high) = ℕ
Said (SignedField limit) = ℤ
Said LimitField = Option ℕ
Said CodecField = Codec
Said OrderField = Order
Said FlagField = Bool
Said OperandField = Operand
Said TearField = Tear

-- what was found, or else this fault
abbrev pub found_or : {A : Type 0} → ScriptFault → Option A → Result A ScriptFault
found_or fault None = Err fault
found_or fault (Some x) = Ok x

-- what was found, made into something more
abbrev pub made_or : {A B : Type 0} → ScriptFault → (A → B) → Option A → Result B ScriptFault
made_or fault make None = Err fault
made_or fault make (Some x) = Ok (make x)

-- what a field says, or its fault
abbrev pub read_field : (kind : FieldKind) → List ℕ → Result (Said kind) ScriptFault
read_field ImeiField text = found_or BadImei (imei_of text)
read_field WhoseField text = if bytes_eq text (codes "server") then Ok Who.Server else made_or BadImei Who.Device (imei_of text)
read_field (NumberField low high) text = found_or BadNumber (number_within low high text)
read_field (SignedField limit) text = found_or BadNumber (signed_within limit text)
read_field LimitField text = if bytes_eq text (codes "-") then Ok None else made_or BadNumber (λ n. Some n) (number_within 0 (2 ^ 32 - 1) text)
read_field CodecField text = found_or BadChoice (named codec_name codecs text)
read_field OrderField text = found_or BadChoice (named order_name orders text)
read_field FlagField text = found_or BadChoice (named flag_name flags text)
read_field OperandField text = found_or BadChoice (named operand_name operands text)
read_field TearField text = found_or BadChoice (named tear_name tears text)

abbrev pub spell_whose : Who → List ℕ
spell_whose (Who.Device imei) = imei_text imei
spell_whose Who.Server = codes "server"

abbrev pub spell_limit : Option ℕ → List ℕ
spell_limit None = codes "-"
spell_limit (Some n) = decimal n

-- how a field says it
abbrev pub spell_field : (kind : FieldKind) → Said kind → List ℕ
spell_field ImeiField said = imei_text said
spell_field WhoseField said = spell_whose said
spell_field (NumberField low high) said = decimal said
spell_field (SignedField limit) said = signed_decimal said
spell_field LimitField said = spell_limit said
spell_field CodecField said = codec_name said
spell_field OrderField said = order_name said
spell_field FlagField said = flag_name said
spell_field OperandField said = operand_name said
spell_field TearField said = tear_name said

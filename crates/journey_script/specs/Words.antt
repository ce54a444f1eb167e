-- The words of a script: those that begin a line, and those that are a field's choices (this project's own).
use Rattle.std.specs.Prelude.{ℕ, Bool, true, false, List, [], ◌∷◌, Option, find, codes}
use Rattle.std.specs.Str.{bytes_eq}
use Rattle.avl_values.specs.declared.codec.Codec.{Codec}
use Rattle.avl_values.specs.declared.codec.Codec.TheVariants.{C8, C8E, C16}
use Rattle.avl_values.specs.declared.order.Order.{Order}
use Rattle.avl_values.specs.declared.order.Order.TheVariants.{Oldest, Newest}
use Rattle.io_operands.specs.declared.setting.Operand.{Operand}
use Rattle.medium_model.specs.declared.bench.Tear.{Tear}
use Rattle.journey_script.specs.declared.word.LineWord.{LineWord}

-- the one of these that has this name
abbrev pub named : {A : Type 0} → (A → List ℕ) → List A → List ℕ → Option A
named name all text = find (λ x. bytes_eq (name x) text) all

abbrev pub word_name : LineWord → List ℕ
word_name LineWord.Device = codes "device"
word_name LineWord.Io = codes "io"
word_name LineWord.Fix = codes "fix"
word_name LineWord.Round = codes "round"
word_name LineWord.Drain = codes "drain"
word_name LineWord.Late = codes "late"
word_name LineWord.Close = codes "close"
word_name LineWord.Power = codes "power"
word_name LineWord.Fuse = codes "fuse"

abbrev pub line_words : List LineWord
line_words = LineWord.Fix ∷ LineWord.Round ∷ LineWord.Late ∷ LineWord.Close ∷ LineWord.Drain ∷ LineWord.Power ∷ LineWord.Fuse ∷ LineWord.Device ∷ LineWord.Io ∷ []

unfoldable pub line_word : List ℕ → Option LineWord
line_word text = named word_name line_words text

abbrev pub codec_name : Codec → List ℕ
codec_name C8 = codes "8"
codec_name C8E = codes "8E"
codec_name C16 = codes "16"

abbrev pub codecs : List Codec
codecs = C8 ∷ C8E ∷ C16 ∷ []

abbrev pub order_name : Order → List ℕ
order_name Oldest = codes "oldest"
order_name Newest = codes "newest"

abbrev pub orders : List Order
orders = Oldest ∷ Newest ∷ []

-- whether the server knows a device
abbrev pub flag_name : Bool → List ℕ
flag_name true = codes "known"
flag_name false = codes "stranger"

abbrev pub flags : List Bool
flags = true ∷ false ∷ []

abbrev pub operand_name : Operand → List ℕ
operand_name Operand.Exit = codes "exit"
operand_name Operand.Entrance = codes "entrance"
operand_name Operand.Both = codes "both"
operand_name Operand.Hysteresis = codes "hysteresis"
operand_name Operand.Change = codes "change"
operand_name Operand.Monitoring = codes "monitoring"

abbrev pub operands : List Operand
operands = Operand.Exit ∷ Operand.Entrance ∷ Operand.Both ∷ Operand.Hysteresis ∷ Operand.Change ∷ Operand.Monitoring ∷ []

abbrev pub tear_name : Tear → List ℕ
tear_name Tear.Keep = codes "keep"
tear_name Tear.New = codes "new"
tear_name Tear.Zero = codes "zero"
tear_name Tear.AllOpen = codes "open"
tear_name Tear.Half = codes "half"

abbrev pub tears : List Tear
tears = Tear.Keep ∷ Tear.New ∷ Tear.Zero ∷ Tear.AllOpen ∷ Tear.Half ∷ []

-- What answers a command (Teltonika, Data Sending Protocols: Codecs 12 and 14; that a device with another IMEI isn't asked is
-- Codec 14's refusal of type 11).
use Rattle.std.specs.Prelude.{ℕ, ◌==◌, Bool, true, false, List, [], length, Option, Some, None}
use Rattle.layout.specs.Rows.{Verdict, whole, short, fault}
use Rattle.command_layout.specs.CommandRows.{command_verdict}
use Rattle.command_layout.specs.Values.{CommandValue}
use Rattle.command_layout.specs.declared.way.Way.{Way}

-- what a whole verdict says
abbrev pub said : {V : Type 0} → Verdict V → Option V
said (whole v n) = Some v
said short = None
said (fault kind place) = None

-- the command of this way that a body is, if it is one
abbrev pub value_in : Way → List ℕ → Option CommandValue
value_in way body = said (command_verdict way (length body) body)

-- where a command names no IMEI (Codec 12), or the device's own
abbrev pub is_own : ℕ → Option ℕ → Bool
is_own own None = true
is_own own (Some imei) = imei == own

-- the device's own IMEI, where the command names one
abbrev pub own_where : ℕ → Option ℕ → Option ℕ
own_where own None = None
own_where own (Some imei) = Some own

-- Whether the device's shell is asked.
abbrev pub asks_shell : ℕ → CommandValue → Bool
asks_shell own v = is_own own v.imei

-- a response of type 06 with this text, or a refusal of type 11 with none
abbrev pub response_by : Bool → ℕ → Option ℕ → List ℕ → CommandValue
response_by true codec imei text = record { codec = codec; kind = 0x06; time = None; imei = imei; text = text }
response_by false codec imei text = record { codec = codec; kind = 0x11; time = None; imei = imei; text = [] }

-- The answer to a command, by the text that the shell gives to the command's text: of the command's codec, with the device's own
-- IMEI where the command names one. Where the shell isn't asked it is a refusal.
abbrev pub answer_to : ℕ → List ℕ → CommandValue → CommandValue
answer_to own text v = response_by (asks_shell own v) v.codec (own_where own v.imei) text

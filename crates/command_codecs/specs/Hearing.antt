-- What a command has said so far, as the code holds it.
use Rattle.std.specs.Prelude.{◌≡◌, List, [], ℕ, None}
use Rattle.command_layout.specs.Spelling.{ImeiFits}
use Rattle.command_layout.specs.Values.{CommandValue}
use Rattle.command_codecs.specs.declared.hearing.Said.{Said}

abbrev pub nothing_said : CommandValue
nothing_said = record { codec = 0; kind = 0; time = None; imei = None; text = [] }

-- the code holds what this value says before its text, and the IMEI as long as it is one
pub record Says (s : Said) (v : CommandValue) : Type 0 where
  pub codec : s.codec ≡ v.codec
  pub kind : s.kind ≡ v.kind
  pub time : s.time ≡ v.time
  pub imei : ImeiFits v.imei → s.imei ≡ v.imei

abbrev pub with_text : Said → List ℕ → CommandValue
with_text s text = record { codec = s.codec; kind = s.kind; time = s.time; imei = s.imei; text = text }

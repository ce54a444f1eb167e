-- What a capture says (this project's own).
use Rattle.std.specs.Prelude.{ℕ, ◌^◌, List, [], ◌∷◌, Option, Some, None, Result, Ok, Err, if◌then◌else◌, length, nat_lt, codes}
use Rattle.std.specs.Result.{result_unwrap_or}
use Rattle.hex.specs.Hex.{decode_of}
use Rattle.hex.specs.declared.error.FromHexError.{FromHexError}
use Rattle.text_lines.specs.Cuts.{cut_at}
use Rattle.text_lines.specs.Lines.{content_lines}
use Rattle.capture_text.specs.Words.{word_of}
use Rattle.capture_text.specs.declared.fault.CaptureFault.{CaptureFault}
use Rattle.capture_text.specs.declared.fault.CaptureFault.TheVariants.{BadHex, TextTooLong, UnknownWord}
use Rattle.capture_text.specs.declared.fault.CaptureRefusal.{CaptureRefusal}
use Rattle.capture_text.specs.declared.word.CaptureWord.{CaptureWord}

-- a line of a capture: its number in the text, its word, and the bytes that its digits spell
pub record LineValue : Type 0 where
  pub number : ℕ
  pub word : CaptureWord
  pub bytes : List ℕ

-- the word with the bytes that were decoded
abbrev pub with_bytes : CaptureWord → Result (List ℕ) FromHexError → Result (CaptureWord × List ℕ) CaptureFault
with_bytes word (Ok bytes) = Ok (word, bytes)
with_bytes word (Err e) = Err BadHex

-- the word with the digits after its space; None where there is no space
abbrev pub with_digits : Option CaptureWord → Option (List ℕ) → Result (CaptureWord × List ℕ) CaptureFault
with_digits None digits = Err UnknownWord
with_digits (Some word) None = Err BadHex
with_digits (Some word) (Some digits) = with_bytes word (decode_of digits)

-- a line by its parts before and after its first space
abbrev pub parts_say : List ℕ → Option (List ℕ × List ℕ) → Result (CaptureWord × List ℕ) CaptureFault
parts_say line None = with_digits (word_of line) None
parts_say line (Some parts) = with_digits (word_of parts.0) (Some parts.1)

-- what a line that isn't skipped says: a word, one space, and an even number of hexadecimal digits of either case
unfoldable pub line_says : List ℕ → Result (CaptureWord × List ℕ) CaptureFault
line_says line = parts_say line (cut_at 32 line)

-- a line before others: the first faulty one decides
abbrev pub before : ℕ → Result (CaptureWord × List ℕ) CaptureFault → Result (List LineValue) CaptureRefusal → Result (List LineValue) CaptureRefusal
before number (Err fault) more = Err (record { line = number; fault = fault })
before number (Ok said) (Err refusal) = Err refusal
before number (Ok said) (Ok lines) = Ok (record { number = number; word = said.0; bytes = said.1 } ∷ lines)

-- what numbered lines say
unfoldable pub lines_say : List (ℕ × List ℕ) → Result (List LineValue) CaptureRefusal
lines_say [] = Ok []
lines_say (line ∷ more) = before line.0 (line_says line.1) (lines_say more)

-- what a text says as a capture, or its first fault; a text that is too long is refused as line 0
unfoldable pub capture_of : List ℕ → Result (List LineValue) CaptureRefusal
capture_of text = if nat_lt (2 ^ 24) (length text) then Err (record { line = 0; fault = TextTooLong }) else lines_say (content_lines text)

-- what lines without a fault say
abbrev pub said_by : List (ℕ × List ℕ) → List LineValue
said_by lines = result_unwrap_or (lines_say lines) []

-- the bytes that pairs of digits spell
abbrev pub bytes_of : List ℕ → List ℕ
bytes_of digits = result_unwrap_or (decode_of digits) []

abbrev pub fault_name : CaptureFault → List ℕ
fault_name TextTooLong = codes "TextTooLong"
fault_name UnknownWord = codes "UnknownWord"
fault_name BadHex = codes "BadHex"

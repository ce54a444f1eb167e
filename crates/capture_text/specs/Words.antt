-- The words of a capture's lines (this project's own).
use Rattle.std.specs.Prelude.{ℕ, List, [], ◌∷◌, Option, find, codes}
use Rattle.std.specs.Str.{bytes_eq}
use Rattle.capture_text.specs.declared.word.CaptureWord.{CaptureWord}
use Rattle.capture_text.specs.declared.word.CaptureWord.TheVariants.{Answers, Down, Frames, Reply, Udp, Up}

abbrev pub capture_words : List CaptureWord
capture_words = Up ∷ Frames ∷ Down ∷ Answers ∷ Udp ∷ Reply ∷ []

abbrev pub name_of : CaptureWord → List ℕ
name_of Up = codes "up"
name_of Frames = codes "frames"
name_of Down = codes "down"
name_of Answers = codes "answers"
name_of Udp = codes "udp"
name_of Reply = codes "reply"

-- the word of this name
unfoldable pub word_of : List ℕ → Option CaptureWord
word_of name = find (λ word. bytes_eq (name_of word) name) capture_words

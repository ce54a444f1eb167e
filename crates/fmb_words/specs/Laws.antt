-- The laws of lists of words.
use Rattle.std.specs.Prelude.{◌≡◌, ◌⊎◌, ℕ, false, true, List, [], ◌∷◌, Some, None, option_map, codes}
use Rattle.fmb_words.specs.PlainWords.{IsPlainWord, IsServeForm, names_command}
use Rattle.fmb_words.specs.Values.{drive, made, serve, show, trial}
use Rattle.fmb_words.specs.Words.{made_asked, serve_asked, words_of}

-- A command of one file and a plain word ask for that command with that file. A trial's report is brief where `--brief` follows.
abbrev pub PlainFileIsTaken : Type 0
PlainFileIsTaken = (file : List ℕ) → IsPlainWord file
    → (words_of (codes "show" ∷ file ∷ []) ≡ Some (show file)) × (words_of (codes "trial" ∷ file ∷ []) ≡ Some (trial file false))
    × (words_of (codes "trial" ∷ file ∷ codes "--brief" ∷ []) ≡ Some (trial file true))

-- Words of which the first names no command are refused, and so are no words.
abbrev pub OtherCommandIsRefused : Type 0
OtherCommandIsRefused = (words : List (List ℕ)) → names_command words ≡ false → words_of words ≡ None

-- A word alone is refused.
abbrev pub NoFileIsRefused : Type 0
NoFileIsRefused = (word : List ℕ) → words_of (word ∷ []) ≡ None

-- Two files are refused of a command of one, whatever follows them.
abbrev pub SecondFileIsRefused : Type 0
SecondFileIsRefused = (word file second : List ℕ) (rest : List (List ℕ)) → (word ≡ codes "show") ⊎ (word ≡ codes "trial")
    → IsPlainWord file → IsPlainWord second → words_of (word ∷ file ∷ second ∷ rest) ≡ None

-- Help isn't given, neither in place of a first word nor after it.
abbrev pub HelpIsRefused : Type 0
HelpIsRefused = (word file help : List ℕ) (rest : List (List ℕ)) → IsPlainWord file → (help ≡ codes "--help") ⊎ (help ≡ codes "-h")
    → (words_of (word ∷ help ∷ rest) ≡ None) × (words_of (word ∷ file ∷ help ∷ rest) ≡ None)

-- `made` with three plain words asks for just that, and is refused where one isn't a number in its range.
abbrev pub PlainMadeIsRead : Type 0
PlainMadeIsRead = (seed devices fixes : List ℕ) → IsPlainWord seed → IsPlainWord devices → IsPlainWord fixes
    → words_of (codes "made" ∷ seed ∷ devices ∷ fixes ∷ []) ≡ option_map made (made_asked seed devices fixes)

-- `serve` with an address, an archive, no or more IMEIs and its two options asks for just that, and is refused where a number or an IMEI
-- isn't one.
abbrev pub PlainServeIsRead : Type 0
PlainServeIsRead = (words : List (List ℕ)) (address archive : List ℕ) (imeis : List (List ℕ)) (workers sessions : List ℕ)
    → IsServeForm words address archive imeis workers sessions
    → words_of (codes "serve" ∷ words) ≡ option_map serve (serve_asked address archive imeis workers sessions)

-- `drive` with an address, a flash and a script asks for just that.
abbrev pub PlainDriveIsRead : Type 0
PlainDriveIsRead = (address flash script : List ℕ) → IsPlainWord address → IsPlainWord flash → IsPlainWord script
    → words_of (codes "drive" ∷ address ∷ flash ∷ script ∷ []) ≡ Some (drive (record { address = address; flash = flash; script = script }))

-- With fewer words or more it is refused, whatever follows them.
abbrev pub OtherDriveIsRefused : Type 0
OtherDriveIsRefused = (address flash script fourth : List ℕ) (rest : List (List ℕ)) → IsPlainWord address → IsPlainWord flash → IsPlainWord script → IsPlainWord fourth
    → (words_of (codes "drive" ∷ address ∷ []) ≡ None) × (words_of (codes "drive" ∷ address ∷ flash ∷ []) ≡ None)
    × (words_of (codes "drive" ∷ address ∷ flash ∷ script ∷ fourth ∷ rest) ≡ None)

-- Words that stand for themselves (this project's own).
use Rattle.std.specs.Prelude.{◌≡◌, ◌≢◌, ◌⊎◌, ◌<◌, ◌^◌, ℕ, Bool, false, List, [], ◌∷◌, ◌++◌, length, is_some, codes}
use Rattle.fmb_words.specs.Commands.{command_of}

-- the word isn't empty and doesn't begin with a hyphen (45)
abbrev pub IsPlainWord : List ℕ → Type 0
IsPlainWord [] = ⊥
IsPlainWord (first ∷ rest) = first ≢ 45

abbrev pub ArePlainWords : List (List ℕ) → Type 0
ArePlainWords [] = Unit {0}
ArePlainWords (word ∷ words) = IsPlainWord word × ArePlainWords words

-- whether the first word names a command
abbrev pub names_command : List (List ℕ) → Bool
names_command [] = false
names_command (word ∷ rest) = is_some (command_of word)

-- the options of `serve` with their values, in either order
abbrev pub AreOptions : List (List ℕ) → List ℕ → List ℕ → Type 0
AreOptions words workers sessions =
    (words ≡ codes "--workers" ∷ workers ∷ codes "--sessions" ∷ sessions ∷ [])
    ⊎ (words ≡ codes "--sessions" ∷ sessions ∷ codes "--workers" ∷ workers ∷ [])

-- `ADDRESS ARCHIVE [IMEI ..]`, and then the options
pub record IsServeForm (words : List (List ℕ)) (address archive : List ℕ) (imeis : List (List ℕ)) (workers sessions : List ℕ) : Type 0 where
  pub options : List (List ℕ)
  pub words_are : words ≡ address ∷ archive ∷ (imeis ++ options)
  pub options_are : AreOptions options workers sessions
  pub address_plain : IsPlainWord address
  pub archive_plain : IsPlainWord archive
  pub imeis_plain : ArePlainWords imeis
  pub workers_plain : IsPlainWord workers
  pub sessions_plain : IsPlainWord sessions
  pub few : length imeis < 2 ^ 63

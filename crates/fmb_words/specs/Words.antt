-- What a list of words says: the first names the command, and clap reads the rest (this project's own).
use Rattle.std.specs.Prelude.{◌^◌, ◌-◌, Bool, false, List, [], ◌∷◌, Option, None, Some, option_and_then, option_map, unwrap_or, codes}
use Rattle.std.specs.Str.{bytes_eq}
use Rattle.clap.specs.Words.{Kinds, Row, Text, all_of, fault_of, first_of, matches_of}
use Rattle.fmb_words.specs.Commands as of
use Rattle.fmb_words.specs.Commands.{Command, command_of, drive_app, file_app, made_app, serve_app, trial_app}
use Rattle.fmb_words.specs.Numbers.{imeis_of, number_within}
use Rattle.fmb_words.specs.Values.{DriveValue, MadeValue, ServeValue, WordsValue, drive, made, serve, show, trial}

-- nothing, where there is a fault
abbrev pub unless_fault : {T : Type 0} → Kinds → Option T → Option T
unless_fault [] read = read
unless_fault (kind ∷ more) read = None

-- the FILE that clap reads of a command's words, of which the first is the command's own; None where clap refuses them
unfoldable pub file_of : Text → List Text → Option Text
file_of name words = unless_fault (fault_of (file_app name) words) (first_of (codes "FILE") (matches_of (file_app name) words))

-- whether a flag was given, by the text that clap keeps of it
abbrev pub is_set : Option Text → Bool
is_set None = false
is_set (Some text) = bytes_eq text (codes "true")

-- what clap's matches ask for
unfoldable pub trial_read : List Row → Option WordsValue
trial_read rows = option_map (λ file. trial file (is_set (first_of (codes "brief") rows))) (first_of (codes "FILE") rows)

-- what clap reads of the words of `trial`, of which the first is the command's own; None where clap refuses them
unfoldable pub trial_of : List Text → Option WordsValue
trial_of words = unless_fault (fault_of trial_app words) (trial_read (matches_of trial_app words))

-- what the words of `made` ask for, one by one: a seed below 2^64, 1 to 64 devices, 1 to 100,000 fixes; None where one isn't that
unfoldable pub made_asked : Text → Text → Text → Option MadeValue
made_asked seed devices fixes =
    option_and_then (λ s. option_and_then (λ d. option_map (λ f. record { seed = s; devices = d; fixes = f })
    (number_within 1 100000 fixes)) (number_within 1 64 devices)) (number_within 0 (2 ^ 64 - 1) seed)

-- the same of words that are there or not
abbrev pub made_given : Option Text → Option Text → Option Text → Option MadeValue
made_given seed devices fixes = option_and_then (λ s. option_and_then (λ d. option_and_then (λ f. made_asked s d f) fixes) devices) seed

-- what clap's matches ask for
unfoldable pub made_read : List Row → Option MadeValue
made_read rows = made_given (first_of (codes "SEED") rows) (first_of (codes "DEVICES") rows) (first_of (codes "FIXES") rows)

-- what clap reads of the words of `made`, of which the first is the command's own; None where clap refuses them
unfoldable pub made_of : List Text → Option MadeValue
made_of words = unless_fault (fault_of made_app words) (made_read (matches_of made_app words))

-- what the words of `serve` ask for, one by one: 1 to 64 workers, 1 to 100,000 sessions each, and IMEIs; None where one isn't that
unfoldable pub serve_asked : Text → Text → List Text → Text → Text → Option ServeValue
serve_asked address archive imeis workers sessions =
    option_and_then (λ ds. option_and_then (λ w. option_map (λ k. record { address = address; archive = archive; devices = ds; workers = w; sessions = k })
    (number_within 1 100000 sessions)) (number_within 1 64 workers)) (imeis_of imeis)

-- the same of words that are there or not
abbrev pub serve_given : Option Text → Option Text → List Text → Option Text → Option Text → Option ServeValue
serve_given address archive imeis workers sessions =
    option_and_then (λ a. option_and_then (λ f. option_and_then (λ w. option_and_then (λ k. serve_asked a f imeis w k) sessions) workers) archive) address

-- what clap's matches ask for
unfoldable pub serve_read : List Row → Option ServeValue
serve_read rows = serve_given (first_of (codes "ADDRESS") rows) (first_of (codes "ARCHIVE") rows) (unwrap_or (all_of (codes "IMEI") rows) [])
    (first_of (codes "workers") rows) (first_of (codes "sessions") rows)

-- what clap reads of the words of `serve`, of which the first is the command's own; None where clap refuses them
unfoldable pub serve_of : List Text → Option ServeValue
serve_of words = unless_fault (fault_of serve_app words) (serve_read (matches_of serve_app words))

-- what the words of `drive` ask for, which are there or not
abbrev pub drive_given : Option Text → Option Text → Option Text → Option DriveValue
drive_given address flash script = option_and_then (λ a. option_and_then (λ f. option_map (λ s. record { address = a; flash = f; script = s }) script) flash) address

-- what clap's matches ask for
unfoldable pub drive_read : List Row → Option DriveValue
drive_read rows = drive_given (first_of (codes "ADDRESS") rows) (first_of (codes "FLASH") rows) (first_of (codes "SCRIPT") rows)

-- what clap reads of the words of `drive`, of which the first is the command's own; None where clap refuses them
unfoldable pub drive_of : List Text → Option DriveValue
drive_of words = unless_fault (fault_of drive_app words) (drive_read (matches_of drive_app words))

-- what a command's words ask for
unfoldable pub asked_of : Command → List Text → Option WordsValue
asked_of of.show words = option_map show (file_of (codes "show") words)
asked_of of.trial words = trial_of words
asked_of of.made words = option_map made (made_of words)
asked_of of.serve words = option_map serve (serve_of words)
asked_of of.drive words = option_map drive (drive_of words)

-- what the words after the program's name ask for; None where they are refused
unfoldable pub words_of : List Text → Option WordsValue
words_of [] = None
words_of (word ∷ rest) = option_and_then (λ command. asked_of command (word ∷ rest)) (command_of word)

-- What clap makes of a word that isn't empty and doesn't begin with a hyphen.
use Rattle.std.proofs.Common.{◌≡◌, false, true, List, [], ◌∷◌, Some, None, refl, codes, ne_eqb}
use Rattle.std.specs.Str.{bytes_eq}
use Rattle.clap.specs.Lexer.{short_of, strip_byte}
use Rattle.clap.specs.Words.{Text, fault_of, first_of, is_simple, is_simple_and_free, matches_of}
use Rattle.clap.specs.declared.error.kind.ErrorKind.TheVariants.{UnknownArgument, MissingRequiredArgument}
use Rattle.clap.proofs.OnLiterals.{clap_on_literals}
use Rattle.fmb_words.specs.Commands.{drive_app, file_app, made_app, serve_app, trial_app}
use Rattle.fmb_words.specs.PlainWords.{IsPlainWord}

pub no_hyphen : (w : Text) → IsPlainWord w → strip_byte 45 w ≡ None
no_hyphen [] h = absurd h
no_hyphen (x ∷ xs) h = rw (ne_eqb x 45 h) refl

pub no_dashes : (w : Text) → IsPlainWord w → bytes_eq w (45 ∷ 45 ∷ []) ≡ false
no_dashes [] h = absurd h
no_dashes (x ∷ xs) h = rw (ne_eqb x 45 h) refl

pub no_short : (w : Text) → IsPlainWord w → short_of w ≡ None
no_short w h = rw (no_hyphen w h) refl

-- the command after a word's name is one whose parse is told whole
pub file_is_plain : (name : Text) → is_simple (file_app name) ≡ true
unfolding file_app clap_on_literals
file_is_plain name = refl

pub file_is_free : (name : Text) → is_simple_and_free (file_app name) ≡ true
unfolding file_app clap_on_literals
file_is_free name = refl

-- a plain file is taken
pub file_taken : (name command w : Text) → IsPlainWord w → fault_of (file_app name) (command ∷ w ∷ []) ≡ []
unfolding file_app clap_on_literals
file_taken name command w h = rw (no_hyphen w h, no_dashes w h, no_short w h) (refl {a = []})

pub file_read : (name command w : Text) → IsPlainWord w → first_of (codes "FILE") (matches_of (file_app name) (command ∷ w ∷ [])) ≡ Some w
unfolding file_app clap_on_literals
file_read name command w h = rw (no_hyphen w h, no_dashes w h, no_short w h) (refl {a = Some w})

-- no file is refused
pub missing_refused : (name command : Text) → fault_of (file_app name) (command ∷ []) ≡ MissingRequiredArgument ∷ []
unfolding file_app clap_on_literals
missing_refused name command = refl

-- and so are a second one, and help, whatever follows
pub second_refused : (name command w v : Text) (rest : List Text) → IsPlainWord w → IsPlainWord v
    → fault_of (file_app name) (command ∷ w ∷ v ∷ rest) ≡ UnknownArgument ∷ []
unfolding file_app clap_on_literals
second_refused name command w v rest h k = rw (no_hyphen w h, no_dashes w h, no_short w h, no_hyphen v k, no_dashes v k, no_short v k) refl

pub help_refused : (name command : Text) (rest : List Text) → fault_of (file_app name) (command ∷ codes "--help" ∷ rest) ≡ UnknownArgument ∷ []
unfolding file_app clap_on_literals
help_refused name command rest = refl

pub short_help_refused : (name command : Text) (rest : List Text) → fault_of (file_app name) (command ∷ codes "-h" ∷ rest) ≡ UnknownArgument ∷ []
unfolding file_app clap_on_literals
short_help_refused name command rest = refl

pub later_help_refused : (name command w : Text) (rest : List Text) → IsPlainWord w → fault_of (file_app name) (command ∷ w ∷ codes "--help" ∷ rest) ≡ UnknownArgument ∷ []
unfolding file_app clap_on_literals
later_help_refused name command w rest h = rw (no_hyphen w h, no_dashes w h, no_short w h) refl

pub later_short_help_refused : (name command w : Text) (rest : List Text) → IsPlainWord w → fault_of (file_app name) (command ∷ w ∷ codes "-h" ∷ rest) ≡ UnknownArgument ∷ []
unfolding file_app clap_on_literals
later_short_help_refused name command w rest h = rw (no_hyphen w h, no_dashes w h, no_short w h) refl

-- the same of a trial, whose report may be brief
pub trial_is_plain : is_simple trial_app ≡ true
unfolding trial_app clap_on_literals
trial_is_plain = refl

pub trial_is_free : is_simple_and_free trial_app ≡ true
unfolding trial_app clap_on_literals
trial_is_free = refl

pub trial_taken : (command w : Text) → IsPlainWord w → fault_of trial_app (command ∷ w ∷ []) ≡ []
unfolding trial_app clap_on_literals
trial_taken command w h = rw (no_hyphen w h, no_dashes w h, no_short w h) (refl {a = []})

pub trial_file : (command w : Text) → IsPlainWord w → first_of (codes "FILE") (matches_of trial_app (command ∷ w ∷ [])) ≡ Some w
unfolding trial_app clap_on_literals
trial_file command w h = rw (no_hyphen w h, no_dashes w h, no_short w h) (refl {a = Some w})

pub trial_unset : (command w : Text) → IsPlainWord w → first_of (codes "brief") (matches_of trial_app (command ∷ w ∷ [])) ≡ Some (codes "false")
unfolding trial_app clap_on_literals
trial_unset command w h = rw (no_hyphen w h, no_dashes w h, no_short w h) refl

pub brief_taken : (command w : Text) → IsPlainWord w → fault_of trial_app (command ∷ w ∷ codes "--brief" ∷ []) ≡ []
unfolding trial_app clap_on_literals
brief_taken command w h = rw (no_hyphen w h, no_dashes w h, no_short w h) (refl {a = []})

pub brief_file : (command w : Text) → IsPlainWord w → first_of (codes "FILE") (matches_of trial_app (command ∷ w ∷ codes "--brief" ∷ [])) ≡ Some w
unfolding trial_app clap_on_literals
brief_file command w h = rw (no_hyphen w h, no_dashes w h, no_short w h) (refl {a = Some w})

pub brief_set : (command w : Text) → IsPlainWord w → first_of (codes "brief") (matches_of trial_app (command ∷ w ∷ codes "--brief" ∷ [])) ≡ Some (codes "true")
unfolding trial_app clap_on_literals
brief_set command w h = rw (no_hyphen w h, no_dashes w h, no_short w h) refl

pub trial_second_refused : (command w v : Text) (rest : List Text) → IsPlainWord w → IsPlainWord v → fault_of trial_app (command ∷ w ∷ v ∷ rest) ≡ UnknownArgument ∷ []
unfolding trial_app clap_on_literals
trial_second_refused command w v rest h k = rw (no_hyphen w h, no_dashes w h, no_short w h, no_hyphen v k, no_dashes v k, no_short v k) refl

pub trial_missing_refused : (command : Text) → fault_of trial_app (command ∷ []) ≡ MissingRequiredArgument ∷ []
unfolding trial_app clap_on_literals
trial_missing_refused command = refl

pub trial_help_refused : (command : Text) (rest : List Text) → fault_of trial_app (command ∷ codes "--help" ∷ rest) ≡ UnknownArgument ∷ []
unfolding trial_app clap_on_literals
trial_help_refused command rest = refl

pub trial_short_help_refused : (command : Text) (rest : List Text) → fault_of trial_app (command ∷ codes "-h" ∷ rest) ≡ UnknownArgument ∷ []
unfolding trial_app clap_on_literals
trial_short_help_refused command rest = refl

pub trial_later_help_refused : (command w : Text) (rest : List Text) → IsPlainWord w → fault_of trial_app (command ∷ w ∷ codes "--help" ∷ rest) ≡ UnknownArgument ∷ []
unfolding trial_app clap_on_literals
trial_later_help_refused command w rest h = rw (no_hyphen w h, no_dashes w h, no_short w h) refl

pub trial_later_short_help_refused : (command w : Text) (rest : List Text) → IsPlainWord w → fault_of trial_app (command ∷ w ∷ codes "-h" ∷ rest) ≡ UnknownArgument ∷ []
unfolding trial_app clap_on_literals
trial_later_short_help_refused command w rest h = rw (no_hyphen w h, no_dashes w h, no_short w h) refl

-- the same of the words of `made`
pub made_is_plain : is_simple made_app ≡ true
unfolding made_app clap_on_literals
made_is_plain = refl

pub made_is_free : is_simple_and_free made_app ≡ true
unfolding made_app clap_on_literals
made_is_free = refl

module _ (command a b c : Text) (ha : IsPlainWord a) (hb : IsPlainWord b) (hc : IsPlainWord c) where
  pub made_taken : fault_of made_app (command ∷ a ∷ b ∷ c ∷ []) ≡ []
  unfolding made_app clap_on_literals
  made_taken = rw (no_hyphen a ha, no_dashes a ha, no_short a ha, no_hyphen b hb, no_dashes b hb, no_short b hb, no_hyphen c hc, no_dashes c hc, no_short c hc) (refl {a = []})

  pub made_seed : first_of (codes "SEED") (matches_of made_app (command ∷ a ∷ b ∷ c ∷ [])) ≡ Some a
  unfolding made_app clap_on_literals
  made_seed = rw (no_hyphen a ha, no_dashes a ha, no_short a ha, no_hyphen b hb, no_dashes b hb, no_short b hb, no_hyphen c hc, no_dashes c hc, no_short c hc) (refl {a = Some a})

  pub made_devices : first_of (codes "DEVICES") (matches_of made_app (command ∷ a ∷ b ∷ c ∷ [])) ≡ Some b
  unfolding made_app clap_on_literals
  made_devices = rw (no_hyphen a ha, no_dashes a ha, no_short a ha, no_hyphen b hb, no_dashes b hb, no_short b hb, no_hyphen c hc, no_dashes c hc, no_short c hc) (refl {a = Some b})

  pub made_fixes : first_of (codes "FIXES") (matches_of made_app (command ∷ a ∷ b ∷ c ∷ [])) ≡ Some c
  unfolding made_app clap_on_literals
  made_fixes = rw (no_hyphen a ha, no_dashes a ha, no_short a ha, no_hyphen b hb, no_dashes b hb, no_short b hb, no_hyphen c hc, no_dashes c hc, no_short c hc) (refl {a = Some c})

pub made_missing_refused : (command : Text) → fault_of made_app (command ∷ []) ≡ MissingRequiredArgument ∷ []
unfolding made_app clap_on_literals
made_missing_refused command = refl

pub made_help_refused : (command : Text) (rest : List Text) → fault_of made_app (command ∷ codes "--help" ∷ rest) ≡ UnknownArgument ∷ []
unfolding made_app clap_on_literals
made_help_refused command rest = refl

pub made_short_help_refused : (command : Text) (rest : List Text) → fault_of made_app (command ∷ codes "-h" ∷ rest) ≡ UnknownArgument ∷ []
unfolding made_app clap_on_literals
made_short_help_refused command rest = refl

pub made_later_help_refused : (command w : Text) (rest : List Text) → IsPlainWord w → fault_of made_app (command ∷ w ∷ codes "--help" ∷ rest) ≡ UnknownArgument ∷ []
unfolding made_app clap_on_literals
made_later_help_refused command w rest h = rw (no_hyphen w h, no_dashes w h, no_short w h) refl

pub made_later_short_help_refused : (command w : Text) (rest : List Text) → IsPlainWord w → fault_of made_app (command ∷ w ∷ codes "-h" ∷ rest) ≡ UnknownArgument ∷ []
unfolding made_app clap_on_literals
made_later_short_help_refused command w rest h = rw (no_hyphen w h, no_dashes w h, no_short w h) refl

-- the same of the words of `serve`
pub serve_is_plain : is_simple serve_app ≡ true
unfolding serve_app clap_on_literals
serve_is_plain = refl

pub serve_is_free : is_simple_and_free serve_app ≡ true
unfolding serve_app clap_on_literals
serve_is_free = refl

pub serve_missing_refused : (command : Text) → fault_of serve_app (command ∷ []) ≡ MissingRequiredArgument ∷ []
unfolding serve_app clap_on_literals
serve_missing_refused command = refl

pub serve_help_refused : (command : Text) (rest : List Text) → fault_of serve_app (command ∷ codes "--help" ∷ rest) ≡ UnknownArgument ∷ []
unfolding serve_app clap_on_literals
serve_help_refused command rest = refl

pub serve_short_help_refused : (command : Text) (rest : List Text) → fault_of serve_app (command ∷ codes "-h" ∷ rest) ≡ UnknownArgument ∷ []
unfolding serve_app clap_on_literals
serve_short_help_refused command rest = refl

pub serve_later_help_refused : (command w : Text) (rest : List Text) → IsPlainWord w → fault_of serve_app (command ∷ w ∷ codes "--help" ∷ rest) ≡ UnknownArgument ∷ []
unfolding serve_app clap_on_literals
serve_later_help_refused command w rest h = rw (no_hyphen w h, no_dashes w h, no_short w h) refl

pub serve_later_short_help_refused : (command w : Text) (rest : List Text) → IsPlainWord w → fault_of serve_app (command ∷ w ∷ codes "-h" ∷ rest) ≡ UnknownArgument ∷ []
unfolding serve_app clap_on_literals
serve_later_short_help_refused command w rest h = rw (no_hyphen w h, no_dashes w h, no_short w h) refl

-- the same of the words of `drive`
pub drive_is_plain : is_simple drive_app ≡ true
unfolding drive_app clap_on_literals
drive_is_plain = refl

pub drive_is_free : is_simple_and_free drive_app ≡ true
unfolding drive_app clap_on_literals
drive_is_free = refl

-- three plain words are taken
pub drive_taken : (command a f s : Text) → IsPlainWord a → IsPlainWord f → IsPlainWord s → fault_of drive_app (command ∷ a ∷ f ∷ s ∷ []) ≡ []
unfolding drive_app clap_on_literals
drive_taken command a f s h k l = rw (no_hyphen a h, no_dashes a h, no_short a h, no_hyphen f k, no_dashes f k, no_short f k, no_hyphen s l, no_dashes s l, no_short s l) (refl {a = []})

pub drive_address : (command a f s : Text) → IsPlainWord a → IsPlainWord f → IsPlainWord s → first_of (codes "ADDRESS") (matches_of drive_app (command ∷ a ∷ f ∷ s ∷ [])) ≡ Some a
unfolding drive_app clap_on_literals
drive_address command a f s h k l = rw (no_hyphen a h, no_dashes a h, no_short a h, no_hyphen f k, no_dashes f k, no_short f k, no_hyphen s l, no_dashes s l, no_short s l) (refl {a = Some a})

pub drive_flash : (command a f s : Text) → IsPlainWord a → IsPlainWord f → IsPlainWord s → first_of (codes "FLASH") (matches_of drive_app (command ∷ a ∷ f ∷ s ∷ [])) ≡ Some f
unfolding drive_app clap_on_literals
drive_flash command a f s h k l = rw (no_hyphen a h, no_dashes a h, no_short a h, no_hyphen f k, no_dashes f k, no_short f k, no_hyphen s l, no_dashes s l, no_short s l) (refl {a = Some f})

pub drive_script : (command a f s : Text) → IsPlainWord a → IsPlainWord f → IsPlainWord s → first_of (codes "SCRIPT") (matches_of drive_app (command ∷ a ∷ f ∷ s ∷ [])) ≡ Some s
unfolding drive_app clap_on_literals
drive_script command a f s h k l = rw (no_hyphen a h, no_dashes a h, no_short a h, no_hyphen f k, no_dashes f k, no_short f k, no_hyphen s l, no_dashes s l, no_short s l) (refl {a = Some s})

-- fewer are refused, and a fourth, whatever follows
pub drive_missing_refused : (command : Text) → fault_of drive_app (command ∷ []) ≡ MissingRequiredArgument ∷ []
unfolding drive_app clap_on_literals
drive_missing_refused command = refl

pub drive_one_refused : (command a : Text) → IsPlainWord a → fault_of drive_app (command ∷ a ∷ []) ≡ MissingRequiredArgument ∷ []
unfolding drive_app clap_on_literals
drive_one_refused command a h = rw (no_hyphen a h, no_dashes a h, no_short a h) refl

pub drive_two_refused : (command a f : Text) → IsPlainWord a → IsPlainWord f → fault_of drive_app (command ∷ a ∷ f ∷ []) ≡ MissingRequiredArgument ∷ []
unfolding drive_app clap_on_literals
drive_two_refused command a f h k = rw (no_hyphen a h, no_dashes a h, no_short a h, no_hyphen f k, no_dashes f k, no_short f k) refl

pub drive_four_refused : (command a f s v : Text) (rest : List Text) → IsPlainWord a → IsPlainWord f → IsPlainWord s → IsPlainWord v
    → fault_of drive_app (command ∷ a ∷ f ∷ s ∷ v ∷ rest) ≡ UnknownArgument ∷ []
unfolding drive_app clap_on_literals
drive_four_refused command a f s v rest h k l m = rw (no_hyphen a h, no_dashes a h, no_short a h, no_hyphen f k, no_dashes f k, no_short f k, no_hyphen s l, no_dashes s l, no_short s l, no_hyphen v m, no_dashes v m, no_short v m) refl

pub drive_help_refused : (command : Text) (rest : List Text) → fault_of drive_app (command ∷ codes "--help" ∷ rest) ≡ UnknownArgument ∷ []
unfolding drive_app clap_on_literals
drive_help_refused command rest = refl

pub drive_short_help_refused : (command : Text) (rest : List Text) → fault_of drive_app (command ∷ codes "-h" ∷ rest) ≡ UnknownArgument ∷ []
unfolding drive_app clap_on_literals
drive_short_help_refused command rest = refl

pub drive_later_help_refused : (command w : Text) (rest : List Text) → IsPlainWord w → fault_of drive_app (command ∷ w ∷ codes "--help" ∷ rest) ≡ UnknownArgument ∷ []
unfolding drive_app clap_on_literals
drive_later_help_refused command w rest h = rw (no_hyphen w h, no_dashes w h, no_short w h) refl

pub drive_later_short_help_refused : (command w : Text) (rest : List Text) → IsPlainWord w → fault_of drive_app (command ∷ w ∷ codes "-h" ∷ rest) ≡ UnknownArgument ∷ []
unfolding drive_app clap_on_literals
drive_later_short_help_refused command w rest h = rw (no_hyphen w h, no_dashes w h, no_short w h) refl

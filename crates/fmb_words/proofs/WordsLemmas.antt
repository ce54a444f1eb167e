-- Steps to the laws of lists of words.
use Rattle.std.proofs.Common.{◌≡◌, ◌≢◌, ◌↔◌, ◌∙◌, Bool, true, false, List, [], ◌∷◌, Option, Some, None, Result, Ok, Err, IfOk, IsErrAnd, is_some, option_and_then, option_map, map, slice_get, inl, inr, refl, sym, ap, subst, unwrap_or, codes, Decides}
use Rattle.std.proofs.lemmas.Slice.Eq.{bytes_eq-Decides}
use Rattle.std.specs.Str.{bytes_eq}
use Rattle.clap.specs.Words.{HasKind, IsAmong, Kinds, Row, Text, fault_of, first_of, kind_of, matches_of}
use Rattle.clap.specs.declared.error.Error.{Error}
use Rattle.clap.specs.declared.error.kind.ErrorKind.TheVariants.{OutOfMemory}
use Rattle.fmb_words.specs.Commands as of
use Rattle.fmb_words.specs.Commands.{Command, command_of, drive_app, file_app, made_app, serve_app, trial_app}
use Rattle.fmb_words.specs.Laws.{HelpIsRefused, NoFileIsRefused, OtherCommandIsRefused, OtherDriveIsRefused, PlainDriveIsRead, PlainFileIsTaken, PlainMadeIsRead, PlainServeIsRead, SecondFileIsRefused}
use Rattle.fmb_words.specs.PlainWords.{IsPlainWord, IsServeForm}
use Rattle.fmb_words.specs.Values.{DriveValue, IsReadAs, WordsValue, drive, made, serve, show, trial, value_of}
use Rattle.fmb_words.specs.Words.{asked_of, drive_given, drive_of, drive_read, file_of, is_set, made_asked, made_given, made_of, made_read, serve_asked, serve_given, serve_of, serve_read, trial_of, trial_read, unless_fault, words_of}
use Rattle.fmb_words.specs.declared.fault.WordsFault.{WordsFault}
use Rattle.fmb_words.specs.declared.fault.WordsFault.TheVariants.{NoMemory, Refused}
use Rattle.fmb_words.specs.declared.words.Words.{Words}
use Rattle.fmb_words.proofs.PlainLemmas.{brief_file, brief_set, brief_taken, drive_address, drive_flash, drive_four_refused, drive_help_refused, drive_later_help_refused, drive_later_short_help_refused, drive_missing_refused, drive_one_refused, drive_script, drive_short_help_refused, drive_taken, drive_two_refused, file_read, file_taken, help_refused, later_help_refused, later_short_help_refused, made_devices, made_fixes, made_help_refused, made_later_help_refused, made_later_short_help_refused, made_missing_refused, made_seed, made_short_help_refused, made_taken, missing_refused, second_refused, serve_help_refused, serve_later_help_refused, serve_later_short_help_refused, serve_missing_refused, serve_short_help_refused, short_help_refused, trial_file, trial_help_refused, trial_later_help_refused, trial_later_short_help_refused, trial_missing_refused, trial_second_refused, trial_short_help_refused, trial_taken, trial_unset}
use Rattle.fmb_words.proofs.ServeLemmas.{serve_taken}

unless_none : {T : Type 0} (kinds : Kinds) (read : Option T) → (kinds ≡ [] → ⊥) → unless_fault kinds read ≡ None
unless_none [] read some = absurd (some refl)
unless_none (k ∷ ks) read some = refl

-- a command's words with a fault ask for nothing
pub faulty_none : (name : Text) (words : List Text) → (fault_of (file_app name) words ≡ [] → ⊥) → file_of name words ≡ None
unfolding file_of
faulty_none name words some = unless_none _ _ some

pub faulty_trial : (words : List Text) → (fault_of trial_app words ≡ [] → ⊥) → trial_of words ≡ None
unfolding trial_of
faulty_trial words some = unless_none _ _ some

pub faulty_made : (words : List Text) → (fault_of made_app words ≡ [] → ⊥) → made_of words ≡ None
unfolding made_of
faulty_made words some = unless_none _ _ some

pub faulty_serve : (words : List Text) → (fault_of serve_app words ≡ [] → ⊥) → serve_of words ≡ None
unfolding serve_of
faulty_serve words some = unless_none _ _ some

pub faulty_drive : (words : List Text) → (fault_of drive_app words ≡ [] → ⊥) → drive_of words ≡ None
unfolding drive_of
faulty_drive words some = unless_none _ _ some

-- and those without one for what is read
pub sound_file : (name : Text) (words : List Text) → fault_of (file_app name) words ≡ [] → file_of name words ≡ first_of (codes "FILE") (matches_of (file_app name) words)
unfolding file_of
sound_file name words e = ap (λ (kinds : Kinds). unless_fault kinds (first_of (codes "FILE") (matches_of (file_app name) words))) e

pub sound_trial : (words : List Text) → fault_of trial_app words ≡ [] → trial_of words ≡ trial_read (matches_of trial_app words)
unfolding trial_of
sound_trial words e = ap (λ (kinds : Kinds). unless_fault kinds (trial_read (matches_of trial_app words))) e

pub sound_made : (words : List Text) → fault_of made_app words ≡ [] → made_of words ≡ made_read (matches_of made_app words)
unfolding made_of
sound_made words e = ap (λ (kinds : Kinds). unless_fault kinds (made_read (matches_of made_app words))) e

pub sound_serve : (words : List Text) → fault_of serve_app words ≡ [] → serve_of words ≡ serve_read (matches_of serve_app words)
unfolding serve_of
sound_serve words e = ap (λ (kinds : Kinds). unless_fault kinds (serve_read (matches_of serve_app words))) e

pub sound_drive : (words : List Text) → fault_of drive_app words ≡ [] → drive_of words ≡ drive_read (matches_of drive_app words)
unfolding drive_of
sound_drive words e = ap (λ (kinds : Kinds). unless_fault kinds (drive_read (matches_of drive_app words))) e

pub plain_drive : (command address flash script : Text) → IsPlainWord address → IsPlainWord flash → IsPlainWord script
    → drive_of (command ∷ address ∷ flash ∷ script ∷ []) ≡ Some (let d : DriveValue = record { address = address; flash = flash; script = script } in d)
unfolding drive_read
plain_drive command address flash script h k l =
    sound_drive _ (drive_taken command address flash script h k l)
    ∙ (λ i. drive_given (drive_address command address flash script h k l i) (drive_flash command address flash script h k l i) (drive_script command address flash script h k l i))

pub plain_file : (name command file : Text) → IsPlainWord file → file_of name (command ∷ file ∷ []) ≡ Some file
plain_file name command file h = sound_file name _ (file_taken name command file h) ∙ file_read name command file h

-- what clap's matches of a trial say
read_trial : (rows : List Row) (file : Text) (brief : Text) → first_of (codes "FILE") rows ≡ Some file → first_of (codes "brief") rows ≡ Some brief
    → trial_read rows ≡ Some (trial file (is_set (Some brief)))
unfolding trial_read
read_trial rows file brief f b = λ i. option_map (λ file. trial file (is_set (b i))) (f i)

pub plain_trial : (command file : Text) → IsPlainWord file → trial_of (command ∷ file ∷ []) ≡ Some (trial file false)
plain_trial command file h = sound_trial _ (trial_taken command file h) ∙ read_trial _ file (codes "false") (trial_file command file h) (trial_unset command file h)

pub brief_trial : (command file : Text) → IsPlainWord file → trial_of (command ∷ file ∷ codes "--brief" ∷ []) ≡ Some (trial file true)
brief_trial command file h = sound_trial _ (brief_taken command file h) ∙ read_trial _ file (codes "true") (brief_file command file h) (brief_set command file h)

pub plain_made : (command seed devices fixes : Text) → IsPlainWord seed → IsPlainWord devices → IsPlainWord fixes
    → made_of (command ∷ seed ∷ devices ∷ fixes ∷ []) ≡ made_asked seed devices fixes
unfolding made_read
plain_made command seed devices fixes hs hd hf =
    sound_made _ (made_taken command seed devices fixes hs hd hf)
    ∙ (λ i. made_given (made_seed command seed devices fixes hs hd hf i) (made_devices command seed devices fixes hs hd hf i) (made_fixes command seed devices fixes hs hd hf i))

pub plain_serve : (command : Text) (words : List Text) (address archive : Text) (imeis : List Text) (workers sessions : Text)
    → IsServeForm words address archive imeis workers sessions → serve_of (command ∷ words) ≡ serve_asked address archive imeis workers sessions
unfolding serve_read
plain_serve command words address archive imeis workers sessions form =
    let both = serve_taken command words address archive imeis workers sessions form in
    let r = both.1 in
    sound_serve _ both.0 ∙ (λ i. serve_given (r.address_is i) (r.archive_is i) (r.imeis_are i) (r.workers_is i) (r.sessions_is i))

-- some kind of fault
one_kind : {k : _} {ks kinds : Kinds} → kinds ≡ k ∷ ks → kinds ≡ [] → ⊥
one_kind e none = let bad : _ ∷ _ ≡ [] = sym e ∙ none in cc

-- words that each command refuses
pub refused_none : (word : Text) (rest : List Text) → ((name : Text) → file_of name (word ∷ rest) ≡ None) → trial_of (word ∷ rest) ≡ None → made_of (word ∷ rest) ≡ None → serve_of (word ∷ rest) ≡ None
    → drive_of (word ∷ rest) ≡ None → words_of (word ∷ rest) ≡ None
unfolding words_of asked_of
refused_none word rest h t m s d = go (command_of word)
  where
    go : (c : Option Command) → option_and_then (λ command. asked_of command (word ∷ rest)) c ≡ None
    go None = refl
    go (Some of.show) = ap (option_map show) (h (codes "show"))
    go (Some of.trial) = t
    go (Some of.made) = ap (option_map made) m
    go (Some of.serve) = ap (option_map serve) s
    go (Some of.drive) = ap (option_map drive) d

pub other_refused : OtherCommandIsRefused
unfolding words_of
other_refused [] h = refl
other_refused (word ∷ rest) h = go (command_of word) h
  where
    go : (c : Option Command) → is_some c ≡ false → option_and_then (λ command. asked_of command (word ∷ rest)) c ≡ None
    go None h = refl
    go (Some c) h = absurd (cc)

pub no_file_refused : NoFileIsRefused
no_file_refused word = refused_none word [] (λ name. faulty_none name _ (one_kind (missing_refused name word))) (faulty_trial _ (one_kind (trial_missing_refused word)))
    (faulty_made _ (one_kind (made_missing_refused word))) (faulty_serve _ (one_kind (serve_missing_refused word))) (faulty_drive _ (one_kind (drive_missing_refused word)))

pub second_file_refused : SecondFileIsRefused
unfolding words_of asked_of
second_file_refused word file second rest (inl e) h k = rw e (ap (option_map show) (faulty_none _ _ (one_kind (second_refused _ _ file second rest h k))))
second_file_refused word file second rest (inr e) h k = rw e (faulty_trial _ (one_kind (trial_second_refused _ file second rest h k)))

pub help_words_refused : HelpIsRefused
help_words_refused word file help rest h (inl e) = (
  rw e (refused_none word _ (λ name. faulty_none name _ (one_kind (help_refused name word rest)))
      (faulty_trial _ (one_kind (trial_help_refused word rest))) (faulty_made _ (one_kind (made_help_refused word rest))) (faulty_serve _ (one_kind (serve_help_refused word rest))) (faulty_drive _ (one_kind (drive_help_refused word rest)))),
  rw e (refused_none word _ (λ name. faulty_none name _ (one_kind (later_help_refused name word file rest h)))
      (faulty_trial _ (one_kind (trial_later_help_refused word file rest h))) (faulty_made _ (one_kind (made_later_help_refused word file rest h))) (faulty_serve _ (one_kind (serve_later_help_refused word file rest h))) (faulty_drive _ (one_kind (drive_later_help_refused word file rest h)))),
)
help_words_refused word file help rest h (inr e) = (
  rw e (refused_none word _ (λ name. faulty_none name _ (one_kind (short_help_refused name word rest)))
      (faulty_trial _ (one_kind (trial_short_help_refused word rest))) (faulty_made _ (one_kind (made_short_help_refused word rest))) (faulty_serve _ (one_kind (serve_short_help_refused word rest))) (faulty_drive _ (one_kind (drive_short_help_refused word rest)))),
  rw e (refused_none word _ (λ name. faulty_none name _ (one_kind (later_short_help_refused name word file rest h)))
      (faulty_trial _ (one_kind (trial_later_short_help_refused word file rest h))) (faulty_made _ (one_kind (made_later_short_help_refused word file rest h))) (faulty_serve _ (one_kind (serve_later_short_help_refused word file rest h))) (faulty_drive _ (one_kind (drive_later_short_help_refused word file rest h)))),
)

pub plain_file_taken : PlainFileIsTaken
unfolding words_of asked_of
plain_file_taken file h = (ap (option_map show) (plain_file (codes "show") (codes "show") file h), plain_trial (codes "trial") file h, brief_trial (codes "trial") file h)

pub plain_made_read : PlainMadeIsRead
unfolding words_of asked_of
plain_made_read seed devices fixes hs hd hf = ap (option_map made) (plain_made (codes "made") seed devices fixes hs hd hf)

pub plain_serve_read : PlainServeIsRead
unfolding words_of asked_of
plain_serve_read words address archive imeis workers sessions form = ap (option_map serve) (plain_serve (codes "serve") words address archive imeis workers sessions form)

pub plain_drive_read : PlainDriveIsRead
unfolding words_of asked_of
plain_drive_read address flash script h k l = ap (option_map drive) (plain_drive (codes "drive") address flash script h k l)

pub other_drive_refused : OtherDriveIsRefused
unfolding words_of asked_of
other_drive_refused address flash script fourth rest h k l m = (
  ap (option_map drive) (faulty_drive _ (one_kind (drive_one_refused (codes "drive") address h))),
  ap (option_map drive) (faulty_drive _ (one_kind (drive_two_refused (codes "drive") address flash h k))),
  ap (option_map drive) (faulty_drive _ (one_kind (drive_four_refused (codes "drive") address flash script fourth rest h k l m))),
)

-- what clap refuses for another cause than memory has a fault
pub has_fault : (kinds : Kinds) (e : Error) → HasKind kinds e → (kind_of e ≡ OutOfMemory → ⊥) → kinds ≡ [] → ⊥
has_fault kinds e (inl memory) other none = other memory
has_fault kinds e (inr among) other none = subst (IsAmong (kind_of e)) none among

pub error_refused : {X : Type 0} (kinds : Kinds) (e : Error) (r : Result X WordsFault) → HasKind kinds e
    → IsErrAnd r (λ fault. (fault ≡ NoMemory) ↔ (kind_of e ≡ OutOfMemory)) → r ≡ Err Refused → kinds ≡ [] → ⊥
error_refused kinds e r has other is =
    let same = subst (λ r. IsErrAnd r (λ fault. (fault ≡ NoMemory) ↔ (kind_of e ≡ OutOfMemory))) is other in
    has_fault kinds e has (λ memory. let bad : Refused ≡ NoMemory = same.1 memory in cc)

-- a list that asks for something is read as that, or memory is wanting
pub asks_read : (words : List Text) (value : WordsValue) (r : Result Words WordsFault) → IfOk r (λ read. words_of words ≡ Some (value_of read))
    → (r ≢ Err NoMemory → ((r ≡ Err Refused) ↔ (words_of words ≡ None))) → words_of words ≡ Some value → IsReadAs value r
asks_read words value (Ok read) is refused asks = ap (λ asked. unwrap_or asked value) (sym is ∙ asks)
asks_read words value (Err NoMemory) is refused asks = refl
asks_read words value (Err Refused) is refused asks = let none : words_of words ≡ None = (refused (λ e. cc)).0 refl in absurd (cc)

-- texts that aren't one aren't found equal
differ : (a b : Text) → (a ≡ b → ⊥) → bytes_eq a b ≡ false
differ a b apart = go (bytes_eq a b) (bytes_eq-Decides a b)
  where
    go : (found : Bool) → Decides found (a ≡ b) → found ≡ false
    go true d = absurd (apart (d.0 refl))
    go false d = refl

names_none : (word : Text) → (word ≡ codes "show" → ⊥) → (word ≡ codes "trial" → ⊥) → (word ≡ codes "made" → ⊥) → (word ≡ codes "serve" → ⊥) → (word ≡ codes "drive" → ⊥) → command_of word ≡ None
names_none word a b c d e = rw (differ _ _ a, differ _ _ b, differ _ _ c, differ _ _ d, differ _ _ e) refl

-- a first word that is no command's is refused
pub none_refused : {X : Type 0} (text : X → Text) (words : List X) (first : X) (word : Text) → slice_get words 0 ≡ Some first → word ≡ text first
    → (word ≡ codes "show" → ⊥) → (word ≡ codes "trial" → ⊥) → (word ≡ codes "made" → ⊥) → (word ≡ codes "serve" → ⊥) → (word ≡ codes "drive" → ⊥) → words_of (map text words) ≡ None
none_refused text [] first word is same a b c d e = other_refused [] refl
none_refused text (w ∷ ws) first word is same a b c d e =
    let is_first : w ≡ first = ap (λ o. unwrap_or o w) is in
    let is_word : word ≡ text w = same ∙ ap text (sym is_first) in
    other_refused (text w ∷ map text ws) (ap is_some (subst (λ t. command_of t ≡ None) is_word (names_none word a b c d e)))

-- What holds where the words ask for a command, or for none (this project's own).
use Rattle.std.specs.Prelude.{◌≡◌, ◌⊎◌, ℕ, Bool, List, [], ◌∷◌, Option, None, Some, ⊤, codes}
use Rattle.fmb_host.specs.Host.{HostView}
use Rattle.fmb_words.specs.Values.{DriveValue, MadeValue, ServeValue, WordsValue, drive, made, serve, show, trial}
use Rattle.session_core.specs.declared.known.Known.{Known}
use Rattle.session_core.specs.declared.known.Known.TheVariants.{All, Listed}
use Rattle.fmb_io.specs.Printed.{Prints}

-- the words ask to show a file, and this holds of its name
abbrev pub IfShow : Option WordsValue → (List ℕ → Type 0) → Type 0
IfShow (Some (show file)) P = P file
IfShow (Some (trial file brief)) P = ⊤
IfShow (Some (made asked)) P = ⊤
IfShow (Some (serve asked)) P = ⊤
IfShow (Some (drive asked)) P = ⊤
IfShow None P = ⊤

-- the words ask for a trial of a file, and this holds of its name and of whether its report is brief
abbrev pub IfTrial : Option WordsValue → (List ℕ → Bool → Type 0) → Type 0
IfTrial (Some (trial file brief)) P = P file brief
IfTrial (Some (show file)) P = ⊤
IfTrial (Some (made asked)) P = ⊤
IfTrial (Some (serve asked)) P = ⊤
IfTrial (Some (drive asked)) P = ⊤
IfTrial None P = ⊤

-- the words ask for a trial of a made script, and this holds of what they say
abbrev pub IfMade : Option WordsValue → (MadeValue → Type 0) → Type 0
IfMade (Some (made asked)) P = P asked
IfMade (Some (show file)) P = ⊤
IfMade (Some (trial file brief)) P = ⊤
IfMade (Some (serve asked)) P = ⊤
IfMade (Some (drive asked)) P = ⊤
IfMade None P = ⊤

-- the words ask to serve an archive, and this holds of what they say
abbrev pub IfServe : Option WordsValue → (ServeValue → Type 0) → Type 0
IfServe (Some (serve asked)) P = P asked
IfServe (Some (show file)) P = ⊤
IfServe (Some (trial file brief)) P = ⊤
IfServe (Some (made asked)) P = ⊤
IfServe (Some (drive asked)) P = ⊤
IfServe None P = ⊤

-- the words ask to drive a device, and this holds of what they say
abbrev pub IfDrive : Option WordsValue → (DriveValue → Type 0) → Type 0
IfDrive (Some (drive asked)) P = P asked
IfDrive (Some (show file)) P = ⊤
IfDrive (Some (trial file brief)) P = ⊤
IfDrive (Some (made asked)) P = ⊤
IfDrive (Some (serve asked)) P = ⊤
IfDrive None P = ⊤

-- the devices that a server knows: those that it was asked to, or all where there were none
abbrev pub known_of : List ℕ → Known
known_of [] = All
known_of (imei ∷ imeis) = Listed (imei ∷ imeis)

-- Memory ran out while the words were read: 9, with its line printed, and nothing else was done.
pub record RanOut (status : ℕ) (before after : HostView) : Type 0 where
  pub is : status ≡ 9
  pub line : Prints (codes "no memory\n") before after
  pub others : after ≡ record before { sink = after.sink }

-- The words ask for nothing: 2, or 9 where memory ran out while they were read, with its line printed, and nothing else was done.
pub record RefusesWords (status : ℕ) (before after : HostView) : Type 0 where
  pub among : (status ≡ 2) ⊎ (status ≡ 9)
  pub refused : status ≡ 2 → Prints (codes "refused words\n") before after
  pub no_memory : status ≡ 9 → Prints (codes "no memory\n") before after
  pub others : after ≡ record before { sink = after.sink }

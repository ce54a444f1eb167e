-- What a command line asks for (this project's own).
use Rattle.std.specs.Prelude.{◌≡◌, ◌<◌, ◌≤◌, ℕ, Bool, List, MatchResult, Result, ⊤}
use Rattle.fmb_words.specs.declared.fault.WordsFault.{WordsFault}
use Rattle.fmb_words.specs.declared.fault.WordsFault.TheVariants.{NoMemory}
use Rattle.fmb_words.specs.declared.drive_words.DriveWords.{DriveWords}
use Rattle.fmb_words.specs.declared.made_words.MadeWords.{MadeWords}
use Rattle.fmb_words.specs.declared.serve_words.ServeWords.{ServeWords}
use Rattle.fmb_words.specs.declared.words.Words.{Words}
use Rattle.fmb_words.specs.declared.words.Words.TheVariants as Read

-- what `made` is asked for
pub record MadeValue : Type 0 where
  pub seed : ℕ
  pub devices : ℕ
  pub fixes : ℕ

-- what `serve` is asked for: an address, the name of an archive, the devices that it knows (none: it knows all), how many workers it has
-- and how many sessions each of them
pub record ServeValue : Type 0 where
  pub address : List ℕ
  pub archive : List ℕ
  pub devices : List ℕ
  pub workers : ℕ
  pub sessions : ℕ

-- what `drive` is asked for: an address, and the names of a flash and of a script
pub record DriveValue : Type 0 where
  pub address : List ℕ
  pub flash : List ℕ
  pub script : List ℕ

-- a command, and what it is for: the name of a file, for a trial with whether its report is brief, what a script is made of, the server's,
-- or the device's
pub data WordsValue : Type 0 where
  show : List ℕ → WordsValue
  trial : List ℕ → Bool → WordsValue
  made : MadeValue → WordsValue
  serve : ServeValue → WordsValue
  drive : DriveValue → WordsValue

-- what was read, as such values
abbrev pub made_value_of : MadeWords → MadeValue
made_value_of words = record { seed = words.seed; devices = words.devices; fixes = words.fixes }

abbrev pub serve_value_of : ServeWords → ServeValue
serve_value_of words = record {
  address = words.address.now;
  archive = words.archive.now;
  devices = words.devices.items;
  workers = words.workers;
  sessions = words.sessions;
}

abbrev pub drive_value_of : DriveWords → DriveValue
drive_value_of words = record { address = words.address.now; flash = words.flash.now; script = words.script.now }

abbrev pub value_of : Words → WordsValue
value_of (Read.Show file) = show file.now
value_of (Read.Trial words) = trial words.file.now words.brief
value_of (Read.Made words) = made (made_value_of words)
value_of (Read.Serve words) = serve (serve_value_of words)
value_of (Read.Drive words) = drive (drive_value_of words)

-- this was read, or memory is wanting
abbrev pub IsReadAs : WordsValue → Result Words WordsFault → Type 0
IsReadAs value result = MatchResult result (λ read. value_of read ≡ value) (λ fault. fault ≡ NoMemory)

-- a script is made of 1 to 64 devices, and 1 to 100,000 fixes
pub record IsMadeInRange (words : MadeWords) : Type 0 where
  pub some_devices : 1 ≤ words.devices
  pub few_devices : words.devices ≤ 64
  pub some_fixes : 1 ≤ words.fixes
  pub few_fixes : words.fixes ≤ 100000

-- a server has 1 to 64 workers, and 1 to 100,000 sessions each
pub record IsInRange (words : ServeWords) : Type 0 where
  pub some_workers : 0 < words.workers
  pub few_workers : words.workers ≤ 64
  pub some_sessions : 0 < words.sessions
  pub few_sessions : words.sessions ≤ 100000

-- where a made script or a server is asked for
abbrev pub HasRanges : Words → Type 0
HasRanges (Read.Show file) = ⊤
HasRanges (Read.Trial words) = ⊤
HasRanges (Read.Made words) = IsMadeInRange words
HasRanges (Read.Serve words) = IsInRange words
HasRanges (Read.Drive words) = ⊤

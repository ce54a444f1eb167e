-- What the server answered, and how a connection ended on both sides.
use Rattle.std.specs.Prelude.{ℕ, ◌+◌, ◌*◌, ◌-◌, ◌≡◌, ◌↔◌, ◌⊎◌, ◌≤◌, ◌<◌, nat_le, not, Bool, true, false, List, [], ◌∷◌, ◌++◌, length, take, slice_get, Option, Some, if◌then◌else◌}
use Rattle.std.specs.List.{All, list_any}
use Rattle.avl_values.specs.Record.{Record}
use Rattle.trial_model.specs.declared.outcome.ConnectionOutcome.{ConnectionOutcome}
use Rattle.trial_model.specs.declared.outcome.DeviceEnd.{DeviceEnd}
use Rattle.trial_model.specs.declared.outcome.DeviceEnd.TheVariants as End
use Rattle.trial_model.specs.declared.outcome.ServerEnd.{ServerEnd}
use Rattle.trial_model.specs.declared.outcome.ServerEnd.TheVariants as Server
use Rattle.trial_model.specs.declared.script.ScriptLine.{ScriptLine}
use Rattle.trial_model.specs.declared.script.Who.TheVariants as Who
use Rattle.trial_model.specs.Connections.{ConnectionHistory, connections_of, given_by, server_of}
use Rattle.trial_model.specs.Cover.{IsBelow, cover_on}
use Rattle.trial_model.specs.Delivery.{delivered_of, frames_between, heard_bytes, heard_of, records_given}
use Rattle.trial_model.specs.Frames.{Frame, counts_of, frames_of, login_size, records_in}
use Rattle.trial_model.specs.RecordLists.{AreIn, is_listed}

-- the server ended by a fault of its medium
abbrev pub is_fault : ServerEnd → Bool
is_fault Server.Ended = false
is_fault (Server.EndedInside have) = false
is_fault Server.LinkFault = false
is_fault (Server.Broken fault) = false
is_fault (Server.Unknown imei) = false
is_fault (Server.MediumFault faults) = true
is_fault (Server.Down faults) = false
is_fault (Server.LongEnough taken) = false
is_fault Server.NoMemory = false
is_fault Server.Restart = false

-- the frames that were counted: those delivered, but the last where the medium failed
abbrev pub counted_of : ConnectionOutcome → List Frame
counted_of c = if is_fault c.server then take (length (delivered_of c) - 1) (delivered_of c) else delivered_of c

-- The bytes down: nothing without a whole login, 0 for a stranger, else 1 and the counts of the counted frames, whose
-- records are archived.
pub record IsAnswered (known : Bool) (archived : List Record) (c : ConnectionOutcome) : Type 0 where
  pub without_login : c.up_given < login_size → c.down ≡ []
  pub stranger : login_size ≤ c.up_given → known ≡ false → c.down ≡ 0 ∷ []
  pub counts : login_size ≤ c.up_given → known ≡ true → c.down ≡ 1 ∷ counts_of (counted_of c)
  pub uncounted : is_fault c.server ≡ true → 1 ≤ length (delivered_of c)
  pub stored : All (λ f. AreIn archived f.records) (counted_of c)

-- The line at place i gave bytes to the connection at place n.
pub record IsGift (lines : List ScriptLine) (n sent i : ℕ) (line : ScriptLine) : Type 0 where
  pub is : slice_get lines i ≡ Some line
  pub gave : given_by (take i lines) n sent < given_by (take (i + 1) lines) n sent

-- how many of these frames hold a record of none before
abbrev pub fresh_frames : List Record → List Frame → ℕ
fresh_frames before [] = 0
fresh_frames before (f ∷ fs) = (if list_any (λ r. not (is_listed before r)) f.records then 1 else 0) + fresh_frames (before ++ f.records) fs

-- the frames that the line at place i delivered on the connection at place n
abbrev pub delivered_on : List ScriptLine → ℕ → ℕ → List ℕ → List Frame
delivered_on lines i n up = frames_between (given_by (take i lines) n (length up)) (given_by (take (i + 1) lines) n (length up)) up

-- the calls that a server fuse leaves to the line at place i
abbrev pub cover_at : List ScriptLine → ℕ → ScriptLine → Option ℕ
cover_at lines i line = cover_on Who.Server (server_of (take i lines)).fuse line

-- An archived packet costs four medium calls. The server's medium may fail only on a line that gave bytes and is covered
-- with fewer calls than all frames that it delivered cost.
abbrev pub MayFault : List ScriptLine → ℕ → ConnectionOutcome → Type 0
MayFault lines n c = (i : ℕ) × (line : ScriptLine) × IsGift lines n (length c.up) i line
    × IsBelow (cover_at lines i line) (4 * length (delivered_on lines i n c.up))

-- It fails wherever it is covered with fewer calls than those frames cost that hold a record of no frame of this device
-- delivered before.
abbrev pub MustFault : List ScriptLine → List ConnectionOutcome → ℕ → ConnectionOutcome → ℕ → ScriptLine → Type 0
MustFault lines logs n c i line = IsGift lines n (length c.up) i line
    × IsBelow (cover_at lines i line) (4 * fresh_frames (records_given c.imei (connections_of (take i lines)) logs) (delivered_on lines i n c.up))

-- the place after the last of these frames
abbrev pub last_end : ℕ → List Frame → ℕ
last_end place [] = place
last_end place (f ∷ fs) = last_end f.end fs

-- the delivered bytes after the last whole item
abbrev pub inside_of : ConnectionOutcome → ℕ
inside_of c = c.up_given - (if nat_le login_size c.up_given then last_end login_size (delivered_of c) else 0)

-- what a server's end says
abbrev pub IsServerEnd : List ScriptLine → ℕ → ConnectionHistory → ConnectionOutcome → ServerEnd → Type 0
IsServerEnd lines n h c Server.Ended = (h.restarted ≡ false) × (inside_of c ≡ 0)
IsServerEnd lines n h c (Server.EndedInside have) = (h.restarted ≡ false) × (inside_of c ≡ have) × (0 < have)
IsServerEnd lines n h c Server.LinkFault = ⊥
IsServerEnd lines n h c (Server.Broken fault) = ⊥
IsServerEnd lines n h c (Server.Unknown imei) = (c.down ≡ 0 ∷ []) × (imei ≡ c.imei)
IsServerEnd lines n h c (Server.MediumFault faults) = MayFault lines n c
IsServerEnd lines n h c (Server.Down faults) = ⊥
IsServerEnd lines n h c (Server.LongEnough taken) = ⊥
IsServerEnd lines n h c Server.NoMemory = ⊥
IsServerEnd lines n h c Server.Restart = h.restarted ≡ true

pub record HasServerEnd (lines : List ScriptLine) (logs : List ConnectionOutcome) (n : ℕ) (h : ConnectionHistory) (c : ConnectionOutcome) : Type 0 where
  pub says : IsServerEnd lines n h c c.server
  pub unknown : c.down ≡ 0 ∷ [] → c.server ≡ Server.Unknown c.imei
  pub fault : (i : ℕ) (line : ScriptLine) → MustFault lines logs n c i line → is_fault c.server ≡ true

-- the medium calls of the device's releases: one for each heard frame, and one for each of its records
abbrev pub release_cost : ConnectionOutcome → ℕ
release_cost c = length (heard_of c) + length (records_in (heard_of c))

-- something was sent up, and an answer to it was not delivered whole
abbrev pub LacksAnswer : ConnectionOutcome → Type 0
LacksAnswer c = (1 ≤ length c.up) × ((heard_bytes c ≡ []) ⊎ ((take 1 (heard_bytes c) ≡ 1 ∷ []) × (length (heard_of c) < length (frames_of c.up))))

-- Done(n) has n records in its frames, all of them heard
abbrev pub IsDone : ConnectionOutcome → DeviceEnd → Type 0
IsDone c (End.Done n) = (n ≡ length (records_in (frames_of c.up))) × (heard_of c ≡ frames_of c.up)
IsDone c End.Empty = Unit {0}
IsDone c End.Refused = Unit {0}
IsDone c End.Broken = Unit {0}
IsDone c (End.WrongAnswer got) = ⊥
IsDone c End.TooManyCommands = ⊥
IsDone c End.MediumFault = Unit {0}

pub record HasDeviceEnd (cover : Option ℕ) (c : ConnectionOutcome) : Type 0 where
  pub empty : (c.device ≡ End.Empty) ↔ (c.up ≡ [])
  pub refused : (c.device ≡ End.Refused) ↔ (take 1 (heard_bytes c) ≡ 0 ∷ [])
  pub medium : (c.device ≡ End.MediumFault) ↔ IsBelow cover (release_cost c)
  pub broken : (c.device ≡ End.Broken) ↔ LacksAnswer c
  pub done : IsDone c c.device

pub record HasAnswers (lines : List ScriptLine) (logs : List ConnectionOutcome) (known : Bool) (archived : List Record) (cover : Option ℕ) (n : ℕ) (h : ConnectionHistory) (c : ConnectionOutcome) : Type 0 where
  pub answered : IsAnswered known archived c
  pub server : HasServerEnd lines logs n h c
  pub device : HasDeviceEnd cover c

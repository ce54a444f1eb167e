-- A trial between two lines of its script, and its next line.
use Rattle.std.specs.Prelude.{◌≡◌, ℕ, List, slice_get, take, Some}
use Rattle.journey_script.specs.Grammar.{IsScript}
use Rattle.session_core.specs.declared.known.Known.{Known}
use Rattle.session_core.specs.Knowing.{knows}
use Rattle.trial_model.specs.declared.script.ScriptLine.{ScriptLine}
use Rattle.trial_model.specs.Script.{Device, Opening, Script, devices_of, is_known, lines_of, opening_of}
use Rattle.trial_play.specs.Plays.{Plays, PlaysConnection}
use Rattle.trial_play.specs.Trials.{IsTrialSound, TrialState}

-- both ends, and which devices the server knows
pub record LoopState : Type 0 where
  pub trial : TrialState
  pub known : Known

-- the server knows just those of these devices that are marked as known
abbrev pub KnowsMarked : List Device → Known → Type 0
KnowsMarked devices known = (imei : ℕ) → knows known imei ≡ is_known imei devices

-- The first n lines of a script were played, and this line is next.
pub record IsNext (script : Script) (n : ℕ) (line : ScriptLine) (s : LoopState) : Type 0 where
  pub is_script : IsScript script
  pub is : slice_get (lines_of script) n ≡ Some line
  pub sound : IsTrialSound (devices_of (lines_of script)) (take n (lines_of script)) s.trial
  pub known : KnowsMarked (devices_of (lines_of script)) s.known

-- the line is the next one of some script
abbrev pub CanPlay : ScriptLine → LoopState → Type 0
CanPlay line s = (script : Script) × (n : ℕ) × IsNext script n line s

-- What the line does, whatever script it is of. Which devices are known stays.
pub record PlaysNext (line : ScriptLine) (old new : LoopState) : Type 0 where
  pub plays : (script : Script) (n : ℕ) → IsNext script n line old → Plays (devices_of (lines_of script)) (take n (lines_of script)) line old.trial new.trial
  pub known : new.known ≡ old.known

-- What a line that opens a connection does.
pub record Connects (o : Opening) (old new : LoopState) : Type 0 where
  pub plays : (script : Script) (n : ℕ) (l : ScriptLine) → opening_of l ≡ Some o → IsNext script n l old → PlaysConnection (devices_of (lines_of script)) (take n (lines_of script)) l o old.trial new.trial
  pub known : new.known ≡ old.known

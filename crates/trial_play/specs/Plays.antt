-- What one line of a script does to a trial, and all lines, as relations on data.
use Rattle.std.specs.Prelude.{◌≡◌, ◌⊎◌, ℕ, ◌==◌, Bool, true, false, List, [], ◌∷◌, ◌++◌, length, Some, None, Result}
use Rattle.avl_values.specs.declared.errors.MediumFault.{MediumFault}
use Rattle.tracker_session.specs.declared.round_end.RoundEnd.{RoundEnd}
use Rattle.trial_model.specs.declared.outcome.ConnectionOutcome.{ConnectionOutcome}
use Rattle.trial_model.specs.declared.script.ScriptLine.{ScriptLine}
use Rattle.trial_model.specs.declared.script.ScriptLine.TheVariants as Line
use Rattle.trial_model.specs.declared.script.Who.TheVariants as Who
use Rattle.trial_model.specs.Delivery.{heard_of}
use Rattle.trial_model.specs.Frames.{records_in}
use Rattle.trial_model.specs.Script.{Device, Opening}
use Rattle.trial_device.specs.SideLines.{PowersSide, RoundsSide, end_of}
use Rattle.trial_device.specs.Sides.{Side}
use Rattle.trial_device.specs.Storing.{FixesSide}
use Rattle.trial_play.specs.ServerLines.{PlaysClose, PlaysLate, PlaysRound, PlaysServerFuse, PlaysServerPower, StaysServer}
use Rattle.trial_play.specs.Trials.{TrialState}

-- The side of the device with this IMEI goes on by R, and each other stays.
abbrev pub OneSide : ℕ → (Side → Side → Type 0) → List Device → List Side → List Side → Type 0
OneSide imei R [] [] [] = Unit {0}
OneSide imei R [] [] (e ∷ es) = ⊥
OneSide imei R [] (d ∷ ds) es = ⊥
OneSide imei R (x ∷ devices) [] es = ⊥
OneSide imei R (x ∷ devices) (d ∷ ds) [] = ⊥
OneSide imei R (x ∷ devices) (d ∷ ds) (e ∷ es) = ((((x.imei == imei) ≡ true) × R d e) ⊎ (((x.imei == imei) ≡ false) × (e ≡ d))) × OneSide imei R devices ds es

-- A `round` or `drain` line, for its device: its round's end is the log's, and so are the frames whose counts it heard.
pub record RoundsBy (drains : Bool) (log : ConnectionOutcome) (d e : Side) : Type 0 where
  pub result : Result RoundEnd MediumFault
  pub end : end_of result ≡ log.device
  pub rounds : RoundsSide drains result (length (heard_of log)) (records_in (heard_of log)) d e

-- a `round` or `drain` line, for both ends
pub record PlaysConnection (devices : List Device) (lines : List ScriptLine) (l : ScriptLine) (o : Opening) (old new : TrialState) : Type 0 where
  pub server : PlaysRound devices lines l o old new
  pub sides : OneSide o.imei (RoundsBy o.drains server.opens.log) devices old.sides new.sides

-- What a line does after the lines before it.
abbrev pub Plays : List Device → List ScriptLine → ScriptLine → TrialState → TrialState → Type 0
Plays devices lines (Line.Device imei codec slots order period distance angle speed known) old new = new ≡ old
Plays devices lines (Line.Setting imei setting) old new = new ≡ old
Plays devices lines (Line.Fix imei fix) old new = OneSide imei (FixesSide fix) devices old.sides new.sides × StaysServer old new
Plays devices lines (Line.Round imei piece up down) old new = PlaysConnection devices lines (Line.Round imei piece up down) (record { imei = imei; drains = false; up = up; down = down }) old new
Plays devices lines (Line.Drain imei piece) old new = PlaysConnection devices lines (Line.Drain imei piece) (record { imei = imei; drains = true; up = None; down = None }) old new
Plays devices lines (Line.Late connection bytes) old new = PlaysLate devices lines connection bytes old new × (new.sides ≡ old.sides)
Plays devices lines (Line.Close connection) old new = PlaysClose connection old new × (new.sides ≡ old.sides)
Plays devices lines (Line.Power (Who.Device imei)) old new = OneSide imei PowersSide devices old.sides new.sides × StaysServer old new
Plays devices lines (Line.Power Who.Server) old new = PlaysServerPower old new × (new.sides ≡ old.sides)
Plays devices lines (Line.Fuse (Who.Device imei) calls tear) old new = OneSide imei (λ d e. e ≡ record d { fuse = Some calls }) devices old.sides new.sides × StaysServer old new
Plays devices lines (Line.Fuse Who.Server calls tear) old new = PlaysServerFuse calls old new × (new.sides ≡ old.sides)

-- all of some lines, one after the other, after the lines before them
abbrev pub PlaysAll : List Device → List ScriptLine → List ScriptLine → TrialState → TrialState → Type 0
PlaysAll devices lines [] old new = new ≡ old
PlaysAll devices lines (l ∷ more) old new = (between : TrialState) × Plays devices lines l old between × PlaysAll devices (lines ++ l ∷ []) more between new

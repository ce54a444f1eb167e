-- What every trial keeps, of its script and its outcome: no record vanishes and none counts twice, whatever the script
-- cuts, breaks, resends, interleaves or powers off.
use Rattle.std.specs.Prelude.{ℕ, ◌+◌, ◌==◌, ◌≤◌, List, [], ◌∷◌, map, length, if◌then◌else◌}
use Rattle.std.specs.List.{AllZip}
use Rattle.avl_values.specs.Record.{Record}
use Rattle.trial_model.specs.declared.outcome.ConnectionOutcome.{ConnectionOutcome}
use Rattle.trial_model.specs.declared.outcome.DeviceEnd.{DeviceEnd}
use Rattle.trial_model.specs.declared.outcome.DeviceOutcome.{DeviceOutcome}
use Rattle.trial_model.specs.declared.script.ScriptLine.{ScriptLine}
use Rattle.trial_model.specs.declared.script.Who.TheVariants as Who
use Rattle.trial_model.specs.Acquired.{IsAcquired}
use Rattle.trial_model.specs.Answers.{HasAnswers}
use Rattle.trial_model.specs.Connections.{ConnectionHistory, connections_of}
use Rattle.trial_model.specs.Cover.{cover_on, fuse_of}
use Rattle.trial_model.specs.Cut.{IsCutRightly}
use Rattle.trial_model.specs.Decisions.{DeviceHistory, Step, history_of, records_decided, steps_of}
use Rattle.trial_model.specs.Delivery.{archived_of}
use Rattle.trial_model.specs.Evidence.{HasEvidence}
use Rattle.trial_model.specs.Logs.{HasWholeLog}
use Rattle.trial_model.specs.NothingLost.{HasLostNothing}
use Rattle.trial_model.specs.OnlyOnce.{HasOnlyAcquired}
use Rattle.trial_model.specs.Overwritten.{IsOverwrittenInOrder}
use Rattle.trial_model.specs.Results.{Results}
use Rattle.trial_model.specs.Script.{Device, Script, devices_of, is_known, lines_of}
use Rattle.trial_model.specs.WholeRounds.{IsWholeRound}

abbrev pub ends_of : List ConnectionOutcome → List DeviceEnd
ends_of logs = map (λ c. c.device) logs

-- what these lines say of a device, with the ends that the outcome gives its connections
abbrev pub history_by : Results → List ScriptLine → Device → DeviceHistory
history_by outcome lines device = history_of device (steps_of lines (ends_of outcome.connections))

-- for each device of the script and its outcome, in order, and no more of either
abbrev pub EachDevice : (Device → DeviceOutcome → Type 0) → List ScriptLine → Results → Type 0
EachDevice P lines outcome = AllZip P (devices_of lines) outcome.devices

-- connections from the place n on, each with its outcome, in order, and no more of either
abbrev pub EachFrom : (ℕ → ConnectionHistory → ConnectionOutcome → Type 0) → ℕ → List ConnectionHistory → List ConnectionOutcome → Type 0
EachFrom P n [] [] = Unit {0}
EachFrom P n [] (c ∷ logs) = ⊥
EachFrom P n (h ∷ hs) [] = ⊥
EachFrom P n (h ∷ hs) (c ∷ logs) = P n h c × EachFrom P (n + 1) hs logs

-- for each `round` and `drain` line and its connection, with the connection's place from 0
abbrev pub EachConnection : (ℕ → ConnectionHistory → ConnectionOutcome → Type 0) → List ScriptLine → Results → Type 0
EachConnection P lines outcome = EachFrom P 0 (connections_of lines) outcome.connections

-- the records that these lines decide for a device
abbrev pub earlier_records : ℕ → List Device → List Step → List Record
earlier_records imei [] steps = []
earlier_records imei (d ∷ ds) steps = if d.imei == imei then records_decided (history_of d steps).decisions else earlier_records imei ds steps

-- A round delivered whole empties its batch, and a device's flash has no more records than its load allows.
pub record HasWholeRounds (script : Script) (outcome : Results) : Type 0 where
  pub rounds : EachConnection (λ n h c. IsWholeRound (is_known h.opening.imei (devices_of (lines_of script))) h.opening
      (archived_of h.opening.imei outcome.devices) c) (lines_of script) outcome
  pub room : EachDevice (λ device d. length d.flash ≤ (history_by outcome (lines_of script) device).load) (lines_of script) outcome

-- The whole.
pub record Kept (script : Script) (outcome : Results) : Type 0 where
  pub acquired : EachDevice (λ device d. IsAcquired device (history_by outcome (lines_of script) device) d) (lines_of script) outcome
  pub only_once : EachDevice (λ device d. HasOnlyAcquired d) (lines_of script) outcome
  pub nothing_lost : EachDevice (λ device d. HasLostNothing d) (lines_of script) outcome
  pub cut : EachDevice (λ device d. IsCutRightly (history_by outcome (lines_of script) device).decisions d) (lines_of script) outcome
  pub overwritten : EachDevice (λ device d. IsOverwrittenInOrder device.slots (history_by outcome (lines_of script) device).decisions d) (lines_of script) outcome
  pub logs : EachConnection (λ n h c. HasWholeLog (earlier_records h.opening.imei (devices_of (lines_of script)) (steps_of h.before (ends_of outcome.connections))) h c) (lines_of script) outcome
  pub evidence : EachDevice (λ device d. HasEvidence outcome.connections d) (lines_of script) outcome
  pub answers : EachConnection (λ n h c. HasAnswers (lines_of script) outcome.connections (is_known h.opening.imei (devices_of (lines_of script)))
      (archived_of h.opening.imei outcome.devices) (cover_on (Who.Device h.opening.imei) (fuse_of (Who.Device h.opening.imei) h.before) h.line) n h c) (lines_of script) outcome
  pub whole_rounds : HasWholeRounds script outcome

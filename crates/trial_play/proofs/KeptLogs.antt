-- Logs of which the bytes up, what was heard, and the device's end stay: what hangs on these alone.
use Rattle.std.proofs.Common.{◌≡◌, ◌≤◌, ℕ, zero, suc, ◌==◌, ◌-◌, ◌/◌, Bool, true, false, List, [], ◌∷◌, ◌++◌, length, map, set, slice_get, take, Some, if◌then◌else◌, refl, sym, ◌∙◌, ap, subst, arith}
use Rattle.std.specs.List.{AllZip}
use Rattle.avl_values.specs.Record.{Record}
use Rattle.trial_model.specs.declared.outcome.ConnectionOutcome.{ConnectionOutcome}
use Rattle.trial_model.specs.declared.outcome.DeviceEnd.{DeviceEnd}
use Rattle.trial_model.specs.declared.outcome.ServerEnd.{ServerEnd}
use Rattle.trial_model.specs.declared.outcome.ServerEnd.TheVariants as Server
use Rattle.trial_model.specs.declared.script.ScriptLine.{ScriptLine}
use Rattle.trial_model.specs.Connections.{ConnectionHistory, connections_of, up_to}
use Rattle.trial_model.specs.Decisions.{steps_of}
use Rattle.trial_model.specs.Frames.{frames_of, frames_within, records_in}
use Rattle.trial_model.specs.Kept.{earlier_records, ends_of}
use Rattle.trial_model.specs.Script.{Device}
use Rattle.trial_wire.specs.Connections.{Connection, cut_by_power, fed, shut}
use Rattle.trial_wire.proofs.Changing.{SameGiven}
use Rattle.trial_play.specs.ServerLines.{changed_at}
use Rattle.trial_play.specs.Trials.{connecting, earlier_by, given_in, heard_in, logs_of}
use Rattle.trial_play.proofs.Places.{none-some, some-same}
use Rattle.trial_play.proofs.Steps.{connections-count, connecting-take, steps-front}

pub record IsKeptLog (c d : ConnectionOutcome) : Type 0 where
  pub imei : d.imei ≡ c.imei
  pub up : d.up ≡ c.up
  pub down_given : d.down_given ≡ c.down_given
  pub device : d.device ≡ c.device

abbrev pub AreKeptLogs : List ConnectionOutcome → List ConnectionOutcome → Type 0
AreKeptLogs logs later = AllZip IsKeptLog logs later

pub kept-itself : (logs : List ConnectionOutcome) → AreKeptLogs logs logs
kept-itself [] = tt
kept-itself (c ∷ logs) = (record { imei = refl; up = refl; down_given = refl; device = refl }, kept-itself logs)

pub kept-same : (logs later : List ConnectionOutcome) → later ≡ logs → AreKeptLogs logs later
kept-same logs later is = subst (AreKeptLogs logs) (sym is) (kept-itself logs)

pub kept-then : (a b c : List ConnectionOutcome) → AreKeptLogs a b → AreKeptLogs b c → AreKeptLogs a c
kept-then [] [] [] p q = tt
kept-then [] [] (z ∷ c) p q = absurd q
kept-then [] (y ∷ b) c p q = absurd p
kept-then (x ∷ a) [] c p q = absurd p
kept-then (x ∷ a) (y ∷ b) [] p q = absurd q
kept-then (x ∷ a) (y ∷ b) (z ∷ c) p q = (
  record { imei = q.0.imei ∙ p.0.imei; up = q.0.up ∙ p.0.up; down_given = q.0.down_given ∙ p.0.down_given; device = q.0.device ∙ p.0.device },
  kept-then a b c p.1 q.1,
)

pub kept-fed : (ws : List Connection) (n : ℕ) (w : Connection) (b : ℕ) (more : List ℕ) (server : ServerEnd) (going : Bool) → slice_get ws n ≡ Some w
    → AreKeptLogs (logs_of ws) (logs_of (set ws n (record { log = fed w.log b more server; going = going })))
kept-fed [] n w b more server going at = absurd (none-some w at)
kept-fed (v ∷ ws) zero w b more server going at =
    let same = some-same v w at in (
      record { imei = ap (λ (z : Connection). z.log.imei) (sym same); up = ap (λ (z : Connection). z.log.up) (sym same); down_given = ap (λ (z : Connection). z.log.down_given) (sym same); device = ap (λ (z : Connection). z.log.device) (sym same) },
      kept-itself (logs_of ws),
    )
kept-fed (v ∷ ws) (suc n) w b more server going at = (record { imei = refl; up = refl; down_given = refl; device = refl }, kept-fed ws n w b more server going at)

-- the server's power loss
pub kept-cut : (ws : List Connection) → AreKeptLogs (logs_of ws) (logs_of (map cut_by_power ws))
kept-cut [] = tt
kept-cut (w ∷ ws) = (split w.going, kept-cut ws)
  where
    split : (b : Bool) → IsKeptLog w.log (if b then record { log = record w.log { server = Server.Restart }; going = false } else w).log
    split true = record { imei = refl; up = refl; down_given = refl; device = refl }
    split false = record { imei = refl; up = refl; down_given = refl; device = refl }

-- a close changes no log
pub shut-logs : (n : ℕ) (ws : List Connection) → logs_of (changed_at shut n ws) ≡ logs_of ws
shut-logs n [] = refl
shut-logs n (w ∷ ws) = split (n == 1) (shut-logs (n - 1) ws)
  where
    split : (b : Bool) → logs_of (changed_at shut (n - 1) ws) ≡ logs_of ws → logs_of (if b then shut w ∷ ws else w ∷ changed_at shut (n - 1) ws) ≡ w.log ∷ logs_of ws
    split true rest = refl
    split false rest = ap (λ logs. w.log ∷ logs) rest

-- What hangs on these alone.

pub ends-kept : (logs later : List ConnectionOutcome) → AreKeptLogs logs later → ends_of later ≡ ends_of logs
ends-kept [] [] same = refl
ends-kept [] (d ∷ later) same = absurd same
ends-kept (c ∷ logs) [] same = absurd same
ends-kept (c ∷ logs) (d ∷ later) same = ap (λ (z : DeviceEnd × List DeviceEnd). z.0 ∷ z.1) (λ i. (same.0.device i, ends-kept logs later same.1 i))

pub heard-kept : (imei : ℕ) (logs later : List ConnectionOutcome) → AreKeptLogs logs later → heard_in later imei ≡ heard_in logs imei
heard-kept imei [] [] same = refl
heard-kept imei [] (d ∷ later) same = absurd same
heard-kept imei (c ∷ logs) [] same = absurd same
heard-kept imei (c ∷ logs) (d ∷ later) same =
    ap (λ (z : ℕ × List ℕ × ℕ × List Record). (if z.0 == imei then records_in (take ((z.2 - 1) / 4) (frames_of z.1)) else []) ++ z.3)
    (λ i. (same.0.imei i, same.0.up i, same.0.down_given i, heard-kept imei logs later same.1 i))

pub given-kept : (imei : ℕ) (hs : List ConnectionHistory) (logs later : List ConnectionOutcome) → AreKeptLogs logs later → given_in hs later imei ≡ given_in hs logs imei
given-kept imei [] logs later same = refl
given-kept imei (h ∷ hs) [] [] same = refl
given-kept imei (h ∷ hs) [] (d ∷ later) same = absurd same
given-kept imei (h ∷ hs) (c ∷ logs) [] same = absurd same
given-kept imei (h ∷ hs) (c ∷ logs) (d ∷ later) same =
    ap (λ (z : ℕ × List ℕ × List Record). (if z.0 == imei then records_in (frames_within (up_to h.allowed (length z.1)) z.1) else []) ++ z.2)
    (λ i. (same.0.imei i, same.0.up i, given-kept imei hs logs later same.1 i))

pub sent-kept : (lines : List ScriptLine) (logs later : List ConnectionOutcome) (imei : ℕ) → AreKeptLogs logs later → SameGiven lines logs later imei
sent-kept lines logs later imei same = record { same = λ i. given-kept imei (connections_of (take i lines)) logs later same }

pub earlier-kept : (devices : List Device) (logs later : List ConnectionOutcome) (h : ConnectionHistory) → AreKeptLogs logs later → earlier_by devices later h ≡ earlier_by devices logs h
earlier-kept devices logs later h same = ap (λ ends. earlier_records h.opening.imei devices (steps_of h.before ends)) (ends-kept logs later same)

-- One log more.

given-front : (imei : ℕ) (hs : List ConnectionHistory) (logs more : List ConnectionOutcome) → length hs ≤ length logs → given_in hs (logs ++ more) imei ≡ given_in hs logs imei
given-front imei [] logs more few = refl
given-front imei (h ∷ hs) [] more few = absurd (omega arith)
given-front imei (h ∷ hs) (c ∷ logs) more few =
    ap (λ rest. (if c.imei == imei then records_in (frames_within (up_to h.allowed (length c.up)) c.up) else []) ++ rest) (given-front imei hs logs more (omega arith))

pub sent-more : (lines : List ScriptLine) (logs more : List ConnectionOutcome) (imei : ℕ) → length (connections_of lines) ≤ length logs → SameGiven lines logs (logs ++ more) imei
sent-more lines logs more imei few = record {
  same = λ i. given-front imei (connections_of (take i lines)) logs more (omega (arith, few, connections-count lines, connections-count (take i lines), connecting-take i lines));
}

pub ends-append : (logs more : List ConnectionOutcome) → ends_of (logs ++ more) ≡ ends_of logs ++ ends_of more
ends-append [] more = refl
ends-append (c ∷ logs) more = ap (λ ends. c.device ∷ ends) (ends-append logs more)

pub ends-length : (logs : List ConnectionOutcome) → length (ends_of logs) ≡ length logs
ends-length [] = refl
ends-length (c ∷ logs) = ap suc (ends-length logs)

pub logs-length : (ws : List Connection) → length (logs_of ws) ≡ length ws
logs-length [] = refl
logs-length (w ∷ ws) = ap suc (logs-length ws)

pub logs-set-at : (ws : List Connection) (n : ℕ) (w : Connection) → logs_of (set ws n w) ≡ set (logs_of ws) n w.log
logs-set-at [] n w = refl
logs-set-at (v ∷ ws) zero w = refl
logs-set-at (v ∷ ws) (suc n) w = ap (λ logs. v.log ∷ logs) (logs-set-at ws n w)

pub logs-append : (ws more : List Connection) → logs_of (ws ++ more) ≡ logs_of ws ++ logs_of more
logs-append [] more = refl
logs-append (w ∷ ws) more = ap (λ logs. w.log ∷ logs) (logs-append ws more)

pub earlier-more : (devices : List Device) (logs more : List ConnectionOutcome) (h : ConnectionHistory) → connecting h.before ≤ length logs → earlier_by devices (logs ++ more) h ≡ earlier_by devices logs h
earlier-more devices logs more h few =
    ap (λ steps. earlier_records h.opening.imei devices steps)
    (ap (steps_of h.before) (ends-append logs more) ∙ steps-front h.before (ends_of logs) (ends_of more) (omega (arith, few, ends-length logs)))

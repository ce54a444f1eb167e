-- All connections, one line more: those that it gives nothing, and the server's power loss.
use Rattle.std.proofs.Common.{◌≡◌, ◌≤◌, ℕ, zero, suc, Bool, true, false, List, [], ◌∷◌, ◌++◌, length, map, slice_get, Option, Some, None, if◌then◌else◌, refl, sym, ◌∙◌, ap, subst, arith, append_assoc}
use Rattle.std.proofs.lemmas.List.{length-map}
use Rattle.avl_values.specs.Record.{Record}
use Rattle.trial_model.specs.declared.outcome.ConnectionOutcome.{ConnectionOutcome}
use Rattle.trial_model.specs.declared.script.ScriptLine.{ScriptLine}
use Rattle.trial_model.specs.declared.script.Who.TheVariants as Who
use Rattle.trial_model.specs.Connections.{ConnectionHistory, connections_of, given_by, given_to, if_covered, restarted, up_to}
use Rattle.trial_model.specs.Cover.{cover_on, fuse_of}
use Rattle.trial_model.specs.Decisions.{steps_of}
use Rattle.trial_model.specs.Kept.{earlier_records, ends_of}
use Rattle.trial_model.specs.Script.{Device, Opening, is_known}
use Rattle.trial_wire.specs.Connections.{Connection, IsConnectionSound, cut_by_power}
use Rattle.trial_wire.proofs.Changing.{SameGiven, kept-sound, must-same, restarted-sound}
use Rattle.trial_play.specs.Trials.{AreConnectionsSound, BeginsWith, IsSoundBy, connecting, cover_by, earlier_by, known_by, logs_of}
use Rattle.trial_play.proofs.Given.{restarted-allowed}
use Rattle.trial_play.proofs.KeptLogs.{earlier-kept, kept-cut, kept-itself, sent-kept}
use Rattle.trial_play.proofs.Places.{get-map}

pub begins-more : (front lines : List ScriptLine) (l : ScriptLine) → BeginsWith front lines → BeginsWith front (lines ++ l ∷ [])
begins-more front lines l b = record { rest = b.rest ++ l ∷ []; is = ap (λ xs. xs ++ l ∷ []) b.is ∙ append_assoc front b.rest (l ∷ []) }

pub begins-itself : (lines more : List ScriptLine) → BeginsWith lines (lines ++ more)
begins-itself lines more = record { rest = more; is = refl }

-- Logs that give the same records, and the same ends to those before.
pub logs-sound : (lines : List ScriptLine) (logs later : List ConnectionOutcome) (known : Bool) (cover : Option ℕ) (earlier : List Record) (n : ℕ) (h : ConnectionHistory) (w : Connection)
    → SameGiven lines logs later w.log.imei → IsConnectionSound lines logs known cover earlier n h w → IsConnectionSound lines later known cover earlier n h w
logs-sound lines logs later known cover earlier n h w same sound = record {
  log = sound.log;
  server = record {
    says = sound.server.says;
    unknown = sound.server.unknown;
    fault = λ i line must. sound.server.fault i line (must-same lines logs later n w.log i line same must);
  };
  device = sound.device;
  heard = sound.heard;
  done = sound.done;
  stream = sound.stream;
  early = sound.early;
  going = sound.going;
  ended = sound.ended;
}

-- One line more, that gives it nothing.
pub line-sound : (devices : List Device) (lines : List ScriptLine) (l : ScriptLine) (logs later : List ConnectionOutcome) (n : ℕ) (h : ConnectionHistory) (w : Connection)
    → SameGiven lines logs later w.log.imei → earlier_by devices later h ≡ earlier_by devices logs h → given_by (lines ++ l ∷ []) n (length w.log.up) ≤ given_by lines n (length w.log.up)
    → IsSoundBy devices lines logs n h w → IsSoundBy devices (lines ++ l ∷ []) later n h w
line-sound devices lines l logs later n h w same earlier low sound =
    subst (λ rs. IsConnectionSound (lines ++ l ∷ []) later (known_by devices h) (cover_by h) rs n h w) (sym earlier)
    (kept-sound lines logs later l (known_by devices h) (cover_by h) (earlier_by devices logs h) n h w same low sound)

-- How much of a connection is delivered, by its history.

pub given-at : (hs : List ConnectionHistory) (n sent : ℕ) (h : ConnectionHistory) → slice_get hs n ≡ Some h → given_to (slice_get hs n) sent ≡ up_to h.allowed sent
given-at hs n sent h at = ap (λ o. given_to o sent) at

covered-allowed : (fuse : Option ℕ) (hs : List ConnectionHistory) (n sent : ℕ) → given_to (slice_get (if_covered fuse hs) n) sent ≡ given_to (slice_get hs n) sent
covered-allowed None hs n sent = refl
covered-allowed (Some k) hs n sent = each hs n
  where
    each : (hs : List ConnectionHistory) (n : ℕ) → given_to (slice_get (map restarted hs) n) sent ≡ given_to (slice_get hs n) sent
    each [] n = refl
    each (h ∷ hs) zero = ap (λ m. up_to m sent) (restarted-allowed h)
    each (h ∷ hs) (suc n) = each hs n

-- a line that makes these histories, whether or not a fuse covers it
pub given-now : (lines : List ScriptLine) (l : ScriptLine) (fuse : Option ℕ) (hs : List ConnectionHistory) (n sent : ℕ) (h : ConnectionHistory) → connections_of (lines ++ l ∷ []) ≡ if_covered fuse hs → slice_get hs n ≡ Some h
    → given_by (lines ++ l ∷ []) n sent ≡ up_to h.allowed sent
given-now lines l fuse hs n sent h makes at = ap (λ cs. given_to (slice_get cs n) sent) makes ∙ (covered-allowed fuse hs n sent ∙ given-at hs n sent h at)

-- A history with another allowance or another half-open time, of the same connection.
pub same-history : (devices : List Device) (lines : List ScriptLine) (logs : List ConnectionOutcome) (n : ℕ) (h k : ConnectionHistory) (w : Connection) → k.before ≡ h.before → k.line ≡ h.line → k.opening ≡ h.opening
    → IsConnectionSound lines logs (known_by devices h) (cover_by h) (earlier_by devices logs h) n k w → IsSoundBy devices lines logs n k w
same-history devices lines logs n h k w before line opening sound =
    subst (λ (z : List ScriptLine × ScriptLine × Opening). IsConnectionSound lines logs (is_known z.2.imei devices) (cover_on (Who.Device z.2.imei) (fuse_of (Who.Device z.2.imei) z.0) z.1)
    (earlier_records z.2.imei devices (steps_of z.0 (ends_of logs))) n k w)
    (λ i. (sym before i, sym line i, sym opening i)) sound

-- The server's power loss.

pub restarted-before : (h : ConnectionHistory) → (restarted h).before ≡ h.before
restarted-before h = split h.half_open
  where
    split : (b : Bool) → (if b then record h { half_open = false; restarted = true } else h).before ≡ h.before
    split true = refl
    split false = refl

restarted-line : (h : ConnectionHistory) → (restarted h).line ≡ h.line
restarted-line h = split h.half_open
  where
    split : (b : Bool) → (if b then record h { half_open = false; restarted = true } else h).line ≡ h.line
    split true = refl
    split false = refl

restarted-opening : (h : ConnectionHistory) → (restarted h).opening ≡ h.opening
restarted-opening h = split h.half_open
  where
    split : (b : Bool) → (if b then record h { half_open = false; restarted = true } else h).opening ≡ h.opening
    split true = refl
    split false = refl

pub connections-restarted : (devices : List Device) (lines : List ScriptLine) (hs : List ConnectionHistory) (ws : List Connection) → AreConnectionsSound devices lines hs ws → AreConnectionsSound devices lines (map restarted hs) (map cut_by_power ws)
connections-restarted devices lines hs ws s = record {
  as_many = length-map ws cut_by_power ∙ (s.as_many ∙ sym (length-map hs restarted));
  places = λ n k at. (let r = get-map restarted hs n k at in subst (λ ls. connecting ls ≤ n) (sym (ap (λ (z : ConnectionHistory). z.before) r.2 ∙ restarted-before r.0)) (s.places n r.0 r.1));
  begins = λ n k at. (let r = get-map restarted hs n k at in subst (λ ls. BeginsWith ls lines) (sym (ap (λ (z : ConnectionHistory). z.before) r.2 ∙ restarted-before r.0)) (s.begins n r.0 r.1));
  each = λ n k v at_k at_v. each n k v (get-map restarted hs n k at_k) (get-map cut_by_power ws n v at_v);
}
  where
    logs : List ConnectionOutcome
    logs = logs_of ws

    later : List ConnectionOutcome
    later = logs_of (map cut_by_power ws)

    each : (n : ℕ) (k : ConnectionHistory) (v : Connection) → (h : ConnectionHistory) × (slice_get hs n ≡ Some h) × (k ≡ restarted h) → (w : Connection) × (slice_get ws n ≡ Some w) × (v ≡ cut_by_power w)
        → IsSoundBy devices lines (logs_of (map cut_by_power ws)) n k v
    each n k v (h, at_h, is_h) (w, at_w, is_w) =
        let sound = s.each n h w at_h at_w in
        let cut = restarted-sound lines (logs_of ws) (known_by devices h) (cover_by h) (earlier_by devices (logs_of ws) h) n h w sound in
        let now = logs-sound lines (logs_of ws) (logs_of (map cut_by_power ws)) (known_by devices h) (cover_by h) (earlier_by devices (logs_of ws) h) n (restarted h) (cut_by_power w)
        (sent-kept lines (logs_of ws) (logs_of (map cut_by_power ws)) (cut_by_power w).log.imei (kept-cut ws)) cut in
        let ends = subst (λ rs. IsConnectionSound lines (logs_of (map cut_by_power ws)) (known_by devices h) (cover_by h) rs n (restarted h) (cut_by_power w)) (sym (earlier-kept devices (logs_of ws) (logs_of (map cut_by_power ws)) h (kept-cut ws))) now in
        subst (λ (z : ConnectionHistory × Connection). IsSoundBy devices lines (logs_of (map cut_by_power ws)) n z.0 z.1) (λ i. (sym is_h i, sym is_w i))
        (same-history devices lines (logs_of (map cut_by_power ws)) n h (restarted h) (cut_by_power w) (restarted-before h) (restarted-line h) (restarted-opening h) ends)

-- A line that changes no connection, but may end the sessions of all.
pub connections-covered : (devices : List Device) (lines : List ScriptLine) (l : ScriptLine) (fuse : Option ℕ) (ws : List Connection) → connections_of (lines ++ l ∷ []) ≡ if_covered fuse (connections_of lines)
    → AreConnectionsSound devices lines (connections_of lines) ws → AreConnectionsSound devices (lines ++ l ∷ []) (connections_of lines) ws
connections-covered devices lines l fuse ws makes s = record {
  as_many = s.as_many;
  places = s.places;
  begins = λ n h at. begins-more h.before lines l (s.begins n h at);
  each = λ n h w at_h at_w. line-sound devices lines l (logs_of ws) (logs_of ws) n h w (sent-kept lines (logs_of ws) (logs_of ws) w.log.imei (kept-itself (logs_of ws))) refl
      (let gives = given-now lines l fuse (connections_of lines) n (length w.log.up) h makes at_h in let gave = given-at (connections_of lines) n (length w.log.up) h at_h in omega (arith, gives, gave)) (s.each n h w at_h at_w);
}

pub connections-idle : (devices : List Device) (lines : List ScriptLine) (l : ScriptLine) (ws : List Connection) → connections_of (lines ++ l ∷ []) ≡ connections_of lines → AreConnectionsSound devices lines (connections_of lines) ws
    → AreConnectionsSound devices (lines ++ l ∷ []) (connections_of lines) ws
connections-idle devices lines l ws none s = connections-covered devices lines l None ws none s

-- A connection that a line gives nothing, and one whose half-open time ends.
use Rattle.std.proofs.Common.{◌≡◌, ◌≤◌, inl, inr, ℕ, ◌-◌, ◌*◌, Bool, true, false, List, [], ◌∷◌, ◌++◌, length, take, Option, if◌then◌else◌, refl, sym, ◌∙◌, ap, subst, append-nil, arith}
use Rattle.std.proofs.lemmas.Bool.{false≢true, true≢false}
use Rattle.avl_values.specs.Record.{Record}
use Rattle.trial_model.specs.declared.outcome.ConnectionOutcome.{ConnectionOutcome}
use Rattle.trial_model.specs.declared.outcome.ServerEnd.{ServerEnd}
use Rattle.trial_model.specs.declared.outcome.ServerEnd.TheVariants as Server
use Rattle.trial_model.specs.declared.script.ScriptLine.{ScriptLine}
use Rattle.trial_model.specs.Answers.{IsServerEnd, MustFault, cover_at, delivered_on, fresh_frames, is_fault}
use Rattle.trial_model.specs.Connections.{ConnectionHistory, closed, connections_of, given_by, restarted, up_to}
use Rattle.trial_model.specs.Cover.{IsBelow}
use Rattle.trial_wire.specs.Connections.{Connection, IsConnectionSound, IsEndNow, IsOwnEnd, cut_by_power, fed, shut}
use Rattle.trial_model.specs.Delivery.{delivered_of, records_given}
use Rattle.trial_model.specs.Frames.{counts_of}
use Rattle.trial_model.specs.Logs.{answers_to}
use Rattle.trial_wire.proofs.Logs.{answers-fed, answers-most, device-fed, few-fed, frame-fed, sent-fed}
use Rattle.trial_wire.proofs.Passing.{up_to-least}
use Rattle.trial_wire.proofs.Histories.{may-old, must-cases}

-- Later logs give a device the same records, for each front of the lines.
pub record SameGiven (lines : List ScriptLine) (logs later : List ConnectionOutcome) (imei : ℕ) : Type 0 where
  pub same : (i : ℕ) → records_given imei (connections_of (take i lines)) later ≡ records_given imei (connections_of (take i lines)) logs

-- what had to fail by the later logs had to fail by those before
pub must-same : (lines : List ScriptLine) (logs later : List ConnectionOutcome) (n : ℕ) (c : ConnectionOutcome) (i : ℕ) (line : ScriptLine) → SameGiven lines logs later c.imei → MustFault lines later n c i line → MustFault lines logs n c i line
must-same lines logs later n c i line same (g, below) = (g, subst (λ rs. IsBelow (cover_at lines i line) (4 * fresh_frames rs (delivered_on lines i n c.up))) (same.same i) below)

module _ (lines : List ScriptLine) (n : ℕ) (h k : ConnectionHistory) (c : ConnectionOutcome) where
  -- of the end nothing hangs on the history but whether the server's power loss ended it
  pub says-same : (end : ServerEnd) → k.restarted ≡ h.restarted → IsServerEnd lines n h c end → IsServerEnd lines n k c end
  says-same Server.Ended same s = (same ∙ s.0, s.1)
  says-same (Server.EndedInside have) same s = (same ∙ s.0, s.1, s.2)
  says-same Server.LinkFault same s = s
  says-same (Server.Broken fault) same s = s
  says-same (Server.Unknown imei) same s = s
  says-same (Server.MediumFault faults) same s = s
  says-same (Server.Down faults) same s = s
  says-same (Server.LongEnough taken) same s = s
  says-same Server.NoMemory same s = s
  says-same Server.Restart same s = same ∙ s

-- one line more
pub says-more : (lines : List ScriptLine) (l : ScriptLine) (n : ℕ) (h : ConnectionHistory) (c : ConnectionOutcome) (end : ServerEnd) → IsServerEnd lines n h c end → IsServerEnd (lines ++ l ∷ []) n h c end
says-more lines l n h c Server.Ended s = s
says-more lines l n h c (Server.EndedInside have) s = s
says-more lines l n h c Server.LinkFault s = s
says-more lines l n h c (Server.Broken fault) s = s
says-more lines l n h c (Server.Unknown imei) s = s
says-more lines l n h c (Server.MediumFault faults) s = may-old lines l n c s
says-more lines l n h c (Server.Down faults) s = s
says-more lines l n h c (Server.LongEnough taken) s = s
says-more lines l n h c Server.NoMemory s = s
says-more lines l n h c Server.Restart s = s

-- A line that gives it nothing.
pub kept-sound : (lines : List ScriptLine) (logs later : List ConnectionOutcome) (l : ScriptLine) (known : Bool) (cover : Option ℕ) (earlier : List Record) (n : ℕ) (h : ConnectionHistory) (w : Connection)
    → SameGiven lines logs later w.log.imei → given_by (lines ++ l ∷ []) n (length w.log.up) ≤ given_by lines n (length w.log.up)
    → IsConnectionSound lines logs known cover earlier n h w → IsConnectionSound (lines ++ l ∷ []) later known cover earlier n h w
kept-sound lines logs later l known cover earlier n h w same nothing sound = record {
  log = sound.log;
  server = record {
    says = says-more lines l n h w.log w.log.server sound.server.says;
    unknown = sound.server.unknown;
    fault = λ i line must. elim (must-cases lines l n later w.log i line must) [
      | inl (order, old) ↦ sound.server.fault i line (must-same lines logs later n w.log i line same old)
      | inr (gift, below) ↦ absurd (omega (arith, gift, nothing))
    ];
  };
  device = sound.device;
  heard = sound.heard;
  done = sound.done;
  stream = sound.stream;
  early = sound.early;
  going = sound.going;
  ended = sound.ended;
}

-- More is allowed, and it changes nothing.
pub allowed-sound : (lines : List ScriptLine) (logs : List ConnectionOutcome) (known : Bool) (cover : Option ℕ) (earlier : List Record) (n : ℕ) (h : ConnectionHistory) (w : Connection) (more : Option ℕ)
    → w.log.up_given ≡ up_to more (length w.log.up)
    → IsConnectionSound lines logs known cover earlier n h w → IsConnectionSound lines logs known cover earlier n (record h { allowed = more }) w
allowed-sound lines logs known cover earlier n h w more up sound = record {
  log = record { imei = sound.log.imei; sent = sound.log.sent; few = sound.log.few; up = up; down = sound.log.down };
  server = record { says = says-same lines n h (record h { allowed = more }) w.log w.log.server refl sound.server.says; unknown = sound.server.unknown; fault = sound.server.fault };
  device = sound.device;
  heard = sound.heard;
  done = sound.done;
  stream = sound.stream;
  early = sound.early;
  going = sound.going;
  ended = sound.ended;
}

-- It was closed: its session sees the end that is in the log.
pub closed-sound : (lines : List ScriptLine) (logs : List ConnectionOutcome) (known : Bool) (cover : Option ℕ) (earlier : List Record) (n : ℕ) (h : ConnectionHistory) (w : Connection)
    → IsConnectionSound lines logs known cover earlier n h w → IsConnectionSound lines logs known cover earlier n (closed h) (shut w)
closed-sound lines logs known cover earlier n h w sound = record {
  log = record { imei = sound.log.imei; sent = sound.log.sent; few = sound.log.few; up = sound.log.up; down = sound.log.down };
  server = record { says = says-same lines n h (closed h) w.log w.log.server refl sound.server.says; unknown = sound.server.unknown; fault = sound.server.fault };
  device = sound.device;
  heard = sound.heard;
  done = sound.done;
  stream = sound.stream;
  early = sound.early;
  going = λ on. absurd (false≢true on);
  ended = λ off half. absurd (false≢true half);
}

-- What is true of a session that goes on, by the end that is in its log.

pub good-now : (c : ConnectionOutcome) (end : ServerEnd) → IsEndNow c end → is_fault end ≡ false
good-now c Server.Ended e = refl
good-now c (Server.EndedInside have) e = refl
good-now c Server.LinkFault e = absurd e
good-now c (Server.Broken fault) e = absurd e
good-now c (Server.Unknown imei) e = absurd e
good-now c (Server.MediumFault faults) e = absurd e
good-now c (Server.Down faults) e = absurd e
good-now c (Server.LongEnough taken) e = absurd e
good-now c Server.NoMemory e = absurd e
good-now c Server.Restart e = absurd e

pub whole-now : (lines : List ScriptLine) (n : ℕ) (h : ConnectionHistory) (c : ConnectionOutcome) (end : ServerEnd) → IsEndNow c end → IsServerEnd lines n h c end → h.restarted ≡ false
whole-now lines n h c Server.Ended e s = s.0
whole-now lines n h c (Server.EndedInside have) e s = s.0
whole-now lines n h c Server.LinkFault e s = absurd e
whole-now lines n h c (Server.Broken fault) e s = absurd e
whole-now lines n h c (Server.Unknown imei) e s = absurd e
whole-now lines n h c (Server.MediumFault faults) e s = absurd e
whole-now lines n h c (Server.Down faults) e s = absurd e
whole-now lines n h c (Server.LongEnough taken) e s = absurd e
whole-now lines n h c Server.NoMemory e s = absurd e
whole-now lines n h c Server.Restart e s = absurd e

-- of a session that ended by itself nothing hangs on the history
own-says : (lines : List ScriptLine) (n : ℕ) (h k : ConnectionHistory) (c : ConnectionOutcome) (end : ServerEnd) → IsOwnEnd c end → IsServerEnd lines n h c end → IsServerEnd lines n k c end
own-says lines n h k c Server.Ended e s = absurd e
own-says lines n h k c (Server.EndedInside have) e s = absurd e
own-says lines n h k c Server.LinkFault e s = absurd e
own-says lines n h k c (Server.Broken fault) e s = absurd e
own-says lines n h k c (Server.Unknown imei) e s = s
own-says lines n h k c (Server.MediumFault faults) e s = s
own-says lines n h k c (Server.Down faults) e s = absurd e
own-says lines n h k c (Server.LongEnough taken) e s = absurd e
own-says lines n h k c Server.NoMemory e s = absurd e
own-says lines n h k c Server.Restart e s = absurd e

-- The server's power loss.
module _ (lines : List ScriptLine) (logs : List ConnectionOutcome) (known : Bool) (cover : Option ℕ) (earlier : List Record) (n : ℕ) (h : ConnectionHistory) (w : Connection) (sound : IsConnectionSound lines logs known cover earlier n h w) where
  abbrev cut : ConnectionHistory
  cut = record h { half_open = false; restarted = true }

  -- a session that went on
  cut-sound : w.going ≡ true → IsConnectionSound lines logs known cover earlier n cut (record { log = fed w.log w.log.up_given [] Server.Restart; going = false })
  cut-sound on =
      let now = (sound.going on).1 in
      let good = good-now w.log w.log.server now in
      let low : w.log.down_given ≤ length w.log.down = omega (arith, sound.log.down, up_to-least h.opening.down (answers_to (up_to h.opening.up (length w.log.up)) w.log), answers-most (up_to h.opening.up (length w.log.up)) w.log) in
      record {
        log = record {
          imei = sound.log.imei;
          sent = sent-fed w.log w.log.up_given [] Server.Restart low w.log.device earlier sound.log.sent;
          few = few-fed w.log w.log.up_given [] Server.Restart h.opening.drains sound.log.few;
          up = sound.log.up;
          down = sound.log.down ∙ ap (up_to h.opening.down) (sym (answers-fed known w.log w.log.up_given (up_to h.opening.up (length w.log.up)) [] Server.Restart sound.heard now good sound.early));
        };
        server = record {
          says = refl;
          unknown = λ zero_down. absurd (subst (IsEndNow w.log) (sound.server.unknown (sym (append-nil w.log.down) ∙ zero_down)) now);
          fault = λ i line must. absurd (true≢false (sym (sound.server.fault i line must) ∙ good));
        };
        device = device-fed w.log w.log.up_given [] Server.Restart low cover sound.device;
        heard = record {
          within = sound.heard.within;
          without_login = λ short. append-nil w.log.down ∙ sound.heard.without_login short;
          stranger = λ long stranger. absurd (subst (IsEndNow w.log) (sound.heard.stranger long stranger).1 now);
          counts = λ long friend. append-nil w.log.down ∙ (sound.heard.counts long friend ∙ ap (λ b. 1 ∷ counts_of (if b then take (length (delivered_of w.log) - 1) (delivered_of w.log) else delivered_of w.log)) good);
          uncounted = λ bad. absurd (false≢true bad);
        };
        done = frame-fed w.log w.log.up_given [] Server.Restart w.log.device sound.done;
        stream = sound.stream;
        early = sound.early;
        going = λ off. absurd (false≢true off);
        ended = λ off half. absurd (false≢true half);
      }

  -- one that had ended by itself
  over-sound : w.going ≡ false → h.half_open ≡ true → IsConnectionSound lines logs known cover earlier n cut w
  over-sound off half = record {
    log = record { imei = sound.log.imei; sent = sound.log.sent; few = sound.log.few; up = sound.log.up; down = sound.log.down };
    server = record { says = own-says lines n h cut w.log w.log.server (sound.ended off half).0 sound.server.says; unknown = sound.server.unknown; fault = sound.server.fault };
    device = sound.device;
    heard = sound.heard;
    done = sound.done;
    stream = sound.stream;
    early = sound.early;
    going = λ on. absurd (true≢false (sym on ∙ off));
    ended = λ _ closed. absurd (false≢true closed);
  }

  off-same : w.going ≡ false → cut_by_power w ≡ w
  off-same off = ap (λ b. if b then record { log = record w.log { server = Server.Restart }; going = false } else w) off

  half-cut : h.half_open ≡ true → restarted h ≡ cut
  half-cut half = ap (λ b. if b then cut else h) half

  closed-same : h.half_open ≡ false → restarted h ≡ h
  closed-same closed_is = ap (λ b. if b then cut else h) closed_is

  pub restarted-sound : IsConnectionSound lines logs known cover earlier n (restarted h) (cut_by_power w)
  restarted-sound = split w.going h.half_open refl refl
    where
      split : (on half : Bool) → w.going ≡ on → h.half_open ≡ half
          → IsConnectionSound lines logs known cover earlier n (if h.half_open then cut else h) (if w.going then record { log = record w.log { server = Server.Restart }; going = false } else w)
      split true true is_on is_half = rw (is_on, is_half) (subst (λ d. IsConnectionSound lines logs known cover earlier n cut (record { log = record w.log { down = d; server = Server.Restart }; going = false })) (append-nil w.log.down) (cut-sound is_on))
      split true false is_on is_half = absurd (true≢false (sym (sound.going is_on).0 ∙ is_half))
      split false true is_on is_half =
          subst (λ (z : ConnectionHistory × Connection). IsConnectionSound lines logs known cover earlier n z.0 z.1) (λ i. (sym (half-cut is_half) i, sym (off-same is_on) i)) (over-sound is_on is_half)
      split false false is_on is_half =
          subst (λ (z : ConnectionHistory × Connection). IsConnectionSound lines logs known cover earlier n z.0 z.1) (λ i. (sym (closed-same is_half) i, sym (off-same is_on) i)) sound

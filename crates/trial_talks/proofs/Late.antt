-- A `late` line: a session of an earlier line takes more bytes, in the words of its connection's log.
use Rattle.std.proofs.Common.{◌≡◌, ◌≤◌, ◌<◌, ◌^◌, inl, inr, ℕ, Bool, true, false, List, [], ◌++◌, length, take, Option, Some, None, is_none, IfNone, refl, ap, subst, arith, length-append}
use Rattle.avl_values.specs.Record.{Record}
use Rattle.frame_layout.specs.Values.{UpValue}
use Rattle.item_streams.specs.Streams.{Item}
use Rattle.session_core.specs.declared.known.Known.{Known}
use Rattle.session_core.specs.Knowing.{knows}
use Rattle.session_core.specs.Sessions.{SessionState}
use Rattle.shelf.specs.Shelf.{ShelfView}
use Rattle.tracker_session.specs.Sending.{AreSentBodies, stream_up}
use Rattle.trial_model.specs.declared.outcome.ConnectionOutcome.{ConnectionOutcome}
use Rattle.trial_model.specs.declared.outcome.DeviceEnd.{DeviceEnd}
use Rattle.trial_model.specs.declared.outcome.DeviceEnd.TheVariants as End
use Rattle.trial_model.specs.declared.outcome.ServerEnd.{ServerEnd}
use Rattle.trial_model.specs.declared.outcome.ServerEnd.TheVariants as Server
use Rattle.trial_model.specs.declared.script.ScriptLine.{ScriptLine}
use Rattle.trial_model.specs.Connections.{ConnectionHistory, plus, up_to}
use Rattle.trial_model.specs.Logs.{IsSent, IsWholeStream, answers_to}
use Rattle.trial_wire.specs.Connections.{Connection, IsConnectionSound, IsFed, fed}
use Rattle.trial_wire.specs.Hearing.{Hears, Stands, items_in, rest_in}
use Rattle.trial_wire.specs.WireLinks.{Passes}
use Rattle.trial_wire.proofs.Logs.{answers-most, sent-fed}
use Rattle.trial_wire.proofs.Passing.{up_to-least}
use Rattle.trial_wire.proofs.Rounding.{going-fed, over-fed}
use Rattle.trial_talks.specs.Rounds.{server_by}
use Rattle.trial_talks.proofs.Starting.{going-hears}

-- The place up to which a `late` line's bytes go: no further back, and by the line's number from where the session stands.

pub late-place : (allowed bytes : Option ℕ) (sent given : ℕ) → given ≡ up_to allowed sent → up_to (plus allowed bytes) sent ≡ up_to (plus (Some given) bytes) sent
late-place None None sent given is = refl
late-place None (Some n) sent given is = omega (arith, is)
late-place (Some m) None sent given is = refl
late-place (Some m) (Some n) sent given is = omega (arith, is)

-- a device that sent something sent a whole stream
whole-by : (end : DeviceEnd) (earlier : List Record) (c : ConnectionOutcome) → IsSent end earlier c → (end ≡ End.Empty → ⊥) → IsWholeStream earlier c
whole-by (End.Done n) earlier c s some = s
whole-by End.Empty earlier c s some = absurd (some refl)
whole-by End.Refused earlier c s some = s
whole-by End.Broken earlier c s some = s
whole-by (End.WrongAnswer got) earlier c s some = s
whole-by End.TooManyCommands earlier c s some = s
whole-by End.MediumFault earlier c s some = s

module _ (lines : List ScriptLine) (logs : List ConnectionOutcome) (known : Known) (cover : Option ℕ) (earlier : List Record) (n : ℕ) (h : ConnectionHistory) (w : Connection)
    (sound : IsConnectionSound lines logs (knows known w.log.imei) cover earlier n h w) (going : w.going ≡ true) (digits : w.log.imei < 10 ^ 15) (s t : ShelfView) (up : s.down ≡ false)
    (b : ℕ) (more : w.log.up_given < b) (within : b ≤ length w.log.up) (now : SessionState) (down : List ℕ) (at : ℕ) (ended : Option ServerEnd)
    (p : Passes known w.log.up w.log.up_given b now s t w.log.down down at ended) (memory : ended ≡ Some Server.NoMemory → ⊥) where
  abbrev old : List (Item UpValue)
  old = items_in (take w.log.up_given w.log.up)

  sent-some : w.log.up ≡ [] → ⊥
  sent-some none = omega (arith, more, within, ap length none)

  stream : IsWholeStream earlier w.log
  stream = whole-by w.log.device earlier w.log sound.log.sent (λ empty. sent-some (sound.device.empty.0 empty))

  low : w.log.down_given ≤ length w.log.down
  low = omega (arith, sound.log.down, up_to-least h.opening.down (answers_to (up_to h.opening.up (length w.log.up)) w.log), answers-most (up_to h.opening.up (length w.log.up)) w.log)

  -- the session now, over the log's bytes
  stands-now : Stands (knows known) old s (take at w.log.up) (w.log.down ++ p.wrote) t ended
  stands-now = subst (λ (d : List ℕ). Stands (knows known) old s (take at w.log.up) d t ended) p.writes (p.stands old s (going-hears lines logs (knows known) cover earlier n h w sound going digits s up))

  fed-stream : (place : ℕ) (server : ServerEnd) → IsWholeStream earlier (fed w.log place p.wrote server)
  fed-stream place server = sent-fed w.log place p.wrote server low End.Broken earlier stream

  low-more : w.log.down_given ≤ length (w.log.down ++ p.wrote)
  low-more = omega (arith, low, length-append w.log.down p.wrote)

  fed-by : (bodies : List (List ℕ)) → AreSentBodies bodies → w.log.up ≡ stream_up w.log.imei bodies → (e : Option ServerEnd) → Stands (knows known) old s (take at w.log.up) (w.log.down ++ p.wrote) t e → IfNone e (at ≡ b)
      → (e ≡ Some Server.NoMemory → ⊥) → (failed : Bool) × IsFed (knows known w.log.imei) failed b w.log p.wrote (server_by e (length (rest_in (take at w.log.up)))) (is_none e) s t
  fed-by bodies are up_is None heard all memory = (
    false,
    going-fed (knows known) earlier bodies are w.log b p.wrote (server_by None (length (rest_in (take at w.log.up)))) s t digits up_is (omega (arith, more)) within low-more (fed-stream b (server_by None (length (rest_in (take at w.log.up)))))
        (subst (λ (place : ℕ). Hears (knows known) old s (items_in (take place w.log.up)) (w.log.down ++ p.wrote) t) all heard)
        (ap (λ (place : ℕ). server_by None (length (rest_in (take place w.log.up)))) all),
  )
  fed-by bodies are up_is (Some end) over all memory =
      let stopped = over-fed (knows known) earlier bodies are w.log at p.wrote end s t digits up_is p.after (omega (arith, p.within, within)) low-more (fed-stream at end) over (λ e. memory (ap (λ (x : ServerEnd). Some x) e)) in
      let place : at ≡ b = (let whole = stopped.1.all refl in omega (arith, whole, p.within, within)) in
      (stopped.0, subst (λ (z : ℕ). IsFed (knows known w.log.imei) stopped.0 z w.log p.wrote end false s t) place stopped.1)

  pub late-fed : (failed : Bool) × IsFed (knows known w.log.imei) failed b w.log p.wrote (server_by ended (length (rest_in (take at w.log.up)))) (is_none ended) s t
  late-fed = elim sound.stream as (λ _. (failed : Bool) × IsFed (knows known w.log.imei) failed b w.log p.wrote (server_by ended (length (rest_in (take at w.log.up)))) (is_none ended) s t) [
    | inl none ↦ absurd (sent-some none)
    | inr sent ↦ fed-by sent.bodies sent.are sent.is ended stands-now p.all memory
  ]

-- A `round` or `drain` line: the round of a device over the wire of its line, in the words of the connection's log.
use Rattle.std.proofs.Common.{inl, inr, Err, ◌≡◌, ◌≤◌, ◌<◌, ◌^◌, ℕ, nat_le, Bool, true, false, List, [], length, take, Option, Some, None, Result, Ok, is_none, IfNone, refl, sym, ◌∙◌, ap, subst, arith, length-take-le}
use Rattle.avl_values.specs.Causes.{Rose}
use Rattle.avl_values.specs.Record.{Record}
use Rattle.avl_values.specs.declared.errors.MediumFault.{MediumFault}
use Rattle.layout.specs.Bytes.{AreBytes}
use Rattle.layout.proofs.Numbers.{bytes-take}
use Rattle.flash_ring.specs.Entries.{held_of}
use Rattle.flash_ring.specs.Records.{recs_in}
use Rattle.flash_ring.specs.Ring.{RingView}
use Rattle.links.specs.Links.{Traffic}
use Rattle.session_core.specs.declared.known.Known.{Known}
use Rattle.session_core.specs.Knowing.{knows}
use Rattle.shelf.specs.Shelf.{ShelfView}
use Rattle.tracker_session.specs.RingRounds.{RoundsRing}
use Rattle.tracker_session.specs.Sending.{AreSentBodies, stream_up}
use Rattle.tracker_session.specs.Talks.{AreRightAnswers, HearsNoCommand, IsRightEnd, RoundTalks}
use Rattle.tracker_session.specs.WholeRounds.{IsWholeRound, TalksWhere}
use Rattle.tracker_session.specs.Responses.{ShellMeaning}
use Rattle.tracker_session.specs.RoundStates.{Round, RoundState, starts}
use Rattle.tracker_session.specs.Rounds.{Ends, IsRound, cut, empty, talked}
use Rattle.tracker_session.proofs.Exports.{right_answers_end_right}
use Rattle.tracker_session.specs.declared.round_end.RoundEnd.{RoundEnd}
use Rattle.tracker_session.specs.declared.round_end.RoundEnd.TheVariants as end
use Rattle.trial_model.specs.declared.outcome.ConnectionOutcome.{ConnectionOutcome}
use Rattle.trial_model.specs.declared.outcome.ServerEnd.{ServerEnd}
use Rattle.trial_model.specs.declared.outcome.ServerEnd.TheVariants as Server
use Rattle.trial_model.specs.Answers.{HasDeviceEnd}
use Rattle.trial_model.specs.Connections.{up_to}
use Rattle.trial_model.specs.Delivery.{heard_of}
use Rattle.trial_model.specs.Frames.{Frame, records_in}
use Rattle.trial_model.specs.Logs.{HasFewFrames, IsSent, IsWholeStream}
use Rattle.trial_model.specs.RecordLists.{AreIn}
use Rattle.trial_model.specs.Script.{Opening}
use Rattle.trial_server.specs.Serving.{left_by}
use Rattle.trial_wire.specs.Connections.{HasFrame, IsHeard, IsRounded}
use Rattle.trial_wire.specs.Hearing.{Stands, end_now, rest_in}
use Rattle.trial_wire.specs.WireLinks.{Follows, IsWire, WireState, link_state, new_wire}
use Rattle.trial_wire.proofs.Changing.{good-now}
use Rattle.trial_wire.proofs.Living.{going-end, going-heard, over-ended}
use Rattle.trial_wire.proofs.Passing.{up_to-least}
use Rattle.trial_wire.proofs.Rounding.{going-rounded, over-rounded}
use Rattle.trial_talks.specs.Rounds.{HasRounded, RoundsOver, log_of, server_by}
use Rattle.trial_talks.proofs.Answering.{down-most, right-all, right-heard}
use Rattle.trial_talks.proofs.NoCommands.{stands-plain}
use Rattle.trial_talks.proofs.Starting.{empty-rounded, empty_log, no-rest, none-heard-of, wire-live}
use Rattle.trial_talks.proofs.Talking.{talk-device, talk-few, talk-frame, talk-ring, talk-sent, talk-stream}

-- The session's half says what was written.
module _ (known : ℕ → Bool) (c : ConnectionOutcome) (start now : ShelfView) (ended : Option ServerEnd) (stands : Stands known [] start (take c.up_given c.up) c.down now ended) (memory : ended ≡ Some Server.NoMemory → ⊥)
    (server : c.server ≡ server_by ended (length (rest_in (take c.up_given c.up)))) (digits : c.imei < 10 ^ 15) (within : c.up_given ≤ length c.up) where
  module _ (bodies : List (List ℕ)) (are : AreSentBodies bodies) (up_is : c.up ≡ stream_up c.imei bodies) where
    pub session-heard : IsHeard (known c.imei) c
    session-heard = by ended stands memory server
      where
        by : (e : Option ServerEnd) → Stands known [] start (take c.up_given c.up) c.down now e → (e ≡ Some Server.NoMemory → ⊥) → c.server ≡ server_by e (length (rest_in (take c.up_given c.up))) → IsHeard (known c.imei) c
        by None h memory server = going-heard bodies are c digits up_is within known [] start now h (good-now c c.server (going-end bodies are c digits up_is within known [] start now server))
        by (Some end) over memory server = (over-ended bodies are c digits up_is within known [] start now end over server (λ e. memory (ap (λ (x : ServerEnd). Some x) e))).heard

-- By both halves.
module _ (known : Known) (o : Opening) (most : ℕ) (result : Result RoundEnd MediumFault) (old new : RingView) (s : ShelfView) (w : WireState) (earlier : List Record) (cover : Option ℕ)
    (digits : o.imei < 10 ^ 15) (up : s.down ≡ false) (follows : Follows (new_wire s known o.up o.down) w) (wire : IsWire w) (bytes : AreBytes w.up) (memory : w.ended ≡ Some Server.NoMemory → ⊥)
    (talks : TalksWhere o.imei most result old new (link_state (new_wire s known o.up o.down)).told (link_state w).told) (broken : result ≡ Ok end.Broken → (link_state w).ended ≡ true)
    (decided : AreIn earlier (held_of old.slots)) (left : old.medium.left ≡ left_by cover) (few : o.drains ≡ false → most ≤ 1) where
  abbrev pub log : ConnectionOutcome
  log = log_of o.imei result w

  live : Stands (knows known) [] s (take w.given w.up) w.down w.shelf w.ended
  live = subst (λ (k : Known). Stands (knows k) [] s (take w.given w.up) w.down w.shelf w.ended) follows.known (follows.keeps [] s (wire-live s known o.up o.down up))

  given-low : w.given ≤ up_to o.up (length w.up)
  given-low = subst (λ (l : Option ℕ). w.given ≤ up_to l (length w.up)) follows.limit wire.given

  within : w.given ≤ length w.up
  within = omega (arith, given-low, up_to-least o.up (length w.up))

  heard-low : w.heard ≤ up_to o.down (length w.down)
  heard-low = subst (λ (l : Option ℕ). w.heard ≤ up_to l (length w.down)) follows.most wire.heard

  low : w.heard ≤ length w.down
  low = omega (arith, heard-low, up_to-least o.down (length w.down))

  -- no command came down
  pub none-heard : HearsNoCommand (record { taken = []; written = [] }) (record { taken = take w.heard w.down; written = w.up })
  none-heard = record {
    taken = take w.heard w.down;
    written = w.up;
    moves = refl;
    none = stands-plain (knows known) [] s (take w.given w.up) w.down w.shelf (bytes-take w.given w.up bytes) w.ended w.heard live memory;
  }

  abbrev pub talk : RoundTalks o.imei most result old new (record { taken = []; written = [] }) (record { taken = take w.heard w.down; written = w.up })
  talk = talks none-heard

  taken-is : talk.taken ≡ take w.heard w.down
  taken-is = sym (ap (λ (t : Traffic). t.taken) talk.moves)

  up-is : w.up ≡ stream_up o.imei talk.bodies
  up-is = ap (λ (t : Traffic). t.written) talk.moves ∙ talk.written_is

  heard : IsHeard (knows known o.imei) log
  heard = session-heard (knows known) log s w.shelf w.ended live memory refl digits within talk.bodies talk.are up-is

  answers : AreRightAnswers (take w.heard w.down) talk.bodies
  answers = right-heard (knows known o.imei) talk.bodies talk.are log up-is heard

  ends : IsRightEnd result (take w.heard w.down) talk.bodies talk.heard
  ends = subst (λ (t : List ℕ). IsRightEnd result t talk.bodies talk.heard) taken-is
      (right_answers_end_right result talk.taken talk.bodies talk.heard talk.back talk.are (subst (λ (t : List ℕ). AreRightAnswers t talk.bodies) (sym taken-is) answers) talk.ends)

  read : w.heard ≡ up_to o.down (length w.down)
  read = right-all result (take w.heard w.down) w.down talk.bodies talk.heard w.heard (up_to o.down (length w.down)) ends (length-take-le w.heard w.down low) (up_to-least o.down (length w.down)) heard-low
      (down-most (knows known o.imei) talk.bodies talk.are log up-is heard) (λ is. subst (λ (l : Option ℕ). nat_le (up_to l (length w.down)) w.heard ≡ true) follows.most (broken is))

  one-batch : o.drains ≡ false → length talk.bodies ≤ 1
  one-batch drains = let one = few drains in omega (arith, one, talk.few)

  -- the bytes up that the device sent
  pub round-stream : IsWholeStream earlier log
  round-stream = talk-stream result earlier (held_of old.slots) talk.bodies talk.heard log talk.are up-is low ends decided talk.held

  -- what the round did to the ring, in the log's words
  pub round-ring : RoundsRing result (length (heard_of log)) (records_in (heard_of log)) old new
  round-ring = talk-ring result earlier (held_of old.slots) talk.bodies talk.heard log talk.are up-is low ends old new talk.ring

  sent : IsSent log.device earlier log
  sent = talk-sent result earlier (held_of old.slots) talk.bodies talk.heard log talk.are up-is low ends refl decided talk.held

  few-frames : HasFewFrames o.drains log
  few-frames = talk-few result earlier (held_of old.slots) talk.bodies talk.heard log talk.are up-is low ends o.drains one-batch

  device : HasDeviceEnd cover log
  device = talk-device result earlier (held_of old.slots) talk.bodies talk.heard log talk.are up-is low ends old new talk.ring cover left refl

  frame : HasFrame log.device log
  frame = talk-frame result earlier (held_of old.slots) talk.bodies talk.heard log talk.are up-is low ends refl

  -- what the line did to the connection and the archive
  pub round-rounded : (failed : Bool) × IsRounded (knows known o.imei) failed cover earlier o log (is_none w.ended) s w.shelf
  round-rounded = by w.ended live refl wire.all
    where
      by : (e : Option ServerEnd) → Stands (knows known) [] s (take w.given w.up) w.down w.shelf e → w.ended ≡ e → IfNone e (w.given ≡ up_to w.limit (length w.up))
          → (failed : Bool) × IsRounded (knows known o.imei) failed cover earlier o log (is_none e) s w.shelf
      by None h is all = (
        false,
        going-rounded (knows known) cover earlier o talk.bodies talk.are log s w.shelf refl digits up-is within read round-stream sent few-frames device frame h
            (ap (λ (e : Option ServerEnd). server_by e (length (rest_in (take w.given w.up)))) is) (subst (λ (l : Option ℕ). w.given ≡ up_to l (length w.up)) follows.limit all),
      )
      by (Some end) over is all =
          over-rounded (knows known) cover earlier o talk.bodies talk.are log s w.shelf refl digits up-is within read round-stream sent few-frames device frame end over
          (ap (λ (e : Option ServerEnd). server_by e (length (rest_in (take w.given w.up)))) is) (λ e. memory (is ∙ ap (λ (x : ServerEnd). Some x) e)) given-low

-- A round that sent nothing: its wire is as it was.
module _ (known : Known) (o : Opening) (s : ShelfView) where
  -- the end of a session that has heard nothing
  empty-log : log_of o.imei (Ok end.Empty) (new_wire s known o.up o.down) ≡ empty_log o.imei
  empty-log = ap (λ (e : ServerEnd). (let l : ConnectionOutcome = record (empty_log o.imei) { server = e } in l)) (ap (λ (r : List ℕ). end_now (length r)) no-rest)

-- it kept its ring
module _ {S : Type 0} (m : ShellMeaning S) (r : Round S) (rose : Type 0) where
  none-counted : (result : Result RoundEnd MediumFault) (d : RoundState S) (old new : RingView) (t : S) (x y : Option Traffic) → result ≡ Ok end.Empty → IsRound m r rose d old new t x y result → d ≡ starts r
  none-counted result d old new t x y is (empty none at same shell told) = at
  none-counted result d old new t x y is (cut at same shell part up) = at
  none-counted result d old new t x y is (talked same taken z login known ends) = absurd (never (let P : Result RoundEnd MediumFault → Type 0 = λ e. Ends m r rose e taken d old new t z y in subst P is ends))
    where
      never : Ends m r rose (Ok end.Empty) taken d old new t z y → ⊥
      never stopped = stopped.stops

  pub empty-ring : (old new : RingView) (t : S) (x y : Option Traffic) → IsWholeRound m r rose old new t x y (Ok end.Empty) → RoundsRing (Ok end.Empty) 0 [] old new
  empty-ring old new t x y whole =
      subst (λ (d : RoundState S). RoundsRing (Ok end.Empty) d.frames (recs_in old.slots d.closed) old new) (none-counted (Ok end.Empty) whole.state old new t x y refl whole.goes) whole.ring

pub empty-ring-of : {S : Type 0} {m : ShellMeaning S} {r : Round S} {rose : Type 0} {t : S} {x y : Option Traffic} → (result : Result RoundEnd MediumFault) (old new : RingView) → result ≡ Ok end.Empty → IsWholeRound m r rose old new t x y result
    → RoundsRing (Ok end.Empty) 0 [] old new
empty-ring-of {m = m} {r = r} {rose = rose} {t = t} {x = x} {y = y} result old new is whole =
    empty-ring m r rose old new t x y (subst (λ (e : Result RoundEnd MediumFault). IsWholeRound m r rose old new t x y e) is whole)

-- A line's round, whatever it sent, by the contracts of the round and of the wire.
module _ (known : Known) (o : Opening) (most : ℕ) (result : Result RoundEnd MediumFault) (old new : RingView) (s : ShelfView) (w : WireState) (earlier : List Record) (cover : Option ℕ)
    (digits : o.imei < 10 ^ 15) (up : s.down ≡ false) (over : RoundsOver o.imei most result old new (new_wire s known o.up o.down) w) (wire : IsWire w) (bytes : AreBytes w.up) (memory : w.ended ≡ Some Server.NoMemory → ⊥)
    (calm : Rose (new_wire s known o.up o.down).faults w.faults → ⊥) (decided : AreIn earlier (held_of old.slots)) (left : old.medium.left ≡ left_by cover) (few : o.drains ≡ false → most ≤ 1) where
  at-end : result ≡ Ok end.Broken → (link_state w).ended ≡ true
  at-end is = elim (over.broken.cause is) as (λ _. (link_state w).ended ≡ true) [
    | inl ended ↦ ended
    | inr rose ↦ absurd (calm rose)
  ]

  talked-line : (result ≡ Ok end.Empty → ⊥) → HasRounded known o cover earlier result old new s w
  talked-line some =
      let one = round-rounded known o most result old new s w earlier cover digits up over.follows wire bytes memory (over.talks calm some) at-end decided left few in
      record {
        failed = one.0;
        rounded = one.1;
        ring = round-ring known o most result old new s w earlier cover digits up over.follows wire bytes memory (over.talks calm some) at-end decided left few;
      }

  -- nothing was held
  empty-line : result ≡ Ok end.Empty → HasRounded known o cover earlier result old new s w
  empty-line is = subst (λ (z : Result RoundEnd MediumFault × WireState). HasRounded known o cover earlier z.0 old new s z.1) (λ i. (sym is i, sym (over.empty is).0 i)) (record {
    failed = false;
    rounded = subst (λ (c : ConnectionOutcome). IsRounded (knows known o.imei) false cover earlier o c true s s) (sym (empty-log known o s)) (empty-rounded (knows known o.imei) cover earlier o s);
    ring = subst (λ (c : ConnectionOutcome). RoundsRing (Ok end.Empty) (length (heard_of c)) (records_in (heard_of c)) old new) (sym (empty-log known o s))
        (subst (λ (fs : List Frame). RoundsRing (Ok end.Empty) (length fs) (records_in fs) old new) (sym (none-heard-of o.imei)) (over.empty is).1);
  })

  pub line-rounded : HasRounded known o cover earlier result old new s w
  line-rounded = by result refl
    where
      by : (e : Result RoundEnd MediumFault) → result ≡ e → HasRounded known o cover earlier result old new s w
      by (Ok (end.Done n)) is = talked-line (λ q. (let p : ◌≡◌ {A = Result RoundEnd MediumFault} (Ok (end.Done n)) (Ok end.Empty) = sym is ∙ q in cc))
      by (Ok end.Empty) is = empty-line is
      by (Ok end.Refused) is = talked-line (λ q. (let p : ◌≡◌ {A = Result RoundEnd MediumFault} (Ok end.Refused) (Ok end.Empty) = sym is ∙ q in cc))
      by (Ok end.Broken) is = talked-line (λ q. (let p : ◌≡◌ {A = Result RoundEnd MediumFault} (Ok end.Broken) (Ok end.Empty) = sym is ∙ q in cc))
      by (Ok (end.WrongAnswer got)) is = talked-line (λ q. (let p : ◌≡◌ {A = Result RoundEnd MediumFault} (Ok (end.WrongAnswer got)) (Ok end.Empty) = sym is ∙ q in cc))
      by (Ok end.TooManyCommands) is = talked-line (λ q. (let p : ◌≡◌ {A = Result RoundEnd MediumFault} (Ok end.TooManyCommands) (Ok end.Empty) = sym is ∙ q in cc))
      by (Err fault) is = talked-line (λ q. (let p : ◌≡◌ {A = Result RoundEnd MediumFault} (Err fault) (Ok end.Empty) = sym is ∙ q in cc))

-- over a wire that was new
pub new-rounded : (known : Known) (o : Opening) (most : ℕ) (result : Result RoundEnd MediumFault) (old new : RingView) (s : ShelfView) (a w : WireState) (earlier : List Record) (cover : Option ℕ)
    → o.imei < 10 ^ 15 → s.down ≡ false → a ≡ new_wire s known o.up o.down → RoundsOver o.imei most result old new a w → IsWire w → AreBytes w.up → (w.ended ≡ Some Server.NoMemory → ⊥) → w.faults ≡ 0
    → AreIn earlier (held_of old.slots) → old.medium.left ≡ left_by cover → (o.drains ≡ false → most ≤ 1) → HasRounded known o cover earlier result old new s w
new-rounded known o most result old new s a w earlier cover digits up is over wire bytes memory none decided left few =
    line-rounded known o most result old new s w earlier cover digits up (subst (λ (x : WireState). RoundsOver o.imei most result old new x w) is over) wire bytes memory
    (λ rose. never-rose w.faults none rose) decided left few
  where
    never-rose : (n : ℕ) → n ≡ 0 → Rose 0 n → ⊥
    never-rose n none rose = omega (arith, none, rose)

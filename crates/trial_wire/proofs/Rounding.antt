-- Both halves of a connection: what the session took and wrote, with what the device sent and heard.
use Rattle.std.proofs.Common.{◌≡◌, ◌≤◌, ◌<◌, inl, inr, ℕ, zero, suc, ◌+◌, ◌-◌, ◌*◌, ◌/◌, ◌^◌, ◌==◌, Bool, true, false, List, [], ◌∷◌, ◌++◌, length, take, sum, Option, if◌then◌else◌, refl, sym, ◌∙◌, ap, subst, arith, length-append, length-take, length-take-le, take_all}
use Rattle.std.proofs.lemmas.List.{append_cancel_left}
use Rattle.std.proofs.lemmas.Bool.{cases_lt, false≢true, true≢false}
use Rattle.avl_values.specs.Record.{Record}
use Rattle.std.specs.List.{flat_map}
use Rattle.frame_layout.specs.Items.{frame_of, login_of}
use Rattle.frame_layout.specs.Values.{UpValue}
use Rattle.item_streams.specs.Streams.{Item}
use Rattle.shelf.specs.Shelf.{ShelfView}
use Rattle.tracker_session.specs.Sending.{AreSentBodies, stream_up}
use Rattle.trial_model.specs.declared.outcome.ConnectionOutcome.{ConnectionOutcome}
use Rattle.trial_model.specs.declared.outcome.ServerEnd.{ServerEnd}
use Rattle.trial_model.specs.declared.outcome.ServerEnd.TheVariants as Server
use Rattle.trial_model.specs.Answers.{HasDeviceEnd, counted_of, is_fault, last_end}
use Rattle.trial_model.specs.Connections.{up_to}
use Rattle.trial_model.specs.Delivery.{delivered_of, frames_between, heard_bytes, heard_of}
use Rattle.trial_model.specs.Frames.{Frame, Stream, frames_of, login_size}
use Rattle.trial_model.specs.Logs.{HasFewFrames, IsSent, IsWholeStream}
use Rattle.trial_model.specs.Script.{Opening}
use Rattle.trial_server.specs.Serving.{Serves}
use Rattle.trial_wire.specs.Connections.{HasFrame, IsFed, IsHeard, IsOwnEnd, IsRounded, fed}
use Rattle.trial_wire.specs.Hearing.{Hears, IsOver, as_frames, end_now, items_in, rest_in}
use Rattle.trial_wire.proofs.Filters.{within-first, within-parts}
use Rattle.trial_wire.proofs.Living.{HasEnded, all-frames, going-end, going-heard, going-serves, going-split, over-ended}
use Rattle.trial_wire.proofs.Logs.{counts-length}
use Rattle.trial_wire.proofs.Passing.{up_to-least}
use Rattle.trial_wire.proofs.Reading.{frames_at, login-length, stream-frames, whole-ends}

-- What a session that ended by itself took is all that was sent: it wrote no count more, so the device sent no frame more.
module _ (known : Bool) (bodies : List (List ℕ)) (are : AreSentBodies bodies) (c : ConnectionOutcome) (up_is : c.up ≡ stream_up c.imei bodies)
    (low : c.down_given ≤ length c.down) (ahead : length (frames_of c.up) ≤ length (heard_of c) + 1) (accepted : 1 ≤ length (frames_of c.up) → take 1 (heard_bytes c) ≡ 1 ∷ [])
    (heard : IsHeard known c) (long : login_size ≤ c.up_given) (at : c.up_given ≡ last_end login_size (delivered_of c)) where
  frames-are : frames_of c.up ≡ frames_at login_size bodies
  frames-are = ap (λ u. frames_of u) up_is ∙ ap (λ (s : Stream). s.frames) (stream-frames c.imei bodies are)

  size-is : length c.up ≡ last_end login_size (frames_of c.up)
  size-is =
      let sum = length-append (login_of c.imei) (flat_map frame_of bodies) in
      let login = login-length c.imei in
      let ends = whole-ends 17 bodies in
      ap length up_is ∙ (let q : length (stream_up c.imei bodies) ≡ last_end 17 (frames_at 17 bodies) = omega (arith, sum, login, ends) in q) ∙ ap (last_end login_size) (sym frames-are)

  delivered-all : length (frames_of c.up) ≤ length (delivered_of c) → c.up_given ≡ length c.up
  delivered-all few =
      let all : delivered_of c ≡ frames_of c.up = within-first c.up c.up_given ∙ take_all (length (delivered_of c)) (frames_of c.up) few in
      at ∙ (ap (last_end login_size) all ∙ sym size-is)

  -- a stranger's session
  pub stranger-all : c.down ≡ 0 ∷ [] → c.up_given ≡ length c.up
  stranger-all zero_down = delivered-all (elim (cases_lt (length (frames_of c.up)) 1) as (λ _. length (frames_of c.up) ≤ length (delivered_of c)) [
    | inl none ↦ omega (arith, none)
    | inr some ↦ absurd (never c.down_given (sym (ap (λ d. take 1 (take c.down_given d)) zero_down) ∙ accepted some))
  ])
    where
      zero-one : (xs : List ℕ) → xs ≡ 0 ∷ [] → xs ≡ 1 ∷ [] → ⊥
      zero-one xs p q = let sums : sum xs ≡ 0 = ap sum p in let ones : sum xs ≡ 1 = ap sum q in omega (arith, sums, ones)

      none-one : ◌≡◌ {A = List ℕ} [] (1 ∷ []) → ⊥
      none-one e = cc

      never : (n : ℕ) → take {A = ℕ} 1 (take {A = ℕ} n (0 ∷ [])) ≡ 1 ∷ [] → ⊥
      never zero e = none-one e
      never (suc n) e = zero-one (take {A = ℕ} 1 (0 ∷ take {A = ℕ} n [])) refl e

  -- one in which the medium failed
  pub failed-all : known ≡ true → is_fault c.server ≡ true → c.up_given ≡ length c.up
  failed-all friend bad =
      let some = heard.uncounted bad in
      let counted : length (counted_of c) ≡ length (delivered_of c) - 1 =
      ap (λ b. length (if b then take (length (delivered_of c) - 1) (delivered_of c) else delivered_of c)) bad ∙ length-take-le (length (delivered_of c) - 1) (delivered_of c) (omega arith) in
      let size : length c.down ≡ 1 + 4 * length (counted_of c) = ap length (heard.counts long friend) ∙ (let q = counts-length (counted_of c) in omega arith) in
      let most : length (heard_of c) ≤ (c.down_given - 1) / 4 = omega (arith, length-take ((c.down_given - 1) / 4) (frames_of c.up)) in
      delivered-all (omega (arith, some, counted, size, most, low, ahead))

own-zero : (c : ConnectionOutcome) (end : ServerEnd) → IsOwnEnd c end → is_fault end ≡ false → c.down ≡ 0 ∷ []
own-zero c Server.Ended e good = absurd e
own-zero c (Server.EndedInside have) e good = absurd e
own-zero c Server.LinkFault e good = absurd e
own-zero c (Server.Broken fault) e good = absurd e
own-zero c (Server.Unknown imei) e good = e.0
own-zero c (Server.MediumFault faults) e good = absurd (true≢false good)
own-zero c (Server.Down faults) e good = absurd e
own-zero c (Server.LongEnough taken) e good = absurd e
own-zero c Server.NoMemory e good = absurd e
own-zero c Server.Restart e good = absurd e

now-good : (have : ℕ) → is_fault (end_now have) ≡ false
now-good have = split (have == 0)
  where
    split : (b : Bool) → is_fault (if b then Server.Ended else Server.EndedInside have) ≡ false
    split true = refl
    split false = refl

module _ (known : ℕ → Bool) (bodies : List (List ℕ)) (are : AreSentBodies bodies) (c : ConnectionOutcome) (digits : c.imei < 10 ^ 15) (up_is : c.up ≡ stream_up c.imei bodies) (within : c.up_given ≤ length c.up)
    (low : c.down_given ≤ length c.down) (earlier : List Record) (stream : IsWholeStream earlier c) (old : List (Item UpValue)) (start now : ShelfView) where
  -- a session that ended took all that was sent
  pub ended-all : (end : ServerEnd) → c.server ≡ end → HasEnded bodies are c digits up_is within known old start now end → c.up_given ≡ length c.up
  ended-all end server e = split e.failed refl
    where
      split : (b : Bool) → e.failed ≡ b → c.up_given ≡ length c.up
      split true bad =
          let fault : is_fault c.server ≡ true = ap is_fault server ∙ (e.fault ∙ bad) in
          failed-all (known c.imei) bodies are c up_is low stream.heard stream.accepted e.heard e.long e.at (friend fault (known c.imei) refl) fault
        where
          friend : is_fault c.server ≡ true → (b : Bool) → known c.imei ≡ b → known c.imei ≡ true
          friend fault true is = is
          friend fault false is = absurd (false≢true (sym (ap is_fault (e.heard.stranger e.long is).1) ∙ fault))
      split false good = stranger-all (known c.imei) bodies are c up_is low stream.heard stream.accepted e.heard e.long e.at (own-zero c end e.own (e.fault ∙ good))

-- A round over a new connection, by both halves: the session that heard it, and what the device sent and how it ended.
module _ (known : ℕ → Bool) (cover : Option ℕ) (earlier : List Record) (o : Opening) (bodies : List (List ℕ)) (are : AreSentBodies bodies) (c : ConnectionOutcome) (start now : ShelfView)
    (imei : c.imei ≡ o.imei) (digits : c.imei < 10 ^ 15) (up_is : c.up ≡ stream_up c.imei bodies) (within : c.up_given ≤ length c.up) (read : c.down_given ≡ up_to o.down (length c.down))
    (stream : IsWholeStream earlier c) (sent : IsSent c.device earlier c) (few : HasFewFrames o.drains c) (device : HasDeviceEnd cover c) (done : HasFrame c.device c) where
  low-down : c.down_given ≤ length c.down
  low-down = omega (arith, read, up_to-least o.down (length c.down))

  pub going-rounded : Hears known [] start (items_in (take c.up_given c.up)) c.down now → c.server ≡ end_now (length (rest_in (take c.up_given c.up))) → c.up_given ≡ up_to o.up (length c.up)
      → IsRounded (known c.imei) false cover earlier o c true start now
  going-rounded h server given =
      let good : is_fault c.server ≡ false = ap is_fault server ∙ now-good (length (rest_in (take c.up_given c.up))) in
      record {
        imei = imei;
        given = given;
        down_given = read;
        sent = sent;
        few = few;
        device = device;
        done = done;
        stream = inr (record { bodies = bodies; are = are; is = up_is });
        heard = going-heard bodies are c digits up_is within known [] start now h good;
        serves = subst (λ fs. Serves c.imei false fs start now) (sym (going-split bodies are c digits up_is within known [] start now h)) (going-serves bodies are c digits up_is within known [] start now h);
        fault = good;
        end = going-end bodies are c digits up_is within known [] start now server;
        all = λ off. absurd (true≢false off);
      }

  pub over-rounded : (end : ServerEnd) → IsOver known [] start (take c.up_given c.up) c.down now end → c.server ≡ end → (end ≡ Server.NoMemory → ⊥) → c.up_given ≤ up_to o.up (length c.up)
      → (failed : Bool) × IsRounded (known c.imei) failed cover earlier o c false start now
  over-rounded end over server memory given =
      let e = over-ended bodies are c digits up_is within known [] start now end over server memory in
      let all = ended-all known bodies are c digits up_is within low-down earlier stream [] start now end server e in (
        e.failed,
        record {
          imei = imei;
          given = omega (arith, all, given, up_to-least o.up (length c.up));
          down_given = read;
          sent = sent;
          few = few;
          device = device;
          done = done;
          stream = inr (record { bodies = bodies; are = are; is = up_is });
          heard = e.heard;
          serves = subst (λ fs. Serves c.imei e.failed fs start now) (sym e.split) e.serves;
          fault = ap is_fault server ∙ e.fault;
          end = subst (IsOwnEnd c) (sym server) e.own;
          all = λ _. all;
        },
      )

-- A `late` line's bytes, on a connection whose session had heard some of the stream.
module _ (known : ℕ → Bool) (earlier : List Record) (bodies : List (List ℕ)) (are : AreSentBodies bodies) (c : ConnectionOutcome) (b : ℕ) (more : List ℕ) (server : ServerEnd) (start now : ShelfView)
    (digits : c.imei < 10 ^ 15) (up_is : c.up ≡ stream_up c.imei bodies) (before : c.up_given ≤ b) (within : b ≤ length c.up)
    (low : c.down_given ≤ length (c.down ++ more)) (stream : IsWholeStream earlier (fed c b more server)) where
  abbrev old : List (Item UpValue)
  old = items_in (take c.up_given c.up)

  between-is : (fs : List Frame) → delivered_of (fed c b more server) ≡ as_frames old ++ fs → fs ≡ frames_between c.up_given b c.up
  between-is fs split =
      append_cancel_left (as_frames old) fs (frames_between c.up_given b c.up)
      (sym split ∙ (within-parts c.up c.up_given b before ∙ ap (λ l. l ++ frames_between c.up_given b c.up) (sym (all-frames bodies are c digits up_is (omega (arith, before, within))))))

  pub going-fed : Hears known old start (items_in (take b c.up)) (c.down ++ more) now → server ≡ end_now (length (rest_in (take b c.up))) → IsFed (known c.imei) false b c more server true start now
  going-fed h end_is =
      let good : is_fault server ≡ false = ap is_fault end_is ∙ now-good (length (rest_in (take b c.up))) in
      record {
        after = before;
        serves = subst (λ fs. Serves c.imei false fs start now) (between-is (as_frames h.news) (going-split bodies are (fed c b more server) digits up_is within known old start now h))
            (going-serves bodies are (fed c b more server) digits up_is within known old start now h);
        heard = going-heard bodies are (fed c b more server) digits up_is within known old start now h good;
        fault = good;
        end = going-end bodies are (fed c b more server) digits up_is within known old start now end_is;
        all = λ off. absurd (true≢false off);
      }

  pub over-fed : IsOver known old start (take b c.up) (c.down ++ more) now server → (server ≡ Server.NoMemory → ⊥) → (failed : Bool) × IsFed (known c.imei) failed b c more server false start now
  over-fed over memory =
      let e = over-ended bodies are (fed c b more server) digits up_is within known old start now server over refl memory in (
        e.failed,
        record {
          after = before;
          serves = subst (λ fs. Serves c.imei e.failed fs start now) (between-is e.frames e.split) e.serves;
          heard = e.heard;
          fault = e.fault;
          end = e.own;
          all = λ _. ended-all known bodies are (fed c b more server) digits up_is within low earlier stream old start now server refl e;
        },
      )

-- A connection on which a line gives bytes to its session, and a new one.
use Rattle.std.proofs.Common.{◌≡◌, ◌≤◌, ◌<◌, inl, inr, ℕ, ◌+◌, ◌*◌, Bool, true, false, List, [], ◌∷◌, ◌++◌, length, take, Option, refl, sym, ◌∙◌, ap, subst, take_all, arith}
use Rattle.std.proofs.lemmas.Bool.{cases_lt, true≢false}
use Rattle.avl_values.specs.Record.{Record}
use Rattle.shelf.specs.Archive.{recs_for}
use Rattle.shelf.specs.Shelf.{ShelfView}
use Rattle.trial_model.specs.declared.outcome.ConnectionOutcome.{ConnectionOutcome}
use Rattle.trial_model.specs.declared.outcome.ServerEnd.{ServerEnd}
use Rattle.trial_model.specs.declared.outcome.ServerEnd.TheVariants as Server
use Rattle.trial_model.specs.declared.script.ScriptLine.{ScriptLine}
use Rattle.trial_model.specs.declared.script.Who.TheVariants as Who
use Rattle.trial_model.specs.Answers.{IsServerEnd, MayFault, fresh_frames, is_fault}
use Rattle.trial_model.specs.Connections.{ConnectionHistory, connections_of, given_by, opened, server_of, up_to}
use Rattle.trial_model.specs.Cover.{IsBelow, cover_on}
use Rattle.trial_model.specs.Delivery.{frames_between, records_given}
use Rattle.trial_model.specs.Frames.{Frame, frames_of, frames_within, login_size}
use Rattle.trial_model.specs.Logs.{answers_to}
use Rattle.trial_model.specs.RecordLists.{AreIn}
use Rattle.trial_model.specs.Script.{Opening}
use Rattle.trial_server.specs.Serving.{Serves, left_by}
use Rattle.trial_server.proofs.Paces.{serves-may, serves-must}
use Rattle.trial_wire.specs.Connections.{Connection, IsConnectionSound, IsEndBy, IsEndNow, IsFed, IsHeard, IsOwnEnd, IsRounded, fed}
use Rattle.trial_wire.proofs.Changing.{SameGiven, good-now, must-same, whole-now}
use Rattle.trial_wire.proofs.Filters.{between-some, frames-rise, none-low, within-parts}
use Rattle.trial_wire.proofs.Histories.{may-new, must-cases}
use Rattle.trial_wire.proofs.Logs.{answers-all, answers-fed, answers-most, device-fed, few-fed, frame-fed, sent-fed}
use Rattle.trial_wire.proofs.Passing.{up_to-least}

-- who wrote 0 refused a stranger
pub heard-unknown : (known : Bool) (c : ConnectionOutcome) → IsHeard known c → c.down ≡ 0 ∷ [] → c.server ≡ Server.Unknown c.imei
heard-unknown known c h zero_down = elim (cases_lt c.up_given login_size) as (λ _. c.server ≡ Server.Unknown c.imei) [
  | inl short ↦ absurd (let q : ◌≡◌ {A = List ℕ} [] (0 ∷ []) = sym (h.without_login short) ∙ zero_down in cc)
  | inr long ↦ by long known refl
]
  where
    by : login_size ≤ c.up_given → (k : Bool) → known ≡ k → c.server ≡ Server.Unknown c.imei
    by long true is = absurd (let q : 1 ≡ 0 = first 1 0 _ _ (sym (h.counts long is) ∙ zero_down) in omega (arith, q))
      where
        first : (a b : ℕ) (xs ys : List ℕ) → a ∷ xs ≡ b ∷ ys → a ≡ b
        first a b xs ys e = cc
    by long false is = (h.stranger long is).1

-- where the medium failed there was a frame
pub serves-some : (imei : ℕ) (fs : List Frame) (s t : ShelfView) → Serves imei true fs s t → 1 ≤ length fs
serves-some imei [] s t (good, same) = absurd (true≢false good)
serves-some imei (f ∷ fs) s t serves = omega arith

-- what the shelf did on this line is what the line's cover says
module _ (lines : List ScriptLine) (later : List ConnectionOutcome) (l : ScriptLine) (n a : ℕ) (c : ConnectionOutcome) (failed : Bool) (s t : ShelfView)
    (gave_before : given_by lines n (length c.up) ≡ a) (gave_now : given_by (lines ++ l ∷ []) n (length c.up) ≡ c.up_given)
    (serves : Serves c.imei failed (frames_between a c.up_given c.up) s t)
    (known_records : AreIn (records_given c.imei (connections_of lines) later) (recs_for c.imei s.list))
    (left : s.medium.left ≡ left_by (cover_on Who.Server (server_of lines).fuse l)) where
  pub may-now : failed ≡ true → MayFault (lines ++ l ∷ []) n c
  may-now bad =
      let some : 1 ≤ length (frames_between a c.up_given c.up) = serves-some c.imei (frames_between a c.up_given c.up) s t (subst (λ b. Serves c.imei b (frames_between a c.up_given c.up) s t) bad serves) in
      let order : a < c.up_given = between-some a c.up_given (frames_of c.up) some in
      may-new lines l n c (omega (arith, order, gave_before, gave_now))
      (subst (λ (z : ℕ × ℕ). IsBelow (cover_on Who.Server (server_of lines).fuse l) (4 * length (frames_between z.0 z.1 c.up))) (λ i. (sym gave_before i, sym gave_now i))
      (serves-may (records_given c.imei (connections_of lines) later) c.imei failed (frames_between a c.up_given c.up) s t (cover_on Who.Server (server_of lines).fuse l) known_records left serves bad))

  pub must-now : IsBelow (cover_on Who.Server (server_of lines).fuse l)
      (4 * fresh_frames (records_given c.imei (connections_of lines) later) (frames_between (given_by lines n (length c.up)) (given_by (lines ++ l ∷ []) n (length c.up)) c.up)) → failed ≡ true
  must-now below =
      serves-must (records_given c.imei (connections_of lines) later) c.imei failed (frames_between a c.up_given c.up) s t (cover_on Who.Server (server_of lines).fuse l) known_records left serves
      (subst (λ (z : ℕ × ℕ). IsBelow (cover_on Who.Server (server_of lines).fuse l) (4 * fresh_frames (records_given c.imei (connections_of lines) later) (frames_between z.0 z.1 c.up))) (λ i. (gave_before i, gave_now i)) below)

says-now : (lines : List ScriptLine) (n : ℕ) (h : ConnectionHistory) (c : ConnectionOutcome) (end : ServerEnd) → IsEndNow c end → h.restarted ≡ false → IsServerEnd lines n h c end
says-now lines n h c Server.Ended e whole = (whole, e)
says-now lines n h c (Server.EndedInside have) e whole = (whole, e.0, e.1)
says-now lines n h c Server.LinkFault e whole = absurd e
says-now lines n h c (Server.Broken fault) e whole = absurd e
says-now lines n h c (Server.Unknown imei) e whole = absurd e
says-now lines n h c (Server.MediumFault faults) e whole = absurd e
says-now lines n h c (Server.Down faults) e whole = absurd e
says-now lines n h c (Server.LongEnough taken) e whole = absurd e
says-now lines n h c Server.NoMemory e whole = absurd e
says-now lines n h c Server.Restart e whole = absurd e

says-own : (lines : List ScriptLine) (n : ℕ) (h : ConnectionHistory) (c : ConnectionOutcome) (end : ServerEnd) → IsOwnEnd c end → (is_fault end ≡ true → MayFault lines n c) → IsServerEnd lines n h c end
says-own lines n h c Server.Ended e may = absurd e
says-own lines n h c (Server.EndedInside have) e may = absurd e
says-own lines n h c Server.LinkFault e may = absurd e
says-own lines n h c (Server.Broken fault) e may = absurd e
says-own lines n h c (Server.Unknown imei) e may = e
says-own lines n h c (Server.MediumFault faults) e may = may refl
says-own lines n h c (Server.Down faults) e may = absurd e
says-own lines n h c (Server.LongEnough taken) e may = absurd e
says-own lines n h c Server.NoMemory e may = absurd e
says-own lines n h c Server.Restart e may = absurd e

-- the end of a session that goes on, and of one that ended by itself
pub says-new : (lines : List ScriptLine) (n : ℕ) (h : ConnectionHistory) (c : ConnectionOutcome) (going : Bool) (end : ServerEnd) → IsEndBy going c end → (is_fault end ≡ true → MayFault lines n c) → h.restarted ≡ false
    → IsServerEnd lines n h c end
says-new lines n h c true end e may whole = says-now lines n h c end e whole
says-new lines n h c false end e may whole = says-own lines n h c end e may

-- A `late` line that gives bytes.
pub fed-sound : (lines : List ScriptLine) (logs later : List ConnectionOutcome) (l : ScriptLine) (known : Bool) (cover : Option ℕ) (earlier : List Record) (n : ℕ) (h : ConnectionHistory) (w : Connection)
    (more_allowed : Option ℕ) (failed : Bool) (b : ℕ) (more : List ℕ) (server : ServerEnd) (going : Bool) (s t : ShelfView)
    → IsConnectionSound lines logs known cover earlier n h w → w.going ≡ true → SameGiven lines logs later w.log.imei
    → IsFed known failed b w.log more server going s t → b ≡ up_to more_allowed (length w.log.up)
    → given_by lines n (length w.log.up) ≡ w.log.up_given → given_by (lines ++ l ∷ []) n (length w.log.up) ≡ b
    → AreIn (records_given w.log.imei (connections_of lines) later) (recs_for w.log.imei s.list)
    → s.medium.left ≡ left_by (cover_on Who.Server (server_of lines).fuse l)
    → IsConnectionSound (lines ++ l ∷ []) later known cover earlier n (record h { allowed = more_allowed }) (record { log = fed w.log b more server; going = going })
fed-sound lines logs later l known cover earlier n h w more_allowed failed b more server going s t sound on same f up before now known_records armed =
    let c : ConnectionOutcome = fed w.log b more server in
    let open_now = sound.going on in
    let good = good-now w.log w.log.server open_now.1 in
    let low : w.log.down_given ≤ length w.log.down = omega (arith, sound.log.down, up_to-least h.opening.down (answers_to (up_to h.opening.up (length w.log.up)) w.log), answers-most (up_to h.opening.up (length w.log.up)) w.log) in
    let answers = answers-fed known w.log b (up_to h.opening.up (length w.log.up)) more server sound.heard open_now.1 good sound.early in
    record {
      log = record {
        imei = sound.log.imei;
        sent = sent-fed w.log b more server low w.log.device earlier sound.log.sent;
        few = few-fed w.log b more server h.opening.drains sound.log.few;
        up = up;
        down = sound.log.down ∙ ap (up_to h.opening.down) (sym answers);
      };
      server = record {
        says = says-new (lines ++ l ∷ []) n (record h { allowed = more_allowed }) c going server f.end
            (λ bad. may-now lines later l n w.log.up_given c failed s t before now f.serves known_records armed (sym f.fault ∙ bad))
            (whole-now lines n h w.log w.log.server open_now.1 sound.server.says);
        unknown = heard-unknown known c f.heard;
        fault = λ i line must. elim (must-cases lines l n later c i line must) [
          | inl (order, old) ↦ absurd (true≢false (sym (sound.server.fault i line (must-same lines logs later n w.log i line same old)) ∙ good))
          | inr (gift, below) ↦ f.fault ∙ must-now lines later l n w.log.up_given c failed s t before now f.serves known_records armed below
        ];
      };
      device = device-fed w.log b more server low cover sound.device;
      heard = f.heard;
      done = frame-fed w.log b more server w.log.device sound.done;
      stream = sound.stream;
      early = omega (arith, sound.early, f.after);
      going = λ still. (open_now.0, subst (λ g. IsEndBy g c server) still f.end);
      ended = λ over _. (subst (λ g. IsEndBy g c server) over f.end, f.all over);
    }

-- nothing lies up to the first place
from-start : (b : ℕ) (up : List ℕ) → frames_between 0 b up ≡ frames_within b up
from-start b up = sym (within-parts up 0 b (omega arith) ∙ ap (λ l. l ++ frames_between 0 b up) (none-low login_size 0 (frames_of up) (frames-rise up) (omega arith)))

-- A `round` or `drain` line's new connection.
pub opened-sound : (lines : List ScriptLine) (later : List ConnectionOutcome) (l : ScriptLine) (known : Bool) (cover : Option ℕ) (earlier : List Record) (n : ℕ) (before : List ScriptLine) (o : Opening) (failed : Bool)
    (c : ConnectionOutcome) (going on : Bool) (s t : ShelfView)
    → IsRounded known failed cover earlier o c going s t → (on ≡ true → (going ≡ true) × ((opened before l o).half_open ≡ true)) → (on ≡ false → (opened before l o).half_open ≡ true → going ≡ false)
    → ((i : ℕ) → i ≤ length lines → given_by (take i lines) n (length c.up) ≡ 0)
    → given_by (lines ++ l ∷ []) n (length c.up) ≡ c.up_given
    → AreIn (records_given c.imei (connections_of lines) later) (recs_for c.imei s.list)
    → s.medium.left ≡ left_by (cover_on Who.Server (server_of lines).fuse l)
    → IsConnectionSound (lines ++ l ∷ []) later known cover earlier n (opened before l o) (record { log = c; going = on })
opened-sound lines later l known cover earlier n before o failed c going on s t r goes stops none now known_records armed =
    let nothing : given_by lines n (length c.up) ≡ 0 = subst (λ ls. given_by ls n (length c.up) ≡ 0) (take_all (length lines) lines (omega arith)) (none (length lines) (omega arith)) in
    let serves : Serves c.imei failed (frames_between 0 c.up_given c.up) s t = subst (λ fs. Serves c.imei failed fs s t) (sym (from-start c.up_given c.up)) r.serves in
    record {
      log = record {
        imei = r.imei;
        sent = r.sent;
        few = r.few;
        up = r.given;
        down = r.down_given ∙ ap (up_to o.down) (sym (answers-all known c r.heard) ∙ ap (λ k. answers_to k c) r.given);
      };
      server = record {
        says = says-new (lines ++ l ∷ []) n (opened before l o) c going c.server r.end (λ bad. may-now lines later l n 0 c failed s t nothing now serves known_records armed (sym r.fault ∙ bad)) refl;
        unknown = heard-unknown known c r.heard;
        fault = λ i line must. elim (must-cases lines l n later c i line must) [
          | inl (order, old) ↦ absurd (omega (arith, old.0.gave, none (i + 1) (omega (arith, order))))
          | inr (gift, below) ↦ r.fault ∙ must-now lines later l n 0 c failed s t nothing now serves known_records armed below
        ];
      };
      device = r.device;
      heard = r.heard;
      done = r.done;
      stream = r.stream;
      early = omega (arith, r.given);
      going = λ still. ((goes still).1, subst (λ g. IsEndBy g c c.server) (goes still).0 r.end);
      ended = λ off half. (let over = stops off half in (subst (λ g. IsEndBy g c c.server) over r.end, r.all over));
    }

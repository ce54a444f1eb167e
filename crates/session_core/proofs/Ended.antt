-- A link that was served.
use Rattle.std.proofs.Common.{◌≡◌, inr, ℕ, ◌≤◌, ◌^◌, Bool, false, List, [], length, map, ap, Option, None, Result, refl, sym, subst, ◌∙◌, arith}
use Rattle.item_streams.specs.Readers.{fresh}
use Rattle.links.specs.Links.{LinkState, Traffic}
use Rattle.links.proofs.Moving.{moves_none}
use Rattle.shelf.specs.Calls.{Brought, Mark, TellsCall, brought}
use Rattle.shelf.specs.declared.receipt.AdmitFault.{AdmitFault}
use Rattle.shelf.specs.declared.receipt.Receipt.{Receipt}
use Rattle.shelf.proofs.Histories.{feeds-told}
use Rattle.session_core.specs.declared.served.SessionEnd.{SessionEnd}
use Rattle.session_core.specs.declared.served.SessionEnd.TheVariants as ends
use Rattle.session_core.specs.Doings.{Doing}
use Rattle.session_core.specs.Endings.{start, Ends}
use Rattle.session_core.specs.Courses.{IsCourse, all_dealt, login_in, said_in}
use Rattle.session_core.specs.Serving.{IsServed}
use Rattle.session_core.specs.SessionCalls.{AreCallsOf, HaveReceipts}
use Rattle.session_core.specs.Sessions.{SessionState, new_session, talk_of}
use Rattle.session_core.specs.Talks.{Meaning, Talk, imei_in}
use Rattle.session_core.proofs.Calling.{session_calls, are_calls, have_receipts}
use Rattle.session_core.proofs.Courses.{bodies_in}
use Rattle.session_core.proofs.Reading.{reads_none}
use Rattle.session_core.proofs.Taking.{talk_imei, talk_orders}
use Rattle.session_core.proofs.Telling.{course, read_all}
use Rattle.session_core.proofs.Wording.{served_so, told}

module _ {S O : Type 0} (leaves : S → ℕ → List ℕ → Result Receipt AdmitFault → S → Type 0) (calls : S → Option (List Brought)) (mark : S → Mark)
    (tells : (s : S) (imei : ℕ) (body : List ℕ) (result : Result Receipt AdmitFault) (t : S) → leaves s imei body result t → TellsCall imei body result (mark s) (mark t) (calls s) (calls t)) (m : Meaning O) (known : ℕ → Bool) where
  abbrev at : Talk O → S → Option Traffic → ℕ → ℕ → Doing S O
  at talk shelf wire frames records = record { talk = talk; shelf = shelf; wire = wire; frames = frames; records = records }

  pub served : (end : SessionEnd) (taken : List ℕ) (old new : LinkState) (session : SessionState) (o p : O) (s t : S) (f k : ℕ) (i : Option ℕ) → i ≡ session.imei → length taken ≤ 2 ^ 30
      → Ends leaves m known end taken new (fresh false) session.reader (start o s old.told) (at (talk_of session p) t new.told f k) → IsServed leaves calls mark m known o p s t old new (served_so m known i f k end)
  served end taken old new session o p s t f k i who few e =
      let y : Doing S O = at (talk_of session p) t new.told f k in
      let c = course leaves m known end taken new session.reader o s old.told y few e in
      let h = session_calls leaves m known end (mark s) taken new session.reader o s old.told y e in
      let tell = feeds-told leaves calls mark tells h.calls s t h.feeds in
      let said : imei_in y.talk ≡ i = talk_imei session.imei session.refused p ∙ sym who in
      let is : IsCourse m known o p new (served_so m known i f k end) taken c.written =
      subst (λ (z : O × Option ℕ). IsCourse m known o z.0 new (served_so m known z.1 f k end) taken c.written) (λ j. (talk_orders session.imei session.refused p j, said j)) c.is in
      record {
        taken = taken;
        written = c.written;
        moves = c.moves;
        course = is;
        told = told m known o p new i f k end taken c.written is;
        calls = h.calls;
        receipts = subst (λ (j : Option ℕ). HaveReceipts (served_so m known j f k end) taken h.calls) said h.receipts;
        feeds = h.feeds;
        same_mark = tell.same;
        tells = tell.added;
        of_session = subst (λ (j : Option ℕ). AreCallsOf (served_so m known j f k end) (mark s) taken (map (brought (mark s)) h.calls)) said h.are;
      }

  -- the session found no memory for its buffers
  pub unserved : (link : LinkState) (o : O) (s : S) → IsServed leaves calls mark m known o o s s link link (served_so m known None 0 0 ends.NoMemory)
  unserved link o s =
      let none = (read_all [] [] (fresh false) (reads_none (fresh false))).items in
      let is : IsCourse m known o o link (served_so m known None 0 0 ends.NoMemory) [] [] = record {
        few = omega arith;
        dealt = [];
        halt = all_dealt;
        items = none;
        writes = refl;
        imei = sym (ap login_in none);
        frames = refl;
        records = refl;
        halts = inr (record { taken_is = refl; dealt_is = refl; halt = refl; orders = refl });
      } in
      let tell = feeds-told leaves calls mark tells [] s s refl in
      record {
        taken = [];
        written = [];
        moves = moves_none link.told;
        course = is;
        told = told m known o o link None 0 0 ends.NoMemory [] [] is;
        calls = [];
        receipts = have_receipts (mark s) (served_so m known None 0 0 ends.NoMemory) [] [] [] [] [] [] tt refl refl (bodies_in (said_in [])) refl;
        feeds = refl;
        same_mark = tell.same;
        tells = tell.added;
        of_session = are_calls (mark s) (served_so m known None 0 0 ends.NoMemory) [] [] [] [] [] tt tt refl refl tt tt (bodies_in (said_in [])) refl;
      }

  -- from a session that was just made
  pub from_new : (end : SessionEnd) (taken : List ℕ) (link : LinkState) (first : SessionState) (new : SessionState) (o : O) (s : S) (w : Option Traffic) (y : Doing S O) → first ≡ new_session
      → Ends leaves m known end taken link first.reader new.reader (at (talk_of first o) s w 0 0) y → Ends leaves m known end taken link (fresh false) new.reader (start o s w) y
  from_new end taken link first new o s w y is e = subst (λ (z : SessionState). Ends leaves m known end taken link z.reader new.reader (at (talk_of z o) s w 0 0) y) is e

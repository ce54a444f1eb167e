-- A session that is given one item, and pieces.
use Rattle.std.proofs.Common.{◌≡◌, ◌+◌, ◌-◌, inl, ℕ, Bool, true, false, not, List, [], ◌∷◌, ◌++◌, length, take, drop, Option, Some, None, IfNone, Ok, Err, refl, sym, ◌∙◌, ap, subst, append_assoc, append-nil, take-add, is_some}
use Rattle.std.proofs.lemmas.Bool.{false≢true, true≢false}
use Rattle.std.proofs.lemmas.List.{take_rest}
use Rattle.std.proofs.lemmas.Option.{none-some}
use Rattle.avl_values.specs.declared.fault.Fault.{Fault}
use Rattle.layout.specs.Rows.{Rows, fault, judge}
use Rattle.record_layout.specs.RecordsOf.{records_of}
use Rattle.record_layout.specs.declared.head.PacketHead.{PacketHead}
use Rattle.item_streams.specs.Readers.{Decided, Pushed, Reader, added, broken, item, more}
use Rattle.item_streams.specs.Streams.{Item, Reading, next_rows, read_items}
use Rattle.item_streams.proofs.ReaderSteps.{pushes_read, read_none}
use Rattle.frame_layout.specs.Items.{count_bytes}
use Rattle.frame_layout.specs.UpRows.{up_rows}
use Rattle.frame_layout.specs.Values.{UpValue, login, packet, response}
use Rattle.frame_layout.proofs.Lengths.{starts_short_up}
use Rattle.frame_layout.proofs.PlaceLaws.{up_place}
use Rattle.frame_channel.specs.UpPushes.{lent_up}
use Rattle.session_core.specs.declared.session.Step.TheVariants.{More, Login, Packet, Response, Broken}
use Rattle.session_core.specs.Readings.{HadRead}
use Rattle.session_core.specs.Sessions.{Heard, SessionState, is_there, new_session}
use Rattle.session_core.proofs.Hearing.{frame_stays}
use Rattle.shelf.specs.Shelf.{Leaves, ShelfView}
use Rattle.shelf.specs.declared.receipt.AdmitFault.TheVariants.{MediumFault}
use Rattle.trial_model.specs.declared.outcome.ServerEnd.{ServerEnd}
use Rattle.trial_model.specs.declared.outcome.ServerEnd.TheVariants as Server
use Rattle.trial_model.specs.Frames.{Frame}
use Rattle.trial_server.specs.Serving.{IsAdmitted, IsRefused}
use Rattle.trial_wire.specs.Hearing.{Gives, HasTaken, Hears, IsOver, Stands, answers, as_frames, device_in, device_of, frame_by, imei_said, items_in, rest_in}
use Rattle.trial_wire.specs.Hearing as hearing
use Rattle.trial_wire.specs.Steps.{Greets, Stores}
use Rattle.trial_wire.specs.Steps as steps
use Rattle.trial_wire.proofs.Hearing.{hears-item, hears-login, hears-up, over-failed, over-refused}

-- What was read after a push.
module _ (bytes piece : List ℕ) (n : ℕ) (old new : SessionState) (has : HasTaken bytes old) (d : Decided UpValue) (p : Pushed up_rows lent_up old.reader new.reader piece n d) where
  abbrev now : List ℕ
  now = bytes ++ take n piece

  had : HadRead now (items_in bytes ++ added d (length now)) new.reader
  had = pushes_read up_rows lent_up false bytes (items_in bytes) old.reader new.reader piece n d starts_short_up has.reads p

  pub items-pushed : items_in now ≡ items_in bytes ++ added d (length now)
  items-pushed = ap (λ (r : Reading UpValue). r.items) had.is

  pub read-pushed : HadRead now (items_in now) new.reader
  read-pushed = subst (λ is. HadRead now is new.reader) (sym items-pushed) had

pushed-as : (old new : Reader) (piece : List ℕ) (n : ℕ) (d e : Decided UpValue) → d ≡ e → Pushed up_rows lent_up old new piece n d → Pushed up_rows lent_up old new piece n e
pushed-as old new piece n d e is p = subst (λ (x : Decided UpValue). Pushed up_rows lent_up old new piece n x) is p

none-there : (i : Option ℕ) → is_there i ≡ false → i ≡ None
none-there None e = refl
none-there (Some imei) e = absurd (true≢false e)

-- no item was heard before the login
no-items : (items : List (Item UpValue)) → device_of items ≡ None → items ≡ []
no-items [] e = refl
no-items (i ∷ items) e = absurd (none-some (imei_said i.value) (sym e))

-- and some before a frame
pub record HasFirst (items : List (Item UpValue)) : Type 0 where
  pub first : Item UpValue
  pub others : List (Item UpValue)
  pub are : items ≡ first ∷ others

some-items : (items : List (Item UpValue)) → is_there (device_of items) ≡ true → HasFirst items
some-items [] e = absurd (false≢true e)
some-items (i ∷ items) e = record { first = i; others = items; are = refl }

module _ (known : ℕ → Bool) (bytes piece : List ℕ) (n : ℕ) (old mid : SessionState) (has : HasTaken bytes old) where
  -- fewer bytes than an item
  pub more-gives : (s : ShelfView) (down : List ℕ) → Heard old mid piece n More → Gives known bytes piece n mid s s down down None
  more-gives s down h =
      let p = pushed-as old.reader mid.reader piece n h.decided more h.says h.pushed in
      let same : items_in (bytes ++ take n piece) ≡ items_in bytes = items-pushed bytes piece n old mid has more p ∙ append-nil (items_in bytes) in
      record {
        wrote = [];
        writes = sym (append-nil down);
        taken = record {
          reads = read-pushed bytes piece n old mid has more p;
          imei = h.imei ∙ (has.imei ∙ ap device_of (sym same));
          ready = record { answered = h.owes; going = ap (λ (r : Reader). r.failed) p.state ∙ has.ready.going; welcome = h.refused ∙ has.ready.welcome };
        };
        stands = λ before start hears. subst (λ is. Hears known before start is down s) (sym same) hears;
      }

  -- no item can begin so
  pub broken-gives : (found : Fault) (s : ShelfView) (down : List ℕ) → Heard old mid piece n (Broken found) → Gives known bytes piece n mid s s down down (Some (Server.Broken found))
  broken-gives found s down h = record {
    wrote = [];
    writes = sym (append-nil down);
    taken = tt;
    stands = λ before start hears.
        hearing.broken found (fault-now (pushed-as old.reader mid.reader piece n h.decided (broken found.kind found.place) h.says h.pushed))
        (hears.down_is ∙ ap (λ is. answers (known (device_in is)) is) (sym (same-now (pushed-as old.reader mid.reader piece n h.decided (broken found.kind found.place) h.says h.pushed)))) refl;
  }
    where
      same-now : Pushed up_rows lent_up old.reader mid.reader piece n (broken found.kind found.place) → items_in (bytes ++ take n piece) ≡ items_in bytes
      same-now p = items-pushed bytes piece n old mid has (broken found.kind found.place) p ∙ append-nil (items_in bytes)

      fault-now : Pushed up_rows lent_up old.reader mid.reader piece n (broken found.kind found.place)
          → judge (next_rows (up_rows false) (up_rows true) (items_in (bytes ++ take n piece))) 0 (rest_in (bytes ++ take n piece)) ≡ fault found.kind found.place
      fault-now p =
          let read = read-pushed bytes piece n old mid has (broken found.kind found.place) p in
          let rest : rest_in (bytes ++ take n piece) ≡ old.reader.have ++ take n piece = ap (λ (r : Reading UpValue). r.rest) read.is ∙ ap (λ (r : Reader). r.have) p.state in
          let rows : next_rows (up_rows false) (up_rows true) (items_in (bytes ++ take n piece)) ≡ up_rows old.reader.after_first = read.place ∙ ap (λ (r : Reader). up_rows r.after_first) p.state in
          ap (λ (z : Rows UpValue × List ℕ). judge z.0 0 z.1) (λ i. (rows i, rest i)) ∙ p.verdict

  -- an item after the login
  first-item : old.reader.after_first ≡ true → is_there old.imei ≡ old.reader.after_first → HasFirst (items_in bytes)
  first-item first place = some-items (items_in bytes) (sym (ap is_there has.imei) ∙ (place ∙ first))

  taken-item : (v : UpValue) (after : SessionState) → Pushed up_rows lent_up old.reader mid.reader piece n (item v) → (f : HasFirst (items_in bytes)) → old.reader.failed ≡ false
      → after.reader ≡ mid.reader → after.imei ≡ old.imei → after.owes ≡ false → after.refused ≡ old.refused → HasTaken (bytes ++ take n piece) after
  taken-item v after p f going reader imei owes refused = record {
    reads = subst (HadRead (bytes ++ take n piece) (items_in (bytes ++ take n piece))) (sym reader) (read-pushed bytes piece n old mid has (item v) p);
    imei = imei ∙ (has.imei ∙ (ap device_of f.are ∙ sym (ap device_of (items-pushed bytes piece n old mid has (item v) p ∙ ap (λ is. is ++ added (item v) (length (bytes ++ take n piece))) f.are))));
    ready = record { answered = owes; going = ap (λ (r : Reader). r.failed) reader ∙ (ap (λ (r : Reader). r.failed) p.state ∙ going); welcome = refused ∙ has.ready.welcome };
  }

  -- a response
  pub response-gives : (s : ShelfView) (down : List ℕ) → Heard old mid piece n Response → Gives known bytes piece n mid s s down down None
  response-gives s down h =
      let v : UpValue = response mid.reader.body in
      let p = pushed-as old.reader mid.reader piece n h.decided (item v) h.says.is h.pushed in
      let before_is = (frame_stays old.reader mid.reader piece n h.decided v h.says.is refl h.pushed).0 in
      let f = first-item before_is (sym h.place) in
      let x : Item UpValue = record { value = v; end = length (bytes ++ take n piece) } in
      let items : items_in (bytes ++ take n piece) ≡ (f.first ∷ f.others) ++ x ∷ [] = items-pushed bytes piece n old mid has (item v) p ∙ ap (λ is. is ++ x ∷ []) f.are in
      record {
        wrote = [];
        writes = sym (append-nil down);
        taken = taken-item v mid p f has.ready.going refl h.imei h.owes h.refused;
        stands = λ before start hears.
            let heard : Hears known before start (f.first ∷ f.others) down s = subst (λ is. Hears known before start is down s) f.are hears in
            subst (λ (z : List (Item UpValue) × List ℕ). Hears known before start z.0 z.1 s) (λ i. (sym items i, append-nil down i))
            (hears-item known before start f.first f.others x [] down s s refl (refl, refl) heard);
      }

  -- a login
  pub login-gives : (who : ℕ) (s : ShelfView) (old_down new_down : List ℕ) (after : SessionState) (end : Option ServerEnd) → Heard old mid piece n (Login who)
      → after ≡ record mid { owes = false; refused = not (known who) } → Greets (known who) who old_down new_down end → Gives known bytes piece n after s s old_down new_down end
  login-gives who s old_down new_down after end h is g =
      let p = pushed-as old.reader mid.reader piece n h.decided (item (login who)) h.says h.pushed in
      let none : items_in bytes ≡ [] = no-items (items_in bytes) (sym has.imei ∙ none-there old.imei (sym h.place ∙ up_place old.reader.after_first (login who) _ _ p.verdict)) in
      let x : Item UpValue = record { value = login who; end = length (bytes ++ take n piece) } in
      let items : items_in (bytes ++ take n piece) ≡ x ∷ [] = items-pushed bytes piece n old mid has (item (login who)) p ∙ ap (λ is. is ++ x ∷ []) none in
      split p none items g
    where
      split : Pushed up_rows lent_up old.reader mid.reader piece n (item (login who)) → items_in bytes ≡ [] → items_in (bytes ++ take n piece) ≡ record { value = login who; end = length (bytes ++ take n piece) } ∷ []
          → Greets (known who) who old_down new_down end → Gives known bytes piece n after s s old_down new_down end
      split p none items (steps.welcome friend down end_is) = subst (λ e. Gives known bytes piece n after s s old_down new_down e) (sym end_is) (record {
        wrote = 1 ∷ [];
        writes = down;
        taken = record {
          reads = subst (HadRead (bytes ++ take n piece) (items_in (bytes ++ take n piece))) (sym (ap (λ (t : SessionState). t.reader) is)) (read-pushed bytes piece n old mid has (item (login who)) p);
          imei = ap (λ (t : SessionState). t.imei) is ∙ (h.imei ∙ sym (ap device_of items));
          ready = record {
            answered = ap (λ (t : SessionState). t.owes) is;
            going = ap (λ (t : SessionState). t.reader.failed) is ∙ (ap (λ (r : Reader). r.failed) p.state ∙ has.ready.going);
            welcome = ap (λ (t : SessionState). t.refused) is ∙ ap not friend;
          };
        };
        stands = λ before start hears.
            let heard : Hears known before start [] old_down s = subst (λ is. Hears known before start is old_down s) none hears in
            subst (λ (z : List (Item UpValue) × List ℕ). Hears known before start z.0 z.1 s) (λ i. (sym items i, sym down i))
            (hears-login known before start who (length (bytes ++ take n piece)) old_down s friend heard);
      })
      split p none items (steps.refused stranger down end_is) = subst (λ e. Gives known bytes piece n after s s old_down new_down e) (sym end_is) (record {
        wrote = 0 ∷ [];
        writes = down;
        taken = tt;
        stands = λ before start hears.
            let heard : Hears known before start [] old_down s = subst (λ is. Hears known before start is old_down s) none hears in
            subst (λ d. IsOver known before start (bytes ++ take n piece) d s (Server.Unknown who)) (sym down)
            (over-refused known before start who (length (bytes ++ take n piece)) (bytes ++ take n piece) old_down s stranger items refl heard);
      })
      split p none items (steps.starved down end_is) = subst (λ e. Gives known bytes piece n after s s old_down new_down e) (sym end_is) (record { wrote = []; writes = down ∙ sym (append-nil old_down); taken = tt; stands = λ before start hears. hearing.starved refl })

  -- a packet
  pub packet-gives : (who : ℕ) (s t : ShelfView) (old_down new_down : List ℕ) (after : SessionState) (end : Option ServerEnd) → Heard old mid piece n Packet → mid.imei ≡ Some who
      → IfNone end (after ≡ record mid { owes = false }) → Stores who mid.reader.body s t old_down new_down end → Gives known bytes piece n after s t old_down new_down end
  packet-gives who s t old_down new_down after end h there is g =
      let v : UpValue = packet h.says.head mid.reader.body in
      let p = pushed-as old.reader mid.reader piece n h.decided (item v) h.says.is h.pushed in
      let before_is = (frame_stays old.reader mid.reader piece n h.decided v h.says.is refl h.pushed).0 in
      let f = first-item before_is (sym h.place) in
      let x : Item UpValue = record { value = v; end = length (bytes ++ take n piece) } in
      let items : items_in (bytes ++ take n piece) ≡ (f.first ∷ f.others) ++ x ∷ [] = items-pushed bytes piece n old mid has (item v) p ∙ ap (λ is. is ++ x ∷ []) f.are in
      let device : device_in (f.first ∷ f.others) ≡ who = some-same (imei_said f.first.value) who (ap device_of (sym f.are) ∙ (sym has.imei ∙ (sym h.imei ∙ there))) in
      split h.says.head p f items device is g
    where
      some-same : (a b : ℕ) → Some a ≡ Some b → a ≡ b
      some-same a b e = cc

      split : (head : PacketHead) → Pushed up_rows lent_up old.reader mid.reader piece n (item (packet head mid.reader.body)) → (f : HasFirst (items_in bytes))
          → items_in (bytes ++ take n piece) ≡ (f.first ∷ f.others) ++ record { value = packet head mid.reader.body; end = length (bytes ++ take n piece) } ∷ [] → device_in (f.first ∷ f.others) ≡ who
          → IfNone end (after ≡ record mid { owes = false }) → Stores who mid.reader.body s t old_down new_down end → Gives known bytes piece n after s t old_down new_down end
      split head p f items device is (steps.stored receipt leaves down end_is) =
          let made : after ≡ record mid { owes = false } = subst (λ e. IfNone e (after ≡ record mid { owes = false })) end_is is in
          let x : Item UpValue = record { value = packet head mid.reader.body; end = length (bytes ++ take n piece) } in
          let frame : Frame = record { end = length (bytes ++ take n piece); records = records_of mid.reader.body } in
          let admitted : IsAdmitted (device_in (f.first ∷ f.others)) frame.records s t = record { body = mid.reader.body; records = refl; receipt = receipt; leaves = subst (λ k. Leaves s k mid.reader.body (Ok receipt) t) (sym device) leaves } in
          subst (λ e. Gives known bytes piece n after s t old_down new_down e) (sym end_is) (record {
            wrote = count_bytes (length (records_of mid.reader.body));
            writes = down;
            taken = taken-item (packet head mid.reader.body) after p f has.ready.going (ap (λ (z : SessionState). z.reader) made) (ap (λ (z : SessionState). z.imei) made ∙ h.imei) (ap (λ (z : SessionState). z.owes) made)
                (ap (λ (z : SessionState). z.refused) made ∙ h.refused);
            stands = λ before start hears.
                let heard : Hears known before start (f.first ∷ f.others) old_down s = subst (λ is. Hears known before start is old_down s) f.are hears in
                subst (λ (z : List (Item UpValue) × List ℕ). Hears known before start z.0 z.1 t)
                (λ i. (sym items i, (ap (λ c. old_down ++ c) (append-nil (count_bytes (length (records_of mid.reader.body)))) ∙ sym down) i))
                (hears-item known before start f.first f.others x (frame ∷ []) old_down s t refl (inl (t, admitted, (refl, refl))) heard);
          })
      split head p f items device is (steps.failed faults leaves down end_is) =
          let x : Item UpValue = record { value = packet head mid.reader.body; end = length (bytes ++ take n piece) } in
          let frame : Frame = record { end = length (bytes ++ take n piece); records = records_of mid.reader.body } in
          let r : IsRefused (device_in (f.first ∷ f.others)) frame.records s t = record { body = mid.reader.body; records = refl; faults = faults; leaves = subst (λ k. Leaves s k mid.reader.body (Err (MediumFault faults)) t) (sym device) leaves } in
          subst (λ e. Gives known bytes piece n after s t old_down new_down e) (sym end_is) (record {
            wrote = [];
            writes = down ∙ sym (append-nil old_down);
            taken = tt;
            stands = λ before start hears.
                let heard : Hears known before start (f.first ∷ f.others) old_down s = subst (λ is. Hears known before start is old_down s) f.are hears in
                subst (λ d. IsOver known before start (bytes ++ take n piece) d t (Server.MediumFault faults)) (sym down)
                (over-failed known before start faults f.first f.others x frame (bytes ++ take n piece) old_down s t refl r items refl heard);
          })
      split head p f items device is (steps.was_down faults leaves down end_is) = subst (λ e. Gives known bytes piece n after s t old_down new_down e) (sym end_is) (record {
        wrote = [];
        writes = down ∙ sym (append-nil old_down);
        taken = tt;
        stands = λ before start hears. absurd (false≢true (sym (hears-up known before start (items_in bytes) old_down s hears) ∙ leaves.admits.fits));
      })
      split head p f items device is (steps.starved down end_is) = subst (λ e. Gives known bytes piece n after s t old_down new_down e) (sym end_is) (record { wrote = []; writes = down ∙ sym (append-nil old_down); taken = tt; stands = λ before start hears. hearing.starved refl })

pub goes-on : {A : Type 0} → (o : Option A) → is_some o ≡ false → o ≡ None
goes-on None e = refl
goes-on (Some x) e = absurd (true≢false e)

-- before the first byte
pub new-taken : HasTaken [] new_session
unfolding read_items
new-taken = record {
  reads = read_none up_rows lent_up new_session.reader starts_short_up refl;
  imei = refl;
  ready = record { answered = refl; going = refl; welcome = refl };
}

-- Pieces, one after the other.
pub gives-none : (known : ℕ → Bool) (bytes piece : List ℕ) (old : SessionState) (s : ShelfView) (down : List ℕ) → HasTaken bytes old → Gives known bytes piece 0 old s s down down None
gives-none known bytes piece old s down has = record {
  wrote = [];
  writes = sym (append-nil down);
  taken = subst (λ b. HasTaken b old) (sym (append-nil bytes)) has;
  stands = λ before start hears. subst (λ b. Hears known before start (items_in b) down s) (sym (append-nil bytes)) hears;
}

pub gives-then : (known : ℕ → Bool) (bytes piece : List ℕ) (at n : ℕ) (mid now : SessionState) (r s t : ShelfView) (d e f : List ℕ) (end : Option ServerEnd) → Gives known bytes piece at mid r s d e None
    → Gives known (bytes ++ take at piece) (take (length piece - at) (drop at piece)) n now s t e f end → Gives known bytes piece (at + n) now r t d f end
gives-then known bytes piece at n mid now r s t d e f end one two =
    let rest = take (length piece - at) (drop at piece) in
    let all : (bytes ++ take at piece) ++ take n rest ≡ bytes ++ take (at + n) piece =
    append_assoc bytes (take at piece) (take n rest) ∙ ap (λ xs. bytes ++ xs) (ap (λ xs. take at piece ++ take n xs) (take_rest piece at) ∙ sym (take-add at n piece)) in
    record {
      wrote = one.wrote ++ two.wrote;
      writes = two.writes ∙ (ap (λ l. l ++ two.wrote) one.writes ∙ append_assoc d one.wrote two.wrote);
      taken = subst (λ b. IfNone end (HasTaken b now)) all two.taken;
      stands = λ before start hears. subst (λ b. Stands known before start b f t end) all (two.stands before start (one.stands before start hears));
    }

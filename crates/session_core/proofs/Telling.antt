-- A session's course, over all that it took.
use Rattle.std.proofs.Common.{◌≡◌, inl, inr, ℕ, ◌+◌, ◌<◌, ◌≤◌, ◌^◌, Bool, false, List, [], ◌∷◌, ◌++◌, length, take, Option, Result, refl, sym, ap, subst, ◌∙◌, append_assoc, append-nil, arith, length-append}
use Rattle.avl_values.specs.declared.fault.Fault.{Fault}
use Rattle.layout.specs.Rows.{Rows, short, fault, judge}
use Rattle.item_streams.specs.Readers.{Reader, fresh}
use Rattle.item_streams.specs.Streams.{Item, Reading, values}
use Rattle.links.specs.Links.{LinkState, Moves, Traffic}
use Rattle.links.proofs.Moving.{moves_as, moves_then}
use Rattle.frame_layout.specs.Readings.{up_reading}
use Rattle.frame_layout.specs.Values.{UpValue, login}
use Rattle.shelf.specs.declared.receipt.AdmitFault.{AdmitFault}
use Rattle.shelf.specs.declared.receipt.Receipt.{Receipt}
use Rattle.session_core.specs.declared.served.Served.{Served}
use Rattle.session_core.specs.declared.served.SessionEnd.{SessionEnd}
use Rattle.session_core.specs.declared.served.SessionEnd.TheVariants as ends
use Rattle.session_core.specs.Doings.{Doing, counted_in, Does, IsRefused, Stops}
use Rattle.session_core.specs.Endings.{start, Ends}
use Rattle.session_core.specs.Readings.{HadRead, Heads, Reads, ReadsFault}
use Rattle.session_core.specs.Courses.{said_in, rest_verdict, login_in, Halt, all_dealt, IsAllDealt, IsBeforePacket, HaltsBy, IsCourse}
use Rattle.session_core.specs.Talks.{Meaning, Talk, nobody, device, reply, next, text, after, packets, stores, records_in, imei_in, orders_in, is_stranger}
use Rattle.session_core.proofs.Courses.{LoginFirst, login_first, first_of, login_same, imei_is, none_before}
use Rattle.session_core.proofs.Going.{after_then, records_then, does_then}
use Rattle.session_core.proofs.Reading.{nothing_read, values_then}

-- What was read of all bytes taken.

had_nothing : HadRead [] [] (fresh false)
had_nothing = nothing_read (fresh false) refl refl

pub record ReadAll (taken : List ℕ) (said : List UpValue) (new : Reader) : Type 0 where
  pub items : said_in taken ≡ said
  pub rest : (up_reading false taken).rest ≡ new.have
  pub judged : new.failed ≡ false → rest_verdict (up_reading false taken) ≡ short

pub read_all : (taken : List ℕ) (said : List UpValue) (new : Reader) → Reads taken said (fresh false) new → ReadAll taken said new
read_all taken said new p =
    let r = p.reads [] [] had_nothing in
    record {
      items = ap (λ (x : Reading UpValue). values x.items) r.has.is ∙ r.say;
      rest = ap (λ (x : Reading UpValue). x.rest) r.has.is;
      judged = λ going. ap rest_verdict r.has.is ∙ (ap (λ (x : Rows UpValue). judge x 0 new.have) r.has.place ∙ r.has.unfinished going);
    }

pub read_heads : (taken : List ℕ) (said : List UpValue) → Heads taken said (fresh false) → (others : List UpValue) × (said_in taken ≡ said ++ others)
read_heads taken said p =
    let r = p.heads [] [] had_nothing in
    (values r.others, ap (λ (x : List (Item UpValue)). values x) r.are ∙ (values_then r.further r.others ∙ ap (λ (x : List UpValue). x ++ values r.others) r.say))

pub read_fault : (found : Fault) (taken : List ℕ) (said : List UpValue) → ReadsFault found taken said (fresh false) → (said_in taken ≡ said) × (rest_verdict (up_reading false taken) ≡ fault found.kind found.place)
read_fault found taken said p =
    let r = p.reads [] [] had_nothing in
    (ap (λ (x : Reading UpValue). values x.items) r.read.is ∙ r.say, ap rest_verdict r.read.is ∙ r.read.judged)

module _ {S O : Type 0} (leaves : S → ℕ → List ℕ → Result Receipt AdmitFault → S → Type 0) (m : Meaning O) (known : ℕ → Bool) where
  -- what a session says of itself as it ends
  abbrev pub served_at : SessionEnd → Doing S O → Served
  served_at end y = record { imei = imei_in y.talk; frames = y.frames; records = y.records; end = end }

  pub record Course (end : SessionEnd) (taken : List ℕ) (link : LinkState) (o : O) (w : Option Traffic) (y : Doing S O) : Type 0 where
    pub written : List ℕ
    pub moves : Moves taken written w y.wire
    pub is : IsCourse m known o (orders_in y.talk) link (served_at end y) taken written

  -- all was dealt with
  dealt_all : (end : SessionEnd) (taken : List ℕ) (said : List UpValue) (link : LinkState) (o : O) (s : S) (w : Option Traffic) (y : Doing S O) → length taken ≤ 2 ^ 30 → said_in taken ≡ said → Does leaves m known said taken (start o s w) y
      → is_stranger y.talk ≡ false → (IsAllDealt m known said all_dealt o (orders_in y.talk) → HaltsBy m known end said all_dealt taken link o (orders_in y.talk)) → Course end taken link o w y
  dealt_all end taken said link o s w y few is does welcome halts =
      let ps : List (ℕ × List ℕ) = packets m known (nobody o) said in
      record {
        written = text m known (nobody o) said;
        moves = does.wire;
        is = record {
          few = few;
          dealt = said;
          halt = all_dealt;
          items = is ∙ sym (append-nil said);
          writes = sym (append-nil (text m known (nobody o) said));
          imei = ap imei_in does.talk ∙ (imei_is m known o said (subst LoginFirst is (login_first taken)) ∙ ap login_in (sym is));
          frames = does.frames ∙ (omega arith ∙ ap (λ (x : List (ℕ × List ℕ)). length x) (sym (append-nil ps)));
          records = does.records ∙ (omega arith ∙ ap records_in (sym (append-nil ps)));
          halts = halts (record { halt = refl; welcome = ap is_stranger (sym does.talk) ∙ welcome; orders = ap orders_in does.talk });
        };
      }

  -- it stopped at an item
  stopped_at : (end : SessionEnd) (taken : List ℕ) (link : LinkState) (o : O) (s : S) (w : Option Traffic) (y : Doing S O) (t : Stops leaves m known end taken taken (fresh false) (start o s w) y) (part : List ℕ) (counted : List (ℕ × List ℕ))
      → length taken ≤ 2 ^ 30 → Moves [] part t.between.wire y.wire → y.frames ≡ t.between.frames + length counted → y.records ≡ t.between.records + records_in counted
      → ((others : List UpValue) → HaltsBy m known end t.dealt (record { left = t.at ∷ others; part = part; counted = counted }) taken link o (orders_in y.talk)) → Course end taken link o w y
  stopped_at end taken link o s w y t part counted few move frames records halts =
      let read = read_heads taken (t.dealt ++ t.at ∷ []) t.heads in
      let ps : List (ℕ × List ℕ) = packets m known (nobody o) t.dealt in
      let is : said_in taken ≡ t.dealt ++ t.at ∷ read.0 = read.1 ∙ append_assoc t.dealt (t.at ∷ []) read.0 in
      let first : LoginFirst (t.dealt ++ t.at ∷ []) = first_of (t.dealt ++ t.at ∷ []) read.0 (subst LoginFirst read.1 (login_first taken)) in
      record {
        written = text m known (nobody o) t.dealt ++ part;
        moves = moves_as (taken ++ []) _ taken _ w y.wire (append-nil taken) refl (moves_then taken (text m known (nobody o) t.dealt) [] part w t.between.wire y.wire t.does.wire move);
        is = record {
          few = few;
          dealt = t.dealt;
          halt = record { left = t.at ∷ read.0; part = part; counted = counted };
          items = is;
          writes = refl;
          imei = t.imei ∙ (ap (λ (u : Talk O). imei_in (next m known u t.at)) t.does.talk ∙ (ap imei_in (sym (after_then m known (nobody o) t.dealt (t.at ∷ [])))
              ∙ (imei_is m known o (t.dealt ++ t.at ∷ []) first ∙ (sym (login_same t.dealt t.at read.0) ∙ ap login_in (sym is)))));
          frames = omega (arith, frames, t.does.frames, length-append ps counted);
          records = omega (arith, records, t.does.records, records_then ps counted);
          halts = halts read.0;
        };
      }

  refused_at : (end : SessionEnd) (why : AdmitFault) (taken : List ℕ) (link : LinkState) (o : O) (s : S) (w : Option Traffic) (y : Doing S O) (t : Stops leaves m known end taken taken (fresh false) (start o s w) y)
      → length taken ≤ 2 ^ 30 → IsRefused leaves m known why t.at t.between y → ((h : Halt) → IsBeforePacket m known t.dealt h o (orders_in y.talk) → HaltsBy m known end t.dealt h taken link o (orders_in y.talk)) → Course end taken link o w y
  refused_at end why taken link o s w y t few r halts =
      stopped_at end taken link o s w y t [] [] few r.wire (omega (arith, r.frames)) (omega (arith, r.records))
      (λ others. halts _ (record {
        imei = r.imei;
        head = r.head;
        body = r.body;
        others = others;
        talk = sym t.does.talk ∙ (r.talk ∙ ap (λ (q : O). device r.imei q) (sym (ap orders_in r.same_talk ∙ ap orders_in r.talk)));
        left = ap (λ (v : UpValue). v ∷ others) r.is;
        part = refl;
        counted = refl;
      }))

  -- a stranger was sent away: the login is all that was dealt with
  pub record SentAway (imei : ℕ) (taken : List ℕ) (o : O) (s : S) (w : Option Traffic) (y : Doing S O) : Type 0 where
    pub others : List UpValue
    pub items : said_in taken ≡ login imei ∷ others
    pub does : Does leaves m known (login imei ∷ []) taken (start o s w) y
    pub orders : orders_in y.talk ≡ o

  pub sent_away : (imei : ℕ) (taken : List ℕ) (o : O) (s : S) (w : Option Traffic) (y : Doing S O) → Stops leaves m known (ends.Unknown imei) taken taken (fresh false) (start o s w) y → SentAway imei taken o s w y
  sent_away imei taken o s w y t =
      let c = t.stops in
      let read = read_heads taken (t.dealt ++ t.at ∷ []) t.heads in
      let first : LoginFirst (t.dealt ++ t.at ∷ []) = first_of (t.dealt ++ t.at ∷ []) read.0 (subst LoginFirst read.1 (login_first taken)) in
      let none : t.dealt ≡ [] = none_before m known o c.orders t.dealt (first_of t.dealt (t.at ∷ []) first) (sym t.does.talk ∙ c.before) in
      let all = does_then leaves m known t.dealt (t.at ∷ []) taken [] (start o s w) t.between y t.does c.does in
      let one : t.dealt ++ t.at ∷ [] ≡ login imei ∷ [] = ap (λ (x : List UpValue). x ++ t.at ∷ []) none ∙ ap (λ (v : UpValue). v ∷ []) c.is in
      record {
        others = read.0;
        items = read.1 ∙ ap (λ (x : List UpValue). x ++ read.0) one;
        does = subst (λ (z : List UpValue × List ℕ). Does leaves m known z.0 z.1 (start o s w) y) (λ i. (one i, append-nil taken i)) all;
        orders = ap orders_in c.talk ∙ (sym (ap orders_in c.before) ∙ (ap orders_in t.does.talk ∙ ap (λ (x : List UpValue). orders_in (after m known (nobody o) x)) none));
      }

  pub course : (end : SessionEnd) (taken : List ℕ) (link : LinkState) (new : Reader) (o : O) (s : S) (w : Option Traffic) (y : Doing S O) → length taken ≤ 2 ^ 30 → Ends leaves m known end taken link (fresh false) new (start o s w) y → Course end taken link o w y
  course ends.Ended taken link new o s w y few e =
      let r = read_all taken e.0.goes.said new e.0.goes.reads in
      dealt_all ends.Ended taken e.0.goes.said link o s w y few r.items e.0.goes.does e.0.welcome (λ a. (a, r.rest ∙ e.1, e.2, e.3))
  course (ends.EndedInside n) taken link new o s w y few e =
      let r = read_all taken e.0.goes.said new e.0.goes.reads in
      dealt_all (ends.EndedInside n) taken e.0.goes.said link o s w y few r.items e.0.goes.does e.0.welcome (λ a. (a, r.judged e.0.going, e.1 ∙ ap (λ (b : List ℕ). length b) (sym r.rest), e.2, e.3, e.4))
  course (ends.LongEnough n) taken link new o s w y few e =
      let r = read_all taken e.0.goes.said new e.0.goes.reads in
      dealt_all (ends.LongEnough n) taken e.0.goes.said link o s w y few r.items e.0.goes.does e.0.welcome (λ a. (a, r.judged e.0.going, e.1, e.2))
  course ends.LinkFault taken link new o s w y few (inl e) =
      let r = read_all taken e.0.goes.said new e.0.goes.reads in
      dealt_all ends.LinkFault taken e.0.goes.said link o s w y few r.items e.0.goes.does e.0.welcome (λ a. inl (a, e.1))
  course ends.LinkFault taken link new o s w y few (inr t) =
      let c = t.stops in
      stopped_at ends.LinkFault taken link o s w y t (take c.part (reply m known t.between.talk t.at)) (counted_in (stores m known t.between.talk t.at) c.part) few c.wire c.frames c.records
      (λ others. inr (record {
        at = t.at;
        others = others;
        left = refl;
        size = c.part;
        within = subst (λ (u : Talk O). c.part < length (reply m known u t.at)) t.does.talk c.within;
        part = ap (λ (u : Talk O). take c.part (reply m known u t.at)) t.does.talk;
        counted = ap (λ (u : Talk O). counted_in (stores m known u t.at) c.part) t.does.talk;
      }))
  course (ends.Broken found) taken link new o s w y few b =
      let r = read_fault found taken b.dealt b.reads in
      dealt_all (ends.Broken found) taken b.dealt link o s w y few r.0 b.does b.welcome (λ a. (a, r.1))
  course (ends.Unknown imei) taken link new o s w y few t =
      let u = sent_away imei taken o s w y t in
      let said : List UpValue = login imei ∷ [] in
      let ps : List (ℕ × List ℕ) = packets m known (nobody o) said in
      record {
        written = text m known (nobody o) said;
        moves = u.does.wire;
        is = record {
          few = few;
          dealt = said;
          halt = record { left = u.others; part = []; counted = [] };
          items = u.items;
          writes = sym (append-nil (text m known (nobody o) said));
          imei = ap imei_in t.stops.talk ∙ sym (ap login_in u.items);
          frames = u.does.frames ∙ (omega arith ∙ ap (λ (x : List (ℕ × List ℕ)). length x) (sym (append-nil ps)));
          records = u.does.records ∙ (omega arith ∙ ap records_in (sym (append-nil ps)));
          halts = record { login_is = refl; unknown = t.stops.unknown; part = refl; counted = refl; orders = u.orders };
        };
      }
  course (ends.MediumFault n) taken link new o s w y few t = refused_at (ends.MediumFault n) _ taken link o s w y t few t.stops (λ h b. b)
  course (ends.Down n) taken link new o s w y few t = refused_at (ends.Down n) _ taken link o s w y t few t.stops (λ h b. b)
  course ends.NoMemory taken link new o s w y few t = refused_at ends.NoMemory _ taken link o s w y t few t.stops (λ h b. inl b)

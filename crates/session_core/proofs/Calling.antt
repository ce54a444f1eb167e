-- The calls of a session.
use Rattle.std.proofs.Common.{◌≡◌, ◌⊎◌, inl, inr, ℕ, ◌+◌, Bool, true, false, List, [], ◌∷◌, ◌++◌, length, map, Option, Some, Result, Ok, Err, if◌then◌else◌, refl, sym, ap, subst, ◌∙◌, append_assoc, append-nil, arith, length-append}
use Rattle.std.specs.Prelude.{nat_le}
use Rattle.std.proofs.lemmas.List.{map-append}
use Rattle.avl_values.specs.Record.{Record}
use Rattle.item_streams.specs.Readers.{Reader, fresh}
use Rattle.links.specs.Links.{LinkState, Traffic}
use Rattle.record_layout.specs.RecordsOf.{records_of}
use Rattle.frame_layout.specs.Readings.{up_reading}
use Rattle.frame_layout.specs.Values.{UpValue, login, packet, response}
use Rattle.shelf.specs.Admits.{answer_of}
use Rattle.shelf.specs.Calls.{AreStored, Brought, Call, Feeds, IsReceiptOf, Mark, brought}
use Rattle.shelf.specs.Histories.{Each, HasPlaces}
use Rattle.shelf.specs.declared.receipt.AdmitFault.{AdmitFault}
use Rattle.shelf.specs.declared.receipt.Receipt.{Receipt}
use Rattle.shelf.proofs.Histories.{feeds_then, stored_then}
use Rattle.session_core.specs.declared.served.Served.{Served}
use Rattle.session_core.specs.declared.served.SessionEnd.{SessionEnd}
use Rattle.session_core.specs.declared.served.SessionEnd.TheVariants as ends
use Rattle.session_core.specs.Doings.{Doing, Does, IsRefused, Stops}
use Rattle.session_core.specs.Endings.{start, Ends}
use Rattle.session_core.specs.Courses.{said_in}
use Rattle.session_core.specs.SessionCalls.{AreCallsOf, HaveReceipts, bodies_of, IsOneOrNone, MayFollow, records_brought}
use Rattle.session_core.specs.Talks.{Meaning, Talk, nobody, device, stranger, next, after, packets, stores, records_in, imei_in, is_stranger}
use Rattle.session_core.proofs.Courses.{LoginFirst, login_first, first_of, bodies_in, bodies_then, bodies_of-then, packets_are, all_bodies, device_imei, none_before}
use Rattle.session_core.proofs.Going.{records_then}
use Rattle.session_core.proofs.Telling.{read_all, read_heads, read_fault, sent_away, served_at}
use Rattle.session_core.proofs.Wording.{is_answered}

-- calls for these packets, in order, with any answers
abbrev pub AreFor : List (ℕ × List ℕ) → List Call → Type 0
AreFor [] [] = Unit {0}
AreFor [] (c ∷ cs) = ⊥
AreFor (p ∷ ps) [] = ⊥
AreFor (p ∷ ps) (c ∷ cs) = (c.imei ≡ p.0) × (c.body ≡ p.1) × AreFor ps cs

stored_for : (ps : List (ℕ × List ℕ)) (cs : List Call) → AreStored ps cs → AreFor ps cs
stored_for [] [] a = tt
stored_for [] (c ∷ cs) a = absurd a
stored_for (p ∷ ps) [] a = absurd a
stored_for (p ∷ ps) (c ∷ cs) a = (a.0, a.1, stored_for ps cs a.3)

for_then : (ps qs : List (ℕ × List ℕ)) (cs ds : List Call) → AreFor ps cs → AreFor qs ds → AreFor (ps ++ qs) (cs ++ ds)
for_then [] qs [] ds a b = b
for_then [] qs (c ∷ cs) ds a b = absurd a
for_then (p ∷ ps) qs [] ds a b = absurd a
for_then (p ∷ ps) qs (c ∷ cs) ds a b = (a.0, a.1, for_then ps qs cs ds a.2 b)

module _ (mark : Mark) where
  for_records : (ps : List (ℕ × List ℕ)) (cs : List Call) → AreFor ps cs → map records_of (bodies_of ps) ≡ map (λ b. b.records) (map (brought mark) cs)
  for_records [] [] a = refl
  for_records [] (c ∷ cs) a = absurd a
  for_records (p ∷ ps) [] a = absurd a
  for_records (p ∷ ps) (c ∷ cs) a = ap (λ (x : List ℕ × List (List Record)). records_of x.0 ∷ x.1) (λ i. (sym a.1 i, for_records ps cs a.2 i))

  for_device : (who : Option ℕ) (ps : List (ℕ × List ℕ)) (cs : List Call) → AreFor ps cs → Each (λ p. who ≡ Some p.0) ps → Each (λ b. who ≡ Some b.imei) (map (brought mark) cs)
  for_device who [] [] a e = tt
  for_device who [] (c ∷ cs) a e = absurd a
  for_device who (p ∷ ps) [] a e = absurd a
  for_device who (p ∷ ps) (c ∷ cs) a e = (e.0 ∙ ap (λ (n : ℕ). Some n) (sym a.0), for_device who ps cs a.2 e.1)

  marked : (cs : List Call) → Each (λ b. b.mark ≡ mark) (map (brought mark) cs)
  marked [] = tt
  marked (c ∷ cs) = (refl, marked cs)

  receipt_places : (body : List ℕ) (r : Result Receipt AdmitFault) → IsReceiptOf body r → HasPlaces (answer_of r)
  receipt_places body (Ok receipt) is = tt
  receipt_places body (Err fault) is = absurd is

  stored_places : (ps : List (ℕ × List ℕ)) (cs : List Call) → AreStored ps cs → Each (λ b. HasPlaces b.answer) (map (brought mark) cs)
  stored_places [] [] a = tt
  stored_places [] (c ∷ cs) a = absurd a
  stored_places (p ∷ ps) [] a = absurd a
  stored_places (p ∷ ps) (c ∷ cs) a = (receipt_places p.1 c.result a.2, stored_places ps cs a.3)

  stored_size : (ps : List (ℕ × List ℕ)) (cs : List Call) → AreStored ps cs → length (map (brought mark) cs) ≡ length ps
  stored_size [] [] a = refl
  stored_size [] (c ∷ cs) a = absurd a
  stored_size (p ∷ ps) [] a = absurd a
  stored_size (p ∷ ps) (c ∷ cs) a = omega (arith, stored_size ps cs a.3)

  stored_records : (ps : List (ℕ × List ℕ)) (cs : List Call) → AreStored ps cs → records_brought (map (brought mark) cs) ≡ records_in ps
  stored_records [] [] a = refl
  stored_records [] (c ∷ cs) a = absurd a
  stored_records (p ∷ ps) [] a = absurd a
  stored_records (p ∷ ps) (c ∷ cs) a = omega (arith, stored_records ps cs a.3, ap (λ (b : List ℕ). length (records_of b)) a.1)

  -- the calls of a session, from those for the packets that were counted, and those after them
  pub are_calls : (served : Served) (taken : List ℕ) (ps qs : List (ℕ × List ℕ)) (counted others : List Call) → AreFor ps (counted ++ others) → AreStored qs counted → served.frames ≡ length qs → served.records ≡ records_in qs
      → Each (λ p. served.imei ≡ Some p.0) ps → MayFollow served.end (map (brought mark) others) → (rest : List (List ℕ)) → bodies_in (said_in taken) ≡ bodies_of ps ++ rest → AreCallsOf served mark taken (map (brought mark) (counted ++ others))
  are_calls served taken ps qs counted others for stored frames records owner follows rest bodies = record {
    counted = map (brought mark) counted;
    more = map (brought mark) others;
    are = map-append (brought mark) counted others;
    device = for_device served.imei ps (counted ++ others) for owner;
    marked = marked (counted ++ others);
    frames = frames ∙ sym (stored_size qs counted stored);
    records = records ∙ sym (stored_records qs counted stored);
    stored = stored_places qs counted stored;
    follows = follows;
    others = map records_of rest;
    bodies = ap (map records_of) (packets_are (up_reading false taken).items ∙ bodies) ∙ (map-append records_of (bodies_of ps) rest ∙ ap (λ (x : List (List Record)). x ++ map records_of rest) (for_records ps (counted ++ others) for));
  }

  -- their receipts
  pub have_receipts : (served : Served) (taken : List ℕ) (ps qs extra : List (ℕ × List ℕ)) (counted others : List Call) → AreStored qs counted → served.frames ≡ length qs → ps ≡ qs ++ extra → (rest : List (List ℕ)) → bodies_in (said_in taken) ≡ bodies_of ps ++ rest
      → HaveReceipts served taken (counted ++ others)
  have_receipts served taken ps qs extra counted others stored frames split rest bodies = record {
    packets = qs;
    first = counted;
    last = others;
    are = refl;
    stored = stored;
    frames = frames;
    others = bodies_of extra ++ rest;
    bodies = packets_are (up_reading false taken).items ∙ (bodies ∙ (ap (λ (x : List (List ℕ)). x ++ rest) (ap bodies_of split ∙ bodies_of-then qs extra) ∙ append_assoc (bodies_of qs) (bodies_of extra) rest));
  }

  -- one call, or none, with places
  one_or_none : (ps : List (ℕ × List ℕ)) (cs : List Call) → (ps ≡ []) ⊎ ((p : ℕ × List ℕ) × (ps ≡ p ∷ [])) → AreStored ps cs → IsOneOrNone HasPlaces (map (brought mark) cs)
  one_or_none ps [] one a = tt
  one_or_none ps (c ∷ []) (inl none) a = absurd (subst (λ (x : List (ℕ × List ℕ)). AreStored x (c ∷ [])) none a)
  one_or_none ps (c ∷ []) (inr one) a = receipt_places one.0.1 c.result ((subst (λ (x : List (ℕ × List ℕ)). AreStored x (c ∷ [])) one.1 a).2)
  one_or_none ps (c ∷ d ∷ cs) (inl none) a = absurd (subst (λ (x : List (ℕ × List ℕ)). AreStored x (c ∷ d ∷ cs)) none a)
  one_or_none ps (c ∷ d ∷ cs) (inr one) a = absurd ((subst (λ (x : List (ℕ × List ℕ)). AreStored x (c ∷ d ∷ cs)) one.1 a).3)

each_then : {X : Type 0} (P : X → Type 0) (xs ys : List X) → Each P xs → Each P ys → Each P (xs ++ ys)
each_then P [] ys a b = b
each_then P (x ∷ xs) ys a b = (a.0, each_then P xs ys a.1 b)

module _ {S O : Type 0} (leaves : S → ℕ → List ℕ → Result Receipt AdmitFault → S → Type 0) (m : Meaning O) (known : ℕ → Bool) where
  -- each packet is of who logged in
  packets_imei : (t : Talk O) (vs : List UpValue) → Each (λ p. imei_in (after m known t vs) ≡ Some p.0) (packets m known t vs)
  packets_imei t [] = tt
  packets_imei (nobody o) (v ∷ vs) = packets_imei (next m known (nobody o) v) vs
  packets_imei (stranger imei o) (v ∷ vs) = packets_imei (stranger imei o) vs
  packets_imei (device imei o) (login other ∷ vs) = packets_imei (device imei o) vs
  packets_imei (device imei o) (packet head body ∷ vs) = (device_imei m known imei (m.asked o imei) vs, packets_imei (device imei (m.asked o imei)) vs)
  packets_imei (device imei o) (response body ∷ vs) = packets_imei (next m known (device imei o) (response body)) vs

  stores_one : (t : Talk O) (v : UpValue) → (stores m known t v ≡ []) ⊎ ((p : ℕ × List ℕ) × (stores m known t v ≡ p ∷ []))
  stores_one (nobody o) v = inl refl
  stores_one (stranger imei o) v = inl refl
  stores_one (device imei o) (login other) = inl refl
  stores_one (device imei o) (packet head body) = inr ((imei, body), refl)
  stores_one (device imei o) (response body) = inl refl

  -- the calls that were made, and that they are a session's
  pub record HasCalls (end : SessionEnd) (mark : Mark) (taken : List ℕ) (s : S) (y : Doing S O) : Type 0 where
    pub calls : List Call
    pub feeds : Feeds leaves s calls y.shelf
    pub receipts : HaveReceipts (served_at leaves m known end y) taken calls
    pub are : AreCallsOf (served_at leaves m known end y) mark taken (map (brought mark) calls)

  -- all was dealt with
  all_calls : (end : SessionEnd) (mark : Mark) (taken : List ℕ) (said : List UpValue) (o : O) (s : S) (w : Option Traffic) (y : Doing S O) → said_in taken ≡ said → Does leaves m known said taken (start o s w) y → is_stranger y.talk ≡ false
      → MayFollow end [] → HasCalls end mark taken s y
  all_calls end mark taken said o s w y is does welcome follows =
      let ps : List (ℕ × List ℕ) = packets m known (nobody o) said in
      let none : does.calls ++ [] ≡ does.calls = append-nil does.calls in
      let bodies = ap bodies_in is ∙ (all_bodies m known o said (subst LoginFirst is (login_first taken)) (ap is_stranger (sym does.talk) ∙ welcome) ∙ sym (append-nil (bodies_of ps))) in
      record {
        calls = does.calls;
        feeds = does.feeds;
        receipts = subst (HaveReceipts (served_at leaves m known end y) taken) none (have_receipts mark (served_at leaves m known end y) taken ps ps [] does.calls [] does.stored (does.frames ∙ omega arith) (sym (append-nil ps)) [] bodies);
        are = subst (λ (cs : List Call). AreCallsOf (served_at leaves m known end y) mark taken (map (brought mark) cs)) none
            (are_calls mark (served_at leaves m known end y) taken ps ps does.calls [] (subst (AreFor ps) (sym none) (stored_for ps does.calls does.stored)) does.stored (does.frames ∙ omega arith) (does.records ∙ omega arith)
            (subst (λ (t : Talk O). Each (λ p. imei_in t ≡ Some p.0) ps) (sym does.talk) (packets_imei (nobody o) said)) follows [] bodies);
      }

  -- it stopped at an item
  stop_calls : (end : SessionEnd) (mark : Mark) (taken : List ℕ) (o : O) (s : S) (w : Option Traffic) (y : Doing S O) (t : Stops leaves m known end taken taken (fresh false) (start o s w) y) (ps : List (ℕ × List ℕ)) (counted others : List Call) (qs extra : List (ℕ × List ℕ)) → ps ≡ qs ++ extra
      → AreFor ps (counted ++ others) → AreStored qs counted → Feeds leaves t.between.shelf (counted ++ others) y.shelf → y.frames ≡ t.between.frames + length qs → y.records ≡ t.between.records + records_in qs
      → Each (λ p. imei_in y.talk ≡ Some p.0) ps → imei_in t.between.talk ≡ imei_in y.talk ⊎ (t.dealt ≡ []) → MayFollow end (map (brought mark) others) → is_stranger t.between.talk ≡ false
      → (rest : (others : List UpValue) → (after_ : List (List ℕ)) × (bodies_in (t.at ∷ others) ≡ bodies_of ps ++ after_)) → HasCalls end mark taken s y
  stop_calls end mark taken o s w y t ps counted others qs extra split for stored feeds frames records owner same follows welcome rest =
      let read = read_heads taken (t.dealt ++ t.at ∷ []) t.heads in
      let is : said_in taken ≡ t.dealt ++ t.at ∷ read.0 = read.1 ∙ append_assoc t.dealt (t.at ∷ []) read.0 in
      let first : LoginFirst t.dealt = first_of t.dealt (t.at ∷ read.0) (subst LoginFirst is (login_first taken)) in
      let ds : List (ℕ × List ℕ) = packets m known (nobody o) t.dealt in
      let left = rest read.0 in
      let bodies : bodies_in (said_in taken) ≡ bodies_of (ds ++ ps) ++ left.0 =
      (ap bodies_in is ∙ (bodies_then t.dealt (t.at ∷ read.0) ∙ (ap (λ (x : List (List ℕ) × List (List ℕ)). x.0 ++ x.1) (λ i. (all_bodies m known o t.dealt first (ap is_stranger (sym t.does.talk) ∙ welcome) i, left.1 i))
      ∙ (sym (append_assoc (bodies_of ds) (bodies_of ps) left.0) ∙ ap (λ (x : List (List ℕ)). x ++ left.0) (sym (bodies_of-then ds ps)))))) in
      let joined : (t.does.calls ++ counted) ++ others ≡ t.does.calls ++ (counted ++ others) = append_assoc t.does.calls counted others in
      let own : Each (λ p. imei_in y.talk ≡ Some p.0) ds = elim same [
        | inl e ↦ subst (λ (i : Option ℕ). Each (λ p. i ≡ Some p.0) ds) (ap imei_in (sym t.does.talk) ∙ e) (packets_imei (nobody o) t.dealt)
        | inr none ↦ subst (λ (vs : List UpValue). Each (λ p. imei_in y.talk ≡ Some p.0) (packets m known (nobody o) vs)) (sym none) tt
      ] in
      record {
        calls = (t.does.calls ++ counted) ++ others;
        receipts = have_receipts mark (served_at leaves m known end y) taken (ds ++ ps) (ds ++ qs) extra (t.does.calls ++ counted) others (stored_then ds qs t.does.calls counted t.does.stored stored)
            (omega (arith, frames, t.does.frames, length-append ds qs)) (ap (λ (x : List (ℕ × List ℕ)). ds ++ x) split ∙ sym (append_assoc ds qs extra)) left.0 bodies;
        feeds = subst (λ (cs : List Call). Feeds leaves s cs y.shelf) (sym joined) (feeds_then leaves t.does.calls (counted ++ others) s t.between.shelf y.shelf t.does.feeds feeds);
        are = are_calls mark (served_at leaves m known end y) taken (ds ++ ps) (ds ++ qs) (t.does.calls ++ counted) others
            (subst (AreFor (ds ++ ps)) (sym joined) (for_then ds ps t.does.calls (counted ++ others) (stored_for ds t.does.calls t.does.stored) for)) (stored_then ds qs t.does.calls counted t.does.stored stored)
            (omega (arith, frames, t.does.frames, length-append ds qs)) (omega (arith, records, t.does.records, records_then ds qs))
            (each_then (λ p. imei_in y.talk ≡ Some p.0) ds ps own owner) follows left.0 bodies;
      }

  refused_calls : (end : SessionEnd) (why : AdmitFault) (mark : Mark) (taken : List ℕ) (o : O) (s : S) (w : Option Traffic) (y : Doing S O) (t : Stops leaves m known end taken taken (fresh false) (start o s w) y) → IsRefused leaves m known why t.at t.between y
      → ((b : Brought) → b.answer ≡ Err why → MayFollow end (b ∷ [])) → HasCalls end mark taken s y
  refused_calls end why mark taken o s w y t r follows =
      let c : Call = record { imei = r.imei; body = r.body; result = Err why } in
      let who : imei_in y.talk ≡ Some r.imei = ap imei_in r.same_talk ∙ ap imei_in r.talk in
      stop_calls end mark taken o s w y t ((r.imei, r.body) ∷ []) [] (c ∷ []) [] ((r.imei, r.body) ∷ []) refl (refl, refl, tt) tt (y.shelf, r.call, refl) (omega (arith, r.frames)) (omega (arith, r.records)) (who, tt) (inl (ap imei_in (sym r.same_talk)))
      (follows (brought mark c) refl) (ap is_stranger r.talk) (λ others. (bodies_in others, ap (λ (v : UpValue). bodies_in (v ∷ others)) r.is))

  -- the link failed inside an answer

  stores_imei : (u : Talk O) (v : UpValue) → Each (λ p. imei_in (next m known u v) ≡ Some p.0) (stores m known u v)
  stores_imei (nobody o) v = tt
  stores_imei (stranger imei o) v = tt
  stores_imei (device imei o) (login other) = tt
  stores_imei (device imei o) (packet head body) = (refl, tt)
  stores_imei (device imei o) (response body) = tt

  same_imei : (u : Talk O) (v : UpValue) → (imei_in u ≡ imei_in (next m known u v)) ⊎ ((q : O) × (u ≡ nobody q))
  same_imei (nobody o) v = inr (o, refl)
  same_imei (stranger imei o) v = inl refl
  same_imei (device imei o) (login other) = inl refl
  same_imei (device imei o) (packet head body) = inl refl
  same_imei (device imei o) (response body) = inl refl

  store_bodies : (u : Talk O) (v : UpValue) → (rest : List (List ℕ)) × (bodies_in (v ∷ []) ≡ bodies_of (stores m known u v) ++ rest)
  store_bodies (nobody o) v = (bodies_in (v ∷ []), refl)
  store_bodies (stranger imei o) v = (bodies_in (v ∷ []), refl)
  store_bodies (device imei o) (login other) = ([], refl)
  store_bodies (device imei o) (packet head body) = ([], refl)
  store_bodies (device imei o) (response body) = ([], refl)

  cut_by : (b : Bool) (mark : Mark) (taken : List ℕ) (o : O) (s : S) (w : Option Traffic) (y : Doing S O) (t : Stops leaves m known ends.LinkFault taken taken (fresh false) (start o s w) y)
      → y.frames ≡ t.between.frames + length (if b then stores m known t.between.talk t.at else []) → y.records ≡ t.between.records + records_in (if b then stores m known t.between.talk t.at else []) → HasCalls ends.LinkFault mark taken s y
  cut_by b mark taken o s w y t frames records =
      let c = t.stops in
      let u : Talk O = t.between.talk in
      let ss : List (ℕ × List ℕ) = stores m known u t.at in
      let owner = subst (λ (i : Option ℕ). Each (λ p. i ≡ Some p.0) ss) (sym t.imei) (stores_imei u t.at) in
      let read = read_heads taken (t.dealt ++ t.at ∷ []) t.heads in
      let first : LoginFirst t.dealt = first_of t.dealt (t.at ∷ []) (first_of (t.dealt ++ t.at ∷ []) read.0 (subst LoginFirst read.1 (login_first taken))) in
      let same : (imei_in u ≡ imei_in y.talk) ⊎ (t.dealt ≡ []) = elim (same_imei u t.at) [ inl e ↦ inl (e ∙ sym t.imei) | inr none ↦ inr (none_before m known o none.0 t.dealt first (sym t.does.talk ∙ none.1)) ] in
      let rest : (others : List UpValue) → (after_ : List (List ℕ)) × (bodies_in (t.at ∷ others) ≡ bodies_of ss ++ after_) = λ others.
      let one = store_bodies u t.at in
      (one.0 ++ bodies_in others, bodies_then (t.at ∷ []) others ∙ (ap (λ (x : List (List ℕ)). x ++ bodies_in others) one.1 ∙ append_assoc (bodies_of ss) one.0 (bodies_in others))) in
      let welcome = is_answered m known u t.at c.part c.within in
      by b frames records owner same rest welcome
    where
      by : (b : Bool) → y.frames ≡ t.between.frames + length (if b then stores m known t.between.talk t.at else []) → y.records ≡ t.between.records + records_in (if b then stores m known t.between.talk t.at else [])
          → Each (λ p. imei_in y.talk ≡ Some p.0) (stores m known t.between.talk t.at) → (imei_in t.between.talk ≡ imei_in y.talk) ⊎ (t.dealt ≡ [])
          → ((others : List UpValue) → (after_ : List (List ℕ)) × (bodies_in (t.at ∷ others) ≡ bodies_of (stores m known t.between.talk t.at) ++ after_)) → is_stranger t.between.talk ≡ false → HasCalls ends.LinkFault mark taken s y
      by true frames records owner same rest welcome =
          let ss : List (ℕ × List ℕ) = stores m known t.between.talk t.at in
          let none : t.stops.calls ++ [] ≡ t.stops.calls = append-nil t.stops.calls in
          stop_calls ends.LinkFault mark taken o s w y t ss t.stops.calls [] ss [] (sym (append-nil ss)) (subst (AreFor ss) (sym none) (stored_for ss t.stops.calls t.stops.stored)) t.stops.stored
          (subst (λ (cs : List Call). Feeds leaves t.between.shelf cs y.shelf) (sym none) t.stops.feeds) frames records owner same tt welcome rest
      by false frames records owner same rest welcome =
          let ss : List (ℕ × List ℕ) = stores m known t.between.talk t.at in
          stop_calls ends.LinkFault mark taken o s w y t ss [] t.stops.calls [] ss refl (stored_for ss t.stops.calls t.stops.stored) tt t.stops.feeds frames records owner same
          (one_or_none mark ss t.stops.calls (stores_one t.between.talk t.at) t.stops.stored) welcome rest

  -- a stranger makes none
  stranger_calls : (imei : ℕ) (mark : Mark) (taken : List ℕ) (o : O) (s : S) (w : Option Traffic) (y : Doing S O) → Stops leaves m known (ends.Unknown imei) taken taken (fresh false) (start o s w) y → HasCalls (ends.Unknown imei) mark taken s y
  stranger_calls imei mark taken o s w y t =
      let u = sent_away leaves m known imei taken o s w y t in
      let none : u.does.calls ++ [] ≡ u.does.calls = append-nil u.does.calls in
      record {
        calls = u.does.calls;
        feeds = u.does.feeds;
        receipts = subst (HaveReceipts (served_at leaves m known (ends.Unknown imei) y) taken) none
            (have_receipts mark (served_at leaves m known (ends.Unknown imei) y) taken [] [] [] u.does.calls [] u.does.stored (u.does.frames ∙ omega arith) refl (bodies_in (said_in taken)) refl);
        are = subst (λ (cs : List Call). AreCallsOf (served_at leaves m known (ends.Unknown imei) y) mark taken (map (brought mark) cs)) none
            (are_calls mark (served_at leaves m known (ends.Unknown imei) y) taken [] [] u.does.calls [] (subst (AreFor []) (sym none) (stored_for [] u.does.calls u.does.stored)) u.does.stored (u.does.frames ∙ omega arith) (u.does.records ∙ omega arith)
            tt refl (bodies_in (said_in taken)) refl);
      }

  pub session_calls : (end : SessionEnd) (mark : Mark) (taken : List ℕ) (link : LinkState) (new : Reader) (o : O) (s : S) (w : Option Traffic) (y : Doing S O) → Ends leaves m known end taken link (fresh false) new (start o s w) y → HasCalls end mark taken s y
  session_calls ends.Ended mark taken link new o s w y e = all_calls ends.Ended mark taken e.0.goes.said o s w y (read_all taken e.0.goes.said new e.0.goes.reads).items e.0.goes.does e.0.welcome refl
  session_calls (ends.EndedInside n) mark taken link new o s w y e = all_calls (ends.EndedInside n) mark taken e.0.goes.said o s w y (read_all taken e.0.goes.said new e.0.goes.reads).items e.0.goes.does e.0.welcome refl
  session_calls (ends.LongEnough n) mark taken link new o s w y e = all_calls (ends.LongEnough n) mark taken e.0.goes.said o s w y (read_all taken e.0.goes.said new e.0.goes.reads).items e.0.goes.does e.0.welcome refl
  session_calls (ends.Broken found) mark taken link new o s w y b = all_calls (ends.Broken found) mark taken b.dealt o s w y (read_fault found taken b.dealt b.reads).0 b.does b.welcome refl
  session_calls ends.LinkFault mark taken link new o s w y (inl e) = all_calls ends.LinkFault mark taken e.0.goes.said o s w y (read_all taken e.0.goes.said new e.0.goes.reads).items e.0.goes.does e.0.welcome tt
  session_calls ends.LinkFault mark taken link new o s w y (inr t) = cut_by (nat_le 4 t.stops.part) mark taken o s w y t t.stops.frames t.stops.records
  session_calls (ends.Unknown imei) mark taken link new o s w y t = stranger_calls imei mark taken o s w y t
  session_calls (ends.MediumFault n) mark taken link new o s w y t = refused_calls (ends.MediumFault n) _ mark taken o s w y t t.stops (λ b is. is)
  session_calls (ends.Down n) mark taken link new o s w y t = refused_calls (ends.Down n) _ mark taken o s w y t t.stops (λ b is. is)
  session_calls ends.NoMemory mark taken link new o s w y t = refused_calls ends.NoMemory _ mark taken o s w y t t.stops (λ b is. is)

-- What an archive has after a session.
use Rattle.std.proofs.Common.{◌≡◌, ◌⊎◌, inl, inr, ℕ, ◌+◌, Bool, false, List, [], ◌∷◌, ◌++◌, length, map, take, Option, Some, Ok, Err, refl, sym, ap, subst, ◌∙◌, append_assoc, arith}
use Rattle.std.specs.List.{flat_map}
use Rattle.std.proofs.lemmas.List.{map-append}
use Rattle.std.proofs.Math.Seq.{take-append-add, take-append_seam}
use Rattle.avl_values.specs.Record.{Record}
use Rattle.medium_model.specs.Images.{changed, unchanged}
use Rattle.medium_model.proofs.Images.{every-map}
use Rattle.record_layout.specs.RecordsOf.{records_of}
use Rattle.archive_journal.specs.Body.{EntryValue}
use Rattle.archive_journal.specs.Entries.{entries_of}
use Rattle.archive_journal.specs.Journal.{EachHolds}
use Rattle.frame_layout.specs.Readings.{packets_of, up_reading}
use Rattle.shelf.specs.Admits.{Answer, answer_of, down_after}
use Rattle.shelf.specs.Archive.{Begins, StoredValue, admitted, fresh, list_of, stored}
use Rattle.shelf.specs.Calls.{Brought, Call, Feeds, IsLegal, Mark, brought, replay}
use Rattle.shelf.specs.Histories.{Each, HasPlaces, In}
use Rattle.shelf.specs.Shelf.{IsDurable, Leaves, ListsEither, ShelfView}
use Rattle.shelf.proofs.Histories.{fed}
use Rattle.shelf.proofs.Laws.{lists-after}
use Rattle.shelf.proofs.Leaving.{admitted-fresh}
use Rattle.shelf.proofs.Members.{in-admitted, in-append, in-left, in-legal, in-replay, in-right, replay-begins}
use Rattle.shelf.proofs.Stages.{begins-then}
use Rattle.session_core.specs.declared.served.Served.{Served}
use Rattle.session_core.specs.declared.served.SessionEnd.{SessionEnd}
use Rattle.session_core.specs.declared.served.SessionEnd.TheVariants as ends
use Rattle.session_core.specs.Archived.{CountedIsArchived, HasSession, records_of_first}
use Rattle.session_core.specs.SessionCalls.{AreCallsOf, IsOne, IsOneOrNone, MayFollow}

-- Members of joined lists.

in-joined : (xs : List (List Record)) (x : List Record) (r : Record) → In xs x → In x r → In (flat_map (λ y. y) xs) r
in-joined [] x r at is = absurd at
in-joined (y ∷ ys) x r (inl here) is = in-left y (flat_map (λ z. z) ys) r (subst (λ (z : List Record). In z r) (sym here) is)
in-joined (y ∷ ys) x r (inr there) is = in-right y (flat_map (λ z. z) ys) r (in-joined ys x r there is)

joined-in : (bs : List Brought) (r : Record) → In (flat_map (λ y. y) (map (λ b. b.records) bs)) r → (b : Brought) × In bs b × In b.records r
joined-in [] r is = absurd is
joined-in (b ∷ bs) r is = elim (in-append b.records (flat_map (λ y. y) (map (λ c. c.records) bs)) r is) as (λ _. (x : Brought) × In (b ∷ bs) x × In x.records r) [
  | inl first ↦ (b, inl refl, first)
  | inr later ↦ (let rest = joined-in bs r later in (rest.0, inr rest.1, rest.2))
]

in-records : (bs : List Brought) (b : Brought) → In bs b → In (map (λ c. c.records) bs) b.records
in-records [] b is = absurd is
in-records (c ∷ bs) b (inl here) = inl (ap (λ (x : Brought). x.records) here)
in-records (c ∷ bs) b (inr there) = inr (in-records bs b there)

pub each-in : {X : Type 0} (P : X → Type 0) (xs : List X) (x : X) → Each P xs → In xs x → P x
each-in P [] x e is = absurd is
each-in P (y ∷ ys) x e (inl here) = subst P here e.0
each-in P (y ∷ ys) x e (inr there) = each-in P ys x e.1 there

each-front : {X : Type 0} (P : X → Type 0) (xs ys : List X) → Each P (xs ++ ys) → Each P xs
each-front P [] ys e = tt
each-front P (x ∷ xs) ys e = (e.0, each-front P xs ys e.1)

each-back : {X : Type 0} (P : X → Type 0) (xs ys : List X) → Each P (xs ++ ys) → Each P ys
each-back P [] ys e = e
each-back P (x ∷ xs) ys e = each-back P xs ys e.1

-- Calls in two parts.

record Parts (mark : Mark) (calls : List Call) (xs ys : List Brought) : Type 0 where
  first : List Call
  last : List Call
  are : calls ≡ first ++ last
  first_are : map (brought mark) first ≡ xs
  last_are : map (brought mark) last ≡ ys

parts : (mark : Mark) (calls : List Call) (xs ys : List Brought) → map (brought mark) calls ≡ xs ++ ys → Parts mark calls xs ys
parts mark calls [] ys e = record { first = []; last = calls; are = refl; first_are = refl; last_are = e }
parts mark [] (x ∷ xs) ys e = absurd cc
parts mark (c ∷ calls) (x ∷ xs) ys e =
    let head : brought mark c ≡ x = cc in
    let tail : map (brought mark) calls ≡ xs ++ ys = cc in
    let rest = parts mark calls xs ys tail in
    record { first = c ∷ rest.first; last = rest.last; are = ap (λ (cs : List Call). c ∷ cs) rest.are; first_are = ap (λ (z : Brought × List Brought). z.0 ∷ z.1) (λ i. (head i, rest.first_are i)); last_are = rest.last_are }

feeds-parts : (cs ds : List Call) (s t : ShelfView) → Feeds Leaves s (cs ++ ds) t → (u : ShelfView) × Feeds Leaves s cs u × Feeds Leaves u ds t
feeds-parts [] ds s t f = (s, refl, f)
feeds-parts (c ∷ cs) ds s t f = (let rest = feeds-parts cs ds f.0 t f.2 in (rest.0, (f.0, f.1, rest.1), rest.2))

-- a shelf stays up through calls that were answered with places
up-still : (down : Bool) (answer : Answer) → HasPlaces answer → down_after down answer ≡ down
up-still down (Ok places) has = refl
up-still down (Err fault) has = absurd has

pub durable-fed : (mark : Mark) (cs : List Call) (s t : ShelfView) → IsDurable s → Each (λ b. HasPlaces b.answer) (map (brought mark) cs) → Feeds Leaves s cs t → IsDurable t
durable-fed mark [] s t durable places feeds = subst IsDurable feeds durable
durable-fed mark (c ∷ cs) s t durable places feeds =
    let up = feeds.1.admits.down ∙ (up-still s.down (answer_of c.result) places.0 ∙ durable.up) in
    durable-fed mark cs feeds.0 t (feeds.1.durable up) places.1 feeds.2

-- at most one call comes after those that were counted
abbrev AtMostOne : {X : Type 0} → List X → Type 0
AtMostOne [] = Unit {0}
AtMostOne (x ∷ []) = Unit {0}
AtMostOne (x ∷ y ∷ xs) = ⊥

none-more : (bs : List Brought) → bs ≡ [] → AtMostOne bs
none-more bs is = subst AtMostOne (sym is) tt

one-more : (P : Answer → Type 0) (bs : List Brought) → IsOne P bs → AtMostOne bs
one-more P [] is = tt
one-more P (b ∷ []) is = tt
one-more P (b ∷ c ∷ bs) is = is

one-none-more : (P : Answer → Type 0) (bs : List Brought) → IsOneOrNone P bs → AtMostOne bs
one-none-more P [] is = tt
one-none-more P (b ∷ bs) is = one-more P (b ∷ bs) is

few-more : (end : SessionEnd) (bs : List Brought) → MayFollow end bs → AtMostOne bs
few-more ends.Ended bs is = none-more bs is
few-more (ends.EndedInside have) bs is = none-more bs is
few-more (ends.LongEnough taken) bs is = none-more bs is
few-more (ends.Broken found) bs is = none-more bs is
few-more (ends.Unknown imei) bs is = none-more bs is
few-more ends.LinkFault bs is = one-none-more HasPlaces bs is
few-more (ends.MediumFault faults) bs is = one-more _ bs is
few-more (ends.Down faults) bs is = one-more _ bs is
few-more ends.NoMemory bs is = one-none-more _ bs is

-- and it is the one that stands there
alone : {X : Type 0} (xs : List X) (x : X) → AtMostOne xs → In xs x → xs ≡ x ∷ []
alone [] x few is = absurd is
alone (y ∷ []) x few (inl here) = ap (λ z. z ∷ []) here
alone (y ∷ []) x few (inr there) = absurd there
alone (y ∷ z ∷ xs) x few is = absurd few

-- a call of this device, with places, brought the record
pub record IsCalled (all : List Brought) (imei : ℕ) (r : Record) : Type 0 where
  pub call : Brought
  pub made : In all call
  pub device : call.imei ≡ imei
  pub stored : HasPlaces call.answer
  pub has : In call.records r

-- What the record list has.

record Kept (before : List StoredValue) (served : Served) (taken : List ℕ) (list : List StoredValue) : Type 0 where
  pub begins : Begins before list
  pub only : (v : StoredValue) → In list v → In before v ⊎ ((served.imei ≡ Some v.imei) × In (records_of_first (served.frames + 1) taken) v.rec)
  pub counted : (imei : ℕ) (r : Record) → served.imei ≡ Some imei → In (records_of_first served.frames taken) r → In list (stored imei r)

kept-entries : (before : List StoredValue) (served : Served) (taken : List ℕ) (list : List StoredValue) (es : List EntryValue) → list_of es ≡ list → Kept before served taken list → HasSession before served taken es
kept-entries before served taken list es is k =
    let h : Kept before served taken (list_of es) = subst (Kept before served taken) (sym is) k in
    record { begins = h.begins; only = h.only; counted = h.counted }

module _ (served : Served) (mark : Mark) (taken : List ℕ) (all : List Brought) (a : AreCallsOf served mark taken all) where
  abbrev rows : List (List Record)
  rows = map records_of (packets_of (up_reading false taken).items)

  abbrev records : List Brought → List (List Record)
  records bs = map (λ b. b.records) bs

  size : (bs : List Brought) → length (records bs) ≡ length bs
  size [] = refl
  size (b ∷ bs) = omega (arith, size bs)

  rows-are : rows ≡ records a.counted ++ (records a.more ++ a.others)
  rows-are = a.bodies ∙ (ap (λ (bs : List Brought). records bs ++ a.others) a.are ∙ (ap (λ (x : List (List Record)). x ++ a.others) (map-append (λ (b : Brought). b.records) a.counted a.more) ∙ append_assoc (records a.counted) (records a.more) a.others))

  first-rows : take served.frames rows ≡ records a.counted
  first-rows = ap (λ (z : ℕ × List (List Record)). take z.0 z.1) (λ i. (counted-size i, rows-are i)) ∙ take-append_seam (records a.counted) (records a.more ++ a.others)
    where
      counted-size : served.frames ≡ length (records a.counted)
      counted-size = a.frames ∙ sym (size a.counted)

  one-more-rows : take (served.frames + 1) rows ≡ records a.counted ++ take 1 (records a.more ++ a.others)
  one-more-rows = ap (λ (z : ℕ × List (List Record)). take (z.0 + 1) z.1) (λ i. (counted-size i, rows-are i)) ∙ take-append-add (records a.counted) (records a.more ++ a.others) 1
    where
      counted-size : served.frames ≡ length (records a.counted)
      counted-size = a.frames ∙ sym (size a.counted)

  -- a record that a counted call brought is in the frames
  in-first : (b : Brought) (r : Record) → In a.counted b → In b.records r → In (records_of_first (served.frames + 1) taken) r
  in-first b r made is =
      in-joined (take (served.frames + 1) rows) b.records r
      (subst (λ (x : List (List Record)). In x b.records) (sym one-more-rows) (in-left (records a.counted) (take 1 (records a.more ++ a.others)) b.records (in-records a.counted b made))) is

  -- and one of the call after them, too
  in-last : (b : Brought) (r : Record) → a.more ≡ b ∷ [] → In b.records r → In (records_of_first (served.frames + 1) taken) r
  in-last b r more is =
      let there : In (take 1 (records a.more ++ a.others)) b.records = subst (λ (bs : List Brought). In (take 1 (records bs ++ a.others)) b.records) (sym more) (inl refl) in
      in-joined (take (served.frames + 1) rows) b.records r
      (subst (λ (x : List (List Record)). In x b.records) (sym one-more-rows) (in-right (records a.counted) (take 1 (records a.more ++ a.others)) b.records there)) is

  own : (b : Brought) → In a.counted b → served.imei ≡ Some b.imei
  own b made = each-in (λ c. served.imei ≡ Some c.imei) a.counted b (each-front (λ c. served.imei ≡ Some c.imei) a.counted a.more (subst (Each (λ c. served.imei ≡ Some c.imei)) a.are a.device)) made

  own-last : (b : Brought) → a.more ≡ b ∷ [] → served.imei ≡ Some b.imei
  own-last b more = (subst (Each (λ c. served.imei ≡ Some c.imei)) more (each-back (λ c. served.imei ≡ Some c.imei) a.counted a.more (subst (Each (λ c. served.imei ≡ Some c.imei)) a.are a.device))).0

  same-imei : (x y : ℕ) (o : Option ℕ) → o ≡ Some x → o ≡ Some y → x ≡ y
  same-imei x y o p q = let e : Some x ≡ Some y = sym p ∙ q in cc

  -- A record that one of its calls brought is its device's, and is in the frames that were counted or in the one after them.
  pub call-in-frames : (b : Brought) (r : Record) → In all b → In b.records r → (served.imei ≡ Some b.imei) × In (records_of_first (served.frames + 1) taken) r
  call-in-frames b r made is =
      elim (in-append a.counted a.more b (subst (λ (bs : List Brought). In bs b) a.are made)) as (λ _. (served.imei ≡ Some b.imei) × In (records_of_first (served.frames + 1) taken) r) [
        | inl first ↦ (own b first, in-first b r first is)
        | inr last ↦ (let only = alone a.more b (few-more served.end a.more a.follows) last in (own-last b only, in-last b r only is))
      ]

  -- A record of a frame that was counted was brought by a call with places.
  pub frame-is-called : (imei : ℕ) (r : Record) → served.imei ≡ Some imei → In (records_of_first served.frames taken) r → IsCalled all imei r
  frame-is-called imei r who is =
      let found = joined-in a.counted r (subst (λ (x : List (List Record)). In (flat_map (λ y. y) x) r) first-rows is) in
      record {
        call = found.0;
        made = subst (λ (bs : List Brought). In bs found.0) (sym a.are) (in-left a.counted a.more found.0 found.1);
        device = same-imei found.0.imei imei served.imei (own found.0 found.1) who;
        stored = each-in (λ b. HasPlaces b.answer) a.counted found.0 a.stored found.1;
        has = found.2;
      }

  -- the list after the calls that were counted
  kept-counted : (before : List StoredValue) (down : Bool) → IsLegal before down a.counted → Kept before served taken (replay before a.counted)
  kept-counted before down legal = record {
    begins = replay-begins before a.counted;
    only = λ v is. elim (in-replay before a.counted v is) as (λ _. In before v ⊎ ((served.imei ≡ Some v.imei) × In (records_of_first (served.frames + 1) taken) v.rec)) [
      | inl old ↦ inl old
      | inr new ↦ inr (own new.call new.made ∙ ap (λ (n : ℕ). Some n) (sym new.device), in-first new.call v.rec new.made new.has)
    ];
    counted = λ imei r who is.
        let found = joined-in a.counted r (subst (λ (x : List (List Record)). In (flat_map (λ y. y) x) r) first-rows is) in
        let device = same-imei found.0.imei imei served.imei (own found.0 found.1) who in
        subst (λ (n : ℕ). In (replay before a.counted) (stored n r)) device
        (in-legal before down a.counted found.0 r legal found.1 (each-in (λ b. HasPlaces b.answer) a.counted found.0 a.stored found.1) found.2);
  }

  -- and after one more packet
  kept-last : (before list : List StoredValue) (b : Brought) → a.more ≡ b ∷ [] → Kept before served taken list → Kept before served taken (admitted list b.imei b.records)
  kept-last before list b more k =
      let grows = admitted-fresh list b.imei b.records in
      record {
        begins = begins-then before list (admitted list b.imei b.records) k.begins (record { more = map (stored b.imei) (fresh list b.imei b.records); is = grows });
        only = λ v is. elim (in-admitted list b.imei b.records v is) as (λ _. In before v ⊎ ((served.imei ≡ Some v.imei) × In (records_of_first (served.frames + 1) taken) v.rec)) [
          | inl old ↦ k.only v old
          | inr new ↦ inr (own-last b more ∙ ap (λ (n : ℕ). Some n) (sym new.0), in-last b v.rec more new.1)
        ];
        counted = λ imei r who is. subst (λ (l : List StoredValue). In l (stored imei r)) (sym grows) (in-left list (map (stored b.imei) (fresh list b.imei b.records)) (stored imei r) (k.counted imei r who is));
      }

pub archived : CountedIsArchived
archived served mark taken calls s t durable feeds a =
    let p = parts mark calls a.counted a.more a.are in
    let f = feeds-parts p.first p.last s t (subst (λ (cs : List Call). Feeds Leaves s cs t) p.are feeds) in
    let places : Each (λ b. HasPlaces b.answer) (map (brought mark) p.first) = subst (Each (λ b. HasPlaces b.answer)) (sym p.first_are) a.stored in
    let up = durable-fed mark p.first s f.0 durable places f.1 in
    let history = fed mark p.first s f.0 durable.up f.1 in
    let legal : IsLegal s.list s.down a.counted = subst (λ (bs : List Brought). IsLegal s.list s.down bs) p.first_are history.1 in
    let list : f.0.list ≡ replay s.list a.counted = history.0.list ∙ ap (replay s.list) p.first_are in
    let kept : Kept s.list served taken f.0.list = subst (Kept s.list served taken) (sym list) (kept-counted served mark taken (map (brought mark) calls) a s.list s.down legal) in
    last p.last f.0 up kept f.2 (subst AtMostOne (sym p.last_are) (few-more served.end a.more a.follows)) p.last_are
  where
    last : (ds : List Call) (u : ShelfView) → IsDurable u → Kept s.list served taken u.list → Feeds Leaves u ds t → AtMostOne (map (brought mark) ds) → map (brought mark) ds ≡ a.more → EachHolds t.medium (HasSession s.list served taken)
    last [] u up kept f few is =
        let there : IsDurable t = subst IsDurable f up in
        let list : u.list ≡ t.list = ap (λ (v : ShelfView). v.list) f in
        every-map t.medium.content _ _ (λ image held. record { sound = held.sound; holds = kept-entries s.list served taken u.list (entries_of image) (held.holds.is ∙ sym list) kept }) there.same
    last (c ∷ []) u up kept f few is =
        let leaves : Leaves u c.imei c.body c.result t = subst (λ (v : ShelfView). Leaves u c.imei c.body c.result v) f.2 f.1 in
        let more = kept-last served mark taken (map (brought mark) calls) a s.list u.list (brought mark c) (sym is) kept in
        every-map t.medium.content _ _ (λ image held. record { sound = held.sound; holds = by_image u c kept more (entries_of image) held.holds }) (lists-after u t c.imei c.body c.result up leaves)
      where
        by_image : (u : ShelfView) (c : Call) → Kept s.list served taken u.list → Kept s.list served taken (admitted u.list c.imei (records_of c.body)) → (es : List EntryValue) → ListsEither u.list (admitted u.list c.imei (records_of c.body)) es → HasSession s.list served taken es
        by_image u c kept more es h = elim h.is [
          | unchanged same ↦ kept-entries s.list served taken u.list es same kept
          | changed same ↦ kept-entries s.list served taken (admitted u.list c.imei (records_of c.body)) es same more
        ]
    last (c ∷ d ∷ ds) u up kept f few is = absurd few

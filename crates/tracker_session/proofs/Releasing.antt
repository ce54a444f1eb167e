-- What a round does to the records that are held.
use Rattle.std.proofs.Common.{◌≡◌, ◌⊎◌, inl, inr, ℕ, suc, ◌+◌, ◌==◌, if◌then◌else◌, true, false, IsTrue, List, [], ◌∷◌, ◌++◌, length, Option, Some, None, slice_get, set, Ok, Err, IsErr, Result, refl, sym, ap, subst, ◌∙◌, append-nil, arith, length-append, length-set, get_or-set_same}
use Rattle.std.proofs.lemmas.Bool.{false≢true}
use Rattle.std.proofs.lemmas.Option.{get_or_from_slice_get, slice_get_within}
use Rattle.std.specs.List.{cons_option}
use Rattle.avl_values.specs.declared.errors.MediumFault.{MediumFault}
use Rattle.avl_values.specs.declared.order.Order.{Order}
use Rattle.avl_values.specs.Record.{Record}
use Rattle.layout.specs.Rows.{Verdict, fault, short}
use Rattle.item_streams.specs.Streams.{values}
use Rattle.links.specs.Links.{Traffic}
use Rattle.medium_model.proofs.Images.{counted-as, counted-none}
use Rattle.frame_layout.specs.Values.{DownValue, answer, count, order}
use Rattle.flash_ring.specs.Entries.{held_of, selected}
use Rattle.flash_ring.specs.Held.{Held, closed_all, rec_at, rec_in}
use Rattle.flash_ring.specs.Images.{AreDistinct, AreOpen, MayClose, has_slot}
use Rattle.flash_ring.specs.Records.{recs_in}
use Rattle.flash_ring.specs.Ring.{IsDurable, RingView}
use Rattle.flash_ring.proofs.Batches.{held_of-kept}
use Rattle.flash_ring.proofs.Closes.{closes-more, has-cases, has-here, has-there, holds-map, may-close_all}
use Rattle.flash_ring.proofs.HeldRecords.{held_of-may_close, length-held_of_closed, next_of-may_close, selected-distinct, selected-open}
use Rattle.tracker_session.specs.Responses.{ShellMeaning}
use Rattle.tracker_session.specs.RingRounds.{IsReleased, IsRingEnd, RoundsRing}
use Rattle.tracker_session.specs.RoundStates.{AllFit, Fits, Round, RoundState, after, next, starts}
use Rattle.tracker_session.specs.Rounds.{Ends, FailsInside, IsRound, Leaves, Rests, Stops, cut, empty, stands_at, talked}
use Rattle.tracker_session.specs.Turns.{batch_now}
use Rattle.tracker_session.specs.declared.heard.Got.TheVariants as got
use Rattle.tracker_session.specs.declared.round_end.RoundEnd.{RoundEnd}
use Rattle.tracker_session.specs.declared.round_end.RoundEnd.TheVariants as end

has-append : (a b : List ℕ) (j : ℕ) → IsTrue (has_slot (a ++ b) j) → IsTrue (has_slot a j) ⊎ IsTrue (has_slot b j)
has-append [] b j has = inr has
has-append (k ∷ a) b j has = elim (has-cases k j (has_slot (a ++ b) j) has) as (λ _. IsTrue (has_slot (k ∷ a) j) ⊎ IsTrue (has_slot b j)) [
  | inl here ↦ inl (has-here k j (has_slot a j) here)
  | inr there ↦ elim (has-append a b j there) as (λ _. IsTrue (has_slot (k ∷ a) j) ⊎ IsTrue (has_slot b j)) [
    | inl front ↦ inl (has-there k j (has_slot a j) front)
    | inr back ↦ inr back
  ]
]

has-front : (a b : List ℕ) (j : ℕ) → IsTrue (has_slot a j) → IsTrue (has_slot (a ++ b) j)
has-front [] b j has = absurd (false≢true has)
has-front (k ∷ a) b j has = elim (has-cases k j (has_slot a j) has) as (λ _. IsTrue (has_slot ((k ∷ a) ++ b) j)) [
  | inl here ↦ has-here k j (has_slot (a ++ b) j) here
  | inr there ↦ has-there k j (has_slot (a ++ b) j) (has-front a b j there)
]

has-back : (a b : List ℕ) (j : ℕ) → IsTrue (has_slot b j) → IsTrue (has_slot (a ++ b) j)
has-back [] b j has = has
has-back (k ∷ a) b j has = has-there k j (has_slot (a ++ b) j) (has-back a b j has)

distinct-append : (a b : List ℕ) → AreDistinct a → AreDistinct b → ((j : ℕ) → IsTrue (has_slot a j) → IsTrue (has_slot b j) → ⊥) → AreDistinct (a ++ b)
distinct-append [] b da db apart = db
distinct-append (k ∷ a) b da db apart = (
  (λ has. elim (has-append a b k has) as (λ _. ⊥) [ inl front ↦ da.0 front | inr back ↦ apart k (has-here k k (has_slot a k) refl) back ]),
  distinct-append a b da.1 db (λ j ha hb. apart j (has-there k j (has_slot a j) ha) hb),
)

-- these slots closed, and then some of those
pub may-close-then : (a b : List ℕ) (slots mid left : List (Option Held)) → MayClose a slots mid → MayClose b mid left → MayClose (a ++ b) slots left
may-close-then a b slots mid left first second = record {
  size = second.size ∙ first.size;
  each = λ j. elim (second.each j) as (λ _. (slice_get left j ≡ slice_get slots j) ⊎ (IsTrue (has_slot (a ++ b) j) × (slice_get left j ≡ Some None))) [
    | inl same ↦ elim (first.each j) as (λ _. (slice_get left j ≡ slice_get slots j) ⊎ (IsTrue (has_slot (a ++ b) j) × (slice_get left j ≡ Some None))) [
      | inl before ↦ inl (same ∙ before)
      | inr shut ↦ inr (has-front a b j shut.0, same ∙ shut.1)
    ]
    | inr shut ↦ inr (has-back a b j shut.0, shut.1)
  ];
}

-- a closed slot is open no more
closed-shut : (ks : List ℕ) (slots : List (Option Held)) (j : ℕ) (h : Held) → IsTrue (has_slot ks j) → slice_get (closed_all ks slots) j ≡ Some (Some h) → ⊥
closed-shut [] slots j h has is = false≢true has
closed-shut (k ∷ ks) slots j h has is = elim (has-cases k j (has_slot ks j) has) as (λ _. ⊥) [
  | inl here ↦ elim ((may-close_all ks (set slots k None)).each j) as (λ _. ⊥) [
    | inl same ↦ shut k slots h (let P : ℕ → Type 0 = λ i. slice_get (set slots k None) i ≡ Some (Some h) in subst P (sym here) (sym same ∙ is))
    | inr gone ↦ (let e : Some None ≡ Some (Some h) = sym gone.1 ∙ is in absurd cc)
  ]
  | inr there ↦ closed-shut ks (set slots k None) j h there is
]
  where
    shut : (k : ℕ) (slots : List (Option Held)) (h : Held) → slice_get (set slots k None) k ≡ Some (Some h) → ⊥
    shut k slots h is =
        let low = slice_get_within (set slots k None) k (Some h) is in
        let e : None ≡ Some h = sym (get_or-set_same slots k None None (omega (arith, length-set slots k None))) ∙ get_or_from_slice_get (set slots k None) k (Some h) None is in
        absurd cc

-- a slot that is open after some were closed was open before
pub opened-before : (ks : List ℕ) (slots : List (Option Held)) (j : ℕ) (h : Held) → slice_get (closed_all ks slots) j ≡ Some (Some h) → slice_get slots j ≡ Some (Some h)
opened-before ks slots j h is = elim ((may-close_all ks slots).each j) as (λ _. slice_get slots j ≡ Some (Some h)) [
  | inl same ↦ sym same ∙ is
  | inr gone ↦ (let e : Some None ≡ Some (Some h) = sym gone.1 ∙ is in absurd cc)
]

pub count-recs : (slots : List (Option Held)) (ks : List ℕ) → AreOpen ks slots → length (recs_in slots ks) ≡ length ks
count-recs slots [] opens = refl
count-recs slots (k ∷ ks) opens =
    let h = opens k (has-here k k (has_slot ks k) refl) in
    let at : rec_at slots k ≡ Some h.0.rec = ap rec_in h.1 in
    ap (λ (o : Option Record). length (cons_option o (recs_in slots ks))) at ∙ ap suc (count-recs slots ks (λ j has. opens j (has-there k j (has_slot ks j) has)))

-- slots that were open, each of them once
pub record AreGiven (slots : List (Option Held)) (ks : List ℕ) : Type 0 where
  pub opens : AreOpen ks slots
  pub distinct : AreDistinct ks

pub given-front : (slots : List (Option Held)) (a b : List ℕ) → AreGiven slots (a ++ b) → AreGiven slots a
given-front slots a b given = record { opens = λ j has. given.opens j (has-front a b j has); distinct = front a b given.distinct }
  where
    front : (a b : List ℕ) → AreDistinct (a ++ b) → AreDistinct a
    front [] b d = tt
    front (k ∷ a) b d = ((λ has. d.0 (has-front a b k has)), front a b d.1)

pub given-back : (slots : List (Option Held)) (a b : List ℕ) → AreGiven slots (a ++ b) → AreOpen b slots
given-back slots a b given = λ j has. given.opens j (has-back a b j has)

-- the next batch is of slots that weren't closed yet
given-batch : (slots : List (Option Held)) (ks : List ℕ) (left : ℕ) (o : Order) → AreGiven slots ks → AreGiven slots (ks ++ batch_now left o (closed_all ks slots))
given-batch slots ks left o given = elim (left == 0) as (λ b. AreGiven slots (ks ++ (if b then [] else selected o 1265 (closed_all ks slots)))) [
  | true ↦ subst (AreGiven slots) (sym (append-nil ks)) given
  | false ↦
      (let picked = selected o 1265 (closed_all ks slots) in
      let opens = selected-open o 1265 (closed_all ks slots) in
      record {
        opens = λ j has. elim (has-append ks picked j has) as (λ _. (h : Held) × (slice_get slots j ≡ Some (Some h))) [
          | inl front ↦ given.opens j front
          | inr back ↦ (let h = opens j back in (h.0, opened-before ks slots j h.0 h.1))
        ];
        distinct = distinct-append ks picked given.distinct (selected-distinct o 1265 (closed_all ks slots)) (λ j front back. let h = opens j back in closed-shut ks slots j h.0 front h.1);
      })
]

module _ {S : Type 0} (m : ShellMeaning S) (r : Round S) where
  -- the slots of the counted batches and of the outstanding one
  pub given-next : (d : RoundState S) (v : DownValue) → AreGiven r.slots (d.closed ++ d.batch) → AreGiven r.slots ((next m r d v).closed ++ (next m r d v).batch)
  given-next d (answer b) g = given-batch r.slots d.closed d.left r.sends (given-front r.slots d.closed d.batch g)
  given-next d (count n) g = given-batch r.slots (d.closed ++ d.batch) d.left r.sends g
  given-next d (order body) g = g

  pub given-after : (d : RoundState S) (vs : List DownValue) → AreGiven r.slots (d.closed ++ d.batch) → AreGiven r.slots ((after m r d vs).closed ++ (after m r d vs).batch)
  given-after d [] g = g
  given-after d (v ∷ vs) g = given-after (next m r d v) vs (given-next d v g)

  pub given-starts : AreGiven r.slots ((starts r).closed ++ (starts r).batch)
  given-starts = record { opens = λ j has. absurd (false≢true has); distinct = tt }

  -- before the login was accepted no batch is counted
  pub next-accepted : (d : RoundState S) (v : DownValue) → Fits m r d v → (next m r d v).accepted ≡ true
  next-accepted d (answer b) f = refl
  next-accepted d (count n) f = f.0
  next-accepted d (order body) f = f.0

  pub stay-accepted : (d : RoundState S) (vs : List DownValue) → d.accepted ≡ true → AllFit m r d vs → (after m r d vs).accepted ≡ true
  stay-accepted d [] e f = e
  stay-accepted d (v ∷ vs) e f = stay-accepted (next m r d v) vs (next-accepted d v f.0) f.1

  pub none-counted : (vs : List DownValue) → AllFit m r (starts r) vs → (after m r (starts r) vs).accepted ≡ false → (after m r (starts r) vs).frames ≡ 0
  none-counted [] f refused = refl
  none-counted (v ∷ vs) f refused = absurd (false≢true (sym refused ∙ stay-accepted (next m r (starts r) v) vs (next-accepted (starts r) v f.0) f.1))

-- What is left where some of these slots were closed.
released-left : (ks : List ℕ) (before left : List (Option Held)) → MayClose ks before left → IsReleased (recs_in before ks) before left
released-left ks before left may = record { part = held_of-may_close ks before left may; next = next_of-may_close ks before left may; keeps = held_of-kept ks before left may }

module _ {S : Type 0} (m : ShellMeaning S) (r : Round S) (old : RingView) (durable : IsDurable old) (same : r.slots ≡ old.slots) (rose : Type 0) where
  -- a round that didn't fail
  leaves-ring : (result : Result RoundEnd MediumFault) (d : RoundState S) (new : RingView) (t : S) → AreGiven r.slots (d.closed ++ d.batch) → Leaves m r d old new t → (IsErr result → ⊥) → IsRingEnd result old new
      → RoundsRing result d.frames (recs_in old.slots d.closed) old new
  leaves-ring result d new t given l passed ends =
      let front = given-front r.slots d.closed d.batch given in
      let slots : new.slots ≡ closed_all d.closed old.slots = ap (λ (v : RingView). v.slots) l.ring ∙ ap (closed_all d.closed) same in
      let may : MayClose d.closed old.slots new.slots = (let P : List (Option Held) → Type 0 = λ s. MayClose d.closed old.slots s in subst P (sym slots) (may-close_all d.closed old.slots)) in
      let left = released-left d.closed old.slots new.slots may in
      let up : new.down ≡ false = ap (λ (v : RingView). v.down) l.ring ∙ durable.up in
      let size : length (recs_in old.slots d.closed) ≡ length d.closed = (let P : List (Option Held) → Type 0 = λ s. length (recs_in s d.closed) ≡ length d.closed in subst P same (count-recs r.slots d.closed front.opens)) in
      record {
        size = may.size;
        next = ap (λ (v : RingView). v.next) l.ring;
        images = holds-map (length new.slots) new.medium.content (λ s. s ≡ new.slots) (IsReleased (recs_in old.slots d.closed) old.slots)
            (λ s is. (let P : List (Option Held) → Type 0 = λ k. IsReleased (recs_in old.slots d.closed) old.slots k in subst P (sym is) left)) l.durable.medium.same;
        slots = left;
        durable = λ _. l.durable;
        down = ((λ failed. absurd (passed failed)), (λ down. absurd (false≢true (sym up ∙ down))));
        ends = ends;
        counted = counted-as (omega arith) (λ down. absurd (false≢true (sym up ∙ down))) (λ f. absurd f) l.counted;
      }

  -- a round in which the medium failed
  fails-ring : (failed : MediumFault) (d : RoundState S) (new : RingView) (t : S) → AreGiven r.slots (d.closed ++ d.batch) → FailsInside m r d old new t → RoundsRing (Err failed) (d.frames + 1) (recs_in old.slots (d.closed ++ d.batch)) old new
  fails-ring failed d new t given f =
      let ks = d.closed ++ d.batch in
      let now = closed_all d.closed r.slots in
      let slots : new.slots ≡ now = ap (λ (v : RingView). v.slots) f.ring in
      let first = may-close_all d.closed r.slots in
      let down : new.down ≡ true = ap (λ (v : RingView). v.down) f.ring in
      let lift : (s : List (Option Held)) → MayClose ks r.slots s → IsReleased (recs_in old.slots ks) old.slots s =
      λ s may. (let P : List (Option Held) → Type 0 = λ b. MayClose ks b s in released-left ks old.slots s (subst P same may)) in
      let more : MayClose ks r.slots new.slots =
      (let P : List (Option Held) → Type 0 = λ s. MayClose ks r.slots s in subst P (sym slots) (closes-more d.closed ks r.slots now (λ j has. has-front d.closed d.batch j has) first)) in
      let size : length (recs_in old.slots ks) ≡ length ks = (let P : List (Option Held) → Type 0 = λ s. length (recs_in s ks) ≡ length ks in subst P same (count-recs r.slots ks given.opens)) in
      let both = length-append d.closed d.batch in
      record {
        size = more.size ∙ ap length same;
        next = ap (λ (v : RingView). v.next) f.ring;
        images = holds-map (length new.slots) new.medium.content (MayClose d.batch now) (IsReleased (recs_in old.slots ks) old.slots) (λ s may. lift s (may-close-then d.closed d.batch r.slots now s first may)) f.images;
        slots = lift new.slots more;
        durable = λ up. absurd (false≢true (sym up ∙ down));
        down = ((λ _. down), (λ _. refl));
        ends = down;
        counted = counted-as (omega arith) (λ _. tt) (λ _. down) f.counted;
      }

  passes : (e : RoundEnd) → IsErr {T = RoundEnd} {E = MediumFault} (Ok e) → ⊥
  passes e failed = false≢true failed

  -- a round in which nothing was released
  quiet-ring : (e : RoundEnd) → IsRingEnd (Ok e) old old → RoundsRing (Ok e) 0 [] old old
  quiet-ring e ends =
      let of : List (Option Held) → RingView = λ s. record old { slots = s } in
      let l : Leaves m r (starts r) old old r.shell = record { ring = ap of (sym same); durable = durable; counted = counted-none old.medium; untouched = λ _. refl; shell = refl } in
      leaves-ring (Ok e) (starts r) old r.shell (given-starts m r) l (passes e) ends

  -- what a round does to a ring, by where it stands at its end
  abbrev pub Released : Result RoundEnd MediumFault → RoundState S → RingView → Type 0
  Released result d new = RoundsRing result d.frames (recs_in old.slots d.closed) old new

  by-leaves : (e : RoundEnd) (d : RoundState S) (new : RingView) (t : S) → AreGiven r.slots (d.closed ++ d.batch) → Leaves m r d old new t → IsRingEnd (Ok e) old new → Released (Ok e) d new
  by-leaves e d new t given l ends = leaves-ring (Ok e) d new t given l (passes e) ends

  -- N records fewer are held
  fewer-held : (d : RoundState S) (new : RingView) (t : S) (n : ℕ) → AreGiven r.slots (d.closed ++ d.batch) → Leaves m r d old new t → n ≡ length d.closed → length (held_of new.slots) + n ≡ length (held_of old.slots)
  fewer-held d new t n given l is =
      let front = given-front r.slots d.closed d.batch given in
      let count = length-held_of_closed d.closed r.slots front.opens front.distinct in
      let after_it : length (held_of new.slots) ≡ length (held_of (closed_all d.closed r.slots)) = ap (λ (v : RingView). length (held_of v.slots)) l.ring in
      let before : length (held_of r.slots) ≡ length (held_of old.slots) = ap (λ (s : List (Option Held)). length (held_of s)) same in
      omega arith

  -- the slots that were given to a round after some items
  after-given : (vs : List DownValue) → AreGiven r.slots ((after m r (starts r) vs).closed ++ (after m r (starts r) vs).batch)
  after-given vs = given-after m r (starts r) vs (given-starts m r)

  stops-at : (result : Result RoundEnd MediumFault) (taken : List ℕ) (d : RoundState S) (new : RingView) (t : S) (x y : Option Traffic) (s : Stops m r rose result taken d old new t x y)
      → Released result (stands_at m r result (after m r (starts r) (values s.items)) s.last.value) new
  stops-at (Ok (end.Done n)) taken d new t x y s =
      let e = after m r (starts r) (values s.items) in
      let given = given-next m r e s.last.value (after-given (values s.items)) in
      by-leaves (end.Done n) (next m r e s.last.value) new t given s.stops.1 (fewer-held (next m r e s.last.value) new t n given s.stops.1 s.stops.3)
  stops-at (Ok end.Empty) taken d new t x y s = absurd s.stops
  stops-at (Ok end.Refused) taken d new t x y s =
      by-leaves end.Refused (after m r (starts r) (values s.items)) new t (after-given (values s.items)) s.stops.2 (s.stops.2.untouched (none-counted m r (values s.items) s.fits s.stops.1))
  stops-at (Ok end.Broken) taken d new t x y s =
      let e = after m r (starts r) (values s.items) in
      by-leaves end.Broken (next m r e s.last.value) new t (given-next m r e s.last.value (after-given (values s.items))) s.stops.1 tt
  stops-at (Ok (end.WrongAnswer g)) taken d new t x y s = by-leaves (end.WrongAnswer g) (after m r (starts r) (values s.items)) new t (after-given (values s.items)) s.stops.1 tt
  stops-at (Ok end.TooManyCommands) taken d new t x y s = by-leaves end.TooManyCommands (after m r (starts r) (values s.items)) new t (after-given (values s.items)) s.stops.3 tt
  stops-at (Err failed) taken d new t x y s = fails-ring failed (after m r (starts r) (values s.items)) new t (after-given (values s.items)) s.stops.2

  stops-ring : (result : Result RoundEnd MediumFault) (taken : List ℕ) (d : RoundState S) (new : RingView) (t : S) (x y : Option Traffic) → Stops m r rose result taken d old new t x y → Released result d new
  stops-ring result taken d new t x y s = let P : RoundState S → Type 0 = λ e. Released result e new in subst P (sym s.state) (stops-at result taken d new t x y s)

  rests-ring : (e : RoundEnd) (verdict : Verdict DownValue) (taken : List ℕ) (d : RoundState S) (new : RingView) (t : S) (x y : Option Traffic) → Rests m r verdict taken d old new t x y → IsRingEnd (Ok e) old new → Released (Ok e) d new
  rests-ring e verdict taken d new t x y s ends =
      let P : RoundState S → Type 0 = λ k. AreGiven r.slots (k.closed ++ k.batch) in
      by-leaves e d new t (subst P (sym s.state) (after-given (values s.items))) s.leaves ends

  ends-ring : (result : Result RoundEnd MediumFault) (taken : List ℕ) (d : RoundState S) (new : RingView) (t : S) (x y : Option Traffic) → Ends m r rose result taken d old new t x y → Released result d new
  ends-ring (Ok (end.Done n)) taken d new t x y s = stops-ring (Ok (end.Done n)) taken d new t x y s
  ends-ring (Ok end.Empty) taken d new t x y s = stops-ring (Ok end.Empty) taken d new t x y s
  ends-ring (Ok end.Refused) taken d new t x y s = stops-ring (Ok end.Refused) taken d new t x y s
  ends-ring (Ok end.Broken) taken d new t x y s = elim s as (λ _. Released (Ok end.Broken) d new) [
    | inl rests ↦ rests-ring end.Broken short taken d new t x y rests tt
    | inr stops ↦ stops-ring (Ok end.Broken) taken d new t x y stops
  ]
  ends-ring (Ok (end.WrongAnswer (got.Login b))) taken d new t x y s = stops-ring (Ok (end.WrongAnswer (got.Login b))) taken d new t x y s
  ends-ring (Ok (end.WrongAnswer (got.Count k))) taken d new t x y s = stops-ring (Ok (end.WrongAnswer (got.Count k))) taken d new t x y s
  ends-ring (Ok (end.WrongAnswer (got.Frame found))) taken d new t x y s = rests-ring (end.WrongAnswer (got.Frame found)) (fault found.kind found.place) taken d new t x y s tt
  ends-ring (Ok end.TooManyCommands) taken d new t x y s = stops-ring (Ok end.TooManyCommands) taken d new t x y s
  ends-ring (Err failed) taken d new t x y s = stops-ring (Err failed) taken d new t x y s

  -- What a round does to a ring, by how it went.
  pub rounds-ring : (result : Result RoundEnd MediumFault) (d : RoundState S) (new : RingView) (t : S) (x y : Option Traffic) → IsRound m r rose d old new t x y result → Released result d new
  rounds-ring result d new t x y (empty none at is shell told) =
      let P : RoundState S × RingView → Type 0 = λ v. Released (Ok end.Empty) v.0 v.1 in subst P (λ i. (sym at i, sym is i)) (quiet-ring end.Empty none)
  rounds-ring result d new t x y (cut at is shell part up) =
      let P : RoundState S × RingView → Type 0 = λ v. Released (Ok end.Broken) v.0 v.1 in subst P (λ i. (sym at i, sym is i)) (quiet-ring end.Broken tt)
  rounds-ring result d new t x y (talked is taken z login known ends) = ends-ring result taken d new t z y ends

-- What closing a batch does to the records that are held: it takes its records out, and where only a part of it is closed each
-- record that is gone was in the batch.
use Rattle.std.proofs.Common.{◌≡◌, ◌≢◌, ◌⊎◌, inl, inr, ℕ, zero, suc, ◌+◌, ◌-◌, nat_le, ◌==◌, ◌||◌, not, ◌&&◌, if◌then◌else◌, Bool, true, false, IsTrue, List, [], ◌∷◌, length, get_or, set, take, drop, map, Option, Some, None, slice_get, sym, ◌∙◌, ap, refl, subst, arith, length-set, get_or-set_same, get_or-set_other}
use Rattle.std.specs.List.{Contains, cons_option, filter}
use Rattle.std.specs.Prelude.{cond}
use Rattle.std.proofs.lemmas.Bool.{cases_eq, cases_lt, eq-eqb, false≢true}
use Rattle.std.proofs.lemmas.List.{get_or_past}
use Rattle.avl_values.specs.Record.{Record}
use Rattle.avl_values.specs.Codec.{is_codec}
use Rattle.avl_values.specs.declared.codec.Codec.{Codec}
use Rattle.avl_values.specs.declared.order.Order.{Order}
use Rattle.avl_values.specs.declared.order.Order.TheVariants.{Oldest}
use Rattle.flash_ring.specs.Entries.{Entry, goes_first, insert_in, entries_from, entries_of, rec_of, held_of, batch, batch_of, selected}
use Rattle.flash_ring.specs.Held.{Held, closed_all, rec_at, rec_in}
use Rattle.flash_ring.specs.Images.{MayClose, has_slot}
use Rattle.flash_ring.specs.Records.{without, recs_in}
use Rattle.flash_ring.proofs.Closes.{has-cases, length-closed_all}
use Rattle.flash_ring.proofs.Entries.{Each, IsEntry, entries-open}
use Rattle.flash_ring.proofs.HeldRecords.{Apart, entries-apart, entries-kept, kept}
use Rattle.flash_ring.proofs.Slots.{eqb-not}

-- a slot once these were closed
closed-get : (ks : List ℕ) (slots : List (Option Held)) (j : ℕ) → get_or (closed_all ks slots) j None ≡ (if not (has_slot ks j) then get_or slots j None else None)
closed-get [] slots j = refl
closed-get (k ∷ ks) slots j =
    closed-get ks (set slots k None) j ∙
    elim (cases_eq k j) as (λ _. (if not (has_slot ks j) then get_or (set slots k None) j None else None) ≡ (if not ((k == j) || has_slot ks j) then get_or slots j None else None)) [
      | inl here ↦
          (let P : Bool → Type 0 = λ b. (if not (has_slot ks j) then get_or (set slots k None) j None else None) ≡ (if not (b || has_slot ks j) then get_or slots j None else None) in
          let gone : get_or (set slots k None) j None ≡ None = ap (λ i. get_or (set slots k None) i None) (sym here) ∙ set-none k in
          subst P (sym (eq-eqb k j here)) (ap (λ x. if not (has_slot ks j) then x else None) gone ∙ either_none (not (has_slot ks j))))
      | inr other ↦
          (let P : Bool → Type 0 = λ b. (if not (has_slot ks j) then get_or (set slots k None) j None else None) ≡ (if not (b || has_slot ks j) then get_or slots j None else None) in
          subst P (sym (eqb-not k j other)) (ap (λ x. if not (has_slot ks j) then x else None) (get_or-set_other slots k j None None (λ same. other (sym same)))))
    ]
  where
    set-none : (k : ℕ) → get_or (set slots k None) k None ≡ None
    set-none k = elim (cases_lt k (length slots)) as (λ _. get_or (set slots k None) k None ≡ None) [
      | inl inside ↦ get_or-set_same slots k None None inside
      | inr past ↦ get_or_past (set slots k None) k None (omega (arith, length-set slots k None))
    ]

    either_none : (b : Bool) → ◌≡◌ {A = Option Held} (if b then None else None) None
    either_none true = refl
    either_none false = refl

kept-filter : (p : ℕ → Bool) (es : List Entry) → kept p es ≡ filter (λ e. p e.slot) es
kept-filter p [] = refl
kept-filter p (e ∷ es) = elim (p e.slot) as (λ b. (if b then e ∷ kept p es else kept p es) ≡ cond b (e ∷ filter (λ x. p x.slot) es) (filter (λ x. p x.slot) es)) [
  | true ↦ ap (λ t. e ∷ t) (kept-filter p es)
  | false ↦ kept-filter p es
]

-- Closing slots takes their entries out, in each order.
pub entries-closed : (order : Order) (ks : List ℕ) (slots : List (Option Held)) → entries_of order (closed_all ks slots) ≡ without ks (entries_of order slots)
entries-closed order ks slots =
    entries-kept (λ j. not (has_slot ks j)) order 0 slots (closed_all ks slots) (length-closed_all ks slots) (λ j low. closed-get ks slots j ∙ ap (λ i. if not (has_slot ks i) then get_or slots j None else None) (omega arith))
    ∙ kept-filter (λ j. not (has_slot ks j)) (entries_of order slots)

-- Closing a batch takes its records out.
pub held_of-closed : (ks : List ℕ) (slots : List (Option Held)) → held_of (closed_all ks slots) ≡ map rec_of (without ks (entries_of Oldest slots))
held_of-closed ks slots = ap (map rec_of) (entries-closed Oldest ks slots)

abbrev slot_at_entry : Entry → ℕ
slot_at_entry e = e.slot

without-other : (k : ℕ) (ks : List ℕ) (es : List Entry) → Each (λ x. x.slot ≢ k) es → without (k ∷ ks) es ≡ without ks es
without-other k ks [] all = refl
without-other k ks (e ∷ es) all =
    let P : Bool → Type 0 = λ b. cond (not (b || has_slot ks e.slot)) (e ∷ without (k ∷ ks) es) (without (k ∷ ks) es) ≡ cond (not (has_slot ks e.slot)) (e ∷ without ks es) (without ks es) in
    subst P (sym (eqb-not k e.slot (λ same. all.0 (sym same)))) (ap (λ t. cond (not (has_slot ks e.slot)) (e ∷ t) t) (without-other k ks es all.1))

without-nothing : (es : List Entry) → without [] es ≡ es
without-nothing [] = refl
without-nothing (e ∷ es) = ap (λ t. e ∷ t) (without-nothing es)

-- the slots of a front, taken out
without-front : (n : ℕ) (es : List Entry) → Apart es → without (map slot_at_entry (take n es)) es ≡ drop n es
without-front zero es apart = without-nothing es
without-front (suc n) [] apart = refl
without-front (suc n) (e ∷ es) apart =
    let ks = map slot_at_entry (take n es) in
    let P : Bool → Type 0 = λ b. cond (not (b || has_slot ks e.slot)) (e ∷ without (e.slot ∷ ks) es) (without (e.slot ∷ ks) es) ≡ drop n es in
    subst P (sym (eq-eqb e.slot e.slot refl)) (without-other e.slot ks es apart.0 ∙ without-front n es apart.1)

-- A batch is a front of the entries.
batch-front : (c : Codec) (n room : ℕ) (es : List Entry) → batch c n room es ≡ map slot_at_entry (take (length (batch c n room es)) es)
batch-front c zero room es = refl
batch-front c (suc n) room [] = refl
batch-front c (suc n) room (e ∷ es) =
    let rest = batch c n (room - length e.held.rec.bytes) es in
    elim (is_codec c e.held.rec.codec && nat_le (length e.held.rec.bytes) room) as (λ b. (if b then e.slot ∷ rest else []) ≡ map slot_at_entry (take (length (if b then e.slot ∷ rest else [])) (e ∷ es))) [
      | true ↦ ap (λ t. e.slot ∷ t) (batch-front c n (room - length e.held.rec.bytes) es)
      | false ↦ refl
    ]

selected-front : (order : Order) (room : ℕ) (slots : List (Option Held)) → selected order room slots ≡ map slot_at_entry (take (length (selected order room slots)) (entries_of order slots))
selected-front order room slots = of_entries (entries_of order slots)
  where
    of_entries : (es : List Entry) → batch_of room es ≡ map slot_at_entry (take (length (batch_of room es)) es)
    of_entries [] = refl
    of_entries (e ∷ es) = batch-front e.held.rec.codec 255 room (e ∷ es)

-- A batch that was selected and closed drops as many entries from the front, in the order in which it was selected.
pub entries-released : (order : Order) (room : ℕ) (slots : List (Option Held)) → entries_of order (closed_all (selected order room slots) slots) ≡ drop (length (selected order room slots)) (entries_of order slots)
entries-released order room slots =
    let ks = selected order room slots in
    entries-closed order ks slots
    ∙ ap (λ js. without js (entries_of order slots)) (selected-front order room slots)
    ∙ without-front (length ks) (entries_of order slots) (entries-apart order 0 slots)

map-drop : (n : ℕ) (es : List Entry) → map rec_of (drop n es) ≡ drop n (map rec_of es)
map-drop zero es = refl
map-drop (suc n) [] = refl
map-drop (suc n) (e ∷ es) = map-drop n es

-- So the oldest batch, closed, leaves what is held after as many records.
pub held_of-released : (room : ℕ) (slots : List (Option Held)) → held_of (closed_all (selected Oldest room slots) slots) ≡ drop (length (selected Oldest room slots)) (held_of slots)
held_of-released room slots = ap (map rec_of) (entries-released Oldest room slots) ∙ map-drop (length (selected Oldest room slots)) (entries_of Oldest slots)

-- the records of a front's slots
recs-front : (n : ℕ) (slots : List (Option Held)) (es : List Entry) → Each (IsEntry 0 slots) es → recs_in slots (map slot_at_entry (take n es)) ≡ map rec_of (take n es)
recs-front zero slots es all = refl
recs-front (suc n) slots [] all = refl
recs-front (suc n) slots (e ∷ es) all =
    let at : slice_get slots e.slot ≡ Some (Some e.held) = ap (slice_get slots) (all.0.place ∙ omega arith) ∙ all.0.open_slot in
    ap (λ x. cons_option (rec_in x) (recs_in slots (map slot_at_entry (take n es)))) at ∙ ap (λ t. rec_of e ∷ t) (recs-front n slots es all.1)

-- The records of a batch are the first entries' records, in the order in which it was selected.
pub recs-selected : (order : Order) (room : ℕ) (slots : List (Option Held)) → recs_in slots (selected order room slots) ≡ map rec_of (take (length (selected order room slots)) (entries_of order slots))
recs-selected order room slots =
    ap (recs_in slots) (selected-front order room slots) ∙ recs-front (length (selected order room slots)) slots (entries_of order slots) (entries-open order 0 slots)

-- a record among others, at the front or after it
in-front : (r : Record) (x : Record) (xs : List Record) → x ≡ r → Contains (x ∷ xs) r
in-front r x xs same = (0, omega arith, same)

in-rest : (r : Record) (x : Record) (xs : List Record) → Contains xs r → Contains (x ∷ xs) r
in-rest r x xs (k, low, is) = (suc k, omega arith, is)

pub contains-cases : (r : Record) (x : Record) (xs : List Record) → Contains (x ∷ xs) r → (x ≡ r) ⊎ Contains xs r
contains-cases r x xs (zero, low, is) = inl is
contains-cases r x xs (suc k, low, is) = inr (k, omega arith, is)

insert-here : (order : Order) (e : Entry) (xs : List Entry) → Contains (map rec_of (insert_in order e xs)) e.held.rec
insert-here order e [] = in-front e.held.rec e.held.rec [] refl
insert-here order e (x ∷ xs) = elim (goes_first order e.held.seq x.held.seq) as (λ b. Contains (map rec_of (if b then e ∷ x ∷ xs else x ∷ insert_in order e xs)) e.held.rec) [
  | true ↦ in-front e.held.rec e.held.rec (map rec_of (x ∷ xs)) refl
  | false ↦ in-rest e.held.rec x.held.rec (map rec_of (insert_in order e xs)) (insert-here order e xs)
]

insert-there : (order : Order) (r : Record) (e : Entry) (xs : List Entry) → Contains (map rec_of xs) r → Contains (map rec_of (insert_in order e xs)) r
insert-there order r e [] is = absurd (let low = is.1 in omega arith)
insert-there order r e (x ∷ xs) is = elim (goes_first order e.held.seq x.held.seq) as (λ b. Contains (map rec_of (if b then e ∷ x ∷ xs else x ∷ insert_in order e xs)) r) [
  | true ↦ in-rest r e.held.rec (map rec_of (x ∷ xs)) is
  | false ↦ elim (contains-cases r x.held.rec (map rec_of xs) is) as (λ _. Contains (x.held.rec ∷ map rec_of (insert_in order e xs)) r) [
    | inl here ↦ in-front r x.held.rec (map rec_of (insert_in order e xs)) here
    | inr later ↦ in-rest r x.held.rec (map rec_of (insert_in order e xs)) (insert-there order r e xs later)
  ]
]

-- What an open slot has is held.
pub held_of-open : (k : ℕ) (slots : List (Option Held)) (h : Held) → slice_get slots k ≡ Some (Some h) → Contains (held_of slots) h.rec
held_of-open k slots h is = go 0 k slots is
  where
    go : (i k : ℕ) (slots : List (Option Held)) → slice_get slots k ≡ Some (Some h) → Contains (map rec_of (entries_from Oldest i slots)) h.rec
    go i k [] is = cc
    go i zero (None ∷ slots) is = cc
    go i (suc k) (None ∷ slots) is = go (i + 1) k slots is
    go i zero (Some x ∷ slots) is =
        let same : x ≡ h = cc in
        subst (Contains (map rec_of (entries_from Oldest i (Some x ∷ slots)))) (ap (λ (y : Held). y.rec) same) (insert-here Oldest (record { slot = i; held = x }) (entries_from Oldest (i + 1) slots))
    go i (suc k) (Some x ∷ slots) is = insert-there Oldest h.rec (record { slot = i; held = x }) (entries_from Oldest (i + 1) slots) (go (i + 1) k slots is)

-- an open slot that has this record
pub record OpenWith (slots : List (Option Held)) (r : Record) : Type 0 where
  pub slot : ℕ
  pub held : Held
  pub open_slot : slice_get slots slot ≡ Some (Some held)
  pub rec : held.rec ≡ r

-- What is held is in an open slot.
pub held_of-slot : (slots : List (Option Held)) (r : Record) → Contains (held_of slots) r → OpenWith slots r
held_of-slot slots r is = of_entries (entries_of Oldest slots) (entries-open Oldest 0 slots) is
  where
    of_entries : (es : List Entry) → Each (IsEntry 0 slots) es → Contains (map rec_of es) r → OpenWith slots r
    of_entries [] all is = absurd (let low = is.1 in omega arith)
    of_entries (e ∷ es) all is = elim (contains-cases r e.held.rec (map rec_of es) is) as (λ _. OpenWith slots r) [
      | inl here ↦ record { slot = all.0.index; held = e.held; open_slot = all.0.open_slot; rec = here }
      | inr later ↦ of_entries es all.1 later
    ]

-- the record of an open slot among these
recs-in : (ks : List ℕ) (slots : List (Option Held)) (k : ℕ) (h : Held) → slice_get slots k ≡ Some (Some h) → IsTrue (has_slot ks k) → Contains (recs_in slots ks) h.rec
recs-in [] slots k h is has = absurd (false≢true has)
recs-in (j ∷ ks) slots k h is has = elim (has-cases j k (has_slot ks k) has) as (λ _. Contains (recs_in slots (j ∷ ks)) h.rec) [
  | inl here ↦
      (let at : rec_at slots j ≡ Some h.rec = ap (λ i. rec_at slots i) here ∙ ap rec_in is in
      subst (λ (o : Option Record). Contains (cons_option o (recs_in slots ks)) h.rec) (sym at) (in-front h.rec h.rec (recs_in slots ks) refl))
  | inr later ↦
      elim (rec_at slots j) as (λ o. Contains (cons_option o (recs_in slots ks)) h.rec) [
        | Some r ↦ in-rest h.rec r (recs_in slots ks) (recs-in ks slots k h is later)
        | None ↦ recs-in ks slots k h is later
      ]
]

-- Where some of a batch are closed, each record that was held is held, or was one of the batch.
pub held_of-kept : (ks : List ℕ) (before left : List (Option Held)) → MayClose ks before left → (r : Record) → Contains (held_of before) r → Contains (held_of left) r ⊎ Contains (recs_in before ks) r
held_of-kept ks before left may r is =
    let at = held_of-slot before r is in
    elim (may.each at.slot) as (λ _. Contains (held_of left) r ⊎ Contains (recs_in before ks) r) [
      | inl same ↦ inl (subst (Contains (held_of left)) at.rec (held_of-open at.slot left at.held (same ∙ at.open_slot)))
      | inr closed ↦ inr (subst (Contains (recs_in before ks)) at.rec (recs-in ks before at.slot at.held at.open_slot closed.0))
    ]

-- And none is held that wasn't.
pub held_of-no_more : (ks : List ℕ) (before left : List (Option Held)) → MayClose ks before left → (r : Record) → Contains (held_of left) r → Contains (held_of before) r
held_of-no_more ks before left may r is =
    let at = held_of-slot left r is in
    elim (may.each at.slot) as (λ _. Contains (held_of before) r) [
      | inl same ↦ subst (Contains (held_of before)) at.rec (held_of-open at.slot before at.held (sym same ∙ at.open_slot))
      | inr closed ↦ absurd (let e : Some None ≡ Some (Some at.held) = sym closed.1 ∙ at.open_slot in cc)
    ]

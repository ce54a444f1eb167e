-- What closing slots does to the records that are held.
use Rattle.std.proofs.Common.{◌≡◌, ◌≢◌, inl, inr, ℕ, zero, suc, ◌+◌, ◌-◌, ◌<◌, ◌≤◌, nat_le, ◌==◌, not, ◌&&◌, if◌then◌else◌, Bool, true, false, IsTrue, List, [], ◌∷◌, length, get_or, set, drop, map, Option, Some, None, slice_get, sym, ◌∙◌, ap, refl, subst, arith, length-set, get_or-set_same, get_or-set_other}
use Rattle.std.proofs.lemmas.Bool.{cases_eq, eq-eqb, false≢true}
use Rattle.std.proofs.lemmas.Option.{slice_get-get_or, get_or_from_slice_get, slice_get_within}
use Rattle.avl_values.specs.declared.order.Order.{Order}
use Rattle.avl_values.specs.declared.order.Order.TheVariants.{Oldest}
use Rattle.flash_ring.specs.Held.{Held, AreBelow, IsPart, is_full, closed_all, next_of, put_in}
use Rattle.flash_ring.specs.Images.{MayClose, OthersStay, AreOpen, AreDistinct, has_slot}
use Rattle.flash_ring.specs.Entries.{Entry, goes_first, insert_in, entries_from, entries_of, rec_of, held_of, batch, batch_of, selected, without_first, with_room}
use Rattle.medium_model.specs.Content.{Content}
use Rattle.flash_ring.proofs.Rings.{next_of-below}
use Rattle.flash_ring.proofs.Slots.{eqb-not}
use Rattle.flash_ring.proofs.Entries.{Each, InOrder, IsEntry, bool_cases, first_trans, entries-in_order, insert-each, each-map, entries-open, length-insert_in, held_count}
use Rattle.flash_ring.proofs.Closes.{has-cases, has-here, has-there}
use Rattle.avl_values.specs.declared.codec.Codec.{Codec}
use Rattle.avl_values.specs.Codec.{is_codec}

-- the entries whose slots pass a test
abbrev pub kept : (ℕ → Bool) → List Entry → List Entry
kept p [] = []
kept p (e ∷ es) = if p e.slot then e ∷ kept p es else kept p es

kept-each : (p : ℕ → Bool) (P : Entry → Type 0) (es : List Entry) → Each P es → Each P (kept p es)
kept-each p P [] all = tt
kept-each p P (e ∷ es) all = elim (p e.slot) as (λ b. Each P (if b then e ∷ kept p es else kept p es)) [ true ↦ (all.0, kept-each p P es all.1) | false ↦ kept-each p P es all.1 ]

insert-front : (order : Order) (e : Entry) (xs : List Entry) → Each (λ x. goes_first order e.held.seq x.held.seq ≡ true) xs → insert_in order e xs ≡ e ∷ xs
insert-front order e [] all = refl
insert-front order e (x ∷ xs) all = let P : Bool → Type 0 = λ b. (if b then e ∷ x ∷ xs else x ∷ insert_in order e xs) ≡ e ∷ x ∷ xs in subst P (sym all.0) refl

kept-insert_out : (p : ℕ → Bool) (order : Order) (e : Entry) (xs : List Entry) → p e.slot ≡ false → kept p (insert_in order e xs) ≡ kept p xs
kept-insert_out p order e [] out = let P : Bool → Type 0 = λ b. (if b then e ∷ [] else []) ≡ [] in subst P (sym out) refl
kept-insert_out p order e (x ∷ xs) out =
    elim (goes_first order e.held.seq x.held.seq) as (λ b. kept p (if b then e ∷ x ∷ xs else x ∷ insert_in order e xs) ≡ kept p (x ∷ xs)) [
      | true ↦ (let P : Bool → Type 0 = λ b. (if b then e ∷ kept p (x ∷ xs) else kept p (x ∷ xs)) ≡ kept p (x ∷ xs) in subst P (sym out) refl)
      | false ↦ ap (λ rest. if p x.slot then x ∷ rest else rest) (kept-insert_out p order e xs out)
    ]

kept-insert_in : (p : ℕ → Bool) (order : Order) (e : Entry) (xs : List Entry) → p e.slot ≡ true → InOrder order xs → kept p (insert_in order e xs) ≡ insert_in order e (kept p xs)
kept-insert_in p order e [] yes_kept all = let P : Bool → Type 0 = λ b. (if b then e ∷ [] else []) ≡ e ∷ [] in subst P (sym yes_kept) refl
kept-insert_in p order e (x ∷ xs) yes_kept all =
    elim (bool_cases (goes_first order e.held.seq x.held.seq)) as (λ _. kept p (insert_in order e (x ∷ xs)) ≡ insert_in order e (kept p (x ∷ xs))) [
      | inl first ↦
          (let P : Bool → Type 0 = λ b. kept p (if b then e ∷ x ∷ xs else x ∷ insert_in order e xs) ≡ insert_in order e (kept p (x ∷ xs)) in
          let Q : Bool → Type 0 = λ b. (if b then e ∷ kept p (x ∷ xs) else kept p (x ∷ xs)) ≡ insert_in order e (kept p (x ∷ xs)) in
          let before = each-map (λ y. goes_first order x.held.seq y.held.seq ≡ true) (λ y. goes_first order e.held.seq y.held.seq ≡ true) xs (λ y after. first_trans order e.held.seq x.held.seq y.held.seq first after) all.0 in
          subst P (sym first) (subst Q (sym yes_kept) (sym (insert-front order e (kept p (x ∷ xs)) (kept-each p (λ y. goes_first order e.held.seq y.held.seq ≡ true) (x ∷ xs) (first, before))))))
      | inr later ↦
          (let P : Bool → Type 0 = λ b. kept p (if b then e ∷ x ∷ xs else x ∷ insert_in order e xs) ≡ insert_in order e (kept p (x ∷ xs)) in
          let rest = kept-insert_in p order e xs yes_kept all.1 in
          subst P (sym later) (elim (p x.slot) as (λ b. (if b then x ∷ kept p (insert_in order e xs) else kept p (insert_in order e xs)) ≡ insert_in order e (if b then x ∷ kept p xs else kept p xs)) [
            | true ↦ (let Q : Bool → Type 0 = λ b. x ∷ kept p (insert_in order e xs) ≡ (if b then e ∷ x ∷ kept p xs else x ∷ insert_in order e (kept p xs)) in subst Q (sym later) (ap (λ t. x ∷ t) rest))
            | false ↦ rest
          ]))
    ]

-- Slots some of which were closed hold the entries of the others.
pub entries-kept : (p : ℕ → Bool) (order : Order) (k : ℕ) (slots left : List (Option Held)) → length left ≡ length slots
    → ((j : ℕ) → j < length slots → get_or left j None ≡ (if p (k + j) then get_or slots j None else None)) → entries_from order k left ≡ kept p (entries_from order k slots)
entries-kept p order k [] [] size each = refl
entries-kept p order k [] (y ∷ left) size each = absurd (omega arith)
entries-kept p order k (s ∷ slots) [] size each = absurd (omega arith)
entries-kept p order k (s ∷ slots) (y ∷ left) size each =
    let rest = entries-kept p order (k + 1) slots left (omega arith) (λ j low.
    let at : k + suc j ≡ k + 1 + j = omega arith in
    each (suc j) (omega arith) ∙ ap (λ i. if p i then get_or slots j None else None) at) in
    let zero_at : k + 0 ≡ k = omega arith in
    let first : y ≡ (if p k then s else None) = each 0 (omega arith) ∙ ap (λ i. if p i then s else None) zero_at in
    ap (λ z. entries_from order k (z ∷ left)) first ∙ of_slot rest s
  where
    of_slot : entries_from order (k + 1) left ≡ kept p (entries_from order (k + 1) slots) → (s : Option Held) → entries_from order k ((if p k then s else None) ∷ left) ≡ kept p (entries_from order k (s ∷ slots))
    of_slot rest None = elim (p k) as (λ b. entries_from order k ((if b then None else None) ∷ left) ≡ kept p (entries_from order (k + 1) slots)) [ true ↦ rest | false ↦ rest ]
    of_slot rest (Some h) =
        let e : Entry = record { slot = k; held = h } in
        let P : Bool → Type 0 = λ b. entries_from order k ((if b then Some h else None) ∷ left) ≡ kept p (insert_in order e (entries_from order (k + 1) slots)) in
        elim (bool_cases (p k)) as (λ _. P (p k)) [
          | inl is_kept ↦ subst P (sym is_kept) (ap (insert_in order e) rest ∙ sym (kept-insert_in p order e (entries_from order (k + 1) slots) is_kept (entries-in_order order (k + 1) slots)))
          | inr out ↦ subst P (sym out) (rest ∙ sym (kept-insert_out p order e (entries_from order (k + 1) slots) out))
        ]

-- What is kept is a part.
part-more : {A : Type 0} → (y : A) (xs ys : List A) → IsPart xs ys → IsPart xs (y ∷ ys)
part-more y [] ys part = tt
part-more y (x ∷ xs) ys part = inr part

kept-part : (p : ℕ → Bool) (es : List Entry) → IsPart (map rec_of (kept p es)) (map rec_of es)
kept-part p [] = tt
kept-part p (e ∷ es) =
    elim (p e.slot) as (λ b. IsPart (map rec_of (if b then e ∷ kept p es else kept p es)) (rec_of e ∷ map rec_of es)) [
      | true ↦ inl (refl, kept-part p es)
      | false ↦ part-more (rec_of e) (map rec_of (kept p es)) (map rec_of es) (kept-part p es)
    ]

may-stay : (ks : List ℕ) (before left : List (Option Held)) → MayClose ks before left → (j : ℕ) → j < length before
    → get_or left j None ≡ (if elim (get_or left j None) as (λ _. Bool) [ Some h ↦ true | None ↦ false ] then get_or before j None else None)
may-stay ks before left may j low = elim (may.each j) as (λ _. get_or left j None ≡ (if elim (get_or left j None) as (λ _. Bool) [ Some h ↦ true | None ↦ false ] then get_or before j None else None)) [
  | inl same ↦
      (let here : get_or left j None ≡ get_or before j None =
      (let e : Some (get_or left j None) ≡ Some (get_or before j None) =
      sym (slice_get-get_or left j None (let size = may.size in omega arith)) ∙ same ∙ slice_get-get_or before j None low in cc) in
      as_before (get_or left j None) (get_or before j None) here)
  | inr closed ↦ none_stays (get_or left j None) (get_or before j None) (get_or_from_slice_get left j None None closed.1)
]
  where
    as_before : (x y : Option Held) → x ≡ y → x ≡ (if elim x as (λ _. Bool) [ Some h ↦ true | None ↦ false ] then y else None)
    as_before None y same = refl
    as_before (Some h) y same = same

    none_stays : (x y : Option Held) → x ≡ None → x ≡ (if elim x as (λ _. Bool) [ Some h ↦ true | None ↦ false ] then y else None)
    none_stays None y is = refl
    none_stays (Some h) y is = cc

-- Some of a batch closed leaves a part of the records, in order.
pub held_of-may_close : (ks : List ℕ) (before left : List (Option Held)) → MayClose ks before left → IsPart (held_of left) (held_of before)
held_of-may_close ks before left may =
    let p : ℕ → Bool = λ j. elim (get_or left j None) as (λ _. Bool) [ Some h ↦ true | None ↦ false ] in
    let same = entries-kept p Oldest 0 before left may.size (λ j low.
    may-stay ks before left may j low ∙ ap (λ i. if p i then get_or before j None else None) (omega arith)) in
    subst (λ (xs : List Entry). IsPart (map rec_of xs) (held_of before)) (sym same) (kept-part p (entries_of Oldest before))

-- No slot stands twice.
abbrev pub Apart : List Entry → Type 0
Apart [] = Unit {0}
Apart (e ∷ es) = Each (λ x. x.slot ≢ e.slot) es × Apart es

insert-apart : (order : Order) (e : Entry) (xs : List Entry) → Each (λ x. x.slot ≢ e.slot) xs → Apart xs → Apart (insert_in order e xs)
insert-apart order e [] others apart = (tt, tt)
insert-apart order e (x ∷ xs) others apart =
    elim (goes_first order e.held.seq x.held.seq) as (λ b. Apart (if b then e ∷ x ∷ xs else x ∷ insert_in order e xs)) [
      | true ↦ (others, apart)
      | false ↦ (insert-each order (λ y. y.slot ≢ x.slot) e xs (λ same. others.0 (sym same)) apart.0, insert-apart order e xs others.1 apart.1)
    ]

pub entries-apart : (order : Order) (k : ℕ) (slots : List (Option Held)) → Apart (entries_from order k slots)
entries-apart order k [] = tt
entries-apart order k (None ∷ slots) = entries-apart order (k + 1) slots
entries-apart order k (Some x ∷ slots) =
    insert-apart order (record { slot = k; held = x }) (entries_from order (k + 1) slots)
    (each-map (IsEntry (k + 1) slots) (λ y. y.slot ≢ k) (entries_from order (k + 1) slots) (λ y is same. let place = is.place in omega arith) (entries-open order (k + 1) slots))
    (entries-apart order (k + 1) slots)

kept-all : (p : ℕ → Bool) (es : List Entry) → Each (λ x. p x.slot ≡ true) es → kept p es ≡ es
kept-all p [] all = refl
kept-all p (e ∷ es) all = let P : Bool → Type 0 = λ b. (if b then e ∷ kept p es else kept p es) ≡ e ∷ es in subst P (sym all.0) (ap (λ t. e ∷ t) (kept-all p es all.1))

not_same : (a b : ℕ) → a ≢ b → not (a == b) ≡ true
not_same a b apart = ap not (eqb-not a b apart)

is_same : (a b : ℕ) → a ≡ b → not (a == b) ≡ false
is_same a b same = ap not (eq-eqb a b same)

-- Closing the slot of the first entry drops it.
pub entries-without_first : (slots : List (Option Held)) → entries_of Oldest (without_first (entries_of Oldest slots) slots) ≡ drop 1 (entries_of Oldest slots)
entries-without_first slots = of_entries (entries_of Oldest slots) refl (entries-apart Oldest 0 slots) (entries-open Oldest 0 slots)
  where
    of_entries : (es : List Entry) → entries_of Oldest slots ≡ es → Apart es → Each (IsEntry 0 slots) es → entries_of Oldest (without_first es slots) ≡ drop 1 es
    of_entries [] same apart all = same
    of_entries (e ∷ es) same apart all =
        let p : ℕ → Bool = λ j. not (j == e.slot) in
        let low : e.slot < length slots = (let place = all.0.place in let l = slice_get_within slots all.0.index (Some e.held) all.0.open_slot in omega arith) in
        let left = set slots e.slot None in
        let others = entries-kept p Oldest 0 slots left (length-set slots e.slot None) (λ j below.
        let at : 0 + j ≡ j = omega arith in
        (elim (cases_eq j e.slot) as (λ _. get_or left j None ≡ (if p j then get_or slots j None else None)) [
          | inl here ↦
              (let P : Bool → Type 0 = λ b. get_or left j None ≡ (if b then get_or slots j None else None) in
              subst P (sym (is_same j e.slot here)) (ap (λ i. get_or left i None) here ∙ get_or-set_same slots e.slot None None low))
          | inr other ↦
              (let P : Bool → Type 0 = λ b. get_or left j None ≡ (if b then get_or slots j None else None) in
              subst P (sym (not_same j e.slot other)) (get_or-set_other slots e.slot j None None other))
        ]) ∙ ap (λ i. if p i then get_or slots j None else None) (sym at)) in
        let Q : Bool → Type 0 = λ b. (if b then e ∷ kept p es else kept p es) ≡ es in
        others ∙ ap (kept p) same
        ∙ subst Q (sym (is_same e.slot e.slot refl)) (kept-all p es (each-map (λ x. x.slot ≢ e.slot) (λ x. p x.slot ≡ true) es (λ x apart. not_same x.slot e.slot apart) apart.0))

drop-map_one : (es : List Entry) → map rec_of (drop 1 es) ≡ drop 1 (map rec_of es)
drop-map_one [] = refl
drop-map_one (e ∷ es) = refl

-- Making room in a full ring drops the first record.
pub held_of-with_room : (slots : List (Option Held)) → is_full slots ≡ true → held_of (with_room slots) ≡ drop 1 (held_of slots)
held_of-with_room slots full =
    let P : Bool → Type 0 = λ b. held_of (if b then without_first (entries_of Oldest slots) slots else slots) ≡ drop 1 (held_of slots) in
    subst P (sym full) (ap (map rec_of) (entries-without_first slots) ∙ drop-map_one (entries_of Oldest slots))

-- Closing an open slot takes one record.
count-close : (i : ℕ) (slots : List (Option Held)) (k : ℕ) (h : Held) → slice_get slots k ≡ Some (Some h)
    → length (entries_from Oldest i (set slots k None)) + 1 ≡ length (entries_from Oldest i slots)
count-close i [] k h is = cc
count-close i (None ∷ slots) zero h is = cc
count-close i (None ∷ slots) (suc k) h is = count-close (i + 1) slots k h is
count-close i (Some x ∷ slots) zero h is = omega (arith, length-insert_in Oldest (record { slot = i; held = x }) (entries_from Oldest (i + 1) slots))
count-close i (Some x ∷ slots) (suc k) h is =
    let rest = count-close (i + 1) slots k h is in
    omega (arith, length-insert_in Oldest (record { slot = i; held = x }) (entries_from Oldest (i + 1) slots), length-insert_in Oldest (record { slot = i; held = x }) (entries_from Oldest (i + 1) (set slots k None)))

-- A release takes as many records as it closes slots.
pub length-held_of_closed : (ks : List ℕ) (slots : List (Option Held)) → AreOpen ks slots → AreDistinct ks → length (held_of (closed_all ks slots)) + length ks ≡ length (held_of slots)
length-held_of_closed [] slots opens distinct = omega arith
length-held_of_closed (k ∷ ks) slots opens distinct =
    let first = opens k (has-here k k (has_slot ks k) refl) in
    let rest_open = λ (j : ℕ) (is : IsTrue (has_slot ks j)).
    (let was = opens j (has-there k j (has_slot ks j) is) in
    let other : j ≢ k = λ same. distinct.0 (let P : ℕ → Type 0 = λ i. IsTrue (has_slot ks i) in subst P same is) in
    let low = slice_get_within slots j (Some was.0) was.1 in
    let goal : (h : Held) × (slice_get (set slots k None) j ≡ Some (Some h)) =
    (was.0, slice_get-get_or (set slots k None) j None (omega (arith, length-set slots k None)) ∙ ap Some (get_or-set_other slots k j None None other ∙ get_or_from_slice_get slots j (Some was.0) None was.1)) in goal) in
    let rest = length-held_of_closed ks (set slots k None) rest_open distinct.1 in
    omega (arith, count-close 0 slots k first.0 first.1, held_count slots, held_count (set slots k None))

-- The batch that is selected: its slots are open and distinct.
pub batch-open : (slots : List (Option Held)) (c : Codec) (n room : ℕ) (es : List Entry) → Each (IsEntry 0 slots) es → AreOpen (batch c n room es) slots
batch-open slots c zero room es all j is = absurd (false≢true is)
batch-open slots c (suc n) room [] all j is = absurd (false≢true is)
batch-open slots c (suc n) room (e ∷ es) all j is =
    of_test (batch-open slots c n (room - length e.held.rec.bytes) es all.1 j) (is_codec c e.held.rec.codec && nat_le (length e.held.rec.bytes) room) is
  where
    of_test : (IsTrue (has_slot (batch c n (room - length e.held.rec.bytes) es) j) → (h : Held) × (slice_get slots j ≡ Some (Some h))) → (b : Bool) → IsTrue (has_slot (if b then e.slot ∷ batch c n (room - length e.held.rec.bytes) es else []) j) → (h : Held) × (slice_get slots j ≡ Some (Some h))
    of_test rest true is = elim (has-cases e.slot j (has_slot (batch c n (room - length e.held.rec.bytes) es) j) is) as (λ _. (h : Held) × (slice_get slots j ≡ Some (Some h))) [
      | inl here ↦ (e.held, ap (slice_get slots) (sym here ∙ all.0.place ∙ omega arith) ∙ all.0.open_slot)
      | inr later ↦ rest later
    ]
    of_test rest false is = absurd (false≢true is)

batch-not : (k : ℕ) (c : Codec) (n room : ℕ) (es : List Entry) → Each (λ x. x.slot ≢ k) es → IsTrue (has_slot (batch c n room es) k) → ⊥
batch-not k c zero room es all is = false≢true is
batch-not k c (suc n) room [] all is = false≢true is
batch-not k c (suc n) room (e ∷ es) all is =
    of_test (batch-not k c n (room - length e.held.rec.bytes) es all.1) (is_codec c e.held.rec.codec && nat_le (length e.held.rec.bytes) room) is
  where
    of_test : (IsTrue (has_slot (batch c n (room - length e.held.rec.bytes) es) k) → ⊥) → (b : Bool) → IsTrue (has_slot (if b then e.slot ∷ batch c n (room - length e.held.rec.bytes) es else []) k) → ⊥
    of_test rest true is = elim (has-cases e.slot k (has_slot (batch c n (room - length e.held.rec.bytes) es) k) is) as (λ _. ⊥) [
      | inl here ↦ all.0 here
      | inr later ↦ rest later
    ]
    of_test rest false is = false≢true is

pub batch-distinct : (c : Codec) (n room : ℕ) (es : List Entry) → Apart es → AreDistinct (batch c n room es)
batch-distinct c zero room es apart = tt
batch-distinct c (suc n) room [] apart = tt
batch-distinct c (suc n) room (e ∷ es) apart =
    elim (is_codec c e.held.rec.codec && nat_le (length e.held.rec.bytes) room) as (λ b. AreDistinct (if b then e.slot ∷ batch c n (room - length e.held.rec.bytes) es else [])) [
      | true ↦ (batch-not e.slot c n (room - length e.held.rec.bytes) es apart.0, batch-distinct c n (room - length e.held.rec.bytes) es apart.1)
      | false ↦ tt
    ]

pub selected-open : (order : Order) (room : ℕ) (slots : List (Option Held)) → AreOpen (selected order room slots) slots
selected-open order room slots = of_entries (entries_of order slots) (entries-open order 0 slots)
  where
    of_entries : (es : List Entry) → Each (IsEntry 0 slots) es → AreOpen (batch_of room es) slots
    of_entries [] all j is = absurd (false≢true is)
    of_entries (e ∷ es) all j is = batch-open slots e.held.rec.codec 255 room (e ∷ es) all j is

pub selected-distinct : (order : Order) (room : ℕ) (slots : List (Option Held)) → AreDistinct (selected order room slots)
selected-distinct order room slots = of_entries (entries_of order slots) (entries-apart order 0 slots)
  where
    of_entries : (es : List Entry) → Apart es → AreDistinct (batch_of room es)
    of_entries [] apart = tt
    of_entries (e ∷ es) apart = batch-distinct e.held.rec.codec 255 room (e ∷ es) apart

-- The next sequence is the least number above all sequences.
pub next_of-least : (n : ℕ) (slots : List (Option Held)) → AreBelow n slots → next_of slots ≤ n
next_of-least n [] below = omega arith
next_of-least n (None ∷ slots) below = next_of-least n slots (λ k h is. below (suc k) h is)
next_of-least n (Some x ∷ slots) below =
    let first = below zero x refl in
    let rest = next_of-least n slots (λ k h is. below (suc k) h is) in
    omega arith

-- A record put in above all sequences has the last one.
pub next_of-put : (slots : List (Option Held)) (h : Held) → is_full slots ≡ false → next_of slots ≤ h.seq → next_of (put_in slots h) ≡ h.seq + 1
next_of-put [] h room below = cc
next_of-put (None ∷ slots) h room below = omega arith
next_of-put (Some x ∷ slots) h room below = let rest = next_of-put slots h room (omega arith) in omega arith

-- Closing slots raises no sequence.
pub next_of-may_close : (ks : List ℕ) (before left : List (Option Held)) → MayClose ks before left → next_of left ≤ next_of before
next_of-may_close ks before left may = next_of-least (next_of before) left (λ k h is.
    elim (may.each k) as (λ _. h.seq < next_of before) [
      | inl same ↦ next_of-below before k h (sym same ∙ is)
      | inr closed ↦ absurd (let e : Some None ≡ Some (Some h) = sym closed.1 ∙ is in cc)
    ])

-- where nothing was written every slot stays
pub others-same : (ks : List ℕ) (o : Option Content) → OthersStay ks o o
others-same ks None = tt
others-same ks (Some c) = λ j out. refl

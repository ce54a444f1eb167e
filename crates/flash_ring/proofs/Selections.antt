-- What a selection is: records of one codec that fit the room, and none only where none is held.
use Rattle.std.proofs.Common.{◌≡◌, inl, inr, ℕ, zero, suc, ◌+◌, ◌-◌, ◌≤◌, nat_le, ◌&&◌, if◌then◌else◌, Bool, true, false, List, [], ◌∷◌, length, take, map, Option, Some, None, sym, ◌∙◌, ap, refl, subst, arith}
use Rattle.std.proofs.lemmas.Bool.{false≢true}
use Rattle.std.proofs.lemmas.Bool.Decides.{nat_tests}
use Rattle.std.proofs.lemmas.List.{length-map}
use Rattle.std.specs.List.{Contains}
use Rattle.avl_values.specs.Record.{Record}
use Rattle.avl_values.specs.Codec.{is_codec}
use Rattle.avl_values.specs.declared.codec.Codec.{Codec}
use Rattle.avl_values.specs.declared.codec.Codec.TheVariants.{C8, C8E, C16}
use Rattle.avl_values.specs.declared.order.Order.{Order}
use Rattle.avl_values.specs.declared.order.Order.TheVariants.{Oldest}
use Rattle.flash_ring.specs.Entries.{Entry, entries_from, entries_of, rec_of, held_of, batch, batch_of, selected}
use Rattle.flash_ring.specs.Held.{Held, AreSound}
use Rattle.flash_ring.specs.Records.{IsBatch, bytes_of, recs_in}
use Rattle.flash_ring.proofs.Batches.{contains-cases, recs-selected}
use Rattle.flash_ring.proofs.Entries.{Each, IsEntry, entries-open, le_true, length-insert_in}

same-codec : (a b : Codec) → is_codec a b ≡ true → b ≡ a
same-codec C8 C8 is = refl
same-codec C8 C8E is = absurd (false≢true is)
same-codec C8 C16 is = absurd (false≢true is)
same-codec C8E C8 is = absurd (false≢true is)
same-codec C8E C8E is = refl
same-codec C8E C16 is = absurd (false≢true is)
same-codec C16 C8 is = absurd (false≢true is)
same-codec C16 C8E is = absurd (false≢true is)
same-codec C16 C16 is = refl

own-codec : (a : Codec) → is_codec a a ≡ true
own-codec C8 = refl
own-codec C8E = refl
own-codec C16 = refl

both-true : (a b : Bool) → (a && b) ≡ true → (a ≡ true) × (b ≡ true)
both-true true b is = (refl, is)
both-true false b is = absurd (false≢true is)

le-tells : (a b : ℕ) → nat_le a b ≡ true → a ≤ b
le-tells a b is = grind (arith, nat_tests)

-- the records of a batch's slots
record Fits (c : Codec) (n room : ℕ) (recs : List Record) : Type 0 where
  one_codec : (r : Record) → Contains recs r → r.codec ≡ c
  fits : bytes_of recs ≤ room
  few : length recs ≤ n

no-records : (c : Codec) (n room : ℕ) → Fits c n room []
no-records c n room = record { one_codec = λ r has. absurd (let low = has.1 in omega arith); fits = omega arith; few = omega arith }

batch-fits : (c : Codec) (n room : ℕ) (es : List Entry) → Fits c n room (map rec_of (take (length (batch c n room es)) es))
batch-fits c zero room es = no-records c zero room
batch-fits c (suc n) room [] = no-records c (suc n) room
batch-fits c (suc n) room (e ∷ es) = of_test (batch-fits c n (room - length e.held.rec.bytes) es) (is_codec c e.held.rec.codec && nat_le (length e.held.rec.bytes) room) refl
  where
    of_test : Fits c n (room - length e.held.rec.bytes) (map rec_of (take (length (batch c n (room - length e.held.rec.bytes) es)) es)) → (b : Bool) → (is_codec c e.held.rec.codec && nat_le (length e.held.rec.bytes) room) ≡ b
        → Fits c (suc n) room (map rec_of (take (length (if b then e.slot ∷ batch c n (room - length e.held.rec.bytes) es else [])) (e ∷ es)))
    of_test more false is = no-records c (suc n) room
    of_test more true is =
        let both = both-true (is_codec c e.held.rec.codec) (nat_le (length e.held.rec.bytes) room) is in
        let low = le-tells (length e.held.rec.bytes) room both.1 in
        record {
          one_codec = λ r has. elim (contains-cases r e.held.rec (map rec_of (take (length (batch c n (room - length e.held.rec.bytes) es)) es)) has) as (λ _. r.codec ≡ c) [
            | inl here ↦ ap (λ (x : Record). x.codec) (sym here) ∙ same-codec c e.held.rec.codec both.0
            | inr later ↦ more.one_codec r later
          ];
          fits = (let f = more.fits in omega arith);
          few = (let f = more.few in omega arith);
        }

-- A selection is one batch.
pub selected-batch : (order : Order) (room : ℕ) (slots : List (Option Held)) → IsBatch room (recs_in slots (selected order room slots))
selected-batch order room slots = subst (IsBatch room) (sym (recs-selected order room slots)) (of_entries (entries_of order slots))
  where
    of_entries : (es : List Entry) → IsBatch room (map rec_of (take (length (batch_of room es)) es))
    of_entries [] = record { codec = C8; one_codec = λ r has. absurd (let low = has.1 in omega arith); fits = omega arith; few = omega arith }
    of_entries (e ∷ es) =
        let all = batch-fits e.held.rec.codec 255 room (e ∷ es) in
        record { codec = e.held.rec.codec; one_codec = all.one_codec; fits = all.fits; few = all.few }

-- and has at most 255 slots
batch-few : (c : Codec) (n room : ℕ) (es : List Entry) → length (batch c n room es) ≤ n
batch-few c zero room es = omega arith
batch-few c (suc n) room [] = omega arith
batch-few c (suc n) room (e ∷ es) =
    elim (is_codec c e.held.rec.codec && nat_le (length e.held.rec.bytes) room) as (λ b. length (if b then e.slot ∷ batch c n (room - length e.held.rec.bytes) es else []) ≤ suc n) [
      | true ↦ (let rest = batch-few c n (room - length e.held.rec.bytes) es in omega arith)
      | false ↦ omega arith
    ]

pub selected-few : (order : Order) (room : ℕ) (slots : List (Option Held)) → length (selected order room slots) ≤ 255
selected-few order room slots = of_entries (entries_of order slots)
  where
    of_entries : (es : List Entry) → length (batch_of room es) ≤ 255
    of_entries [] = omega arith
    of_entries (e ∷ es) = batch-few e.held.rec.codec 255 room (e ∷ es)

-- as many entries in each order
entries-count : (a b : Order) (k : ℕ) (slots : List (Option Held)) → length (entries_from a k slots) ≡ length (entries_from b k slots)
entries-count a b k [] = refl
entries-count a b k (None ∷ slots) = entries-count a b (k + 1) slots
entries-count a b k (Some x ∷ slots) =
    length-insert_in a (record { slot = k; held = x }) (entries_from a (k + 1) slots) ∙ ap suc (entries-count a b (k + 1) slots)
    ∙ sym (length-insert_in b (record { slot = k; held = x }) (entries_from b (k + 1) slots))

empty : {A : Type 0} → (xs : List A) → length xs ≡ 0 → xs ≡ []
empty [] none = refl
empty (x ∷ xs) none = absurd (omega arith)

-- Where there is room for each record, nothing is selected exactly where nothing is held.
pub selected-empty : (order : Order) (room : ℕ) (slots : List (Option Held)) → AreSound slots → 255 ≤ room → selected order room slots ≡ [] → held_of slots ≡ []
selected-empty order room slots sound wide none =
    let no_entries : length (entries_of order slots) ≡ 0 = of_entries (entries_of order slots) (entries-open order 0 slots) none in
    empty (held_of slots) (length-map (entries_of Oldest slots) rec_of ∙ entries-count Oldest order 0 slots ∙ no_entries)
  where
    of_entries : (es : List Entry) → Each (IsEntry 0 slots) es → batch_of room es ≡ [] → length es ≡ 0
    of_entries [] all none = refl
    of_entries (e ∷ es) all none =
        let open_slot = all.0.open_slot in
        let few = (sound.each all.0.index e.held open_slot).few in
        let fits = le_true (length e.held.rec.bytes) room (omega arith) in
        let rest = batch e.held.rec.codec 254 (room - length e.held.rec.bytes) es in
        let P : Bool → Type 0 = λ b. (if b && nat_le (length e.held.rec.bytes) room then e.slot ∷ rest else []) ≡ [] in
        let Q : Bool → Type 0 = λ b. (if b then e.slot ∷ rest else []) ≡ [] in
        absurd (let never = ap length (subst Q fits (subst P (own-codec e.held.rec.codec) none)) in omega arith)

pub empty-selected : (order : Order) (room : ℕ) (slots : List (Option Held)) → held_of slots ≡ [] → selected order room slots ≡ []
empty-selected order room slots none =
    ap (batch_of room) (empty (entries_of order slots) (entries-count order Oldest 0 slots ∙ sym (length-map (entries_of Oldest slots) rec_of) ∙ ap length none))

-- What the places of a queue find.
use Rattle.std.proofs.Common.{◌≡◌, ℕ, zero, suc, ◌+◌, ◌<◌, List, [], ◌∷◌, ◌++◌, length, take, map, Option, Some, slice_get, slice_index_or, refl, sym, ◌∙◌, ap, subst, arith}
use Rattle.std.proofs.lemmas.List.{map-append}
use Rattle.avl_values.specs.Record.{Record}
use Rattle.avl_values.specs.declared.order.Order.TheVariants.{Oldest}
use Rattle.flash_ring.specs.declared.rank.Found.{Found}
use Rattle.flash_ring.specs.Entries.{Entry, entries_of, rec_of}
use Rattle.flash_ring.specs.Held.{Held, IsOpen, rec_at, rec_in}
use Rattle.flash_ring.specs.Queue.{queue_of}
use Rattle.flash_ring.specs.Rank.{found_of}
use Rattle.flash_ring.proofs.Entries.{Each, IsEntry, entries-open}

-- A place of the queue finds this entry.
record Finds (P : Entry → Type 0) (es : List Entry) (k : ℕ) (f : Found) : Type 0 where
  pub entry : Entry
  pub is : f ≡ found_of entry
  pub holds : P entry
  pub front : take (suc k) es ≡ take k es ++ entry ∷ []

finds : (P : Entry → Type 0) (es : List Entry) (k : ℕ) (f : Found) → Each P es → k < length (map found_of es) → f ≡ slice_index_or (map found_of es) k f → Finds P es k f
finds P [] k f all low at = absurd (omega (arith, low))
finds P (e ∷ es) zero f all low at = record { entry = e; is = at; holds = all.0; front = refl }
finds P (e ∷ es) (suc k) f all low at =
    let more = finds P es k f all.1 (omega (arith, low)) at in
    record { entry = more.entry; is = more.is; holds = more.holds; front = ap (λ (xs : List Entry). e ∷ xs) more.front }

found-in : (slots : List (Option Held)) (queue : List Found) (k : ℕ) (f : Found) → queue ≡ queue_of slots → k < length queue → f ≡ slice_index_or queue k f → Finds (IsEntry 0 slots) (entries_of Oldest slots) k f
found-in slots queue k f is low at =
    finds (IsEntry 0 slots) (entries_of Oldest slots) k f (entries-open Oldest 0 slots) (subst (λ q. k < length q) is low) (at ∙ ap (λ q. slice_index_or q k f) is)

open-by : (slots : List (Option Held)) (f : Found) (e : Entry) → f ≡ found_of e → IsEntry 0 slots e → slice_get slots f.slot ≡ Some (Some e.held)
open-by slots f e is entry =
    let slot : f.slot ≡ e.slot = ap (λ (g : Found). g.slot) is in
    let place : f.slot ≡ entry.index = omega (arith, slot, entry.place) in
    ap (λ (k : ℕ). slice_get slots k) place ∙ entry.open_slot

-- Its slot is open.
pub found_open : (slots : List (Option Held)) (queue : List Found) (k : ℕ) (f : Found) → queue ≡ queue_of slots → k < length queue → f ≡ slice_index_or queue k f → IsOpen f.slot slots
found_open slots queue k f is low at = let found = found-in slots queue k f is low at in (found.entry.held, open-by slots f found.entry found.is found.holds)

-- With its record the list is longer by one.
pub found_listed : (slots : List (Option Held)) (queue : List Found) (k : ℕ) (f : Found) (records : List Record) (r : Record) → queue ≡ queue_of slots → k < length queue → f ≡ slice_index_or queue k f
    → rec_at slots f.slot ≡ Some r → records ≡ map rec_of (take k (entries_of Oldest slots)) → records ++ r ∷ [] ≡ map rec_of (take (k + 1) (entries_of Oldest slots))
found_listed slots queue k f records r is low at there so_far =
    let found = found-in slots queue k f is low at in
    let e = found.entry in
    let read : Some e.held.rec ≡ Some r = sym (ap rec_in (open-by slots f e found.is found.holds)) ∙ there in
    let same : e.held.rec ≡ r = cc in
    ap (λ (rs : List Record). rs ++ r ∷ []) so_far
    ∙ ap (λ (x : Record). map rec_of (take k (entries_of Oldest slots)) ++ x ∷ []) (sym same)
    ∙ sym (map-append rec_of (take k (entries_of Oldest slots)) (e ∷ []))
    ∙ ap (map rec_of) (sym found.front)
    ∙ ap (λ (n : ℕ). map rec_of (take n (entries_of Oldest slots))) one_more
  where
    one_more : suc k ≡ k + 1
    one_more = omega arith

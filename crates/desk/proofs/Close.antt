-- Close: the seat with all numbers has seen the whole history, and the shelf is at home.
use Rattle.std.proofs.Common.{◌≡◌, ◌≢◌, ℕ, ◌+◌, ◌<◌, List, [], ◌∷◌, ◌++◌, length, refl, sym, ap, ◌∙◌, subst, arith}
use Rattle.std.specs.Prelude.{Option, Some}
use Rattle.std.proofs.lemmas.List.{append-nil}
use mathlib.Core.Option.{some, some-injective}
use mathlib.Core.Logic.{dite}
use native.Mathlib.Decide.{ℕ_discrete}
use lib.ListN.{get_elem?}
use Rattle.atomic_table.specs.Table.{State, Final, Seen}
use Rattle.shelf.specs.Admits.{Shelved}
use Rattle.shelf.specs.Entries.{Entry, IsLegalLog, StandsAfter, times, calls_by}
use Rattle.shelf.specs.Shelf.{ShelfView, front}
use Rattle.desk.specs.Views.{View, IsAlone, all_numbers, busy_at, busy, share, has}
use Rattle.desk.specs.Views.Stage.{Idle, Holding}
use Rattle.desk.specs.Rule.{HasHistory}
use Rattle.desk.proofs.Totals.{total_two, total_only}
use Rattle.desk.proofs.Views.{times-append, share-alone, not-holding}
use Rattle.desk.proofs.Histories.{at-behind, calls_by-all}

-- the shelf in the slot, and the history that the seat has seen
pub record IsClosed (o : Shelved) (seen : List Entry) (ns : List ℕ) (slots : List (Option ShelfView)) : Type 0 where
  pub shelf : ShelfView
  pub there : get_elem? slots 0 ≡ some (Some shelf)
  pub stands : StandsAfter o seen (front shelf)
  pub legal : IsLegalLog o seen
  pub whole : calls_by ns seen ≡ seen

none-of : (k : ℕ) (ns : List ℕ) → length ns ≡ 0 → times k ns ≡ 0
none-of k [] none = refl
none-of k (n ∷ ns) none = absurd (omega arith)

module _ (o : Shelved) (seats id : ℕ) (v : View) (alone : IsAlone Idle v) (all : length v.numbers ≡ seats)
    (s : State (Option ShelfView) View) (h : HasHistory o seats s) (at : get_elem? s.views id ≡ some v) where
  other-none : (j : ℕ) (u : View) → j ≢ id → get_elem? s.views j ≡ some u → share u ≡ 0
  other-none j u ne there =
      let two = total_two share s.views id j v u (λ e. ne (sym e)) at there in
      let mine = share-alone Idle v alone in
      let many = h.many in
      omega arith

  nobody-holds : (i : ℕ) (u : View) → get_elem? s.views i ≡ some u → u.stage ≢ Holding
  nobody-holds i u there = dite (ℕ_discrete i id)
      (λ (e : i ≡ id). not-holding u.stage (ap (λ (x : View). x.stage) (some-injective u v (sym there ∙ ap (get_elem? s.views) e ∙ at)) ∙ alone.at))
      (λ (ne : i ≢ id). λ holds.
      let none = other-none i u ne there in
      let enough = (h.each i u there).enough in
      let busy_is : busy u ≡ 1 = ap busy_at holds in
      omega arith)

  owns-all : (k : ℕ) (e : Entry) → get_elem? h.log k ≡ some e → 0 < times e.seat v.numbers
  owns-all k e there =
      let one = total_only (has e.seat) s.views id v at (λ j u ne at_u. none-of e.seat (all_numbers u) (other-none j u ne at_u)) in
      let own = h.owned k e there in
      let parts = times-append e.seat v.numbers v.other_numbers in
      let none : times e.seat v.other_numbers ≡ 0 = ap (times e.seat) alone.no_numbers in
      omega arith

  seen-all : h.log ≡ v.seen
  seen-all = let f = h.each id v at in let more = f.mine.begins.0 in split more f.mine.begins.1
    where
      none-more : (e : Entry) (more : List Entry) → h.log ≡ v.seen ++ e ∷ more → ⊥
      none-more e more is =
          let there : get_elem? h.log (length v.seen + 0) ≡ some e = ap (λ l. get_elem? l (length v.seen + 0)) is ∙ at-behind v.seen (e ∷ more) 0 in
          let quiet = (h.each id v at).mine.quiet (length v.seen + 0) e (omega arith) there in
          let own = owns-all (length v.seen + 0) e there in
          omega arith

      split : (more : List Entry) → h.log ≡ v.seen ++ more → h.log ≡ v.seen
      split [] is = is ∙ append-nil v.seen
      split (e ∷ more) is = absurd (none-more e more is)

  closed-at : (slots : List (Option ShelfView)) → ((k : ℕ) (y : Option ShelfView) → get_elem? s.homes k ≡ some (some y) → get_elem? slots k ≡ some y) → IsClosed o v.seen v.numbers slots
  closed-at slots same =
      let home = h.home nobody-holds in
      let P : List Entry → Type 0 = λ l. calls_by v.numbers l ≡ l in record {
        shelf = home.shelf;
        there = same 0 (Some home.shelf) (ap (λ l. get_elem? l 0) home.there);
        stands = subst (λ (l : List Entry). StandsAfter o l (front home.shelf)) seen-all home.stands;
        legal = subst (IsLegalLog o) seen-all h.legal;
        whole = subst P seen-all (calls_by-all v.numbers h.log owns-all);
      }

pub closes : (o : Shelved) (seats id : ℕ) (v : View) (words : List ℕ) (slots : List (Option ShelfView)) → IsAlone Idle v → length v.numbers ≡ seats → Final (Seen (HasHistory o seats) id v) words slots
    → IsClosed o v.seen v.numbers slots
closes o seats id v words slots alone all final = closed-at o seats id v alone all final.0 final.1.0 final.1.1 slots final.4

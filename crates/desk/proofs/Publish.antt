-- Publish: the holder's call is the next of the history, and the shelf is at home again, which keeps the rule.
use Rattle.std.proofs.Common.{◌≡◌, ◌≢◌, ⊎_elim, ℕ, ◌+◌, ◌%◌, ◌^◌, ◌<◌, ◌≤◌, List, [], ◌∷◌, ◌++◌, length, set, refl, sym, ap, ◌∙◌, subst, arith, length-append}
use Rattle.std.specs.Prelude.{slice_index, slice_set, Some}
use mathlib.Core.Option.{some}
use lib.ListN.{get_elem?}
use Rattle.atomic_table.specs.Table.{gives, put_back, Allows}
use Rattle.atomic_table.proofs.Lists.{at_snoc}
use Rattle.shelf.specs.Admits.{Shelved}
use Rattle.shelf.specs.Entries.{Entry, IsLegalLog, StandsAfter, times}
use Rattle.shelf.specs.Shelf.{ShelfView, front}
use Rattle.desk.specs.Views.{Stage, View, view, IsAlone, all_numbers, first_number, total, busy_at, busy, has}
use Rattle.desk.specs.Views.Stage.{Idle, Holding}
use Rattle.desk.specs.Rule.{FitsView, FitsStage, HasHistory}
use Rattle.desk.specs.Steps.{Place, Published}
use Rattle.desk.proofs.Totals.{total_set, total_at, total_two, each_set}
use Rattle.desk.proofs.Views.{times-append, times-first, numbers-alone, share-above, share-kept, has-kept, apart-set}
use Rattle.desk.proofs.Histories.{knows-nothing, knows-all, knows-more, stage-next}

one-home : {A : Type 0} (l : List A) (a : A) → length l ≡ 1 → slice_set l 0 a ≡ a ∷ []
one-home [] a size = absurd (omega arith)
one-home (x ∷ []) a size = refl
one-home (x ∷ y ∷ l) a size = absurd (omega arith)

module _ (e : Entry) where
  has-own : (v : View) → IsAlone Holding v → e.seat ≡ first_number v.numbers → 0 < has e.seat v
  has-own v alone own =
      let pos = times-first v.numbers v.other_numbers alone.numbered in
      let same = ap (λ n. times n (v.numbers ++ v.other_numbers)) own in
      omega arith

  -- the number is no other seat's
  no-other : (views : List View) (i j : ℕ) (v u : View) → get_elem? views i ≡ some v → get_elem? views j ≡ some u → j ≢ i → total (has e.seat) views ≤ 1 → 0 < has e.seat v → (times e.seat u.numbers ≡ 0) × (times e.seat u.other_numbers ≡ 0)
  no-other views i j v u at there ne one own =
      let two = total_two (has e.seat) views i j v u (λ same. ne (sym same)) at there in
      let parts = times-append e.seat u.numbers u.other_numbers in
      (omega arith, omega arith)

pub publishes : (o : Shelved) (seats slots id : ℕ) (m : Place) (e : Entry) (y : ShelfView) → slots ≡ 1 → IsAlone Holding m.0 → m.1 ≡ (0, Some y) ∷ [] → e.seat ≡ first_number m.0.numbers
    → IsLegalLog o (m.0.seen ++ e ∷ []) → StandsAfter o (m.0.seen ++ e ∷ []) (front y) → Allows (HasHistory o seats) slots id m 0 (λ n. (n + 1) % 2 ^ 64) (λ n r. Published e m r)
publishes o seats slots id m e y single alone has_shelf own legal stands s h size at low =
    let v : View = m.0 in
    let log : List Entry = h.log ++ e ∷ [] in
    let w : View = view v.opening (v.seen ++ e ∷ []) v.numbers Idle v.ticket in
    let f = h.each id v at in
    let fits : FitsStage h.log (total busy s.views) v.seen v.ticket Holding = subst (λ (z : Stage). FitsStage h.log (total busy s.views) v.seen v.ticket z) alone.at f.stage in
    let mine = fits.0 in
    let seen_is : v.seen ++ e ∷ [] ≡ log = ap (λ (l : List Entry). l ++ e ∷ []) fits.1 in
    let same : all_numbers w ≡ all_numbers v = sym (numbers-alone Holding v alone) in
    let above = share-above Holding v alone in
    let busy_is : busy v ≡ 1 = ap busy_at alone.at in
    let fewer : total busy s.views ≡ total busy (set s.views id w) + 1 = (let t = total_set busy s.views id v w at in omega arith) in
    let kept = has-kept s.views id v w at same in
    let long : length log ≡ length h.log + 1 = length-append h.log (e ∷ []) in
    let serving : (length h.log % 2 ^ 64 + 1) % 2 ^ 64 ≡ length log % 2 ^ 64 = omega arith in
    let ticket : (length h.log + total busy s.views) % 2 ^ 64 ≡ (length log + total busy (set s.views id w)) % 2 ^ 64 =
    (let sum : length h.log + total busy s.views ≡ length log + total busy (set s.views id w) = omega arith in ap (λ n. n % 2 ^ 64) sum) in
    let owns = has-own e v alone own in (
      w,
      gives,
      tt,
      record {
        log = log;
        legal = subst (IsLegalLog o) seen_is legal;
        words = ap (λ (ws : List ℕ). slice_set ws 0 ((slice_index ws 0 + 1) % 2 ^ 64)) h.words ∙ (λ i. serving i ∷ ticket i ∷ []);
        many = share-kept s.views id v w at same ∙ h.many;
        few = h.few;
        once = λ k. (let same_total = kept k in let one = h.once k in omega arith);
        owned = λ k x there. ⊎_elim
            (λ (old : get_elem? h.log k ≡ some x). let same_total = kept x.seat in let has_one = h.owned k x old in omega arith)
            (λ (new : e ≡ x).
            let pos : 0 < total (has e.seat) (set s.views id w) = (let same_total = kept e.seat in let t = total_at (has e.seat) s.views id v at in omega arith) in
            subst (λ (z : Entry). 0 < total (has z.seat) (set s.views id w)) new pos)
            (at_snoc h.log e x k there);
        each = each_set (FitsView o log (total busy (set s.views id w))) s.views id w
            (λ j u ne there.
            let g = h.each j u there in
            let none = no-other e s.views id j v u at there ne (h.once e.seat) owns in record {
              opening = g.opening;
              mine = knows-more h.log u.seen u.numbers e none.0 g.mine;
              others = knows-more h.log u.other_seen u.other_numbers e none.1 g.others;
              enough = g.enough;
              stage = stage-next h.log u.seen e (total busy s.views) (total busy (set s.views id w)) u.ticket u.stage fewer
                  (λ bu same_ticket. h.apart id j v u at there (λ x. ne (sym x)) busy_is bu (mine ∙ sym same_ticket)) g.stage;
            })
            (record {
              opening = λ pos. f.opening above;
              mine = knows-all log (v.seen ++ e ∷ []) v.numbers seen_is;
              others = knows-nothing log;
              enough = omega arith;
              stage = tt;
            });
        apart = apart-set s.views id w h.apart (λ j u ne there bw bu x. absurd (omega (arith, bw)));
        home = λ nobody. record {
          shelf = y;
          there = ap (put_back s.homes) has_shelf ∙ one-home s.homes (some (Some y)) (size ∙ single);
          stands = subst (λ (l : List Entry). StandsAfter o l (front y)) seen_is stands;
        };
      },
      refl,
    )

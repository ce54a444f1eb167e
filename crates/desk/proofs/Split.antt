-- Split: the new seat has the first number of the old one, which keeps the rule.
use Rattle.std.proofs.Common.{◌≡◌, ℕ, ◌+◌, ◌%◌, ◌^◌, ◌≤◌, List, [], ◌∷◌, ◌++◌, length, set, refl, sym, ap, ◌∙◌, arith}
use mathlib.Core.Option.{some}
use lib.ListN.{get_elem?}
use Rattle.atomic_table.specs.Table.{Splits}
use Rattle.atomic_table.proofs.Lists.{at_longer}
use Rattle.shelf.specs.Admits.{Shelved}
use Rattle.shelf.specs.Entries.{times}
use Rattle.desk.specs.Views.{View, IsAlone, first_of, rest_of, total, busy_at, busy, share, has}
use Rattle.desk.specs.Views.Stage.{Idle}
use Rattle.desk.specs.Rule.{FitsView, HasHistory}
use Rattle.desk.specs.Steps.{kept_half, given_half}
use Rattle.desk.proofs.Totals.{total_set, total_snoc, each_set, each_snoc}
use Rattle.desk.proofs.Views.{numbers-alone, share-above, nobody-back, apart-set, apart-snoc, not-holding}
use Rattle.desk.proofs.Histories.{knows-nothing, knows-fewer, stage-more}

halves-share : (ns : List ℕ) → length (rest_of ns ++ []) + length (first_of ns ++ []) ≡ length (ns ++ [])
halves-share [] = refl
halves-share (n ∷ ns) = omega arith

halves-times : (k : ℕ) (ns : List ℕ) → times k (rest_of ns ++ []) + times k (first_of ns ++ []) ≡ times k (ns ++ [])
halves-times k [] = refl
halves-times k (n ∷ ns) = omega arith

rest-fewer : (ns : List ℕ) (k : ℕ) → times k (rest_of ns) ≤ times k ns
rest-fewer [] k = omega arith
rest-fewer (n ∷ ns) k = omega arith

first-fewer : (ns : List ℕ) (k : ℕ) → times k (first_of ns) ≤ times k ns
first-fewer [] k = omega arith
first-fewer (n ∷ ns) k = omega arith

-- what is counted of a view is divided between its halves
total-halves : (f : View → ℕ) (views : List View) (id : ℕ) (v l r : View) → get_elem? views id ≡ some v → f l + f r ≡ f v → total f (set views id l ++ r ∷ []) ≡ total f views
total-halves f views id v l r at parts =
    let t = total_set f views id v l at in
    let u = total_snoc f (set views id l) r in
    omega arith

pub splits : (o : Shelved) (seats id : ℕ) (v : View) → IsAlone Idle v → Splits (HasHistory o seats) id v (kept_half v) (given_half v)
splits o seats id v alone s h at =
    let log = h.log in
    let l : View = kept_half v in
    let r : View = given_half v in
    let views : List View = set s.views id l ++ r ∷ [] in
    let f = h.each id v at in
    let whole = numbers-alone Idle v alone in
    let shares : share l + share r ≡ share v = halves-share v.numbers ∙ sym (ap length whole) in
    let parts : (k : ℕ) → has k l + has k r ≡ has k v = λ k. halves-times k v.numbers ∙ sym (ap (times k) whole) in
    let opening_is : v.opening ≡ o = f.opening (share-above Idle v alone) in
    let tickets : total busy views ≡ total busy s.views = total-halves busy s.views id v l r at (sym (ap busy_at alone.at)) in
    let numbers_same : (k : ℕ) → total (has k) views ≡ total (has k) s.views = λ k. total-halves (has k) s.views id v l r at (parts k) in
    record {
      log = log;
      legal = h.legal;
      words = h.words ∙ (λ i. (length log % 2 ^ 64) ∷ ((length log + sym tickets i) % 2 ^ 64) ∷ []);
      many = total-halves share s.views id v l r at shares ∙ h.many;
      few = h.few;
      once = λ k. (let e = numbers_same k in let one = h.once k in omega arith);
      owned = λ k e there. (let same = numbers_same e.seat in let own = h.owned k e there in omega arith);
      each = each_snoc (FitsView o log (total busy views)) (set s.views id l) r
          (each_set (FitsView o log (total busy views)) s.views id l
          (λ j u ne there. let g = h.each j u there in record {
            opening = g.opening;
            mine = g.mine;
            others = g.others;
            enough = g.enough;
            stage = stage-more log u.seen (total busy s.views) (total busy views) u.ticket u.stage (omega arith) g.stage;
          })
          (record {
            opening = λ pos. opening_is;
            mine = knows-fewer log v.seen v.numbers (rest_of v.numbers) (rest-fewer v.numbers) f.mine;
            others = knows-nothing log;
            enough = omega arith;
            stage = tt;
          }))
          (record {
            opening = λ pos. opening_is;
            mine = knows-fewer log v.seen v.numbers (first_of v.numbers) (first-fewer v.numbers) f.mine;
            others = knows-nothing log;
            enough = omega arith;
            stage = tt;
          });
      apart = apart-snoc (set s.views id l) r (apart-set s.views id l h.apart (λ j u ne there bw bu e. absurd (omega (arith, bw)))) refl;
      home = λ nobody. h.home (nobody-back s.views id v l at (not-holding v.stage alone.at) (λ i u there. nobody i u (at_longer (set s.views id l) (r ∷ []) i u there)));
    }

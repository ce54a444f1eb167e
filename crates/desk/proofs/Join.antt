-- Join: the kept seat has both views side by side, and the other none. Then, by a load, it has the longer history for both. Both
-- steps keep the rule.
use Rattle.std.proofs.Common.{◌≡◌, ◌≢◌, ◌⊎◌, inl, inr, ⊎_elim, ℕ, ◌+◌, ◌%◌, ◌^◌, ◌<◌, ◌≤◌, List, [], ◌∷◌, ◌++◌, length, set, refl, sym, ap, ◌∙◌, arith, length-append}
use Rattle.std.specs.Prelude.{slice_index, slice_set, Option}
use Rattle.std.proofs.lemmas.List.{append-nil}
use mathlib.Core.Option.{some}
use mathlib.Core.Logic.{dite}
use native.Mathlib.Decide.{dec_le}
use lib.ListN.{get_elem?}
use Rattle.atomic_table.specs.Table.{State, Act, keeps, Valid, carried_after, Joins, Allows, stepped}
use Rattle.atomic_table.proofs.Lists.{at_set}
use Rattle.shelf.specs.Admits.{Shelved}
use Rattle.shelf.specs.Entries.{Entry, times, StartsWith}
use Rattle.shelf.specs.Shelf.{ShelfView}
use Rattle.desk.specs.Views.{View, view, spent, IsAlone, all_numbers, total, busy_at, busy, share, has}
use Rattle.desk.specs.Views.Stage.{Idle}
use Rattle.desk.specs.Rule.{Knows, FitsView, HasHistory}
use Rattle.desk.specs.Seen.{AreJoined}
use Rattle.desk.specs.Steps.{Place, both_views, Settled}
use Rattle.desk.proofs.Totals.{total_set, each_set}
use Rattle.desk.proofs.Views.{times-append, numbers-alone, share-above, share-kept, has-kept, nobody-back, apart-set, not-holding}
use Rattle.desk.proofs.Histories.{knows-nothing, knows-fewer, calls_by-known, shorter-begins, stage-more}

-- what is counted of two views is with one of them
total-both : (f : View → ℕ) (views : List View) (i j : ℕ) (v w b n : View) → get_elem? views i ≡ some v → get_elem? (set views i b) j ≡ some w → f b + f n ≡ f v + f w → total f (set (set views i b) j n) ≡ total f views
total-both f views i j v w b n at there parts =
    let t = total_set f views i v b at in
    let u = total_set f (set views i b) j w n there in
    omega arith

pub joins : (o : Shelved) (seats id : ℕ) (v : View) (other : ℕ) (w : View) → IsAlone Idle v → IsAlone Idle w → Joins (HasHistory o seats) id v other w (both_views v w) spent
joins o seats id v other w alone alone_other s h at apart there =
    let log = h.log in
    let b : View = both_views v w in
    let views : List View = set (set s.views id b) other spent in
    let was : get_elem? s.views other ≡ some w = ⊎_elim
    (λ (x : (other ≡ id) × (b ≡ w)). absurd (apart x.0))
    (λ (x : (other ≢ id) × (get_elem? s.views other ≡ some w)). x.1)
    (at_set s.views id other b w there) in
    let f = h.each id v at in
    let g = h.each other w was in
    let whole = numbers-alone Idle v alone in
    let whole_other = numbers-alone Idle w alone_other in
    let shares : share b + share spent ≡ share v + share w =
    (let x : share v ≡ length v.numbers + 0 = ap length whole ∙ length-append v.numbers [] in
    let y : share w ≡ length w.numbers + 0 = ap length whole_other ∙ length-append w.numbers [] in
    let z = length-append v.numbers w.numbers in
    omega arith) in
    let parts : (k : ℕ) → has k b + has k spent ≡ has k v + has k w = λ k.
    (let x : has k v ≡ times k v.numbers + 0 = ap (times k) whole ∙ times-append k v.numbers [] in
    let y : has k w ≡ times k w.numbers + 0 = ap (times k) whole_other ∙ times-append k w.numbers [] in
    let z = times-append k v.numbers w.numbers in
    omega arith) in
    let idle : busy v ≡ 0 = ap busy_at alone.at in
    let idle_other : busy w ≡ 0 = ap busy_at alone_other.at in
    let tickets : total busy views ≡ total busy s.views = total-both busy s.views id other v w b spent at there (omega arith) in
    let numbers_same : (k : ℕ) → total (has k) views ≡ total (has k) s.views = λ k. total-both (has k) s.views id other v w b spent at there (parts k) in
    record {
      log = log;
      legal = h.legal;
      words = h.words ∙ (λ i. (length log % 2 ^ 64) ∷ ((length log + sym tickets i) % 2 ^ 64) ∷ []);
      many = total-both share s.views id other v w b spent at there shares ∙ h.many;
      few = h.few;
      once = λ k. (let e = numbers_same k in let one = h.once k in omega arith);
      owned = λ k e there. (let same = numbers_same e.seat in let own = h.owned k e there in omega arith);
      each = each_set (FitsView o log (total busy views)) (set s.views id b) other spent
          (λ i u ne at_u. each_set (FitsView o log (total busy views)) s.views id b
          (λ j x nx at_x. let k = h.each j x at_x in record {
            opening = k.opening;
            mine = k.mine;
            others = k.others;
            enough = k.enough;
            stage = stage-more log x.seen (total busy s.views) (total busy views) x.ticket x.stage (omega arith) k.stage;
          })
          (record {
            opening = λ pos. f.opening (share-above Idle v alone);
            mine = f.mine;
            others = g.mine;
            enough = omega arith;
            stage = tt;
          })
          i u at_u)
          (record {
            opening = λ pos. absurd (omega (arith, pos));
            mine = knows-nothing log;
            others = knows-nothing log;
            enough = omega arith;
            stage = tt;
          });
      apart = apart-set (set s.views id b) other spent
          (apart-set s.views id b h.apart (λ j u ne at_u bw bu e. absurd (omega (arith, bw))))
          (λ j u ne at_u bw bu e. absurd (omega (arith, bw)));
      home = λ nobody. h.home (nobody-back s.views id v b at (not-holding v.stage alone.at)
          (nobody-back (set s.views id b) other w spent there (not-holding w.stage alone_other.at) nobody));
    }

module _ (o : Shelved) (seats id : ℕ) (m : Place) (idle : m.0.stage ≡ Idle) (numbered : 0 < length m.0.numbers)
    (s : State (Option ShelfView) View) (h : HasHistory o seats s) (at : get_elem? s.views id ≡ some m.0) where
  settled-on : (seen : List Entry) → Knows h.log seen (m.0.numbers ++ m.0.other_numbers) → AreJoined m.0.seen m.0.numbers m.0.other_seen m.0.other_numbers seen
      → (w : View) × (a : Act (Option ShelfView)) × Valid s.homes m.1 a × HasHistory o seats (stepped s 0 (slice_index s.words 0) id m.1 w a) × Settled m (w, carried_after m.1 a)
  settled-on seen knows joined =
      let log = h.log in
      let v : View = m.0 in
      let w : View = view v.opening seen (v.numbers ++ v.other_numbers) Idle 0 in
      let f = h.each id v at in
      let same : all_numbers w ≡ all_numbers v = append-nil (v.numbers ++ v.other_numbers) in
      let pos : 0 < share v = (let x = length-append v.numbers v.other_numbers in omega arith) in
      let busy_is : busy v ≡ 0 = ap busy_at idle in
      let tickets : total busy (set s.views id w) ≡ total busy s.views = (let t = total_set busy s.views id v w at in omega arith) in
      let kept = has-kept s.views id v w at same in (
        w,
        keeps,
        tt,
        record {
          log = log;
          legal = h.legal;
          words = ap (λ (ws : List ℕ). slice_set ws 0 (slice_index ws 0)) h.words ∙ (λ i. (length log % 2 ^ 64) ∷ ((length log + sym tickets i) % 2 ^ 64) ∷ []);
          many = share-kept s.views id v w at same ∙ h.many;
          few = h.few;
          once = λ k. (let e = kept k in let one = h.once k in omega arith);
          owned = λ k e there. (let same_total = kept e.seat in let own = h.owned k e there in omega arith);
          each = each_set (FitsView o log (total busy (set s.views id w))) s.views id w
              (λ j u ne there. let g = h.each j u there in record {
                opening = g.opening;
                mine = g.mine;
                others = g.others;
                enough = g.enough;
                stage = stage-more log u.seen (total busy s.views) (total busy (set s.views id w)) u.ticket u.stage (omega arith) g.stage;
              })
              (record {
                opening = λ _. f.opening pos;
                mine = knows;
                others = knows-nothing log;
                enough = omega arith;
                stage = tt;
              });
          apart = apart-set s.views id w h.apart (λ j u ne there bw bu e. absurd (omega (arith, bw)));
          home = λ nobody. h.home (nobody-back s.views id v w at (not-holding v.stage idle) nobody);
        },
        record { rests = refl; joined = joined },
      )

-- The longer of two histories is known under both seats' numbers.
module _ (log a b : List Entry) (ns ms : List ℕ) (one : Knows log a ns) (other : Knows log b ms) where
  longer-known : (c : List Entry) → StartsWith log c → length a ≤ length c → length b ≤ length c → Knows log c (ns ++ ms)
  longer-known c begins above above_other = record {
    begins = begins;
    quiet = λ k e later at. (let x = one.quiet k e (omega arith) at in let y = other.quiet k e (omega arith) at in let z = times-append e.seat ns ms in omega arith);
  }

  joined-on : (c : List Entry) → (c ≡ a) ⊎ (c ≡ b) → StartsWith log c → length a ≤ length c → length b ≤ length c → AreJoined a ns b ms c
  joined-on c is begins above above_other =
      let knows = longer-known c begins above above_other in
      let knows_one : Knows log c ns = knows-fewer log c (ns ++ ms) ns (λ n. (let z = times-append n ns ms in omega arith)) knows in
      let knows_other : Knows log c ms = knows-fewer log c (ns ++ ms) ms (λ n. (let z = times-append n ns ms in omega arith)) knows in record {
        longer = is;
        begins = shorter-begins log a c one.begins begins above;
        other_begins = shorter-begins log b c other.begins begins above_other;
        calls = sym (calls_by-known log c ns knows_one) ∙ calls_by-known log a ns one;
        other_calls = sym (calls_by-known log c ms knows_other) ∙ calls_by-known log b ms other;
      }

pub settles : (o : Shelved) (seats slots id : ℕ) (m : Place) → m.0.stage ≡ Idle → 0 < length m.0.numbers → Allows (HasHistory o seats) slots id m 0 (λ n. n) (λ n. Settled m)
settles o seats slots id m idle numbered s h size at low =
    let v : View = m.0 in
    let f = h.each id v at in
    dite (dec_le (length v.seen) (length v.other_seen))
    (λ (le : length v.seen ≤ length v.other_seen).
    settled-on o seats id m idle numbered s h at v.other_seen
    (longer-known h.log v.seen v.other_seen v.numbers v.other_numbers f.mine f.others v.other_seen f.others.begins le (omega arith))
    (joined-on h.log v.seen v.other_seen v.numbers v.other_numbers f.mine f.others v.other_seen (inr refl) f.others.begins le (omega arith)))
    (λ gt.
    let ge : length v.other_seen ≤ length v.seen = omega (arith, gt) in
    settled-on o seats id m idle numbered s h at v.seen
    (longer-known h.log v.seen v.other_seen v.numbers v.other_numbers f.mine f.others v.seen f.mine.begins (omega arith) ge)
    (joined-on h.log v.seen v.other_seen v.numbers v.other_numbers f.mine f.others v.seen (inl refl) f.mine.begins (omega arith) ge))

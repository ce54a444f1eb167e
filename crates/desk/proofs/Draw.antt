-- Draw: the seat takes the next ticket, which keeps the rule.
use Rattle.std.proofs.Common.{◌≡◌, ℕ, ◌+◌, ◌%◌, ◌^◌, List, [], ◌∷◌, length, set, refl, sym, ap, ◌∙◌, arith}
use Rattle.std.specs.Prelude.{slice_index, slice_set}
use Rattle.atomic_table.specs.Table.{keeps, Allows}
use Rattle.shelf.specs.Admits.{Shelved}
use Rattle.desk.specs.Views.{View, view, IsAlone, all_numbers, total, busy_at, busy, share}
use Rattle.desk.specs.Views.Stage.{Idle, Waiting}
use Rattle.desk.specs.Rule.{FitsView, HasHistory}
use Rattle.desk.specs.Steps.{Place, Drawn}
use Rattle.desk.proofs.Totals.{total_set, total_at, each_set}
use Rattle.desk.proofs.Views.{numbers-alone, share-above, share-kept, has-kept, nobody-back, apart-set, not-holding}
use Rattle.desk.proofs.Histories.{knows-nothing, stage-more, ticket-out}

pub draws : (o : Shelved) (seats slots id : ℕ) (m : Place) → IsAlone Idle m.0 → Allows (HasHistory o seats) slots id m 1 (λ n. (n + 1) % 2 ^ 64) (Drawn m)
draws o seats slots id m alone s h size at low =
    let log = h.log in
    let v : View = m.0 in
    let n : ℕ = length log + total busy s.views in
    let w : View = view v.opening v.seen v.numbers Waiting n in
    let f = h.each id v at in
    let same : all_numbers w ≡ all_numbers v = sym (numbers-alone Idle v alone) in
    let idle : busy v ≡ 0 = ap busy_at alone.at in
    let more : total busy (set s.views id w) ≡ total busy s.views + 1 = (let t = total_set busy s.views id v w at in omega arith) in
    let above = share-above Idle v alone in
    let equal : share w ≡ share v = ap length same in
    let round : ((length log + total busy s.views) % 2 ^ 64 + 1) % 2 ^ 64 ≡ (length log + total busy (set s.views id w)) % 2 ^ 64 = omega arith in
    let kept = has-kept s.views id v w at same in (
      w,
      keeps,
      tt,
      record {
        log = log;
        legal = h.legal;
        words = ap (λ (ws : List ℕ). slice_set ws 1 ((slice_index ws 1 + 1) % 2 ^ 64)) h.words ∙ (λ i. (length log % 2 ^ 64) ∷ round i ∷ []);
        many = share-kept s.views id v w at same ∙ h.many;
        few = h.few;
        once = λ k. (let e = kept k in let one = h.once k in omega arith);
        owned = λ k e there. (let same_total = kept e.seat in let own = h.owned k e there in omega arith);
        each = each_set (FitsView o log (total busy (set s.views id w))) s.views id w
            (λ j u ne there. let g = h.each j u there in record {
              opening = g.opening;
              mine = g.mine;
              others = g.others;
              enough = g.enough;
              stage = stage-more log u.seen (total busy s.views) (total busy (set s.views id w)) u.ticket u.stage (omega arith) g.stage;
            })
            (record {
              opening = λ pos. f.opening above;
              mine = f.mine;
              others = knows-nothing log;
              enough = omega arith;
              stage = (omega arith, omega arith);
            });
        apart = apart-set s.views id w h.apart (λ j u ne there bw bu e.
            let one = total_at busy s.views j u there in
            let out = ticket-out log u.seen (total busy s.views) u.ticket u.stage bu (omega arith) (h.each j u there).stage in
            let high = out.1 in
            omega arith);
        home = λ nobody. h.home (nobody-back s.views id v w at (not-holding v.stage alone.at) nobody);
      },
      record { waits = refl; ticket = sym (ap (λ (ws : List ℕ). slice_index ws 1) h.words) },
    )

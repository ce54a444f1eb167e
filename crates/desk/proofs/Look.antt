-- Look: where the word is the seat's ticket, the seat sees the history and takes the shelf, which keeps the rule.
use Rattle.std.proofs.Common.{◌≡◌, ◌≢◌, ℕ, ◌+◌, ◌%◌, ◌^◌, List, [], ◌∷◌, length, set, refl, sym, ap, ◌∙◌, subst, arith}
use Rattle.std.specs.Prelude.{slice_index, slice_set, Option, Some}
use mathlib.Core.Option as slot
use mathlib.Core.Option.{some, some-injective}
use mathlib.Core.Logic.{dite}
use native.Mathlib.Decide.{ℕ_discrete}
use lib.ListN.{get_elem?}
use Rattle.atomic_table.specs.Table.{State, Act, keeps, takes, Valid, carried_after, Allows, stepped}
use Rattle.atomic_table.proofs.Lists.{one_turn, set_here, set_again}
use Rattle.shelf.specs.Admits.{Shelved}
use Rattle.shelf.specs.Entries.{IsLegalLog, StandsAfter}
use Rattle.shelf.specs.Shelf.{ShelfView, front}
use Rattle.desk.specs.Views.{Stage, View, view, IsAlone, all_numbers, total, busy_at, busy, share}
use Rattle.desk.specs.Views.Stage.{Waiting, Holding}
use Rattle.desk.specs.Rule.{FitsView, FitsStage, NobodyHolds, HasHistory}
use Rattle.desk.specs.Steps.{Place, Looked}
use Rattle.desk.proofs.Totals.{at_within, total_set, total_within, each_set}
use Rattle.desk.proofs.Views.{numbers-alone, share-above, share-kept, has-kept, apart-set}
use Rattle.desk.proofs.Histories.{knows-nothing, knows-all, calls_by-known, stage-more}

-- The seat whose ticket it is holds nothing yet, so nobody does.
nobody-else : (o : Shelved) (seats id : ℕ) (v : View) (s : State (Option ShelfView) View) (h : HasHistory o seats s) → get_elem? s.views id ≡ some v → v.stage ≡ Waiting → length h.log ≡ v.ticket → NobodyHolds s.views
nobody-else o seats id v s h at waits turn i u there holds = dite (ℕ_discrete id i)
    (λ (e : id ≡ i).
    let same : v ≡ u = some-injective v u (sym at ∙ ap (get_elem? s.views) e ∙ there) in
    let never : Waiting ≡ Holding = sym waits ∙ ap (λ (x : View). x.stage) same ∙ holds in
    absurd (cc))
    (λ (ne : id ≢ i).
    let fits : FitsStage h.log (total busy s.views) u.seen u.ticket Holding = subst (λ (z : Stage). FitsStage h.log (total busy s.views) u.seen u.ticket z) holds (h.each i u there).stage in
    absurd (h.apart id i v u at there ne (ap busy_at waits) (ap busy_at holds) (sym turn ∙ sym fits.0)))

module _ (o : Shelved) (seats slots id : ℕ) (m : Place) (alone : IsAlone Waiting m.0) (bare : m.1 ≡ [])
    (s : State (Option ShelfView) View) (h : HasHistory o seats s) (at : get_elem? s.views id ≡ some m.0) where
  it-is-the-turn : slice_index s.words 0 ≡ m.0.ticket % 2 ^ 64 → (w : View) × (a : Act (Option ShelfView)) × Valid s.homes m.1 a × HasHistory o seats (stepped s 0 (slice_index s.words 0) id m.1 w a) × Looked m (slice_index s.words 0) (w, carried_after m.1 a)
  it-is-the-turn found =
      let log = h.log in
      let v : View = m.0 in
      let w : View = view v.opening log v.numbers Holding v.ticket in
      let f = h.each id v at in
      let fits : FitsStage log (total busy s.views) v.seen v.ticket Waiting = subst (λ (z : Stage). FitsStage log (total busy s.views) v.seen v.ticket z) alone.at f.stage in
      let low = fits.0 in
      let high = fits.1 in
      let few = h.few in
      let shares = total_within busy share s.views (λ i u there. (h.each i u there).enough) in
      let many = h.many in
      let word : (length log) % 2 ^ 64 ≡ v.ticket % 2 ^ 64 = sym (ap (λ (ws : List ℕ). slice_index ws 0) h.words) ∙ found in
      let turn : length log ≡ v.ticket = one_turn (length log) v.ticket (2 ^ 64) fits.0 (omega arith) word in
      let home = h.home (nobody-else o seats id v s h at alone.at turn) in
      let y = home.shelf in
      let same : all_numbers w ≡ all_numbers v = sym (numbers-alone Waiting v alone) in
      let above = share-above Waiting v alone in
      let equal : share w ≡ share v = ap length same in
      let opening_is : v.opening ≡ o = f.opening above in
      let busy_is : busy v ≡ 1 = ap busy_at alone.at in
      let tickets : total busy (set s.views id w) ≡ total busy s.views = (let t = total_set busy s.views id v w at in omega arith) in
      let kept = has-kept s.views id v w at same in
      let here = set_here s.views id w (at_within s.views id v at) in (
        w,
        takes 0 (Some y),
        ap (λ (l : List (slot.Option (Option ShelfView))). get_elem? l 0) home.there,
        record {
          log = log;
          legal = h.legal;
          words = ap (λ (ws : List ℕ). slice_set ws 0 (slice_index ws 0)) h.words ∙ (λ i. (length log % 2 ^ 64) ∷ ((length log + sym tickets i) % 2 ^ 64) ∷ []);
          many = share-kept s.views id v w at same ∙ h.many;
          few = h.few;
          once = λ k. (let e = kept k in let one = h.once k in omega arith);
          owned = λ k e there. (let same_total = kept e.seat in let own = h.owned k e there in omega arith);
          each = each_set (FitsView o log (total busy (set s.views id w))) s.views id w
              (λ j u ne there. let g = h.each j u there in record {
                opening = g.opening;
                mine = g.mine;
                others = g.others;
                enough = g.enough;
                stage = stage-more log u.seen (total busy s.views) (total busy (set s.views id w)) u.ticket u.stage (omega arith) g.stage;
              })
              (record {
                opening = λ pos. opening_is;
                mine = knows-all log log v.numbers refl;
                others = knows-nothing log;
                enough = omega arith;
                stage = (sym turn, refl);
              });
          apart = apart-set s.views id w h.apart (λ j u ne there bw bu. h.apart id j v u at there (λ e. ne (sym e)) busy_is bu);
          home = λ nobody. absurd (nobody id w here refl);
        },
        record {
          turn = λ _. record {
            holds = refl;
            begins = f.mine.begins;
            legal = subst (λ (x : Shelved). IsLegalLog x log) (sym opening_is) h.legal;
            mine = calls_by-known log v.seen v.numbers f.mine;
            shelf = y;
            took = ap (λ (c : List (ℕ × Option ShelfView)). (0, Some y) ∷ c) bare;
            stands = subst (λ (x : Shelved). StandsAfter x log (front y)) (sym opening_is) home.stands;
          };
          wait = λ ne. absurd (ne found);
        },
      )

  it-is-not : slice_index s.words 0 ≢ m.0.ticket % 2 ^ 64 → (w : View) × (a : Act (Option ShelfView)) × Valid s.homes m.1 a × HasHistory o seats (stepped s 0 (slice_index s.words 0) id m.1 w a) × Looked m (slice_index s.words 0) (w, carried_after m.1 a)
  it-is-not ne =
      let again : set s.views id m.0 ≡ s.views = set_again s.views id m.0 at in
      let P : List ℕ → Type 0 = λ ws. slice_set ws 0 (slice_index ws 0) ≡ ws in
      let words_are : slice_set s.words 0 (slice_index s.words 0) ≡ s.words = subst P (sym h.words) refl in
      let Q : List ℕ × List View → Type 0 = λ z. HasHistory o seats (record { words = z.0; homes = s.homes; views = z.1 }) in
      (m.0, keeps, tt, subst Q (λ i. (sym words_are i, sym again i)) h, record { turn = λ e. absurd (ne e); wait = λ _. refl })

pub looks : (o : Shelved) (seats slots id : ℕ) (m : Place) → IsAlone Waiting m.0 → m.1 ≡ [] → Allows (HasHistory o seats) slots id m 0 (λ n. n) (Looked m)
looks o seats slots id m alone bare s h size at low = dite (ℕ_discrete (slice_index s.words 0) (m.0.ticket % 2 ^ 64))
    (λ found. it-is-the-turn o seats slots id m alone bare s h at found)
    (λ ne. it-is-not o seats slots id m alone bare s h at ne)

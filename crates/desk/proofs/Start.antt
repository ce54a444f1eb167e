-- A new desk meets the rule: nobody has made a call, and the first seat has all numbers.
use Rattle.std.proofs.Common.{◌≡◌, ◌≢◌, ℕ, zero, suc, ◌≤◌, false, [], ◌∷◌, length, refl, sym, ap, ◌∙◌, subst, arith}
use Rattle.std.specs.Prelude.{Some}
use Rattle.std.proofs.lemmas.List.{append-nil}
use mathlib.Core.Option.{some, some-injective, some-ne-none}
use lib.ListN.{get_elem?}
use Rattle.atomic_table.specs.Table.{opening}
use Rattle.shelf.specs.Admits.{Shelved}
use Rattle.shelf.specs.Entries.{times, counting}
use Rattle.shelf.specs.Shelf.{ShelfView, front}
use Rattle.shelf.proofs.Histories.{stands-none}
use Rattle.desk.specs.Views.{View, first_view, share, has}
use Rattle.desk.specs.Rule.{FitsView, HasHistory}
use Rattle.desk.proofs.Views.{times-counting, length-counting}
use Rattle.desk.proofs.Histories.{knows-nothing, knows-all}

-- of one item
only : (P : View → Type 0) (v : View) → P v → (i : ℕ) (u : View) → get_elem? (v ∷ []) i ≡ some u → P u
only P v is zero u at = subst P (some-injective v u at) is
only P v is (suc i) u at = absurd (some-ne-none u (sym at))

no-two : (v : View) (i j : ℕ) (u w : View) → get_elem? (v ∷ []) i ≡ some u → get_elem? (v ∷ []) j ≡ some w → i ≢ j → ⊥
no-two v zero zero u w at there ne = ne refl
no-two v zero (suc j) u w at there ne = some-ne-none w (sym there)
no-two v (suc i) j u w at there ne = some-ne-none u (sym at)

pub starts : (y : ShelfView) (seats : ℕ) → y.down ≡ false → seats ≤ 64 → HasHistory (front y) seats (opening (0 ∷ 0 ∷ []) (Some y ∷ []) (first_view (front y) seats))
starts y seats up few =
    let o : Shelved = front y in
    let v : View = first_view o seats in
    let same : (k : ℕ) → has k v ≡ times k (counting 0 seats) = λ k. ap (times k) (append-nil (counting 0 seats)) in
    record {
      log = [];
      legal = tt;
      words = refl;
      many = (let e : share v ≡ seats = ap length (append-nil (counting 0 seats)) ∙ length-counting 0 seats in omega arith);
      few = few;
      once = λ k. (let e = same k in let one = times-counting k 0 seats in omega arith);
      owned = λ k e at. absurd (some-ne-none e (sym at));
      each = only (FitsView o [] 0) v (record {
        opening = λ pos. refl;
        mine = knows-all [] [] (counting 0 seats) refl;
        others = knows-nothing [];
        enough = omega arith;
        stage = tt;
      });
      apart = λ i j u w at there ne bu bw. absurd (no-two v i j u w at there ne);
      home = λ nobody. record { shelf = y; there = refl; stands = stands-none o up };
    }

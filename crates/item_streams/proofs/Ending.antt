-- Of a prefix are read just the items that end inside it.
use Rattle.std.proofs.Common.{◌≡◌, ℕ, ◌+◌, ◌<◌, ◌≤◌, ◌⊎◌, inl, inr, List, [], ◌∷◌, ◌++◌, length, take, drop, refl, sym, ap, subst, ◌∙◌, append-nil, arith, length-append}
use Rattle.std.proofs.Math.Seq.{take-append_seam}
use Rattle.std.proofs.lemmas.Bool.{cases_lt, le-leb, lt-leb}
use Rattle.std.proofs.lemmas.List.{take-append-drop, take-append-le}
use Rattle.std.proofs.lemmas.List.Elements.{filter-append}
use Rattle.std.specs.Prelude.{nat_le}
use Rattle.layout.specs.Rows.{Rows, short, judge, Fills}
use Rattle.layout.proofs.RowLaws.{is_whole}
use Rattle.item_streams.specs.Streams.{Item, Reading, next_rows, place_after, AreItems, IsNotWhole, reading_of, ended_by}
use Rattle.item_streams.specs.Laws.{PrefixItemsEndInside}
use Rattle.item_streams.proofs.Joining.{not_empty, not_whole}
use Rattle.item_streams.proofs.StreamLaws.{has_reading, compose, rows_begin, add_up}

kept : {V : Type 0} (limit : ℕ) (item : Item V) (items : List (Item V)) → item.end ≤ limit → ended_by limit (item ∷ items) ≡ item ∷ ended_by limit items
kept limit item items le = rw (le-leb item.end limit le) refl

passed : {V : Type 0} (limit : ℕ) (item : Item V) (items : List (Item V)) → limit < item.end → ended_by limit (item ∷ items) ≡ ended_by limit items
passed limit item items lt = rw (lt-leb item.end limit lt) refl

-- items whose bytes end at the limit or before it
inside : {V : Type 0} (first later : Rows V) (place limit : ℕ) (items : List (Item V)) (rest bytes : List ℕ) → AreItems first later place items rest bytes → place + length bytes ≤ limit → ended_by limit items ≡ items
inside first later place limit [] rest bytes is le = refl
inside {V = V} first later place limit (item ∷ items) rest bytes (front, more, is, fills, at, others) le =
    let len = length-append front more in
    kept limit item items (omega (arith, ap length is, len, at))
    ∙ ap (λ (xs : List (Item V)). item ∷ xs) (inside later later item.end limit items rest more others (omega (arith, ap length is, len, at)))

-- items whose first byte stands at the limit or after it
beyond : {V : Type 0} (first later : Rows V) (place limit : ℕ) (items : List (Item V)) (rest bytes : List ℕ) → judge first 0 [] ≡ short → judge later 0 [] ≡ short
    → AreItems first later place items rest bytes → limit ≤ place → ended_by limit items ≡ []
beyond first later place limit [] rest bytes begins laters is le = refl
beyond first later place limit (item ∷ items) rest bytes begins laters (front, more, is, fills, at, others) le =
    let some : 0 < length front = not_empty first item.value front begins fills in
    passed limit item items (omega (arith, some, at)) ∙ beyond later later item.end limit items rest more laters laters others (omega (arith, some, at))

-- An item is longer than bytes before it that are no whole item.

split_at : (front m rest more : List ℕ) → front ++ m ≡ rest ++ more → length front ≤ length rest → rest ≡ front ++ drop (length front) rest
split_at front m rest more same le =
    let begins : front ≡ take (length front) rest = sym (take-append_seam front m) ∙ (ap (λ (b : List ℕ). take (length front) b) same ∙ take-append-le (length front) rest more le) in
    sym (take-append-drop (length front) rest) ∙ ap (λ (b : List ℕ). b ++ drop (length front) rest) (sym begins)

by_length : {V : Type 0} (rows : Rows V) (v : V) (front m rest more : List ℕ) → Fills rows v front → front ++ m ≡ rest ++ more → IsNotWhole (judge rows 0 rest)
    → (length rest < length front) ⊎ (length front ≤ length rest) → length rest < length front
by_length rows v front m rest more fills same unended (inl lt) = lt
by_length rows v front m rest more fills same unended (inr le) =
    absurd (not_whole (judge rows 0 rest) v (0 + length front) unended
    (ap (λ (b : List ℕ). judge rows 0 b) (split_at front m rest more same le) ∙ is_whole rows 0 v front (drop (length front) rest) fills))

-- the items after bytes that are no whole item, and more
after_rest : {V : Type 0} (first later : Rows V) (place : ℕ) (items : List (Item V)) (end rest more : List ℕ) → judge later 0 [] ≡ short → IsNotWhole (judge first 0 rest)
    → AreItems first later place items end (rest ++ more) → ended_by (place + length rest) items ≡ []
after_rest first later place [] end rest more laters unended is = refl
after_rest first later place (item ∷ items) end rest more laters unended (front, tail, is, fills, at, others) =
    let longer : length rest < length front = by_length first item.value front tail rest more fills (sym is) unended (cases_lt (length rest) (length front)) in
    passed (place + length rest) item items (omega (arith, longer, at)) ∙ beyond later later item.end (place + length rest) items end tail laters laters others (omega (arith, longer, at))

pub ends_inside : {V : Type 0} → PrefixItemsEndInside V
ends_inside {V = V} first later place bytes more rows =
    let before : Reading V = reading_of first later place bytes in
    let next : Rows V = next_rows first later before.items in
    let q = place_after place before.items in
    let after : Reading V = reading_of next later q (before.rest ++ more) in
    let limit = place + length bytes in
    let is = has_reading first later place bytes rows in
    let goes_on = has_reading next later q (before.rest ++ more) (rows_begin first later before.items rows) in
    let front : ended_by limit before.items ≡ before.items = inside first later place limit before.items before.rest bytes is.joined (omega arith) in
    let none : ended_by limit after.items ≡ [] = subst (λ (n : ℕ). ended_by n after.items ≡ []) (add_up first later place bytes rows)
    (after_rest next later q after.items after.rest before.rest more rows.later_begins is.unfinished goes_on.joined) in
    sym (
    ap (λ (r : Reading V). ended_by limit r.items) (compose first later place bytes more rows)
    ∙ filter-append (λ (item : Item V). nat_le item.end limit) before.items after.items
    ∙ ap (λ (xs : List (Item V)). xs ++ ended_by limit after.items) front
    ∙ ap (λ (xs : List (Item V)). before.items ++ xs) none
    ∙ append-nil before.items
    )

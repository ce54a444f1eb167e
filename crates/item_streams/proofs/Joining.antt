-- Items after items, and items that are never empty.
use Rattle.std.proofs.Common.{◌≡◌, ℕ, ◌+◌, ◌<◌, List, [], ◌∷◌, ◌++◌, length, refl, sym, ap, subst, ◌∙◌, append_assoc, arith}
use Rattle.layout.specs.Rows.{Rows, Verdict, whole, short, judge, Fills}
use Rattle.layout.proofs.RowLaws.{is_whole}
use Rattle.item_streams.specs.Streams.{Item, next_rows, place_after, AreItems, IsNotWhole}

-- No item is empty.

no_empty : {V : Type 0} (rows : Rows V) (v : V) → judge rows 0 [] ≡ short → Fills rows v [] → ⊥
no_empty rows v begins fills = let e : short ≡ whole v (0 + 0) = sym begins ∙ is_whole rows 0 v [] [] fills in absurd cc

pub not_empty : {V : Type 0} (rows : Rows V) (v : V) (bytes : List ℕ) → judge rows 0 [] ≡ short → Fills rows v bytes → 0 < length bytes
not_empty rows v [] begins fills = absurd (no_empty rows v begins fills)
not_empty rows v (b ∷ bytes) begins fills = omega arith

-- Where the rows go on.

pub later_stays : {V : Type 0} (later : Rows V) (items : List (Item V)) → next_rows later later items ≡ later
later_stays later [] = refl
later_stays later (item ∷ items) = refl

pub next_rows_both : {V : Type 0} (first later : Rows V) (xs ys : List (Item V)) → next_rows first later (xs ++ ys) ≡ next_rows (next_rows first later xs) later ys
next_rows_both first later [] ys = refl
next_rows_both first later (x ∷ xs) ys = sym (later_stays later ys)

-- Items after items.

pub items_then : {V : Type 0} (first later : Rows V) (place : ℕ) (xs ys : List (Item V)) (rest more end bytes : List ℕ) → AreItems first later place xs rest bytes
    → AreItems (next_rows first later xs) later (place_after place xs) ys end (rest ++ more) → AreItems first later place (xs ++ ys) end (bytes ++ more)
items_then first later place [] ys rest more end bytes p q = subst (λ (b : List ℕ). AreItems first later place ys end (b ++ more)) (sym p) q
items_then {V = V} first later place (x ∷ xs) ys rest more end bytes (front, tail, is, fills, at, others) q =
    let same : AreItems (next_rows later later xs) later (place_after x.end xs) ys end (rest ++ more) =
    subst (λ (rows : Rows V). AreItems rows later (place_after x.end xs) ys end (rest ++ more)) (sym (later_stays later xs)) q in
    (front, tail ++ more, ap (λ (b : List ℕ). b ++ more) is ∙ append_assoc front tail more, fills, at, items_then later later x.end xs ys rest more end tail others same)

-- A verdict that is not whole is short or a fault, and no whole one.

pub not_whole : {V : Type 0} (verdict : Verdict V) (v : V) (n : ℕ) → IsNotWhole verdict → verdict ≡ whole v n → ⊥
not_whole verdict v n unended is = subst IsNotWhole is unended

-- What more bytes add to a reading, over any rows.
use Rattle.std.proofs.Common.{◌≡◌, ℕ, ◌+◌, List, [], ◌∷◌, ◌++◌, length, sym, ap, subst, ◌∙◌, arith}
use Rattle.std.proofs.lemmas.List.{append-nil}
use Rattle.layout.specs.Rows.{Rows, judge, whole}
use Rattle.item_streams.specs.Laws.{AreStreamRows}
use Rattle.item_streams.specs.Streams.{IsNotWhole, Item, Reading, reading_of, next_rows}
use Rattle.item_streams.proofs.Joining.{next_rows_both}
use Rattle.item_streams.proofs.StreamLaws.{completes, grows}

abbrev read_as : {V : Type 0} → List (Item V) → List ℕ → Reading V
read_as items rest = record { items = items; rest = rest }

-- more bytes that make no item
pub rest_grows : {V : Type 0} (first later rows : Rows V) (bytes more have : List ℕ) (items : List (Item V)) → AreStreamRows first later → reading_of first later 0 bytes ≡ read_as items have
    → next_rows first later items ≡ rows → IsNotWhole (judge rows 0 (have ++ more)) → reading_of first later 0 (bytes ++ more) ≡ read_as (items ++ []) (have ++ more)
rest_grows {V = V} first later rows bytes more have items begin is place unfinished =
    let Q : Reading V → Type 0 = λ r. IsNotWhole (judge (next_rows first later r.items) 0 (r.rest ++ more)) in
    let at : IsNotWhole (judge (next_rows first later items) 0 (have ++ more)) = subst (λ (x : Rows V). IsNotWhole (judge x 0 (have ++ more))) (sym place) unfinished in
    grows first later 0 bytes more begin (subst Q (sym is) at)
    ∙ ap (λ (r : Reading V). read_as r.items (r.rest ++ more)) is ∙ ap (λ (i : List (Item V)). read_as i (have ++ more)) (sym (append-nil items))

-- more bytes that end an item
pub rest_completes : {V : Type 0} (first later rows : Rows V) (v : V) (bytes more have : List ℕ) (items : List (Item V)) → AreStreamRows first later → reading_of first later 0 bytes ≡ read_as items have
    → next_rows first later items ≡ rows → judge rows 0 (have ++ more) ≡ whole v (length (have ++ more))
    → reading_of first later 0 (bytes ++ more) ≡ read_as (items ++ (record { value = v; end = length (bytes ++ more) }) ∷ []) []
rest_completes {V = V} first later rows v bytes more have items begin is place e =
    let Q : Reading V → Type 0 = λ r. judge (next_rows first later r.items) 0 (r.rest ++ more) ≡ whole v (length (r.rest ++ more)) in
    let at : judge (next_rows first later items) 0 (have ++ more) ≡ whole v (length (have ++ more)) = ap (λ (x : Rows V). judge x 0 (have ++ more)) place ∙ e in
    let k : 0 + length (bytes ++ more) ≡ length (bytes ++ more) = omega arith in
    let item : ℕ → Item V = λ n. record { value = v; end = n } in
    completes first later 0 v bytes more begin (subst Q (sym is) at)
    ∙ ap (λ (r : Reading V). read_as (r.items ++ item (0 + length (bytes ++ more)) ∷ []) []) is
    ∙ ap (λ n. read_as (items ++ item n ∷ []) []) k

-- the rows after no more items, and after one more
pub same_place : {V : Type 0} (first later rows : Rows V) (items : List (Item V)) → next_rows first later items ≡ rows → next_rows first later (items ++ []) ≡ rows
same_place {V = V} first later rows items e = ap (λ (i : List (Item V)). next_rows first later i) (append-nil items) ∙ e

pub later_place : {V : Type 0} (first later : Rows V) (items : List (Item V)) (item : Item V) → next_rows first later (items ++ item ∷ []) ≡ later
later_place first later items item = next_rows_both first later items (item ∷ [])

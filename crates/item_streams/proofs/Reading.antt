-- The reading of bytes is a reading, and the only one.
use Rattle.std.proofs.Common.{◌≡◌, ℕ, zero, suc, ◌+◌, ◌<◌, ◌≤◌, List, [], ◌∷◌, ◌++◌, length, take, drop, refl, sym, ap, subst, ◌∙◌, arith, length-append}
use Rattle.std.proofs.Math.Seq.{drop-append_seam}
use Rattle.std.proofs.lemmas.List.{take-append-drop, length-drop, length-take-le}
use Rattle.layout.specs.Rows.{Rows, Verdict, whole, short, fault, judge, Fills}
use Rattle.layout.proofs.RowLaws.{filled, is_whole}
use Rattle.item_streams.specs.Streams.{Item, Reading, next_rows, AreItems, IsNotWhole, IsReading, only_rest, with_front, after_front, read_items}
use Rattle.item_streams.proofs.Joining.{not_empty, later_stays}

-- One step of the reading.

read_step : {V : Type 0} (most : ℕ) (first later : Rows V) (place : ℕ) (bytes : List ℕ) → read_items (suc most) first later place bytes
    ≡ after_front (judge first 0 bytes) bytes (λ v n. with_front (record { value = v; end = place + n }) (read_items most later later (place + n) (drop n bytes)))
unfolding read_items
read_step most first later place bytes = refl

read_none : {V : Type 0} (first later : Rows V) (place : ℕ) (bytes : List ℕ) → read_items zero first later place bytes ≡ only_rest bytes
unfolding read_items
read_none first later place bytes = refl

-- What after_front is, by the verdict.

front_rest : {V : Type 0} (verdict : Verdict V) (bytes : List ℕ) (next : V → ℕ → Reading V) → IsNotWhole verdict → after_front verdict bytes next ≡ only_rest bytes
front_rest (whole v n) bytes next unended = absurd unended
front_rest short bytes next unended = refl
front_rest (fault kind place) bytes next unended = refl

pub read_rest : {V : Type 0} (most : ℕ) (first later : Rows V) (place : ℕ) (bytes : List ℕ) → IsNotWhole (judge first 0 bytes) → read_items most first later place bytes ≡ only_rest bytes
read_rest zero first later place bytes unended = read_none first later place bytes
read_rest (suc most) first later place bytes unended = read_step most first later place bytes ∙ front_rest _ bytes _ unended

pub read_front : {V : Type 0} (most : ℕ) (first later : Rows V) (place n : ℕ) (v : V) (bytes : List ℕ) → judge first 0 bytes ≡ whole v n
    → read_items (suc most) first later place bytes ≡ with_front (record { value = v; end = place + n }) (read_items most later later (place + n) (drop n bytes))
read_front {V = V} most first later place n v bytes is =
    let go : V → ℕ → Reading V = λ w m. with_front (record { value = w; end = place + m }) (read_items most later later (place + m) (drop m bytes)) in
    read_step most first later place bytes ∙ ap (λ (u : Verdict V). after_front u bytes go) is

-- It is a reading, by the verdict on the front.

rest_is : {V : Type 0} (first later : Rows V) (place : ℕ) (bytes : List ℕ) → IsNotWhole (judge first 0 bytes) → IsReading first later place bytes (only_rest bytes)
rest_is first later place bytes unended = record { joined = refl; unfinished = unended }

pub front_is : {V : Type 0} (first later : Rows V) (place : ℕ) (v : V) (front more : List ℕ) (r : Reading V) → Fills first v front → IsReading later later (place + length front) more r
    → IsReading first later place (front ++ more) (with_front (record { value = v; end = place + length front }) r)
front_is {V = V} first later place v front more r fills is = record {
  joined = (front, more, refl, fills, refl, is.joined);
  unfinished = subst (λ (rows : Rows V). IsNotWhole (judge rows 0 r.rest)) (later_stays later r.items) is.unfinished;
}

pub front_is_at : {V : Type 0} (first later : Rows V) (place n : ℕ) (v : V) (bytes : List ℕ) (r : Reading V) → n ≤ length bytes → Fills first v (take n bytes)
    → IsReading later later (place + n) (drop n bytes) r → IsReading first later place bytes (with_front (record { value = v; end = place + n }) r)
front_is_at {V = V} first later place n v bytes r le fills is =
    let size : length (take n bytes) ≡ n = length-take-le n bytes le in
    let there = front_is first later place v (take n bytes) (drop n bytes) r fills (subst (λ (k : ℕ). IsReading later later (place + k) (drop n bytes) r) (sym size) is) in
    let at = subst (λ (k : ℕ). IsReading first later place (take n bytes ++ drop n bytes) (with_front (record { value = v; end = place + k }) r)) size there in
    subst (λ (b : List ℕ). IsReading first later place b (with_front (record { value = v; end = place + n }) r)) (take-append-drop n bytes) at

-- the whole item at the front, with its bytes
pub front_of : {V : Type 0} (rows : Rows V) (v : V) (n : ℕ) (bytes : List ℕ) → judge rows 0 bytes ≡ whole v n → (n ≤ length bytes) × Fills rows v (take n bytes)
front_of rows v n bytes is =
    let f = filled rows 0 n v bytes is in
    let same : f.0 ≡ n = omega (arith, f.1) in
    (omega (arith, f.1, f.2), subst (λ (k : ℕ). Fills rows v (take k bytes)) same f.3)

cases_verdict : {V : Type 0} (verdict : Verdict V) (P : Type 0) → ((v : V) (n : ℕ) → verdict ≡ whole v n → P) → (IsNotWhole verdict → P) → P
cases_verdict (whole v n) P item none = item v n refl
cases_verdict short P item none = none tt
cases_verdict (fault kind place) P item none = none tt

pub reads : {V : Type 0} (most : ℕ) (first later : Rows V) (place : ℕ) (bytes : List ℕ) → judge first 0 [] ≡ short → judge later 0 [] ≡ short → length bytes ≤ most
    → IsReading first later place bytes (read_items most first later place bytes)
reads zero first later place [] begins laters le =
    subst (IsReading first later place []) (sym (read_none first later place [])) (rest_is first later place [] (subst IsNotWhole (sym begins) tt))
reads zero first later place (b ∷ bytes) begins laters le = absurd (omega arith)
reads {V = V} (suc most) first later place bytes begins laters le =
    let R : Reading V → Type 0 = IsReading first later place bytes in
    let none : IsNotWhole (judge first 0 bytes) → R (read_items (suc most) first later place bytes) =
    λ unended. subst R (sym (read_rest (suc most) first later place bytes unended)) (rest_is first later place bytes unended) in
    let item : (v : V) (n : ℕ) → judge first 0 bytes ≡ whole v n → R (read_items (suc most) first later place bytes) = λ v n is.
    let f = front_of first v n bytes is in
    let size : length (take n bytes) ≡ n = length-take-le n bytes f.0 in
    let some : 0 < length (take n bytes) = not_empty first v (take n bytes) begins f.1 in
    let more = reads most later later (place + n) (drop n bytes) laters laters (omega (arith, length-drop n bytes, size, some)) in
    subst R (sym (read_front most first later place n v bytes is)) (front_is_at first later place n v bytes (read_items most later later (place + n) (drop n bytes)) f.0 f.1 more) in
    cases_verdict (judge first 0 bytes) (R (read_items (suc most) first later place bytes)) item none

-- And the only one.

pub only : {V : Type 0} (most : ℕ) (first later : Rows V) (place : ℕ) (items : List (Item V)) (rest bytes : List ℕ) → judge first 0 [] ≡ short → judge later 0 [] ≡ short → length bytes ≤ most
    → AreItems first later place items rest bytes → IsNotWhole (judge (next_rows first later items) 0 rest) → read_items most first later place bytes ≡ record { items = items; rest = rest }
only {V = V} most first later place [] rest bytes begins laters le is unended =
    read_rest most first later place bytes (subst (λ (b : List ℕ). IsNotWhole (judge first 0 b)) (sym is) unended) ∙ ap (λ (b : List ℕ). only_rest b) is
only zero first later place (item ∷ items) rest bytes begins laters le (front, more, is, fills, at, others) unended =
    absurd (omega (arith, not_empty first item.value front begins fills, ap length is, length-append front more))
only {V = V} (suc most) first later place (item ∷ items) rest bytes begins laters le (front, more, is, fills, at, others) unended =
    let plus : 0 + length front ≡ length front = omega arith in
    let whole_front : judge first 0 bytes ≡ whole item.value (length front) = ap (λ (b : List ℕ). judge first 0 b) is ∙ is_whole first 0 item.value front more fills ∙ ap (λ (k : ℕ). whole item.value k) plus in
    let tail : drop (length front) bytes ≡ more = ap (λ (b : List ℕ). drop (length front) b) is ∙ drop-append_seam front more in
    let few : length more ≤ most = omega (arith, not_empty first item.value front begins fills, ap length is, length-append front more) in
    let end_open : IsNotWhole (judge (next_rows later later items) 0 rest) = subst (λ (rows : Rows V). IsNotWhole (judge rows 0 rest)) (sym (later_stays later items)) unended in
    let there = only most later later item.end items rest more laters laters few others end_open in
    read_front most first later place (length front) item.value bytes whole_front
    ∙ ap (λ (b : List ℕ). with_front (record { value = item.value; end = place + length front }) (read_items most later later (place + length front) b)) tail
    ∙ ap (λ (k : ℕ). with_front (record { value = item.value; end = k }) (read_items most later later k more)) (sym at)
    ∙ ap (λ (r : Reading V). with_front item r) there

-- The laws of streams.
use Rattle.std.proofs.Common.{◌≡◌, ℕ, zero, suc, ◌+◌, ◌⊎◌, inl, inr, List, [], ◌∷◌, ◌++◌, length, drop, refl, sym, ap, subst, ◌∙◌, append-nil, arith, length-append}
use Rattle.std.proofs.Math.Seq.{drop-append_seam}
use Rattle.avl_values.specs.declared.fault.FaultKind.{FaultKind}
use Rattle.layout.specs.Rows.{Rows, Verdict, whole, short, fault, judge}
use Rattle.layout.proofs.RowLaws.{stays}
use Rattle.item_streams.specs.Streams.{Item, Reading, values, next_rows, place_after, AreItems, IsNotWhole, only_rest, with_front, with_items, after_front, read_items, reading_of}
use Rattle.item_streams.specs.Laws.{AreStreamRows, EachHasReading, OneReading, StreamsCompose, PrefixHasPrefix, RestIsNotWhole, RestGrows, RestCompletes, NoneIsEmpty, FaultEndsStream, FrontIsRead, NothingIsRead, ItemAloneIsRead, PlacesAddUp, PlaceSaysNothing}
use Rattle.item_streams.proofs.Joining.{not_empty, items_then, next_rows_both}
use Rattle.item_streams.proofs.Reading.{reads, only, read_rest, front_is_at, front_of}

pub has_reading : {V : Type 0} → EachHasReading V
has_reading first later place bytes rows = reads (length bytes) first later place bytes rows.first_begins rows.later_begins (omega arith)

pub one_reading : {V : Type 0} → OneReading V
one_reading first later place bytes reading rows is =
    sym (only (length bytes) first later place reading.items reading.rest bytes rows.first_begins rows.later_begins (omega arith) is.joined is.unfinished)

pub none_empty : {V : Type 0} → NoneIsEmpty V
none_empty rows v bytes begins fills = not_empty rows v bytes begins fills

-- the rows after some items begin with bytes, too
pub rows_begin : {V : Type 0} (first later : Rows V) (items : List (Item V)) → AreStreamRows first later → AreStreamRows (next_rows first later items) later
rows_begin first later [] rows = rows
rows_begin first later (item ∷ items) rows = record { first_begins = rows.later_begins; later_begins = rows.later_begins }

pub compose : {V : Type 0} → StreamsCompose V
compose {V = V} first later place bytes more rows =
    let before : Reading V = reading_of first later place bytes in
    let next : Rows V = next_rows first later before.items in
    let after : Reading V = reading_of next later (place_after place before.items) (before.rest ++ more) in
    let is = has_reading first later place bytes rows in
    let goes_on = has_reading next later (place_after place before.items) (before.rest ++ more) (rows_begin first later before.items rows) in
    let joined = items_then first later place before.items after.items before.rest more after.rest bytes is.joined goes_on.joined in
    let unended : IsNotWhole (judge (next_rows first later (before.items ++ after.items)) 0 after.rest) =
    subst (λ (r : Rows V). IsNotWhole (judge r 0 after.rest)) (sym (next_rows_both first later before.items after.items)) goes_on.unfinished in
    sym (one_reading first later place (bytes ++ more) (with_items before.items after) rows (record { joined = joined; unfinished = unended }))

pub prefix : {V : Type 0} → PrefixHasPrefix V
prefix {V = V} first later place bytes more rows =
    let before : Reading V = reading_of first later place bytes in (
      (reading_of (next_rows first later before.items) later (place_after place before.items) (before.rest ++ more)).items,
      ap (λ (r : Reading V). r.items) (compose first later place bytes more rows),
    )

short_or_fault : {V : Type 0} (verdict : Verdict V) → IsNotWhole verdict → (verdict ≡ short) ⊎ ((kind : FaultKind) × (at : ℕ) × (verdict ≡ fault kind at))
short_or_fault (whole v n) unended = absurd unended
short_or_fault short unended = inl refl
short_or_fault (fault kind place) unended = inr (kind, place, refl)

pub rest_not_whole : {V : Type 0} → RestIsNotWhole V
rest_not_whole first later place bytes rows = short_or_fault _ (has_reading first later place bytes rows).unfinished

pub grows : {V : Type 0} → RestGrows V
grows {V = V} first later place bytes more rows unended =
    let before : Reading V = reading_of first later place bytes in
    let next : Rows V = next_rows first later before.items in
    let nothing : reading_of next later (place_after place before.items) (before.rest ++ more) ≡ only_rest (before.rest ++ more) =
    read_rest (length (before.rest ++ more)) next later (place_after place before.items) (before.rest ++ more) unended in
    let none : List (Item V) → Reading V = λ xs. record { items = xs; rest = before.rest ++ more } in
    compose first later place bytes more rows ∙ ap (λ (r : Reading V). with_items before.items r) nothing ∙ ap none (append-nil before.items)

-- A fault stays, and nothing is read after it.

fault_not_short : {V : Type 0} (verdict : Verdict V) (kind : FaultKind) (at : ℕ) → verdict ≡ fault kind at → verdict ≡ short → ⊥
fault_not_short verdict kind at is e = absurd (cc)

fault_not_whole : {V : Type 0} (verdict : Verdict V) (kind : FaultKind) (at : ℕ) → verdict ≡ fault kind at → IsNotWhole verdict
fault_not_whole verdict kind at is = subst IsNotWhole (sym is) tt

pub fault_ends : {V : Type 0} → FaultEndsStream V
fault_ends {V = V} first later place bytes more kind at rows is =
    let before : Reading V = reading_of first later place bytes in
    let next : Rows V = next_rows first later before.items in
    let still : judge next 0 (before.rest ++ more) ≡ fault kind at = stays next 0 before.rest more (fault_not_short _ kind at is) ∙ is in
    (grows first later place bytes more rows (fault_not_whole _ kind at still), still)

-- An item at the front.

pub front_read : {V : Type 0} → FrontIsRead V
front_read {V = V} first later place n v bytes rows is =
    let f = front_of first v n bytes is in
    let next : Reading V = reading_of later later (place + n) (drop n bytes) in
    let there = has_reading later later (place + n) (drop n bytes) (record { first_begins = rows.later_begins; later_begins = rows.later_begins }) in
    sym (one_reading first later place bytes (with_front (record { value = v; end = place + n }) next) rows (front_is_at first later place n v bytes next f.0 f.1 there))

pub nothing_read : {V : Type 0} → NothingIsRead V
nothing_read first later place bytes unended = read_rest (length bytes) first later place bytes unended

pub alone_read : {V : Type 0} → ItemAloneIsRead V
alone_read {V = V} first later place v bytes rows is =
    let item : Item V = record { value = v; end = place + length bytes } in
    let none : drop (length bytes) bytes ≡ [] = ap (λ (b : List ℕ). drop (length bytes) b) (sym (append-nil bytes)) ∙ drop-append_seam bytes [] in
    front_read first later place (length bytes) v bytes rows is
    ∙ ap (λ (b : List ℕ). with_front item (reading_of later later item.end b)) none
    ∙ ap (λ (r : Reading V). with_front item r) (read_rest (length {A = ℕ} []) later later item.end [] (subst IsNotWhole (sym rows.later_begins) tt))

-- The places.

items_add_up : {V : Type 0} (first later : Rows V) (place : ℕ) (items : List (Item V)) (rest bytes : List ℕ) → AreItems first later place items rest bytes
    → place_after place items + length rest ≡ place + length bytes
items_add_up first later place [] rest bytes is = omega (arith, ap length is)
items_add_up first later place (item ∷ items) rest bytes (front, more, is, fills, at, others) =
    omega (arith, items_add_up later later item.end items rest more others, ap length is, length-append front more, at)

pub add_up : {V : Type 0} → PlacesAddUp V
add_up first later place bytes rows =
    items_add_up first later place (reading_of first later place bytes).items (reading_of first later place bytes).rest bytes (has_reading first later place bytes rows).joined

pub completes : {V : Type 0} → RestCompletes V
completes {V = V} first later place v bytes more rows is =
    let before : Reading V = reading_of first later place bytes in
    let next : Rows V = next_rows first later before.items in
    let q = place_after place before.items in
    let end : q + length (before.rest ++ more) ≡ place + length (bytes ++ more) =
    omega (arith, length-append before.rest more, length-append bytes more, add_up first later place bytes rows) in
    let one : ℕ → Reading V = λ n. record { items = before.items ++ (record { value = v; end = n }) ∷ []; rest = [] } in
    compose first later place bytes more rows
    ∙ ap (λ (r : Reading V). with_items before.items r) (alone_read next later q v (before.rest ++ more) (rows_begin first later before.items rows) is)
    ∙ ap one end

-- The place says nothing.

abbrev SaySame : {V : Type 0} → Reading V → Reading V → Type 0
SaySame a b = (values a.items ≡ values b.items) × (a.rest ≡ b.rest)

same_after : {V : Type 0} (verdict : Verdict V) (bytes : List ℕ) (f g : V → ℕ → Reading V) → ((v : V) (n : ℕ) → SaySame (f v n) (g v n)) → SaySame (after_front verdict bytes f) (after_front verdict bytes g)
same_after (whole v n) bytes f g same = same v n
same_after short bytes f g same = (refl, refl)
same_after (fault kind place) bytes f g same = (refl, refl)

same_front : {V : Type 0} (v : V) (p q : ℕ) (a b : Reading V) → SaySame a b → SaySame (with_front (record { value = v; end = p }) a) (with_front (record { value = v; end = q }) b)
same_front {V = V} v p q a b same = (ap (λ (vs : List V). v ∷ vs) same.0, same.1)

same_items : {V : Type 0} (most : ℕ) (first later : Rows V) (p q : ℕ) (bytes : List ℕ) → SaySame (read_items most first later p bytes) (read_items most first later q bytes)
unfolding read_items
same_items zero first later p q bytes = (refl, refl)
same_items (suc most) first later p q bytes =
    same_after (judge first 0 bytes) bytes _ _ (λ v n. same_front v (p + n) (q + n) _ _ (same_items most later later (p + n) (q + n) (drop n bytes)))

pub same_values : {V : Type 0} → PlaceSaysNothing V
same_values first later place other bytes = same_items (length bytes) first later place other bytes

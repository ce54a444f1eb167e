-- The verdict on an item that holds a body.
use Rattle.std.proofs.Common.{◌≡◌, ℕ, ◌+◌, ◌-◌, ◌<◌, ◌≤◌, ◌⊎◌, inl, inr, List, [], ◌++◌, length, take, drop, Option, Some, None, refl, sym, ap, subst, ◌∙◌, arith, length-drop, append_assoc, add_assoc}
use Rattle.std.proofs.Math.Seq.{take-add}
use Rattle.std.proofs.lemmas.Bool.{cases_lt}
use Rattle.std.proofs.lemmas.List.{append-nil, drop-drop}
use Rattle.avl_values.specs.declared.fault.FaultKind.{FaultKind}
use Rattle.avl_values.specs.declared.fault.FaultKind.TheVariants.{Overrun, Excess}
use Rattle.layout.specs.Rows.{Rows, done, refuse, row, Verdict, whole, short, fault, judge, unless_fault, within, body}
use Rattle.layout.specs.Nested.{with_bytes, and_then, moved}
use Rattle.layout.proofs.Judging.{judge_short, judge_long, judge_done, judge_refuse, within_full, within_excess, within_refuse, within_overrun, within_row}

-- A verdict further on.

moved_unless : {V : Type 0} (by place : ℕ) (found : Option FaultKind) (v : Verdict V) → unless_fault found (by + place) (moved by v) ≡ moved by (unless_fault found place v)
moved_unless by place None v = refl
moved_unless by place (Some kind) v = refl

moved_row : {V : Type 0} (by width : ℕ) (rule : List ℕ → Option FaultKind) (rest : List ℕ → Rows V) (place : ℕ) (bytes : List ℕ)
    → ((field : List ℕ) (p : ℕ) (xs : List ℕ) → judge (rest field) (by + p) xs ≡ moved by (judge (rest field) p xs)) → (length bytes < width) ⊎ (width ≤ length bytes)
    → judge (row width rule rest) (by + place) bytes ≡ moved by (judge (row width rule rest) place bytes)
moved_row by width rule rest place bytes ih (inl few) = judge_short width rule rest (by + place) bytes few ∙ ap (λ v. moved by v) (sym (judge_short width rule rest place bytes few))
moved_row by width rule rest place bytes ih (inr fits) =
    let f = take width bytes in
    let xs = drop width bytes in
    judge_long width rule rest (by + place) bytes fits
    ∙ ap (λ p. unless_fault (rule f) (by + place) (judge (rest f) p xs)) (add_assoc by place width)
    ∙ ap (λ v. unless_fault (rule f) (by + place) v) (ih f (place + width) xs)
    ∙ moved_unless by place (rule f) (judge (rest f) (place + width) xs)
    ∙ ap (λ v. moved by v) (sym (judge_long width rule rest place bytes fits))

pub judge_moved : {V : Type 0} (rows : Rows V) (by place : ℕ) (bytes : List ℕ) → judge rows (by + place) bytes ≡ moved by (judge rows place bytes)
judge_moved (done v) by place bytes = judge_done v (by + place) bytes ∙ ap (λ w. moved by w) (sym (judge_done v place bytes))
judge_moved (refuse kind) by place bytes = judge_refuse kind (by + place) bytes ∙ ap (λ w. moved by w) (sym (judge_refuse kind place bytes))
judge_moved (row width rule rest) by place bytes = moved_row by width rule rest place bytes (λ field p xs. judge_moved (rest field) by p xs) (cases_lt (length bytes) width)

-- The verdict on a body and what follows it is the body's verdict, and then that on what follows. The rows may say their
-- bytes besides.

abbrev Nests : {V W : Type 0} → Rows V → ℕ → List ℕ → (V × List ℕ → Rows W) → ℕ → List ℕ → Type 0
Nests rows room seen after place bytes = judge (within room (with_bytes seen rows) after) place bytes
    ≡ and_then (judge (body room rows) place bytes) (λ v n. judge (after (v, seen ++ take room bytes)) (place + room) (drop room bytes))

and_then_unless : {V W : Type 0} (found : Option FaultKind) (place : ℕ) (v : Verdict V) (next : V → ℕ → Verdict W) → unless_fault found place (and_then v next) ≡ and_then (unless_fault found place v) next
and_then_unless None place v next = refl
and_then_unless (Some kind) place v next = refl

and_then_same : {V W : Type 0} (v : Verdict V) (one other : V → ℕ → Verdict W) → ((x : V) (n : ℕ) → one x n ≡ other x n) → and_then v one ≡ and_then v other
and_then_same (whole x n) one other same = same x n
and_then_same short one other same = refl
and_then_same (fault kind place) one other same = refl

nests_full : {V W : Type 0} (v : V) (room : ℕ) (seen : List ℕ) (after : V × List ℕ → Rows W) (place : ℕ) (bytes : List ℕ) → room ≡ 0 → Nests (done v) room seen after place bytes
unfolding with_bytes
nests_full {V} {W} v room seen after place bytes none =
    let P : ℕ → Type 0 = λ r. Nests (done v) r seen after place bytes in
    let next : V → ℕ → Verdict W = λ x n. judge (after (x, seen ++ take 0 bytes)) (place + 0) (drop 0 bytes) in
    let left : judge (within 0 (done (v, seen)) after) place bytes ≡ judge (after (v, seen)) place bytes = ap (λ r. judge r place bytes) (within_full (v, seen) after) in
    let right : judge (body 0 (done v)) place bytes ≡ whole v place = ap (λ r. judge r place bytes) (within_full v (λ x. done x)) ∙ judge_done v place bytes in
    let at : place ≡ place + 0 = omega arith in
    subst P (sym none) (left ∙ ap (λ s. judge (after (v, s)) place bytes) (sym (append-nil seen)) ∙ ap (λ p. judge (after (v, seen ++ [])) p bytes) at ∙ sym (ap (λ u. and_then u next) right))

nests_excess : {V W : Type 0} (v : V) (room : ℕ) (seen : List ℕ) (after : V × List ℕ → Rows W) (place : ℕ) (bytes : List ℕ) → 0 < room → Nests (done v) room seen after place bytes
unfolding with_bytes
nests_excess {V} {W} v room seen after place bytes some =
    let next : V → ℕ → Verdict W = λ x n. judge (after (x, seen ++ take room bytes)) (place + room) (drop room bytes) in
    ap (λ r. judge r place bytes) (within_excess room (v, seen) after some) ∙ judge_refuse Excess place bytes
    ∙ sym (ap (λ u. and_then u next) (ap (λ r. judge r place bytes) (within_excess room v (λ x. done x) some) ∙ judge_refuse Excess place bytes))

nests_refuse : {V W : Type 0} (kind : FaultKind) (room : ℕ) (seen : List ℕ) (after : V × List ℕ → Rows W) (place : ℕ) (bytes : List ℕ) → Nests (refuse kind) room seen after place bytes
unfolding with_bytes
nests_refuse {V} {W} kind room seen after place bytes =
    let next : V → ℕ → Verdict W = λ x n. judge (after (x, seen ++ take room bytes)) (place + room) (drop room bytes) in
    ap (λ r. judge r place bytes) (within_refuse room kind after) ∙ judge_refuse kind place bytes
    ∙ sym (ap (λ u. and_then u next) (ap (λ r. judge r place bytes) (within_refuse room kind (λ x. done x)) ∙ judge_refuse kind place bytes))

nests_over : {V W : Type 0} (room width : ℕ) (rule : List ℕ → Option FaultKind) (rest : List ℕ → Rows V) (seen : List ℕ) (after : V × List ℕ → Rows W) (place : ℕ) (bytes : List ℕ) → room < width
    → Nests (row width rule rest) room seen after place bytes
unfolding with_bytes
nests_over {V} {W} room width rule rest seen after place bytes over =
    let next : V → ℕ → Verdict W = λ x n. judge (after (x, seen ++ take room bytes)) (place + room) (drop room bytes) in
    ap (λ r. judge r place bytes) (within_overrun room width rule (λ field. with_bytes (seen ++ field) (rest field)) after over) ∙ judge_refuse Overrun place bytes
    ∙ sym (ap (λ u. and_then u next) (ap (λ r. judge r place bytes) (within_overrun room width rule rest (λ x. done x) over) ∙ judge_refuse Overrun place bytes))

nests_short : {V W : Type 0} (room width : ℕ) (rule : List ℕ → Option FaultKind) (rest : List ℕ → Rows V) (seen : List ℕ) (after : V × List ℕ → Rows W) (place : ℕ) (bytes : List ℕ) → width ≤ room → length bytes < width
    → Nests (row width rule rest) room seen after place bytes
unfolding with_bytes
nests_short {V} {W} room width rule rest seen after place bytes fits few =
    let next : V → ℕ → Verdict W = λ x n. judge (after (x, seen ++ take room bytes)) (place + room) (drop room bytes) in
    ap (λ r. judge r place bytes) (within_row room width rule (λ field. with_bytes (seen ++ field) (rest field)) after fits) ∙ judge_short width rule _ place bytes few
    ∙ sym (ap (λ u. and_then u next) (ap (λ r. judge r place bytes) (within_row room width rule rest (λ x. done x) fits) ∙ judge_short width rule _ place bytes few))

nests_long : {V W : Type 0} (room width : ℕ) (rule : List ℕ → Option FaultKind) (rest : List ℕ → Rows V) (seen : List ℕ) (after : V × List ℕ → Rows W) (place : ℕ) (bytes : List ℕ)
    → ((field : List ℕ) (r : ℕ) (s : List ℕ) (p : ℕ) (xs : List ℕ) → Nests (rest field) r s after p xs) → width ≤ room → width ≤ length bytes
    → Nests (row width rule rest) room seen after place bytes
unfolding with_bytes
nests_long {V} {W} room width rule rest seen after place bytes ih fits long =
    let f = take width bytes in
    let xs = drop width bytes in
    let next : V → ℕ → Verdict W = λ x n. judge (after (x, seen ++ take room bytes)) (place + room) (drop room bytes) in
    let later : V → ℕ → Verdict W = λ x n. judge (after (x, (seen ++ f) ++ take (room - width) xs)) (place + width + (room - width)) (drop (room - width) xs) in
    let k : width + (room - width) ≡ room = omega arith in
    let p : place + width + (room - width) ≡ place + room = omega arith in
    let s : (seen ++ f) ++ take (room - width) xs ≡ seen ++ take room bytes = append_assoc seen f _ ∙ ap (λ t. seen ++ t) (sym (take-add width (room - width) bytes) ∙ ap (λ n. take n bytes) k) in
    let d : drop (room - width) xs ≡ drop room bytes = drop-drop (room - width) width bytes ∙ ap (λ n. drop n bytes) k in
    let joined : (x : V) (n : ℕ) → later x n ≡ next x n = λ x n. ap (λ t. judge (after (x, t)) (place + width + (room - width)) (drop (room - width) xs)) s
    ∙ ap (λ q. judge (after (x, seen ++ take room bytes)) q (drop (room - width) xs)) p ∙ ap (λ q. judge (after (x, seen ++ take room bytes)) (place + room) q) d in
    let inner = judge (body (room - width) (rest f)) (place + width) xs in
    let left : judge (within room (with_bytes seen (row width rule rest)) after) place bytes ≡ unless_fault (rule f) place (and_then inner later) =
    ap (λ r. judge r place bytes) (within_row room width rule (λ field. with_bytes (seen ++ field) (rest field)) after fits) ∙ judge_long width rule _ place bytes long
    ∙ ap (λ v. unless_fault (rule f) place v) (ih f (room - width) (seen ++ f) (place + width) xs) in
    let right : judge (body room (row width rule rest)) place bytes ≡ unless_fault (rule f) place inner =
    ap (λ r. judge r place bytes) (within_row room width rule rest (λ x. done x) fits) ∙ judge_long width rule _ place bytes long in
    left ∙ ap (λ v. unless_fault (rule f) place v) (and_then_same inner later next joined) ∙ and_then_unless (rule f) place inner next ∙ sym (ap (λ u. and_then u next) right)

nests_row : {V W : Type 0} (room width : ℕ) (rule : List ℕ → Option FaultKind) (rest : List ℕ → Rows V) (seen : List ℕ) (after : V × List ℕ → Rows W) (place : ℕ) (bytes : List ℕ)
    → ((field : List ℕ) (r : ℕ) (s : List ℕ) (p : ℕ) (xs : List ℕ) → Nests (rest field) r s after p xs) → (room < width) ⊎ (width ≤ room) → (length bytes < width) ⊎ (width ≤ length bytes)
    → Nests (row width rule rest) room seen after place bytes
nests_row room width rule rest seen after place bytes ih (inl over) any = nests_over room width rule rest seen after place bytes over
nests_row room width rule rest seen after place bytes ih (inr fits) (inl few) = nests_short room width rule rest seen after place bytes fits few
nests_row room width rule rest seen after place bytes ih (inr fits) (inr long) = nests_long room width rule rest seen after place bytes ih fits long

nests_done : {V W : Type 0} (v : V) (room : ℕ) (seen : List ℕ) (after : V × List ℕ → Rows W) (place : ℕ) (bytes : List ℕ) → (0 < room) ⊎ (room ≤ 0) → Nests (done v) room seen after place bytes
nests_done v room seen after place bytes (inl some) = nests_excess v room seen after place bytes some
nests_done v room seen after place bytes (inr none) = nests_full v room seen after place bytes (omega arith)

pub judge_within : {V W : Type 0} (rows : Rows V) (room : ℕ) (seen : List ℕ) (after : V × List ℕ → Rows W) (place : ℕ) (bytes : List ℕ) → Nests rows room seen after place bytes
judge_within (done v) room seen after place bytes = nests_done v room seen after place bytes (cases_lt 0 room)
judge_within (refuse kind) room seen after place bytes = nests_refuse kind room seen after place bytes
judge_within (row width rule rest) room seen after place bytes =
    nests_row room width rule rest seen after place bytes (λ field r s p xs. judge_within (rest field) r s after p xs) (cases_lt room width) (cases_lt (length bytes) width)

-- A body that is short has fewer bytes than its length.

short_unless : {V : Type 0} (found : Option FaultKind) (place : ℕ) (v : Verdict V) → unless_fault found place v ≡ short → v ≡ short
short_unless None place v e = e
short_unless (Some kind) place v e = absurd (cc)

short_long : {V : Type 0} (room width : ℕ) (rule : List ℕ → Option FaultKind) (rest : List ℕ → Rows V) (place : ℕ) (bytes : List ℕ)
    → ((field : List ℕ) (r p : ℕ) (xs : List ℕ) → judge (body r (rest field)) p xs ≡ short → length xs < r) → width ≤ room → judge (body room (row width rule rest)) place bytes ≡ short
    → (length bytes < width) ⊎ (width ≤ length bytes) → length bytes < room
short_long room width rule rest place bytes ih fits is (inl few) = omega arith
short_long room width rule rest place bytes ih fits is (inr long) =
    let rows = within_row room width rule rest (λ x. done x) fits in
    let inner = short_unless (rule (take width bytes)) place _ (sym (ap (λ r. judge r place bytes) rows ∙ judge_long width rule _ place bytes long) ∙ is) in
    omega (arith, ih (take width bytes) (room - width) (place + width) (drop width bytes) inner, length-drop width bytes)

short_row : {V : Type 0} (room width : ℕ) (rule : List ℕ → Option FaultKind) (rest : List ℕ → Rows V) (place : ℕ) (bytes : List ℕ)
    → ((field : List ℕ) (r p : ℕ) (xs : List ℕ) → judge (body r (rest field)) p xs ≡ short → length xs < r) → judge (body room (row width rule rest)) place bytes ≡ short
    → (room < width) ⊎ (width ≤ room) → length bytes < room
short_row room width rule rest place bytes ih is (inl over) =
    let e = ap (λ r. judge r place bytes) (within_overrun room width rule rest (λ x. done x) over) ∙ judge_refuse Overrun place bytes in absurd (cc)
short_row room width rule rest place bytes ih is (inr fits) = short_long room width rule rest place bytes ih fits is (cases_lt (length bytes) width)

short_done : {V : Type 0} (room : ℕ) (v : V) (place : ℕ) (bytes : List ℕ) → judge (body room (done v)) place bytes ≡ short → (0 < room) ⊎ (room ≤ 0) → length bytes < room
short_done room v place bytes is (inl some) = let e = ap (λ r. judge r place bytes) (within_excess room v (λ x. done x) some) ∙ judge_refuse Excess place bytes in absurd (cc)
short_done room v place bytes is (inr none) =
    let zero_room : room ≡ 0 = omega arith in
    let e = ap (λ n. judge (body n (done v)) place bytes) zero_room ∙ ap (λ r. judge r place bytes) (within_full v (λ x. done x)) ∙ judge_done v place bytes in absurd (cc)

pub body_short : {V : Type 0} (rows : Rows V) (room place : ℕ) (bytes : List ℕ) → judge (body room rows) place bytes ≡ short → length bytes < room
body_short (done v) room place bytes is = short_done room v place bytes is (cases_lt 0 room)
body_short {V = V} (refuse kind) room place bytes is = let e : judge (body {V = V} room (refuse kind)) place bytes ≡ fault kind place = ap (λ r. judge r place bytes) (within_refuse room kind (λ x. done x)) ∙ judge_refuse kind place bytes in absurd (cc)
body_short (row width rule rest) room place bytes is = short_row room width rule rest place bytes (λ field r p xs. body_short (rest field) r p xs) is (cases_lt room width)

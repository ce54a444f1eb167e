-- What fills rows that say something else, and the verdicts on them.
use Rattle.std.proofs.Common.{◌≡◌, ℕ, ◌+◌, ◌-◌, ◌<◌, ◌≤◌, ◌==◌, ◌⊎◌, inl, inr, Bool, true, false, List, length, take, drop, Option, Some, None, refl, sym, ap, ◌∙◌, if◌then◌else◌}
use Rattle.std.specs.Prelude.{nat_lt}
use mathlib.Core.Path.{fun_ext}
use Rattle.std.proofs.lemmas.Bool.{cases_lt}
use Rattle.avl_values.specs.declared.fault.FaultKind.{FaultKind}
use Rattle.avl_values.specs.declared.fault.FaultKind.TheVariants.{Excess, Overrun}
use Rattle.layout.specs.Fields.{followed_by}
use Rattle.layout.specs.Rows.{Rows, done, refuse, row, Verdict, whole, short, fault, judge, unless_fault, within, body, Fills}
use Rattle.layout.specs.MappedRows.{map_value, map_verdict}
use Rattle.layout.proofs.Judging.{judge_done, judge_long, judge_refuse, judge_short}

pub map_fill : {V W : Type 0} (says : V → W) (rows : Rows V) (v : V) (bytes : List ℕ) → Fills rows v bytes → Fills (map_value says rows) (says v) bytes
unfolding followed_by Fills
map_fill says (done w) v bytes (same, none) = (ap says same, none)
map_fill says (refuse kind) v bytes fills = absurd fills
map_fill says (row width rule rest) v bytes (field, more, is, len, passes, fills) = (field, more, is, len, passes, map_fill says (rest field) v more fills)

pub map_take : {V W : Type 0} (says : V → W) (rows : Rows V) (w : W) (bytes : List ℕ) → Fills (map_value says rows) w bytes → (v : V) × (says v ≡ w) × Fills rows v bytes
unfolding followed_by Fills
map_take says (done v) w bytes (same, none) = (v, same, (refl, none))
map_take says (refuse kind) w bytes fills = absurd fills
map_take says (row width rule rest) w bytes (field, more, is, len, passes, fills) =
    let inner = map_take says (rest field) w more fills in (inner.0, inner.1, (field, more, is, len, passes, inner.2))

map_unless : {V W : Type 0} (says : V → W) (found : Option FaultKind) (place : ℕ) (v : Verdict V) → unless_fault found place (map_verdict says v) ≡ map_verdict says (unless_fault found place v)
map_unless says None place v = refl
map_unless says (Some kind) place v = refl

map_row : {V W : Type 0} (says : V → W) (width : ℕ) (rule : List ℕ → Option FaultKind) (rest : List ℕ → Rows V) (place : ℕ) (bytes : List ℕ)
    → ((field : List ℕ) (p : ℕ) (xs : List ℕ) → judge (map_value says (rest field)) p xs ≡ map_verdict says (judge (rest field) p xs)) → (length bytes < width) ⊎ (width ≤ length bytes)
    → judge (row width rule (λ field. map_value says (rest field))) place bytes ≡ map_verdict says (judge (row width rule rest) place bytes)
map_row says width rule rest place bytes ih (inl few) = judge_short width rule _ place bytes few ∙ ap (λ v. map_verdict says v) (sym (judge_short width rule rest place bytes few))
map_row says width rule rest place bytes ih (inr fits) =
    let f = take width bytes in
    let xs = drop width bytes in
    judge_long width rule (λ field. map_value says (rest field)) place bytes fits
    ∙ ap (λ v. unless_fault (rule f) place v) (ih f (place + width) xs)
    ∙ map_unless says (rule f) place (judge (rest f) (place + width) xs)
    ∙ ap (λ v. map_verdict says v) (sym (judge_long width rule rest place bytes fits))

pub map_judged : {V W : Type 0} (says : V → W) (rows : Rows V) (place : ℕ) (bytes : List ℕ) → judge (map_value says rows) place bytes ≡ map_verdict says (judge rows place bytes)
unfolding followed_by
map_judged says (done v) place bytes = judge_done (says v) place bytes ∙ ap (λ w. map_verdict says w) (sym (judge_done v place bytes))
map_judged says (refuse kind) place bytes = judge_refuse kind place bytes ∙ ap (λ w. map_verdict says w) (sym (judge_refuse kind place bytes))
map_judged says (row width rule rest) place bytes = map_row says width rule rest place bytes (λ field p xs. map_judged says (rest field) p xs) (cases_lt (length bytes) width)

-- a body that says something else

map_full : {V W : Type 0} (says : V → W) (v : V) (b : Bool) → (if b then done (says v) else refuse Excess) ≡ map_value says (if b then done v else refuse Excess)
unfolding followed_by
map_full says v true = refl
map_full says v false = refl

map_over : {V W : Type 0} (says : V → W) (width : ℕ) (rule : List ℕ → Option FaultKind) (one : List ℕ → Rows W) (other : List ℕ → Rows V) (b : Bool) → ((field : List ℕ) → one field ≡ map_value says (other field))
    → (if b then refuse Overrun else row width rule one) ≡ map_value says (if b then refuse Overrun else row width rule other)
unfolding followed_by
map_over says width rule one other true each = refl
map_over {W = W} says width rule one other false each = ap (λ (rest : List ℕ → Rows W). row width rule rest) (fun_ext each)

pub map_body : {V W : Type 0} (says : V → W) (rows : Rows V) (room : ℕ) → body room (map_value says rows) ≡ map_value says (body room rows)
unfolding followed_by within
map_body says (done v) room = map_full says v (room == 0)
map_body says (refuse kind) room = refl
map_body says (row width rule rest) room =
    map_over says width rule (λ field. body (room - width) (map_value says (rest field))) (λ field. body (room - width) (rest field)) (nat_lt room width) (λ field. map_body says (rest field) (room - width))

pub map_body_judged : {V W : Type 0} (says : V → W) (rows : Rows V) (room place : ℕ) (bytes : List ℕ) → judge (body room (map_value says rows)) place bytes ≡ map_verdict says (judge (body room rows) place bytes)
map_body_judged says rows room place bytes = ap (λ r. judge r place bytes) (map_body says rows room) ∙ map_judged says (body room rows) place bytes

pub map_short : {V W : Type 0} (says : V → W) (v : Verdict V) → map_verdict says v ≡ short → v ≡ short
map_short says (whole v n) e = absurd (cc)
map_short says short e = refl
map_short says (fault kind place) e = absurd (cc)

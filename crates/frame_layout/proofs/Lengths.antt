-- What is short has few bytes, and what is empty is short.
use Rattle.std.proofs.Common.{◌≡◌, ℕ, zero, suc, ◌+◌, ◌-◌, ◌*◌, ◌<◌, ◌≤◌, ◌⊎◌, inl, inr, ◌&&◌, ◌==◌, Bool, true, false, List, [], ◌++◌, length, take, drop, Option, Some, None, refl, sym, ◌∙◌, arith, length-drop, if◌then◌else◌}
use Rattle.std.specs.Prelude.{nat_le}
use Rattle.std.proofs.lemmas.Bool.{cases_lt}
use Rattle.std.proofs.lemmas.Bool.Decides.{nat_tests}
use Rattle.avl_values.specs.Imei.{is_digit}
use Rattle.avl_values.specs.declared.fault.FaultKind.{FaultKind}
use Rattle.avl_values.specs.declared.fault.FaultKind.TheVariants.{CrcHigh, CrcMismatch, Length, LoginDigit, LoginLength, Preamble}
use Rattle.crc_field.specs.Crc.{crc_of}
use Rattle.layout.specs.Fields.{fault_unless, followed_by, number}
use Rattle.layout.specs.Nested.{and_then}
use Rattle.layout.specs.Rows.{Rows, done, row, Verdict, whole, short, fault, judge, unless_fault, body}
use Rattle.layout.proofs.Judging.{judge_done, judge_long, judge_short}
use Rattle.layout.proofs.NestedLaws.{body_short, judge_within}
use Rattle.layout.proofs.MappedLaws.{map_judged, map_short}
use Rattle.record_layout.proofs.Fitting.{passed}
use Rattle.command_layout.specs.declared.way.Way.TheVariants.{Up, Down}
use Rattle.frame_layout.specs.DownRows.{answer_rows, count_rows, down_rows, order_rows}
use Rattle.frame_layout.specs.FrameBodies.{body_kind_rows}
use Rattle.frame_layout.specs.FrameRows.{body_rows, crc_low_rows, crc_rows, frame_rows, length_rows}
use Rattle.frame_layout.specs.Logins.{digit_rows, login_rows}
use Rattle.frame_layout.specs.UpRows.{login_end, up_frame_rows, up_rows}
use Rattle.frame_layout.specs.Values.{DownValue, UpValue, answer, count, frame_value, login, order}
use Rattle.frame_layout.specs.declared.body_kind.BodyKind.{BodyKind}

-- Where rows are short, their first field lacks bytes, or the rows after it are short.

record IsBehind {V : Type 0} (width : ℕ) (rule : List ℕ → Option FaultKind) (rest : List ℕ → Rows V) (place : ℕ) (bytes : List ℕ) : Type 0 where
  pub fits : width ≤ length bytes
  pub passes : rule (take width bytes) ≡ None
  pub is : judge (rest (take width bytes)) (place + width) (drop width bytes) ≡ short

unless_short : {V : Type 0} (found : Option FaultKind) (place : ℕ) (v : Verdict V) → unless_fault found place v ≡ short → (found ≡ None) × (v ≡ short)
unless_short None place v e = (refl, e)
unless_short (Some kind) place v e = absurd (cc)

short_by : {V : Type 0} (width : ℕ) (rule : List ℕ → Option FaultKind) (rest : List ℕ → Rows V) (place : ℕ) (bytes : List ℕ) → judge (row width rule rest) place bytes ≡ short
    → (length bytes < width) ⊎ (width ≤ length bytes) → (length bytes < width) ⊎ IsBehind width rule rest place bytes
short_by width rule rest place bytes e (inl few) = inl few
short_by width rule rest place bytes e (inr fits) =
    let u = unless_short (rule (take width bytes)) place _ (sym (judge_long width rule rest place bytes fits) ∙ e) in
    inr (record { fits = fits; passes = u.0; is = u.1 })

short_row : {V : Type 0} (width : ℕ) (rule : List ℕ → Option FaultKind) (rest : List ℕ → Rows V) (place : ℕ) (bytes : List ℕ) → judge (row width rule rest) place bytes ≡ short
    → (length bytes < width) ⊎ IsBehind width rule rest place bytes
short_row width rule rest place bytes e = short_by width rule rest place bytes e (cases_lt (length bytes) width)

-- N bytes at the most after a field
few_behind : {V : Type 0} (width most : ℕ) (rule : List ℕ → Option FaultKind) (rest : List ℕ → Rows V) (place : ℕ) (bytes : List ℕ)
    → ((field : List ℕ) (p : ℕ) (xs : List ℕ) → rule field ≡ None → judge (rest field) p xs ≡ short → length xs < most)
    → judge (row width rule rest) place bytes ≡ short → length bytes < width + most
few_behind width most rule rest place bytes each e = elim (short_row width rule rest place bytes e) [
  | inl few ↦ omega arith
  | inr b ↦ omega (arith, each (take width bytes) (place + width) (drop width bytes) b.passes b.is, length-drop width bytes)
]

never : {V : Type 0} (v : V) (place : ℕ) (bytes : List ℕ) → judge (done v) place bytes ≡ short → ⊥
never v place bytes e = let f = judge_done v place bytes in cc

-- Up.

digits_few : {V : Type 0} (k n most : ℕ) (rest : ℕ → Rows V) (place : ℕ) (bytes : List ℕ) → ((imei p : ℕ) (xs : List ℕ) → judge (rest imei) p xs ≡ short → length xs < most)
    → judge (digit_rows k n rest) place bytes ≡ short → length bytes < k + most
unfolding digit_rows
digits_few zero n most rest place bytes each e = omega (arith, each n place bytes e)
digits_few (suc k) n most rest place bytes each e =
    let few = few_behind 1 (k + most) (λ field. fault_unless (is_digit (number field)) LoginDigit) (λ field. digit_rows k (n * 10 + (number field - 48)) rest) place bytes
    (λ field p xs passes inner. digits_few k (n * 10 + (number field - 48)) most rest p xs each inner) e in
    omega (arith, few)

-- a login that is short has at most N bytes after its 17
pub login_few : {V : Type 0} (most : ℕ) (rest : ℕ → Rows V) (place : ℕ) (bytes : List ℕ) → ((imei p : ℕ) (xs : List ℕ) → judge (rest imei) p xs ≡ short → length xs < most)
    → judge (login_rows rest) place bytes ≡ short → length bytes < 17 + most
unfolding login_rows
login_few most rest place bytes each e =
    let few = few_behind 2 (15 + most) (λ field. fault_unless (number field == 15) LoginLength) (λ _. digit_rows 15 0 rest) place bytes
    (λ field p xs passes inner. digits_few 15 0 most rest p xs each inner) e in
    omega (arith, few)

crc_few : {V : Type 0} (v : V) (crc place : ℕ) (bytes : List ℕ) → judge (crc_rows v crc) place bytes ≡ short → length bytes < 4
crc_few v crc place bytes e =
    few_behind 2 2 (λ field. fault_unless (number field == 0) CrcHigh) (λ _. crc_low_rows v crc) place bytes
    (λ field p xs passes inner. few_behind 2 0 (λ f. fault_unless (number f == crc) CrcMismatch) (λ _. done v) p xs (λ f q ys ok last. absurd (never v q ys last)) inner) e

-- a body that is short, or one that is whole with what is short after it
body_by : {B V : Type 0} (rows : Rows B) (n place : ℕ) (bytes : List ℕ) (next : B → ℕ → Verdict V) (v : Verdict B) → judge (body n rows) place bytes ≡ v
    → ((b : B) (k : ℕ) → next b k ≡ short → length (drop n bytes) < 4) → and_then v next ≡ short → length bytes < n + 4
body_by rows n place bytes next (whole b k) is few e = omega (arith, few b k e, length-drop n bytes)
body_by rows n place bytes next short is few e = omega (arith, body_short rows n place bytes is)
body_by rows n place bytes next (fault kind p) is few e = absurd (cc)

body_few : {B : Type 0} (rows : ℕ → Rows B) (n place : ℕ) (bytes : List ℕ) → judge (body_rows rows n) place bytes ≡ short → length bytes < n + 4
unfolding body_rows
body_few {B = B} rows n place bytes e =
    let after : B × List ℕ → Rows (B × List ℕ) = λ b. crc_rows b (crc_of b.1) in
    let next : B → ℕ → Verdict (B × List ℕ) = λ b k. judge (after (b, [] ++ take n bytes)) (place + n) (drop n bytes) in
    body_by (rows n) n place bytes next (judge (body n (rows n)) place bytes) refl (λ b k last. crc_few (let v : B × List ℕ = (b, take n bytes) in v) (crc_of (take n bytes)) (place + n) (drop n bytes) last)
    (sym (judge_within (rows n) n [] after place bytes) ∙ e)

allowed : (n most : ℕ) → fault_unless (nat_le 3 n && nat_le n most) Length ≡ None → n ≤ most
allowed n most e = let t = passed (nat_le 3 n && nat_le n most) Length e in grind (arith, nat_tests)

length_few : {B : Type 0} (most : ℕ) (rows : ℕ → Rows B) (place : ℕ) (bytes : List ℕ) → judge (length_rows most rows) place bytes ≡ short → length bytes < 4 + (most + 4)
unfolding length_rows
length_few most rows place bytes e =
    few_behind 4 (most + 4) (λ field. fault_unless (nat_le 3 (number field) && nat_le (number field) most) Length) (λ field. body_rows rows (number field)) place bytes
    (λ field p xs passes inner. omega (arith, body_few rows (number field) p xs inner, allowed (number field) most passes)) e

-- a frame that is unfinished has fewer bytes than the longest
pub frame_few : {B : Type 0} (most : ℕ) (rows : ℕ → Rows B) (place : ℕ) (bytes : List ℕ) → judge (frame_rows most rows) place bytes ≡ short → length bytes < 4 + (4 + (most + 4))
unfolding frame_rows
frame_few most rows place bytes e =
    few_behind 4 (4 + (most + 4)) (λ field. fault_unless (number field == 0) Preamble) (λ _. length_rows most rows) place bytes
    (λ field p xs passes inner. length_few most rows p xs inner) e

up_frame_few : (place : ℕ) (bytes : List ℕ) → judge up_frame_rows place bytes ≡ short → length bytes < 65547
unfolding up_frame_rows
up_frame_few place bytes e =
    let says : BodyKind × List ℕ → UpValue = λ f. frame_value f.0 f.1 in
    frame_few 65535 (body_kind_rows Up) place bytes (map_short says _ (sym (map_judged says (frame_rows 65535 (body_kind_rows Up)) place bytes) ∙ e))

-- an item up that is unfinished has fewer bytes than the longest frame
pub short_up_few : (after_login : Bool) (bytes : List ℕ) → judge (up_rows after_login) 0 bytes ≡ short → length bytes < 65547
short_up_few false bytes e = omega (arith, login_few 0 login_end 0 bytes (λ imei p xs inner. absurd (never (login imei) p xs inner)) e)
short_up_few true bytes e = up_frame_few 0 bytes e

pub starts_short_up : (after_login : Bool) → judge (up_rows after_login) 0 [] ≡ short
unfolding login_rows up_frame_rows frame_rows followed_by
starts_short_up false = judge_short 2 _ _ 0 [] (omega arith)
starts_short_up true = judge_short 4 _ _ 0 [] (omega arith)

-- Down.

order_few : (place : ℕ) (bytes : List ℕ) → judge order_rows place bytes ≡ short → length bytes < 1276
unfolding order_rows
order_few place bytes e =
    let says : BodyKind × List ℕ → DownValue = λ f. order f.1 in
    length_few 1268 (body_kind_rows Down) place bytes (map_short says _ (sym (map_judged says (length_rows 1268 (body_kind_rows Down)) place bytes) ∙ e))

counted_few : (b : Bool) (n place : ℕ) (bytes : List ℕ) → judge (if b then order_rows else done (count n)) place bytes ≡ short → length bytes < 1276
counted_few true n place bytes e = order_few place bytes e
counted_few false n place bytes e = absurd (never (count n) place bytes e)

count_few : (bytes : List ℕ) → judge count_rows 0 bytes ≡ short → length bytes < 1280
unfolding count_rows
count_few bytes e =
    few_behind 4 1276 (λ _. None) (λ field. if number field == 0 then order_rows else done (count (number field))) 0 bytes
    (λ field p xs passes inner. counted_few (number field == 0) (number field) p xs inner) e

answer_few : (bytes : List ℕ) → judge answer_rows 0 bytes ≡ short → length bytes < 1
unfolding answer_rows
answer_few bytes e =
    let few = few_behind 1 0 (λ _. None) (λ field. done (answer (number field))) 0 bytes (λ field p xs passes inner. absurd (never (answer (number field)) p xs inner)) e in
    omega (arith, few)

-- an item down that is unfinished has fewer than 1,280 bytes
pub short_down_few : (after_answer : Bool) (bytes : List ℕ) → judge (down_rows after_answer) 0 bytes ≡ short → length bytes < 1280
short_down_few false bytes e = omega (arith, answer_few bytes e)
short_down_few true bytes e = omega (arith, count_few bytes e)

pub starts_short_down : (after_answer : Bool) → judge (down_rows after_answer) 0 [] ≡ short
unfolding answer_rows count_rows
starts_short_down false = judge_short 1 _ _ 0 [] (omega arith)
starts_short_down true = judge_short 4 _ _ 0 [] (omega arith)

-- The verdict, row by row.
use Rattle.std.proofs.Common.{◌≡◌, ℕ, ◌+◌, ◌-◌, ◌<◌, ◌≤◌, List, ◌++◌, length, take, drop, Option, refl, ap, ◌∙◌, arith, length-append}
use Rattle.std.proofs.Math.Seq.{take-append_seam, drop-append_seam}
use Rattle.std.proofs.lemmas.Bool.{lt-ltb, le-ltb}
use Rattle.avl_values.specs.declared.fault.FaultKind.{FaultKind}
use Rattle.avl_values.specs.declared.fault.FaultKind.TheVariants.{Overrun, Excess}
use Rattle.layout.specs.Rows.{Rows, done, refuse, row, Verdict, whole, short, fault, judge, unless_fault, within}

pub judge_short : {V : Type 0} (width : ℕ) (rule : List ℕ → Option FaultKind) (rest : List ℕ → Rows V) (place : ℕ) (bytes : List ℕ) → length bytes < width
    → judge (row width rule rest) place bytes ≡ short
unfolding judge
judge_short width rule rest place bytes h = rw (lt-ltb (length bytes) width h) refl

pub judge_long : {V : Type 0} (width : ℕ) (rule : List ℕ → Option FaultKind) (rest : List ℕ → Rows V) (place : ℕ) (bytes : List ℕ) → width ≤ length bytes
    → judge (row width rule rest) place bytes ≡ unless_fault (rule (take width bytes)) place (judge (rest (take width bytes)) (place + width) (drop width bytes))
unfolding judge
judge_long width rule rest place bytes h = rw (le-ltb (length bytes) width h) refl

pub judge_done : {V : Type 0} (v : V) (place : ℕ) (bytes : List ℕ) → judge (done v) place bytes ≡ whole v place
unfolding judge
judge_done v place bytes = refl

pub judge_refuse : {V : Type 0} (kind : FaultKind) (place : ℕ) (bytes : List ℕ) → judge {V = V} (refuse kind) place bytes ≡ fault kind place
unfolding judge
judge_refuse kind place bytes = refl

-- a field whose bytes are there
pub judge_field : {V : Type 0} (width : ℕ) (rule : List ℕ → Option FaultKind) (rest : List ℕ → Rows V) (place : ℕ) (field more : List ℕ) → length field ≡ width
    → judge (row width rule rest) place (field ++ more) ≡ unless_fault (rule field) place (judge (rest field) (place + width) more)
judge_field {V = V} width rule rest place field more h =
    let fits : width ≤ length (field ++ more) = simp length-append (omega arith) in
    let t : take width (field ++ more) ≡ field = rw (← h) (take-append_seam field more) in
    let d : drop width (field ++ more) ≡ more = rw (← h) (drop-append_seam field more) in
    let F : List ℕ → List ℕ → Verdict V = λ f m. unless_fault (rule f) place (judge (rest f) (place + width) m) in
    judge_long width rule rest place (field ++ more) fits ∙ ap (λ f. F f (drop width (field ++ more))) t ∙ ap (λ m. F field m) d

-- no row says more of a body without room, and a body that ends with its rows says its value
pub within_full : {V W : Type 0} (v : V) (after : V → Rows W) → within 0 (done v) after ≡ after v
unfolding within
within_full v after = refl

pub within_excess : {V W : Type 0} (room : ℕ) (v : V) (after : V → Rows W) → 0 < room → within room (done v) after ≡ refuse Excess
unfolding within
within_excess room v after h = grind arith

pub within_refuse : {V W : Type 0} (room : ℕ) (kind : FaultKind) (after : V → Rows W) → within room (refuse kind) after ≡ refuse kind
unfolding within
within_refuse room kind after = refl

pub within_overrun : {V W : Type 0} (room width : ℕ) (rule : List ℕ → Option FaultKind) (rest : List ℕ → Rows V) (after : V → Rows W) → room < width
    → within room (row width rule rest) after ≡ refuse Overrun
unfolding within
within_overrun room width rule rest after h = rw (lt-ltb room width h) refl

pub within_row : {V W : Type 0} (room width : ℕ) (rule : List ℕ → Option FaultKind) (rest : List ℕ → Rows V) (after : V → Rows W) → width ≤ room
    → within room (row width rule rest) after ≡ row width rule (λ field. within (room - width) (rest field) after)
unfolding within
within_row room width rule rest after h = rw (le-ltb room width h) refl

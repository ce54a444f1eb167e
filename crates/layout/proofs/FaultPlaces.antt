-- A fault's place is within the bytes, or just after them.
use Rattle.std.proofs.Common.{◌≡◌, ℕ, ◌+◌, ◌<◌, ◌≤◌, ◌⊎◌, inl, inr, List, length, take, drop, Option, Some, None, sym, ◌∙◌, arith, length-drop}
use Rattle.std.proofs.lemmas.Bool.{cases_lt}
use Rattle.avl_values.specs.declared.fault.FaultKind.{FaultKind}
use Rattle.layout.specs.Rows.{Rows, done, refuse, row, Verdict, fault, judge, unless_fault}
use Rattle.layout.proofs.Judging.{judge_done, judge_long, judge_refuse, judge_short}

place_by : {V : Type 0} (found : Option FaultKind) (place most : ℕ) (v : Verdict V) (kind : FaultKind) (p : ℕ) → unless_fault found place v ≡ fault kind p → place ≤ most → (v ≡ fault kind p → p ≤ most) → p ≤ most
place_by None place most v kind p e here inner = inner e
place_by (Some k) place most v kind p e here inner = let same : place ≡ p = cc in omega arith

place_row : {V : Type 0} (width : ℕ) (rule : List ℕ → Option FaultKind) (rest : List ℕ → Rows V) (place : ℕ) (bytes : List ℕ) (kind : FaultKind) (p : ℕ)
    → ((field : List ℕ) (q : ℕ) (xs : List ℕ) → judge (rest field) q xs ≡ fault kind p → p ≤ q + length xs) → judge (row width rule rest) place bytes ≡ fault kind p
    → (length bytes < width) ⊎ (width ≤ length bytes) → p ≤ place + length bytes
place_row width rule rest place bytes kind p ih e (inl few) = let s = judge_short width rule rest place bytes few in absurd (cc)
place_row width rule rest place bytes kind p ih e (inr fits) =
    place_by (rule (take width bytes)) place (place + length bytes) _ kind p (sym (judge_long width rule rest place bytes fits) ∙ e) (omega arith)
    (λ inner. omega (arith, ih (take width bytes) (place + width) (drop width bytes) inner, length-drop width bytes))

pub fault_place : {V : Type 0} (rows : Rows V) (place : ℕ) (bytes : List ℕ) (kind : FaultKind) (p : ℕ) → judge rows place bytes ≡ fault kind p → p ≤ place + length bytes
fault_place (done v) place bytes kind p e = let s = judge_done v place bytes in absurd (cc)
fault_place {V = V} (refuse k) place bytes kind p e = let s : judge {V = V} (refuse k) place bytes ≡ fault k place = judge_refuse k place bytes in let same : place ≡ p = cc in omega arith
fault_place (row width rule rest) place bytes kind p e = place_row width rule rest place bytes kind p (λ field q xs inner. fault_place (rest field) q xs kind p inner) e (cases_lt (length bytes) width)

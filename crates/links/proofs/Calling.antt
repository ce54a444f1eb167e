-- What a link in memory is after a call.
use Rattle.std.proofs.Common.{◌≡◌, ℕ, ◌+◌, ◌≤◌, List, [], ◌++◌, length, take, drop, Some, Err, sym, ap, subst, ◌∙◌, append-nil, arith}
use Rattle.std.proofs.lemmas.List.{take-append-le, length-take-le, drop-drop}
use Rattle.std.proofs.Math.Seq.{take-add, take-length}
use Rattle.links.specs.Links.{Traffic, with_more}
use Rattle.avl_values.specs.Causes.{HasCause, more_by_one}
use Rattle.fault_plan.specs.Plan.{after_call}
use Rattle.links.specs.Going.{same_traffic, goes_on_failed}
use Rattle.links.specs.Memory.{MemoryLinkState, GoesOn, after_failure, after_read}

-- with N bytes taken from those that were left
abbrev moved : ℕ → MemoryLinkState → MemoryLinkState
moved n link = record link { taken = link.taken ++ take n link.left; left = drop n link.left }

abbrev at_place : List ℕ → ℕ → MemoryLinkState → MemoryLinkState
at_place incoming at link = record link { taken = take at incoming; left = drop at incoming }

advanced : (incoming : List ℕ) (at n : ℕ) (link : MemoryLinkState) → at_place incoming (at + n) link ≡ moved n (at_place incoming at link)
advanced incoming at n link =
    ap (λ (z : List ℕ × List ℕ). let s : MemoryLinkState = record link { taken = z.0; left = z.1 } in s) (λ i. (take-add at n incoming i, sym (drop-drop n at incoming) i))

pub read_state : (incoming : List ℕ) (at n : ℕ) (inside before : MemoryLinkState) → at_place incoming at inside ≡ record before { plan = after_call before.plan }
    → at_place incoming (at + n) inside ≡ after_read n before
read_state incoming at n inside before is = advanced incoming at n inside ∙ ap (λ (s : MemoryLinkState). moved n s) is

-- what comes first in the slice
pub front_copied : (n : ℕ) (left into copied : List ℕ) → n ≤ length left → copied ≡ take n left ++ drop n into → take n copied ≡ take n left
front_copied n left into copied le is =
    let size : length (take n left) ≡ n = length-take-le n left le in
    ap (λ (b : List ℕ). take n b) is ∙ (take-append-le n (take n left) (drop n into) (omega arith) ∙ (ap (λ (k : ℕ). take k (take n left)) (sym size) ∙ take-length (take n left)))

pub read_took : (n : ℕ) (after before : MemoryLinkState) (copied : List ℕ) → after ≡ after_read n before → take n copied ≡ take n before.left
    → Some (let t : Traffic = record { taken = after.taken; written = after.written } in t) ≡ Some (with_more (take n copied) [] (record { taken = before.taken; written = before.written }))
read_took n after before copied is same =
    same_traffic after.taken after.written (before.taken ++ take n copied) (before.written ++ [])
    (ap (λ (s : MemoryLinkState). s.taken) is ∙ ap (λ (b : List ℕ). before.taken ++ b) (sym same))
    (ap (λ (s : MemoryLinkState). s.written) is ∙ sym (append-nil before.written))

-- What it is after a call that failed.

fail_state : (before chosen after : MemoryLinkState) → chosen ≡ record before { plan = after_call before.plan } → after ≡ record chosen { faults = more_by_one chosen.faults } → after ≡ after_failure before
fail_state before chosen after p q = q ∙ ap (λ (s : MemoryLinkState). let t : MemoryLinkState = record s { faults = more_by_one s.faults } in t) p

same_faults : (before chosen : MemoryLinkState) → chosen ≡ record before { plan = after_call before.plan } → chosen.faults ≡ before.faults
same_faults before chosen p = ap (λ (s : MemoryLinkState). s.faults) p

pub fail_follows : (before chosen after : MemoryLinkState) → chosen ≡ record before { plan = after_call before.plan } → before.plan.calls ≤ more_by_one before.plan.calls
    → after ≡ record chosen { faults = more_by_one chosen.faults } → chosen.faults ≤ more_by_one chosen.faults → GoesOn before after
fail_follows before chosen after p more_calls q more_faults =
    subst (λ (s : MemoryLinkState). GoesOn before s) (sym (fail_state before chosen after p q)) (goes_on_failed before more_calls (subst (λ (n : ℕ). n ≤ more_by_one n) (same_faults before chosen p) more_faults))

pub fail_cause : {T E : Type 0} (e : E) (before chosen after : MemoryLinkState) → chosen ≡ record before { plan = after_call before.plan } → after ≡ record chosen { faults = more_by_one chosen.faults }
    → chosen.faults ≤ more_by_one chosen.faults → HasCause {T = T} {E = E} before.faults after.faults (Err e)
fail_cause e before chosen after p q more_faults =
    let same = same_faults before chosen p in
    let now : after.faults ≡ more_by_one chosen.faults = ap (λ (s : MemoryLinkState). s.faults) q in
    record { later = omega (arith, same, now, more_faults); failed = omega (arith, same, now); passed = tt }

-- A cursor over bytes: each field on the way to the body's end, to its last byte so far or to a rule that fails.
use Rattle.std.proofs.Common.{◌≡◌, ℕ, ◌+◌, ◌-◌, ◌<◌, ◌≤◌, List, length, take, drop, Ok, Err, sym, ap, ◌∙◌, arith}
use Rattle.avl_values.specs.declared.fault.FaultKind.{FaultKind}
use Rattle.avl_values.specs.declared.fault.FaultKind.TheVariants.{Overrun, Excess}
use Rattle.layout.specs.Rows.{Rows, judge, body, short, fault, whole}
use Rattle.layout.specs.Next.{rows_after}
use Rattle.layout.proofs.Stepping.{body_overrun, body_missing, body_on, body_fault, body_whole, body_excess}
use Rattle.field_machine.specs.declared.left.Left.{Left}
use Rattle.field_machine.specs.declared.left.Left.TheVariants as left
use Rattle.field_machine.specs.Places.{Leaves, Follows}
use Rattle.field_machine.proofs.Fields.{width_is, at_end}

-- what is left of the body is judged from here on
pub record JudgedAt {C V : Type 0} (stands : C → Rows V → Type 0) (total : ℕ) (rows : Rows V) (have : List ℕ) (cursor : C) (place : ℕ) (rest : List ℕ) : Type 0 where
  pub here : Rows V
  pub at : stands cursor here
  pub judged : judge (body total rows) 0 have ≡ judge (body (total - place) here) place rest

module _ {C H V : Type 0} (left_of : C → Left H) (says : H → V → Type 0) (stands : C → Rows V → Type 0) (leaves : (c : C) (here : Rows V) → stands c here → Leaves says (left_of c) here) where
  pub judged_first : (total : ℕ) (rows : Rows V) (have : List ℕ) (first : C) → stands first rows → JudgedAt stands total rows have first 0 have
  judged_first total rows have first at = let n : total - 0 ≡ total = omega arith in record { here = rows; at = at; judged = ap (λ k. judge (body k rows) 0 have) (sym n) }

  pub ended_whole : (total place : ℕ) (rows : Rows V) (have rest : List ℕ) (cursor : C) (head : H) → JudgedAt stands total rows have cursor place rest → left_of cursor ≡ left.Nothing head → total - place ≡ 0 → place ≡ total
      → (v : V) × (judge (body total rows) 0 have ≡ whole v total) × says head v
  ended_whole total place rows have rest cursor head h is none end =
      let d = at_end says (left_of cursor) head h.here (leaves cursor h.here h.at) is in
      (d.0, h.judged ∙ ap (λ r. judge (body (total - place) r) place rest) d.1 ∙ body_whole d.0 (total - place) place rest none ∙ ap (whole d.0) end, d.2)

  pub ended_excess : (total place : ℕ) (rows : Rows V) (have rest : List ℕ) (cursor : C) (head : H) → JudgedAt stands total rows have cursor place rest → left_of cursor ≡ left.Nothing head → 0 < total - place
      → judge (body total rows) 0 have ≡ fault Excess place
  ended_excess total place rows have rest cursor head h is some =
      let d = at_end says (left_of cursor) head h.here (leaves cursor h.here h.at) is in
      h.judged ∙ ap (λ r. judge (body (total - place) r) place rest) d.1 ∙ body_excess d.0 (total - place) place rest some

  pub overrun_at : (total place w : ℕ) (rows : Rows V) (have rest : List ℕ) (cursor : C) → JudgedAt stands total rows have cursor place rest → left_of cursor ≡ left.Field w → total - place < w
      → judge (body total rows) 0 have ≡ fault Overrun place
  overrun_at total place w rows have rest cursor h is over =
      h.judged ∙ body_overrun h.here w (total - place) place rest (width_is says (left_of cursor) w h.here (leaves cursor h.here h.at) is) over

  pub missing_at : (total place w : ℕ) (rows : Rows V) (have rest : List ℕ) (cursor : C) → JudgedAt stands total rows have cursor place rest → left_of cursor ≡ left.Field w → w ≤ total - place → length rest < w
      → judge (body total rows) 0 have ≡ short
  missing_at total place w rows have rest cursor h is fits few =
      h.judged ∙ body_missing h.here w (total - place) place rest (width_is says (left_of cursor) w h.here (leaves cursor h.here h.at) is) fits few

  pub failed_at : (total place w : ℕ) (rows : Rows V) (have rest : List ℕ) (cursor : C) (kind : FaultKind) → JudgedAt stands total rows have cursor place rest → left_of cursor ≡ left.Field w → w ≤ total - place → w ≤ length rest
      → ((here : Rows V) → stands cursor here → Follows stands here (take w rest) (Err kind)) → judge (body total rows) 0 have ≡ fault kind place
  failed_at total place w rows have rest cursor kind h is fits long fails =
      h.judged ∙ body_fault h.here w (total - place) place kind rest (width_is says (left_of cursor) w h.here (leaves cursor h.here h.at) is) fits long (fails h.here h.at)

  pub judged_next : (total place w : ℕ) (rows : Rows V) (have rest back : List ℕ) (cursor next : C) → JudgedAt stands total rows have cursor place rest → left_of cursor ≡ left.Field w → w ≤ total - place → w ≤ length rest
      → ((here : Rows V) → stands cursor here → Follows stands here (take w rest) (Ok next)) → back ≡ drop w rest → JudgedAt stands total rows have next (place + w) back
  judged_next total place w rows have rest back cursor next h is fits long follows same =
      let f = follows h.here h.at in
      let n : total - place - w ≡ total - (place + w) = omega arith in
      record {
        here = rows_after h.here (take w rest);
        at = f.1;
        judged = h.judged ∙ body_on h.here w (total - place) place rest (width_is says (left_of cursor) w h.here (leaves cursor h.here h.at) is) fits long f.0
            ∙ ap (λ k. judge (body k (rows_after h.here (take w rest))) (place + w) (drop w rest)) n ∙ ap (λ b. judge (body (total - (place + w)) (rows_after h.here (take w rest))) (place + w) b) (sym same);
      }

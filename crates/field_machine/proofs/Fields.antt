-- A cursor's next field, over the rows that are left.
use Rattle.std.proofs.Common.{◌≡◌, ℕ, ◌+◌, ◌*◌, ◌<◌, ◌≤◌, ◌^◌, List, length, take, drop, zero, suc, Some, sym, ap, subst, ◌∙◌, arith, length-take, length-drop}
use Rattle.layout.specs.Rows.{Rows, done}
use Rattle.layout.specs.Next.{width_of}
use Rattle.field_machine.specs.declared.left.Left.{Left}
use Rattle.field_machine.specs.declared.left.Left.TheVariants as left
use Rattle.field_machine.specs.Places.{Leaves, FitsIn, turns}

pub same_width : {H : Type 0} (n w : ℕ) → ◌≡◌ {A = Left H} (left.Field n) (left.Field w) → n ≡ w
same_width n w e = cc

pub width_is : {H V : Type 0} (says : H → V → Type 0) (l : Left H) (w : ℕ) (here : Rows V) → Leaves says l here → l ≡ left.Field w → width_of here ≡ Some w
width_is says l w here leaves is = subst (λ x. Leaves says x here) is leaves

pub at_end : {H V : Type 0} (says : H → V → Type 0) (l : Left H) (head : H) (here : Rows V) → Leaves says l here → l ≡ left.Nothing head → (v : V) × (here ≡ done v) × says head v
at_end says l head here leaves is = subst (λ x. Leaves says x here) is leaves

pub fits_in : {H : Type 0} (l : Left H) (w value : ℕ) → l ≡ left.Field w → (w ≤ 8 → value < 256 ^ w) → FitsIn l value
fits_in l w value is small = subst (λ x. FitsIn x value) (sym is) small

pub turns_few : {H : Type 0} (l : Left H) → turns l ≤ 1
turns_few (left.Field zero) = omega arith
turns_few (left.Field (suc width)) = omega arith
turns_few (left.Nothing head) = omega arith

-- only a field of no bytes takes a turn
pub turns_one : {H : Type 0} (l : Left H) (w : ℕ) → l ≡ left.Field w → w ≡ 0 → turns l ≡ 1
turns_one l w is none = ap turns (is ∙ ap (λ k. left.Field k) none)

pub field_here : {H : Type 0} (l : Left H) (w : ℕ) (rest field : List ℕ) → l ≡ left.Field w → w ≤ length rest → field ≡ take w rest → l ≡ left.Field (length field)
field_here l w rest field is long front = let n : w ≡ length field = omega (arith, length-take w rest, ap length front) in is ∙ ap (λ k. left.Field k) n

pub falls : {H : Type 0} (l next : Left H) (w : ℕ) (rest back : List ℕ) → w ≤ length rest → back ≡ drop w rest → l ≡ left.Field w → turns next + turns l ≤ 1 → 2 * length back + turns next < 2 * length rest + turns l
falls l next w rest back fits is at few =
    let n = length-drop w rest in
    let e = ap length is in
    let one = turns_one l w at in
    grind arith

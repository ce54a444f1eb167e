use Rattle.std.proofs.Common.{◌<◌, ℕ, List, [], length, get_or, sym, ap, ◌∙◌, arith}
use Rattle.avl_values.proofs.NxLists.{nx-length, nx-at}
use Rattle.avl_values.proofs.nx_list.NxList.id_at.Goals as goal

pub bounds-as_slice-i : goal.bounds-as_slice-i
bounds-as_slice-i c = omega (arith, ap length c.self.view_is, nx-length c.self.inside.heads.items c.self.inside.bytes.items, ap length c.as_slice.ensures.value)

pub offset_bounds-as_slice-i : goal.offset_bounds-as_slice-i
offset_bounds-as_slice-i c = omega (arith, ap length c.self.view_is, nx-length c.self.inside.heads.items c.self.inside.bytes.items, c.self.invariant.1)

pub returns : goal.returns
returns c =
    let hs = c.self.inside.heads.items in
    let bs = c.self.inside.bytes.items in
    let i = c.args.i in
    let lt : i < length hs = omega (arith, ap length c.self.view_is, nx-length hs bs) in
    ap (λ (s : List (ℕ × ℕ)). (get_or s i (0, 0)).0) c.as_slice.ensures.value ∙ sym (ap (λ (e : ℕ × List ℕ). e.0) (nx-at hs bs i lt)) ∙ ap (λ (l : List (ℕ × List ℕ)). (get_or l i (0, [])).0) c.self.view_is

use Rattle.std.proofs.Common.{◌≡◌, ◌<◌, ◌+◌, ◌-◌, ℕ, List, [], length, get_or, take, drop, sym, ap, ◌∙◌, arith, length-take}
use Rattle.avl_values.proofs.NxLists.{nx-length, nx-at, sizes}
use Rattle.avl_values.proofs.nx_list.NxList.bytes_at.Goals as goal

pub slice_bounds-total_length-end : goal.slice_bounds-total_length-end
slice_bounds-total_length-end c =
    omega (arith, length-take c.args.i c.as_slice-heads.result.now, ap length c.self.view_is, nx-length c.self.inside.heads.items c.self.inside.bytes.items, ap length c.as_slice-heads.ensures.value)

pub bounds-heads-i : goal.bounds-heads-i
bounds-heads-i c = omega (arith, ap length c.self.view_is, nx-length c.self.inside.heads.items c.self.inside.bytes.items, ap length c.as_slice-heads.ensures.value)

pub offset_bounds-heads-i : goal.offset_bounds-heads-i
offset_bounds-heads-i c = omega (arith, ap length c.self.view_is, nx-length c.self.inside.heads.items c.self.inside.bytes.items, c.self.invariant.1)

pub returns : goal.returns
returns c =
    let hs = c.self.inside.heads.items in
    let bs = c.self.inside.bytes.items in
    let i = c.args.i in
    let lt : i < length hs = omega (arith, ap length c.self.view_is, nx-length hs bs) in
    let start : c.total_length-start.result ≡ sizes (take i hs) = c.total_length-start.ensures ∙ ap (λ s. sizes (take i s)) c.as_slice-heads.ensures.value in
    let n = (get_or c.as_slice-heads.result.now i (0, 0)).1 in
    let at : n ≡ (get_or hs i (0, 0)).1 = ap (λ (s : List (ℕ × ℕ)). (get_or s i (0, 0)).1) c.as_slice-heads.ensures.value in
    let len : c.total_length-start.result + n - c.total_length-start.result ≡ n = omega arith in
    ap (λ k. take k (drop c.total_length-start.result c.as_slice.result.now)) len
    ∙ ap (λ s. take n (drop c.total_length-start.result s)) c.as_slice.ensures.value
    ∙ ap (λ k. take n (drop k bs)) start
    ∙ ap (λ k. take k (drop (sizes (take i hs)) bs)) at
    ∙ sym (ap (λ (e : ℕ × List ℕ). e.1) (nx-at hs bs i lt)) ∙ ap (λ (l : List (ℕ × List ℕ)). (get_or l i (0, [])).1) c.self.view_is

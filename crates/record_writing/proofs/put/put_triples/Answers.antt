use Rattle.std.proofs.Common.{◌≡◌, ℕ, List, ◌+◌, ◌<◌, [], ◌∷◌, ◌++◌, length, get_or, drop, sym, ap, subst, ◌∙◌, arith, add-one, drop-cons}
use Rattle.std.proofs.lemmas.List.Sums.{sum_by-cons}
use Rattle.avl_values.specs.declared.width.Width.TheVariants.{W2}
use Rattle.layout.specs.Bytes.{AreBytes}
use Rattle.record_layout.specs.Spelling.{spell}
use Rattle.record_writing.specs.Length.{triples_length}
use Rattle.record_writing.proofs.Groups.{TriplesLeft, triple_written}
use Rattle.record_writing.proofs.put.put_triples.Goals as goal

pub loop-i-preserved : goal.loop-i-preserved
loop-i-preserved c =
    let nx = c.args.nx.now in
    let i = c.loop-i.i in
    let h : i < length nx = omega arith in
    let e = get_or nx i (0, []) in
    let one_of = sum_by-cons (λ (x : ℕ × List ℕ). 4 + length x.1) e (drop (i + 1) nx) in
    let start = c.args.out.now.items in
    let out = c.loop-i.out.items in
    let front : drop i nx ≡ e ∷ drop (i + 1) nx = drop-cons nx i (0, []) h ∙ ap (λ k. e ∷ drop k nx) (sym (add-one i)) in
    let bytes : AreBytes e.1 = subst AreBytes c.bytes_at-bytes.ensures c.put_all.ensures.fit in
    let one = triple_written start nx out e (drop (i + 1) nx) (subst (TriplesLeft W2 W2 start nx out) front c.loop-i.invariant) (omega (arith, c.id_at.ensures), omega (arith, c.loop-i.invariant.room, ap (triples_length W2 W2) front, one_of), bytes) in
    let written : c.put_all.new.out.items ≡ ((out ++ spell W2 e.0) ++ spell W2 (length e.1)) ++ e.1 = cc in
    subst (λ o. TriplesLeft W2 W2 start nx o (drop (i + 1) nx)) (sym written) one

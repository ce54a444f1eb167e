-- The range was marked, and is in the spans.
use Rattle.std.proofs.Common.{◌+◌, true, false, ap, arith, refl}
use Rattle.medium.specs.Buffer.{DirtyMarks}
use Rattle.medium.specs.declared.spans.Span.{Span}
use Rattle.medium.proofs.Buffers.{marked-more, seen-marked, set-in}
use Rattle.medium.proofs.dirty_map.DirtyMap.mark.Goals as goal

pub invariant_of-self : goal.invariant_of-self
invariant_of-self c =
    let room = ap (λ (v : DirtyMarks). v.room) c.self.view_is in
    let span : Span = record { first = c.args.at; end = c.args.at + c.args.count } in
    marked-more c.args.at c.args.count c.self.inside.end _ span c.self.inside.spans.items _ _ _ c.self.invariant (omega (arith, room, c.requires))
    (set-in false c.args.at c.args.count (λ _. true) c.self.inside.marks _ c.mark_from.new.marks c.as_mut_slice.ensures.value c.mark_from.ensures) (omega arith) c.add.ensures refl refl

pub returns : goal.returns
returns c =
    seen-marked c.args.at c.args.count c.self.inside.end _ _ _ _ c.self.invariant.padded c.requires
    (set-in false c.args.at c.args.count (λ _. true) c.self.inside.marks _ c.mark_from.new.marks c.as_mut_slice.ensures.value c.mark_from.ensures) (omega arith) c.self.view_is

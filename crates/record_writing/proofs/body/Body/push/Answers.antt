use Rattle.std.proofs.Common.{◌≡◌, ◌+◌, ◌++◌, length, sym, ap, subst, arith, rules}
use Rattle.record_layout.specs.SomeRecord.{IsSomeRecord}
use Rattle.record_writing.specs.Packed.{ArePacked}
use Rattle.record_writing.specs.Packing.{Packing}
use Rattle.record_writing.specs.Room.{HasRoomFor}
use Rattle.record_writing.proofs.Bodies.{still_packed, how_many}
use Rattle.record_writing.proofs.body.Body.push.Goals as goal

pub returns-then-self-clause-room : goal.returns-then-self-clause-room
returns-then-self-clause-room c =
    let many = how_many c.self.inside.codec c.self.inside.count c.self.inside.bytes.items in
    let same = ap (λ (p : Packing). length p.records) c.self.view_is in
    (λ h. absurd (cc), λ (h : HasRoomFor c.args.self.now c.args.bytes.now). absurd (omega (arith, many, same, h.few, c.if-self.true)))

pub invariant_of-self-2 : goal.invariant_of-self-2
invariant_of-self-2 c =
    let inside = c.self.inside in
    let codec = ap (λ (p : Packing). p.codec) c.self.view_is in
    let some = subst (λ k. IsSomeRecord k c.args.bytes.now) (sym codec) c.requires in
    let added : c.try_extend_from_slice.new.self.items ≡ inside.bytes.items ++ c.args.bytes.now = search rules in
    subst (ArePacked inside.codec (inside.count + 1)) (sym added) (still_packed inside.codec inside.count inside.bytes.items c.args.bytes.now c.self.invariant some (omega (arith, c.self.ranges)))

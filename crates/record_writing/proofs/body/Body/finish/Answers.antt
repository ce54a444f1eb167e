use Rattle.std.proofs.Common.{◌≡◌, [], ◌∷◌, ◌++◌, length, ap, subst, ◌∙◌, arith, append_assoc}
use Rattle.avl_values.specs.Codec.{id_of}
use Rattle.record_layout.specs.Packet.{IsPacket}
use Rattle.record_layout.specs.RecordsOf.{records_in}
use Rattle.record_writing.specs.Packing.{Packing}
use Rattle.record_writing.proofs.Bodies.{whole_body, how_many}
use Rattle.record_writing.proofs.body.Body.finish.Goals as goal

pub returns : goal.returns
returns c =
    let inside = c.self.inside in
    let many = how_many inside.codec inside.count inside.bytes.items in
    let same = ap (λ (p : Packing). length p.records) c.self.view_is in
    let out : c.push-3.new.self.items ≡ id_of inside.codec ∷ inside.count ∷ (inside.bytes.items ++ inside.count ∷ []) = grind (arith, append_assoc) in
    let packet : IsPacket inside.codec (records_in inside.codec inside.count inside.bytes.items) c.push-3.new.self.items = record {
      is = out ∙ whole_body inside.codec inside.count inside.bytes.items c.self.invariant;
      each = c.self.invariant.each;
      some = omega (arith, many, same, c.requires);
      few = omega (arith, many, c.self.invariant.few);
    } in
    subst (λ (p : Packing). IsPacket p.codec p.records c.push-3.new.self.items) c.self.view_is packet

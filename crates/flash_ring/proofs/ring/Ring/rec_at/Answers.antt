-- A ring that is up holds sound records.
use Rattle.std.proofs.Common.{◌∙◌, ap, sym, subst, arith}
use Rattle.avl_values.specs.Record.{Record}
use Rattle.record_codecs.specs.SomeRecord.{IsSomeRecord}
use Rattle.flash_ring.specs.Held.{Held}
use Rattle.flash_ring.specs.Ring.{RingView}
use Rattle.flash_ring.proofs.Rings.{sound_at}
use Rattle.flash_ring.proofs.ring.Ring.rec_at.Goals as goal

pub returns-in-Some-clause-sound : goal.returns-in-Some-clause-sound
returns-in-Some-clause-sound g c =
    let up = ap (λ (v : RingView). v.down) c.self.view_is ∙ c.requires in
    let P : Record → Type 0 = λ r. IsSomeRecord r.codec r.bytes in
    subst P (sym (ap (λ (h : Held). h.rec) c.held.view_is))
    (sound_at _ c.args.slot c.index.result.now c.in-Some.held (c.self.invariant.0.up up) (omega (arith, c.self.inside.slots.ok.0)) c.index.ensures c.in-Some.is)

-- A batch's records are added one after the other.
use Rattle.std.proofs.Common.{◌∙◌, ◌<◌, sym, ap, subst, arith, length, get_or}
use Rattle.record_layout.specs.Packet.{IsPacket}
use Rattle.record_writing.specs.Packing.{Packing}
use Rattle.tracker_session.specs.Packs.{CanAdd, with_bytes}
use Rattle.flash_ring.specs.Held.{rec_at}
use Rattle.tracker_session.proofs.BatchSteps.{first-open, first-codec, can-add, packed-more, some-packed, body-done}
use Rattle.tracker_session.proofs.packing.pack.Goals as goal

pub codec_of-codec-requires-clause-opened : goal.codec_of-codec-requires-clause-opened
codec_of-codec-requires-clause-opened g c = first-open c.args.ring.now.slots c.args.slots.now c.requires.batch c.requires.some

pub add-requires-clause-fits : goal.add-requires-clause-fits
add-requires-clause-fits g c =
    let slots = c.args.ring.now.slots in
    let batch = c.args.slots.now in
    let codec = ap (λ (b : Packing). b.codec) c.begin-body.ensures ∙ first-codec slots batch c.requires.batch c.codec_of-codec.result c.requires.some c.codec_of-codec.ensures in
    let P : Packing → Type 0 = λ b. CanAdd b slots (get_or batch c.loop-slot.slot-index 0) in
    subst P (sym c.loop-slot.invariant) (can-add slots batch c.requires.batch c.begin-body.result.codec c.loop-slot.slot-index codec c.loop-slot-test.true)

pub loop-slot-preserved : goal.loop-slot-preserved
loop-slot-preserved g c =
    let slots = c.args.ring.now.slots in
    let batch = c.args.slots.now in
    c.add.ensures ∙ ap (with_bytes (rec_at slots (get_or batch c.loop-slot.slot-index 0))) c.loop-slot.invariant ∙ packed-more slots batch c.requires.batch c.begin-body.result.codec c.loop-slot.slot-index c.loop-slot-test.true

pub finish-requires : goal.finish-requires
finish-requires g c =
    let slots = c.args.ring.now.slots in
    let P : Packing → Type 0 = λ b. 0 < length b.records in
    subst P (sym c.loop-slot.invariant) (some-packed slots c.args.slots.now c.requires.batch c.begin-body.result.codec c.loop-slot.slot-index c.requires.some c.loop-slot-test.false)

pub returns : goal.returns
returns g c =
    let slots = c.args.ring.now.slots in
    let batch = c.args.slots.now in
    let codec = ap (λ (b : Packing). b.codec) c.begin-body.ensures ∙ first-codec slots batch c.requires.batch c.codec_of-codec.result c.requires.some c.codec_of-codec.ensures in
    let P : Packing → Type 0 = λ b. IsPacket b.codec b.records c.finish.result.items in
    body-done slots batch c.requires.batch c.begin-body.result.codec c.loop-slot.slot-index c.finish.result.items codec (omega (arith, c.loop-slot-test.false, c.loop-slot.auto.slot-index-end)) c.requires.some
    (subst P c.loop-slot.invariant (record { is = c.finish.ensures.is; each = c.finish.ensures.each; some = c.finish.ensures.some; few = c.finish.ensures.few }))

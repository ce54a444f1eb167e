-- A batch's body may pass up.
use Rattle.std.proofs.Common.{List, ℕ, sym, subst}
use Rattle.command_layout.specs.declared.way.Way.{Way}
use Rattle.frame_layout.specs.Items.{IsFrameBody}
use Rattle.frame_layout.specs.declared.body_kind.BodyKind.{BodyKind}
use Rattle.flash_ring.specs.Records.{recs_in}
use Rattle.tracker_session.proofs.BatchSteps.{body-passes}
use Rattle.tracker_session.proofs.packing.write_batch.Goals as goal

pub write_frame-requires-clause-passes : goal.write_frame-requires-clause-passes
write_frame-requires-clause-passes g c =
    let P : List ℕ → Type 0 = λ b. (way : Way) × (kind : BodyKind) × IsFrameBody way kind b in
    subst P (sym c.deref.ensures.0) (body-passes (recs_in c.args.ring.now.slots c.args.slots.now) c.pack-body.result.items c.pack-body.ensures)

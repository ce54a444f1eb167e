use Rattle.std.proofs.Common.{Err, sym, ap, ◌∙◌}
use Rattle.avl_values.specs.Viewed.{record_of}
use Rattle.flash_ring.specs.Ring.{RingView}
use Rattle.fmb_drive.proofs.Halting.{halts_spent}
use Rattle.fmb_drive.proofs.Keeping.{failed_ring, gives_nothing, keep_failed}
use Rattle.fmb_drive.specs.Steps.{Gives}
use Rattle.fmb_drive.proofs.storing.keep.Goals as goal

pub returns-then-next_seq-eq-SEQ_END-clause-stopped : goal.returns-then-next_seq-eq-SEQ_END-clause-stopped
returns-then-next_seq-eq-SEQ_END-clause-stopped g c = λ address.
    halts_spent address (Gives c.args.tracker.now.ring) _ _ _ _ c.args.tracker.now.ring (gives_nothing c.args.tracker.now.ring)
    (sym (c.next_seq.ensures.value ∙ ap (λ (v : RingView). v.next) c.ring.ensures) ∙ c.if-next_seq-eq-SEQ_END.true)

pub returns-in-Err-MediumFault-clause-stopped : goal.returns-in-Err-MediumFault-clause-stopped
returns-in-Err-MediumFault-clause-stopped g c = λ address.
    keep_failed address _ _ _ _ _ _ (record_of c.args.rec.now) c.in_ok-print_lost.ensures.printed c.in_ok-print_lost.ensures.steady c.print_lost.ensures.others
    (failed_ring (record_of c.args.rec.now) c.keep.result c.args.tracker.now.ring c.keep.new.self.ring (c.in-Err-MediumFault.is ∙ ap Err c.in-Err-MediumFault.field-0-is) c.keep.ensures.ring)

use Rattle.std.proofs.Common.{ℕ, List, Ok, Err, ◌++◌, refl, subst, ap, ◌∙◌}
use Rattle.shelf.specs.Shelf.{Leaves}
use Rattle.shelf.specs.declared.receipt.AdmitFault.{AdmitFault}
use Rattle.trial_wire.specs.Steps.{failed, stored, was_down}
use Rattle.trial_wire.proofs.pieces.store.Goals as goal

pub admit-requires-clause-accepted : goal.admit-requires-clause-accepted
admit-requires-clause-accepted g c =
    let framed = c.requires.framed in
    (framed.0, rw c.body.ensures framed.1.is)

pub returns-in-Err-Down-clause-stores : goal.returns-in-Err-Down-clause-stores
returns-in-Err-Down-clause-stores g c =
    was_down c.in-Err-Down.faults (subst (λ (z : List ℕ × AdmitFault). Leaves c.args.shelf.now c.args.imei z.0 (Err z.1) c.admit.new.self) (λ i. (c.body.ensures i, c.in-Err-Down.field-0-is i)) c.in-Err-Down.ensures.leaves) refl refl

pub returns-in-Err-MediumFault-clause-stores : goal.returns-in-Err-MediumFault-clause-stores
returns-in-Err-MediumFault-clause-stores g c =
    failed c.in-Err-MediumFault.faults (subst (λ (z : List ℕ × AdmitFault). Leaves c.args.shelf.now c.args.imei z.0 (Err z.1) c.admit.new.self) (λ i. (c.body.ensures i, c.in-Err-MediumFault.field-0-is i)) c.in-Err-MediumFault.ensures.leaves) refl refl

pub returns-in-Ok-extend_from_slice-clause-stores : goal.returns-in-Ok-extend_from_slice-clause-stores
returns-in-Ok-extend_from_slice-clause-stores g c =
    stored c.in-Ok.receipt (subst (λ b. Leaves c.args.shelf.now c.args.imei b (Ok c.in-Ok.receipt) c.admit.new.self) c.body.ensures c.in-Ok.ensures.leaves)
    (c.in-Ok-extend_from_slice.ensures.ok ∙ ap (λ l. c.args.down.now ++ l) c.answer_packet-count.ensures.answer) refl

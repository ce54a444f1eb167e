-- Each exit leaves what the gates before it left.
use Rattle.std.proofs.Common.{refl, arith}
use Rattle.std.proofs.lemmas.Bool.{false≢true}
use Rattle.medium_model.proofs.Images.{counted-then, counted-as}
use Rattle.flash_ring.proofs.Closes.{gate-ready, gate-written, exit-gate_failed, exit-sync_failed, exit-closed_images}
use Rattle.flash_ring.proofs.close.close_slots.Goals as goal

pub write-requires-clause-ready : goal.write-requires-clause-ready
write-requires-clause-ready g c =
    gate-ready c.args.slots.now c.args.held.now c.loop-i.i _ _ c.requires.opens (omega arith) c.requires.ready c.loop-i.invariant.counted.ready

pub returns-in_err-write-clause-images : goal.returns-in_err-write-clause-images
returns-in_err-write-clause-images g c =
    let inv = c.loop-i.invariant in
    exit-gate_failed c.args.held.now c.args.slots.now c.requires.opens _ _ _ c.loop-i.i inv.counted inv.shut (omega arith) c.in_err-write.ensures.torn c.in_err-write.ensures.counted refl

pub loop-i-preserved : goal.loop-i-preserved
loop-i-preserved g c =
    let inv = c.loop-i.invariant in
    record {
      counted = counted-then inv.counted (counted-as refl (λ f. absurd f) false≢true c.in_ok-write.ensures.counted);
      shut = gate-written c.args.held.now c.args.slots.now c.requires.opens _ _ (g.M.Medium.state c.write.new.self) c.loop-i.i inv.counted inv.shut (omega arith) c.in_ok-write.ensures.written;
    }

pub returns-in_err-sync-clause-images : goal.returns-in_err-sync-clause-images
returns-in_err-sync-clause-images g c =
    let inv = c.loop-i.invariant in
    exit-sync_failed c.args.held.now c.args.slots.now c.requires.opens _ _ _ c.loop-i.i inv.counted inv.shut (omega arith) c.in_err-sync.ensures.unchanged c.in_err-sync.ensures.counted refl

pub returns-clause-images : goal.returns-clause-images
returns-clause-images g c =
    let inv = c.loop-i.invariant in
    exit-closed_images c.args.held.now c.args.slots.now c.requires.opens _ _ _ c.loop-i.i inv.counted inv.shut (omega arith) c.in_ok-sync.ensures.durable c.in_ok-sync.ensures.counted false≢true

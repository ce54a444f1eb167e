use Rattle.std.proofs.Common.{length, slice_get, sym, ap, ◌∙◌, arith}
use Rattle.session_core.specs.Knowing.{knows}
use Rattle.shelf.specs.Shelf.{front}
use Rattle.desk.specs.Desks.{opening}
use Rattle.server_loop.proofs.Joining.{length-counting}
use Rattle.server_loop.proofs.Staffing.{has-served, whole-again, worked-as, worked-seated}
use Rattle.server_loop.proofs.worker.serving.turn_all.Goals as goal

pub run-requires-clause-ready : goal.run-requires-clause-ready
run-requires-clause-ready g c κs within = λ i w at. c.requires.ready i w (ap (λ l. slice_get l i) (sym c.as_mut_slice.ensures.value) ∙ at)

pub hand_back-seat-requires-clause-seated : goal.hand_back-seat-requires-clause-seated
hand_back-seat-requires-clause-seated g c =
    let ok = c.args.workers.ok.0 in
    let worked = c.run.ensures.worked in
    let whole = whole-again c.args.workers.len c.run.new.workers c.as_mut_slice.result.now c.args.workers.items worked.count c.as_mut_slice.ensures.value (omega (arith, ok)) in
    worked-seated g.D.Door.state g.D.L.Link.state g.D.L.Link.follows (knows c.args.known.now) c.args.desk c.args.sessions _ _
    (worked-as g.D.Door.state g.D.L.Link.state g.D.L.Link.follows (knows c.args.known.now) c.args.desk c.args.sessions _ _ _ _ c.as_mut_slice.ensures.value (sym whole) worked)

pub close-requires-clause-all : goal.close-requires-clause-all
close-requires-clause-all g c =
    let ok = c.args.workers.ok.0 in
    let worked = c.run.ensures.worked in
    let whole = whole-again c.args.workers.len c.run.new.workers c.as_mut_slice.result.now c.args.workers.items worked.count c.as_mut_slice.ensures.value (omega (arith, ok)) in
    let all = c.hand_back-seat.ensures.seat.all in
    ap (λ l. length l) all ∙ (length-counting 0 _ ∙ (ap (λ l. length l) whole ∙ (worked.count ∙ (ap (λ l. length l) c.as_mut_slice.ensures.value ∙ sym c.requires.all))))

pub returns-clause-served : goal.returns-clause-served
returns-clause-served g c =
    let ok = c.args.workers.ok.0 in
    let worked = c.run.ensures.worked in
    let whole = whole-again c.args.workers.len c.run.new.workers c.as_mut_slice.result.now c.args.workers.items worked.count c.as_mut_slice.ensures.value (omega (arith, ok)) in
    let back = c.hand_back-seat.ensures in
    has-served g.D.Door.state g.D.L.Link.state g.D.L.Link.follows (knows c.args.known.now) c.args.desk c.args.sessions (opening c.args.desk) (front c.close.result) _ _ c.hand_back-seat.result _ _
    (worked-as g.D.Door.state g.D.L.Link.state g.D.L.Link.follows (knows c.args.known.now) c.args.desk c.args.sessions _ _ _ _ c.as_mut_slice.ensures.value (sym whole) worked)
    back.seat back.doors back.reports c.close.ensures.legal c.close.ensures.shelf c.close.ensures.whole

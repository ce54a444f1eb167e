use Rattle.std.proofs.Common.{refl, sym, subst, ◌∙◌, arith}
use Rattle.desk.specs.Desks.{IsSeatOf}
use Rattle.desk.proofs.Shelves.{some-same}
use Rattle.server_loop.proofs.Turning.{turned}
use Rattle.server_loop.proofs.worker.serving.work_at.Goals as goal

pub new-at-requires : goal.new-at-requires
new-at-requires g c =
    let r = c.requires in
    let same = some-same _ _ (sym c.unwrap-seat.ensures ∙ (c.take.ensures.value ∙ r.staffed.is)) in
    subst (λ z. IsSeatOf c.args.desk.now z) (sym same) r.staffed.new.of_desk

pub work-worker-requires : goal.work-worker-requires
work-worker-requires g c =
    let r = c.requires in
    let counts = r.counts in
    let few = r.few in
    record { empty = r.staffed.room.empty; room = r.staffed.room.room; counts = omega arith }

pub returns : goal.returns
returns g c =
    let r = c.requires in
    let same = some-same _ _ (sym c.unwrap-seat.ensures ∙ (c.take.ensures.value ∙ r.staffed.is)) in
    let w = c.work-worker.ensures.works in
    let t = turned (λ z. z.desk.now) (λ z. z.seat) r.staffed.seat c.into_seat.result c.args.desk.now c.args.number _ _ w.cs r.staffed.new c.new-at.ensures.desk (c.new-at.ensures.seat ∙ same) w.runs c.into_seat.ensures.seat c.into_seat.ensures.of_desk in
    record {
      seated = record { seat = c.into_seat.result; is = refl; of_desk = t.of_desk; number = t.number };
      is = record { cs = w.cs; worked = w.worked; calls = t.calls };
    }

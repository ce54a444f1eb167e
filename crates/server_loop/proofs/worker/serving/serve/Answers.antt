use Rattle.std.proofs.Common.{List, map, sym, subst}
use Rattle.session_core.specs.Knowing.{knows}
use Rattle.shelf.specs.Shelf.{front}
use Rattle.server_loop.specs.Evidence.{ClosesWith}
use Rattle.server_loop.specs.Workers.{AreCaused, AreReports}
use Rattle.server_loop.specs.declared.report.WorkerReport.{WorkerReport}
use Rattle.server_loop.proofs.Closing.{are-reports, caused, closes}
use Rattle.server_loop.proofs.Staffing.{door-states, ready-all, served-as}
use Rattle.server_loop.proofs.worker.serving.serve.Goals as goal

pub turn_all-shelf-requires-clause-ready : goal.turn_all-shelf-requires-clause-ready
turn_all-shelf-requires-clause-ready g c κs within =
    ready-all g.D.Door.state c.in-Ok-new.desk c.args.sessions c.args.doors.items c.staff.new.workers.items c.staff.ensures.doors c.requires.links c.requires.few_sessions c.staff.ensures.staffed

pub returns-in-Ok-new-clause-closes : goal.returns-in-Ok-new-clause-closes
returns-in-Ok-new-clause-closes g c =
    let served = served-as g.D.L.Link.state g.D.L.Link.follows (knows c.args.known.now) c.args.sessions _ (front c.args.shelf) (front c.turn_all-shelf.result) _ (map g.D.Door.state c.args.doors.items) _ _ c.in-Ok-new.ensures.desk
    (door-states g.D.Door.state c.staff.new.workers.items c.args.doors.items c.staff.ensures.doors) c.turn_all-shelf.ensures.served in
    subst (λ (rs : List WorkerReport). ClosesWith g.D.L.Link.state g.D.L.Link.follows (knows c.args.known.now) c.args.sessions (map g.D.Door.state c.args.doors.items) (map g.D.Door.state c.turn_all-shelf.new.doors.items) rs (front c.args.shelf) (front c.turn_all-shelf.result))
    (sym c.from_vec.ensures) (closes g.D.L.Link.state g.D.L.Link.follows (knows c.args.known.now) c.args.sessions _ _ _ _ _ served)

pub returns-in-Ok-new-clause-reports : goal.returns-in-Ok-new-clause-reports
returns-in-Ok-new-clause-reports g c =
    let served = served-as g.D.L.Link.state g.D.L.Link.follows (knows c.args.known.now) c.args.sessions _ (front c.args.shelf) (front c.turn_all-shelf.result) _ (map g.D.Door.state c.args.doors.items) _ _ c.in-Ok-new.ensures.desk
    (door-states g.D.Door.state c.staff.new.workers.items c.args.doors.items c.staff.ensures.doors) c.turn_all-shelf.ensures.served in
    subst (λ (rs : List WorkerReport). AreReports c.args.sessions (map g.D.Door.state c.args.doors.items) (map g.D.Door.state c.turn_all-shelf.new.doors.items) rs)
    (sym c.from_vec.ensures) (are-reports g.D.L.Link.state g.D.L.Link.follows (knows c.args.known.now) c.args.sessions 0 served.log _ _ _ served.workers)

pub returns-in-Ok-new-clause-media : goal.returns-in-Ok-new-clause-media
returns-in-Ok-new-clause-media g c =
    let served = served-as g.D.L.Link.state g.D.L.Link.follows (knows c.args.known.now) c.args.sessions _ (front c.args.shelf) (front c.turn_all-shelf.result) _ (map g.D.Door.state c.args.doors.items) _ _ c.in-Ok-new.ensures.desk
    (door-states g.D.Door.state c.staff.new.workers.items c.args.doors.items c.staff.ensures.doors) c.turn_all-shelf.ensures.served in
    subst (λ (rs : List WorkerReport). AreCaused c.args.shelf.medium.faults c.turn_all-shelf.result.medium.faults rs)
    (sym c.from_vec.ensures) (caused g.D.L.Link.state g.D.L.Link.follows (knows c.args.known.now) c.args.sessions _ _ _ _ _ served)

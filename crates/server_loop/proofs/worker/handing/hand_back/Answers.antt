use Rattle.std.proofs.Common.{rules, Bool, List, ◌∷◌, [], ◌++◌, sym, ap, ◌∙◌, append_assoc}
use Rattle.std.proofs.lemmas.List.{map-append}
use Rattle.session_core.specs.declared.served.Served.{Served}
use Rattle.server_loop.specs.Staff.{door_of, report_of}
use Rattle.server_loop.specs.declared.report.WorkerReport.{WorkerReport}
use Rattle.server_loop.proofs.Joining.{get-middle, join-seat, seat-of, seat-some}
use Rattle.server_loop.proofs.worker.handing.hand_back.Goals as goal

abbrev report : List Served → Bool → WorkerReport
report served failed = record { served = served; door_failed = failed }

pub unwrap-requires : goal.unwrap-requires
unwrap-requires g c =
    let inv = c.loop-worker.invariant in
    let cut = ap (λ l. c.loop-worker.yielded ++ l) (sym c.in-Some.ensures.steps.0) ∙ inv.left in
    seat-some _ _ _ (c.requires.seated _ c.in-Some.worker (get-middle _ _ _ _ cut))

pub join_next-requires-clause-seat : goal.join_next-requires-clause-seat
join_next-requires-clause-seat g c =
    let inv = c.loop-worker.invariant in
    let cut = ap (λ l. c.loop-worker.yielded ++ l) (sym c.in-Some.ensures.steps.0) ∙ inv.left in
    seat-of _ _ _ _ (c.requires.seated _ c.in-Some.worker (get-middle _ _ _ _ cut)) c.unwrap.ensures

pub loop-worker-preserved : goal.loop-worker-preserved
loop-worker-preserved g c =
    let inv = c.loop-worker.invariant in
    let cut = ap (λ l. c.loop-worker.yielded ++ l) (sym c.in-Some.ensures.steps.0) ∙ inv.left in
    let seated = c.requires.seated _ c.in-Some.worker (get-middle _ _ _ _ cut) in
    let j = c.join_next.ensures in record {
      left = append_assoc c.loop-worker.yielded (c.in-Some.worker ∷ []) _ ∙ cut;
      doors_room = search rules;
      reports_room = search rules;
      doors = c.push_reserved.ensures.items ∙ (ap (λ l. l ++ c.in-Some.worker.door ∷ []) inv.doors ∙ sym (map-append door_of c.loop-worker.yielded (c.in-Some.worker ∷ [])));
      reports = c.push_reserved-in-loop-worker.ensures.items
          ∙ (ap (λ (s : List Served). c.loop-worker.reports.items ++ report s c.in-Some.worker.failed ∷ []) c.from_vec.ensures
          ∙ (ap (λ l. l ++ report_of c.in-Some.worker ∷ []) inv.reports ∙ sym (map-append report_of c.loop-worker.yielded (c.in-Some.worker ∷ []))));
      joined = join-seat c.args.desk.now c.loop-worker.yielded c.in-Some.worker c.loop-worker.joined c.unwrap.result c.join_next.result inv.joined seated c.unwrap.ensures j.seat j.none j.numbers j.history;
    }

use Rattle.std.proofs.Common.{rules, Some, sym, ap, subst, ◌∙◌}
use Rattle.std.proofs.lemmas.Option.{get_or_from_slice_get, slice_get-get_or, slice_get_within}
use Rattle.session_core.specs.Knowing.{knows}
use Rattle.server_loop.specs.Staff.{HasWorked}
use Rattle.server_loop.specs.declared.worker.Worker.{Worker}
use Rattle.server_loop.proofs.worker.serving.run.Goals as goal

pub for_each_mut-requires-clause-accepts : goal.for_each_mut-requires-clause-accepts
for_each_mut-requires-clause-accepts g c κs within = λ i p lt is. (search rules, c.requires.ready i p.now (slice_get-get_or c.args.workers.now i p.now lt ∙ ap (λ z. Some z) (sym is)))

pub returns : goal.returns
returns g c = record {
  worked = record {
    count = search rules;
    each = λ i v w at there.
        let h = (c.for_each_mut.ensures i w (slice_get_within c.args.workers.now i v at)).1 in
        subst (λ (z : Worker g.row.D.Denot g.row.M.Denot g.M.Medium × Worker g.row.D.Denot g.row.M.Denot g.M.Medium). HasWorked g.D.Door.state g.D.L.Link.state g.D.L.Link.follows (knows c.args.known.now) c.args.desk.now c.args.sessions i z.0 z.1)
        (λ t. ((h.argument_is ∙ get_or_from_slice_get c.args.workers.now i v w at) t, (h.left ∙ get_or_from_slice_get c.for_each_mut.new.s i w w there) t)) h.call;
  };
}

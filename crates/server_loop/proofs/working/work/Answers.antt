use Rattle.std.proofs.Common.{rules, arith, sym, subst}
use Rattle.session_core.specs.Knowing.{knows}
use Rattle.server_loop.specs.Progress.{IsOn}
use Rattle.server_loop.proofs.Going.{few_failed, goes_on, all_served, stopped}
use Rattle.server_loop.proofs.working.work.Goals as goal

pub serve_next-requires : goal.serve_next-requires
serve_next-requires g c =
    let inv = c.loop.invariant in
    let few = few_failed g.D.L.Link.state g.D.L.Link.follows (knows c.args.known.now) g.A.Admit.leaves g.A.Admit.mark _ _ _ _ _ inv.on in
    let n = inv.count in
    let ok = c.loop.served.ok.0 in
    let near = c.loop-test.true in
    let counts = c.requires.counts in
    omega arith

pub returns-in-None : goal.returns-in-None
returns-in-None g c =
    let inv = c.loop.invariant in
    let n = inv.count in
    let ok = c.loop.served.ok.0 in
    let near = c.loop-test.true in
    record { works = stopped g.D.L.Link.state g.D.L.Link.follows (knows c.args.known.now) g.A.Admit.leaves g.A.Admit.mark _ _ _ _ _ _ _ _ inv.on (omega arith) c.in-None.ensures.next }

pub loop-preserved : goal.loop-preserved
loop-preserved g c =
    let inv = c.loop.invariant in
    record {
      cap = search rules;
      count = search rules;
      on = subst (λ l. IsOn g.D.L.Link.state g.D.L.Link.follows (knows c.args.known.now) g.A.Admit.leaves g.A.Admit.mark (g.D.Door.state c.args.door.now) (g.D.Door.state c.serve_next.new.door) c.args.shelf.now c.serve_next.new.shelf l)
          (sym c.push_reserved.ensures.items)
          (goes_on g.D.L.Link.state g.D.L.Link.follows (knows c.args.known.now) g.A.Admit.leaves g.A.Admit.mark _ _ _ _ _ _ _ _ inv.on c.in-Some.ensures.next);
    }

pub returns : goal.returns
returns g c =
    let inv = c.loop.invariant in
    let n = inv.count in
    let ok = c.loop.served.ok.0 in
    let end = c.loop.auto.counter-end in
    let far = c.loop-test.false in
    record { works = all_served g.D.L.Link.state g.D.L.Link.follows (knows c.args.known.now) g.A.Admit.leaves g.A.Admit.mark _ _ _ _ _ _ inv.on (omega arith) }

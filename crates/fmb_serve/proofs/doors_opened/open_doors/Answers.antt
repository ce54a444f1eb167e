use Rattle.std.proofs.Common.{rules, arith, All, ◌≡◌, ◌<◌, ◌^◌, ◌∷◌, [], sym, ap, subst, map, ◌∙◌}
use Rattle.std.proofs.lemmas.List.{map-append}
use Rattle.std.proofs.lemmas.List.Elements.{All-push}
use Rattle.fmb_serve.specs.Doors.{HandsOutDoors}
use Rattle.fmb_serve.proofs.Doors.{hands_more, hands_none, opens_none}
use Rattle.fmb_serve.proofs.doors_opened.open_doors.Goals as goal

pub workers-init : goal.workers-init
workers-init g c = record {
  room = search rules;
  count = search rules;
  links = search rules;
  out = hands_none g.H.Gate.L.Link.state _ _ _ (ap (λ ds. map g.H.Gate.Door.state ds) c.in-Ok.ensures.items);
}

pub workers-preserved : goal.workers-preserved
workers-preserved g c =
    let inv = c.workers.invariant in
    let none : (g.H.Gate.Door.state c.in-Ok-door.door).link_faults ≡ 0 = c.in-Ok-door.ensures.unused.link_faults in
    record {
      room = search rules;
      count = search rules;
      links = subst (λ ds. All (λ d. (g.H.Gate.Door.state d).link_faults < 2 ^ 63) ds) (sym c.push_reserved.ensures.items)
          (All-push (λ d. (g.H.Gate.Door.state d).link_faults < 2 ^ 63) _ c.in-Ok-door.door inv.links (omega (arith, none)));
      out = subst (λ ds. HandsOutDoors g.H.Gate.L.Link.state (g.H.Host.view c.args.host.now) c.args.address.now ds (g.H.Host.view c.door.new.self))
          (sym (ap (λ ds. map g.H.Gate.Door.state ds) c.push_reserved.ensures.items ∙ map-append g.H.Gate.Door.state c.workers.doors.items (c.in-Ok-door.door ∷ [])))
          (hands_more g.H.Gate.L.Link.state _ _ _ _ _ _ inv.out c.in-Ok-door.ensures.handed c.in-Ok-door.ensures.unused);
    }

pub returns-in-Err-clause-host_fault : goal.returns-in-Err-clause-host_fault
returns-in-Err-clause-host_fault g c = λ e.
    opens_none g.H.Gate.L.Link.state _ _ _ _ _ _ c.workers.invariant.out c.in-Err.ensures.failed c.give_back.ensures

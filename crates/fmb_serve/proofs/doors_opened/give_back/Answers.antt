use Rattle.std.proofs.Common.{◌∷◌, [], ◌++◌, refl, sym, ap, subst, ◌∙◌, append_assoc}
use Rattle.std.proofs.lemmas.List.{map-append}
use Rattle.fmb_serve.specs.Doors.{TakesBackDoors}
use Rattle.fmb_serve.proofs.Doors.{room_for, takes_more, takes_none}
use Rattle.fmb_serve.proofs.doors_opened.give_back.Goals as goal

pub loop-door-init : goal.loop-door-init
loop-door-init g c = record {
  left = c.into_iter-door-iterator.ensures.into_iter_gives.0;
  back = takes_none g.H.Gate.L.Link.state _ [] refl;
}

pub door_back-requires : goal.door_back-requires
door_back-requires g c =
    let inv = c.loop-door.invariant in
    let cut = ap (λ l. c.loop-door.yielded ++ l) (sym c.in-Some.ensures.steps.0) ∙ inv.left in
    room_for g.H.Gate.L.Link.state g.H.Gate.Door.state _ _ c.loop-door.yielded _ _ c.in-Some.door inv.back cut c.requires.room

pub loop-door-preserved : goal.loop-door-preserved
loop-door-preserved g c =
    let inv = c.loop-door.invariant in
    let cut = ap (λ l. c.loop-door.yielded ++ l) (sym c.in-Some.ensures.steps.0) ∙ inv.left in
    record {
      left = append_assoc c.loop-door.yielded (c.in-Some.door ∷ []) _ ∙ cut;
      back = subst (λ ds. TakesBackDoors g.H.Gate.L.Link.state (g.H.Host.view c.args.host.now) ds (g.H.Host.view c.door_back.new.self)) (sym (map-append g.H.Gate.Door.state c.loop-door.yielded (c.in-Some.door ∷ [])))
          (takes_more g.H.Gate.L.Link.state _ _ _ _ _ inv.back c.door_back.ensures);
    }

use Rattle.std.proofs.Common.{◌≡◌, ◌+◌, false, Some, List, ◌∷◌, [], ◌++◌, length, map, refl, sym, ap, subst, ◌∙◌, append_assoc, length-append, arith}
use Rattle.std.proofs.lemmas.List.{map-append}
use Rattle.std.proofs.lemmas.List.Elements.{All-pop}
use Rattle.server_loop.specs.Staff.{AllStaffed, HasRoom, door_of}
use Rattle.server_loop.specs.declared.worker.Worker.{Worker}
use Rattle.server_loop.proofs.Staffing.{AreLeft, cut-by, if-some, left-first, left-next, one-less, staffed-none, staffed-snoc}
use Rattle.server_loop.proofs.worker.handing.staff.Goals as goal

pub loop-door-init : goal.loop-door-init
loop-door-init g c =
    let none = c.requires.empty in
    let fewer : length c.args.workers.now.items ≡ 0 = ap (λ l. length l) none in
    let ok = c.args.seats.ok.0 in
    let turned = c.reverse.new.self.ok.0 in
    let same = c.reverse.ensures.len in
    let seats = c.requires.seats_count in
    let rooms = c.requires.rooms_count in
    record {
      left = c.into_iter-door-iterator.ensures.into_iter_gives.0;
      room = refl;
      doors = ap (λ (l : List (Worker g.row.D.Denot g.row.M.Denot g.M.Medium)). map door_of l) none;
      staffed = staffed-none _ _ _ none;
      seats = subst (λ n. AreLeft c.args.desk.now n c.reverse.new.self.items) (sym fewer)
          (left-first c.args.desk.now c.args.seats.items c.reverse.new.self.items c.args.seats.len (omega arith) (omega arith) c.reverse.ensures.by_index c.requires.seats);
      seats_count = omega arith;
      rooms = c.requires.rooms;
      rooms_count = omega arith;
    }

pub loop-door-preserved : goal.loop-door-preserved
loop-door-preserved g c =
    let inv = c.loop-door.invariant in
    let cut = ap (λ l. c.loop-door.yielded ++ l) (sym c.in-Some.ensures.steps.0) ∙ inv.left in
    let more = c.push_reserved.ensures.items in
    let fewer_seats = cut-by _ _ _ _ c.unwrap-seat.ensures c.pop.ensures.items in
    let fewer_rooms = cut-by _ _ _ _ c.unwrap-served.ensures c.pop-in-loop-door.ensures.items in
    let rooms = All-pop (HasRoom c.args.sessions) _ _ _ c.pop-in-loop-door.ensures.items inv.rooms in
    let next = left-next c.args.desk.now (length c.loop-door.workers.items) _ _ _ fewer_seats inv.seats in
    let w : Worker g.row.D.Denot g.row.M.Denot g.M.Medium = record { door = c.in-Some.door; seat = Some c.unwrap-seat.result; served = c.unwrap-served.result; failed = false } in
    let long : length c.loop-door.workers.items + 1 ≡ length c.push_reserved.new.self.items = sym (ap (λ l. length l) more ∙ length-append c.loop-door.workers.items (w ∷ [])) in
    record {
      left = append_assoc c.loop-door.yielded (c.in-Some.door ∷ []) _ ∙ cut;
      room = c.push_reserved.ensures.capacity ∙ inv.room;
      doors = ap (λ (l : List (Worker g.row.D.Denot g.row.M.Denot g.M.Medium)). map door_of l) more ∙ (map-append door_of c.loop-door.workers.items (w ∷ []) ∙ ap (λ l. l ++ c.in-Some.door ∷ []) inv.doors);
      staffed = subst (λ (l : List (Worker g.row.D.Denot g.row.M.Denot g.M.Medium)). AllStaffed c.args.desk.now c.args.sessions l) (sym more)
          (staffed-snoc c.args.desk.now c.args.sessions c.loop-door.workers.items w inv.staffed (record { room = if-some (HasRoom c.args.sessions) _ _ c.unwrap-served.ensures rooms.1; seat = c.unwrap-seat.result; is = refl; new = next.0 }));
      seats = subst (λ n. AreLeft c.args.desk.now n c.pop.new.self.items) long next.1;
      seats_count = one-less _ _ _ _ _ _ _ more fewer_seats inv.seats_count;
      rooms = rooms.0;
      rooms_count = one-less _ _ _ _ _ _ _ more fewer_rooms inv.rooms_count;
    }

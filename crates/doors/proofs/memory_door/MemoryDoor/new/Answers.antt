use Rattle.std.proofs.Common.{Some, sym, subst, All}
use Rattle.std.proofs.lemmas.List.Elements.{All-cons, All-pop}
use Rattle.doors.specs.MemoryDoors.{IsUnusedLink}
use Rattle.doors.proofs.Filling.{moved, moved-room}
use Rattle.doors.proofs.memory_door.MemoryDoor.new.Goals as goal

pub loop-link-preserved : goal.loop-link-preserved
loop-link-preserved c =
    let inv = c.loop-link.invariant in
    let cut = c.in-Some.ensures.items in
    let put = c.in_ok-push_front.ensures.items in
    let both = All-pop IsUnusedLink _ _ (Some c.in-Some.link) cut inv.left in record {
      same = moved _ _ _ _ _ _ cut put inv.same;
      left = both.0;
      coming = subst (λ l. All IsUnusedLink l) (sym put) (All-cons IsUnusedLink c.in-Some.link c.loop-link.coming.items both.1 inv.coming);
      none = inv.none;
      room = moved-room _ _ _ _ _ _ cut put inv.room;
    }

-- Doors that are handed out and come back, one after the other.
use Rattle.std.proofs.Common.{◌≡◌, ◌<◌, ◌≤◌, ◌+◌, ◌-◌, ◌^◌, ℕ, suc, List, [], ◌∷◌, ◌++◌, length, map, refl, sym, ap, subst, ◌∙◌, arith, append_assoc, append-nil, length-append}
use Rattle.std.proofs.lemmas.List.{length-map, map-append}
use Rattle.doors.specs.Doors.{DoorState}
use Rattle.links.specs.Links.{LinkState}
use Rattle.fmb_host.specs.Host.{HandsOutDoor, HostView, IsNewDoor, TakesBackDoor, counted_once, seen_door, with_host_fault}
use Rattle.fmb_host.specs.Stocks.{PassesNamed, Regains, Stock}
use Rattle.fmb_host.proofs.Stocks.{named_along, named_back, named_lent, named_none}
use Rattle.fmb_serve.specs.Doors.{AreNewDoors, HandsOutDoors, OpensNoDoors, RegainsAll, TakesBackDoors}
use Rattle.fmb_serve.specs.Serve.{counted_doors}
use Rattle.fmb_serve.proofs.Counting.{counted_most, counted_new, counted_snoc}

module _ {T : Type 0} where
  regains_snoc : (a b c : Stock T) (xs : List T) (x : T) → RegainsAll a xs b → Regains b x c → RegainsAll a (xs ++ x ∷ []) c
  regains_snoc a b c [] x all last = (c, subst (λ (s : Stock T). Regains s x c) all last, refl)
  regains_snoc a b c (y ∷ xs) x all last = (all.0, all.1, regains_snoc all.0 b c xs x all.2 last)

  -- what came back in order, of what was handed out
  pub passes_all : (name : List ℕ) (given back items : List T) (a b c : Stock T) → PassesNamed name given back a b → length back + length items ≤ length given → RegainsAll b items c
      → PassesNamed name given (back ++ items) a c
  passes_all name given back [] a b c first few same = subst (λ (l : List T). PassesNamed name given l a c) (sym (append-nil back)) (named_along name given back a b c first same)
  passes_all name given back (x ∷ items) a b c first few all =
      let one : length (back ++ x ∷ []) ≡ length back + 1 = length-append back (x ∷ []) in
      subst (λ (l : List T). PassesNamed name given l a c) (append_assoc back (x ∷ []) items)
      (passes_all name given (back ++ x ∷ []) items a all.0 c (named_back name given back x a b all.0 first (omega (arith, few)) all.1) (omega (arith, few, one)) all.2)

module _ {L : Type 0} (state : L → LinkState) where
  new_snoc : (ds : List (DoorState L)) (d : DoorState L) → AreNewDoors state ds → IsNewDoor (seen_door state d) → AreNewDoors state (ds ++ d ∷ [])
  new_snoc [] d all one = (one, tt)
  new_snoc (x ∷ ds) d all one = (all.0, new_snoc ds d all.1 one)

  -- no door came back yet
  pub takes_none : (start : HostView) (ds : List (DoorState L)) → ds ≡ [] → TakesBackDoors state start ds start
  takes_none start ds none = subst (λ (l : List (DoorState L)). TakesBackDoors state start l start) (sym none) (record { gates = refl; others = refl })

  -- one more came back
  pub takes_more : (start now next : HostView) (ds : List (DoorState L)) (d : DoorState L) → TakesBackDoors state start ds now → TakesBackDoor now (seen_door state d) next → TakesBackDoors state start (ds ++ d ∷ []) next
  takes_more start now next ds d all one = record {
    gates = subst (λ (l : List (DoorState LinkState)). RegainsAll start.gates l next.gates) (sym (map-append (seen_door state) ds (d ∷ [])))
        (regains_snoc start.gates now.gates next.gates (map (seen_door state) ds) (seen_door state d) all.gates one.gates);
    others = one.others
        ∙ (ap (λ (h : HostView). record h { counts = record h.counts { doors = counted_once h.counts.doors d.faults }; gates = next.gates }) all.others
        ∙ ap (λ (n : ℕ). record start { counts = record start.counts { doors = n }; gates = next.gates }) (sym (counted_snoc start.counts.doors ds d)));
  }

  -- no door was handed out yet
  pub hands_none : (start : HostView) (address : List ℕ) (ds : List (DoorState L)) → ds ≡ [] → HandsOutDoors state start address ds start
  hands_none start address ds none = subst (λ (l : List (DoorState L)). HandsOutDoors state start address l start) (sym none) (record { gates = named_none address start.gates; new = tt; others = refl })

  -- one more was handed out
  pub hands_more : (start now next : HostView) (address : List ℕ) (ds : List (DoorState L)) (d : DoorState L) → HandsOutDoors state start address ds now → HandsOutDoor now address (seen_door state d) next
      → IsNewDoor (seen_door state d) → HandsOutDoors state start address (ds ++ d ∷ []) next
  hands_more start now next address ds d all one new = record {
    gates = subst (λ (l : List (DoorState LinkState)). PassesNamed address l [] start.gates next.gates) (sym (map-append (seen_door state) ds (d ∷ [])))
        (named_lent address (map (seen_door state) ds) [] (seen_door state d) start.gates now.gates next.gates all.gates one.gates);
    new = new_snoc ds d all.new new;
    others = one.others ∙ ap (λ (h : HostView). record h { gates = next.gates }) all.others;
  }

  -- the next one failed, and those that were handed out came back
  pub opens_none : (start now failed next : HostView) (address : List ℕ) (ds : List (DoorState L)) → HandsOutDoors state start address ds now → failed ≡ with_host_fault now → TakesBackDoors state failed ds next
      → OpensNoDoors state address 1 start next
  opens_none start now failed next address ds all fault back = record {
    doors = map (seen_door state) ds;
    gates = passes_all address (map (seen_door state) ds) [] (map (seen_door state) ds) start.gates failed.gates next.gates
        (named_along address (map (seen_door state) ds) [] start.gates now.gates failed.gates all.gates (ap (λ (h : HostView). h.gates) fault)) (omega arith) back.gates;
    others = back.others
        ∙ (ap (λ (n : ℕ). record failed { counts = record failed.counts { doors = n }; gates = next.gates }) (counted_new state 0 failed.counts.doors ds all.new)
        ∙ (ap (λ (h : HostView). record h { gates = next.gates }) fault
        ∙ ap (λ (h : HostView). record h { counts = record h.counts { host = h.counts.host + 1 }; gates = next.gates }) all.others));
  }

  -- there is room to count one more
  pub room_for : {K : Type 0} (see : K → DoorState L) (start now : HostView) (yielded rest doors : List K) (d : K) → TakesBackDoors state start (map see yielded) now → yielded ++ d ∷ rest ≡ doors
      → start.counts.doors + length doors < 2 ^ 64 → now.counts.doors < 2 ^ 64 - 1
  room_for see start now yielded rest doors d back cut room =
      let is : now.counts.doors ≡ counted_doors start.counts.doors (map see yielded) = ap (λ (h : HostView). h.counts.doors) back.others in
      let long : length yielded + suc (length rest) ≡ length doors = sym (length-append yielded (d ∷ rest)) ∙ ap (λ l. length l) cut in
      omega (arith, is, counted_most start.counts.doors (map see yielded), length-map yielded see, long, room)

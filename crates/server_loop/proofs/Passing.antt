-- Links given by a door and given back to it, one after the other.
use Rattle.std.proofs.Common.{◌≡◌, ℕ, ◌<◌, ◌≤◌, List, [], ◌++◌, Option, Some, None, sym, ap, subst, ◌∙◌, append_assoc, arith}
use Rattle.std.proofs.lemmas.Bool.Decides.{nat_tests}
use Rattle.doors.specs.Doors.{DoorLinks, Passes, once_if}

module _ {L : Type 0} where
  abbrev links_of : List L → List L → Option (DoorLinks L)
  links_of gives back = let links : DoorLinks L = record { gives = gives; back = back } in Some links

  pub passes_then : (d m e : Option (DoorLinks L)) (given back more more_back : List L) → Passes given back d m → Passes more more_back m e → Passes (given ++ more) (back ++ more_back) d e
  passes_then None m e given back more more_back p q = subst (λ (z : Option (DoorLinks L)). Passes more more_back z e) p q
  passes_then (Some d) m e given back more more_back p q =
      let then : Passes more more_back (links_of p.0 (d.back ++ back)) e = subst (λ (z : Option (DoorLinks L)). Passes more more_back z e) p.2 q in (
        then.0,
        p.1 ∙ (ap (λ (links : List L). given ++ links) then.1 ∙ sym (append_assoc given more then.0)),
        then.2 ∙ ap (λ (links : List L). links_of then.0 links) (append_assoc d.back back more_back),
      )

pub once_some : (faults : ℕ) → 0 < faults → once_if faults ≡ 1
once_some faults some = grind (arith, nat_tests)

pub once_low : (faults : ℕ) → once_if faults ≤ 1
once_low faults = grind (arith, nat_tests)

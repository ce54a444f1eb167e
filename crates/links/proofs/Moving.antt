-- One move after another.
use Rattle.std.proofs.Common.{◌≡◌, ℕ, ◌+◌, ◌-◌, List, [], ◌++◌, length, take, drop, Option, Some, None, refl, sym, ap, subst, ◌∙◌, append_assoc, append-nil, arith}
use Rattle.std.proofs.lemmas.List.{length-drop}
use Rattle.std.proofs.Math.Seq.{take-add, take-length}
use Rattle.links.specs.Links.{Traffic, LinkState, with_more, Moves, IsLater}

same_traffic : (a b c d : List ℕ) → a ≡ c → b ≡ d → (let t : Traffic = record { taken = a; written = b } in t) ≡ (let t : Traffic = record { taken = c; written = d } in t)
same_traffic a b c d p q = ap (λ (z : List ℕ × List ℕ). let t : Traffic = record { taken = z.0; written = z.1 } in t) (λ i. (p i, q i))

more_twice : (a b c d : List ℕ) (t : Traffic) → with_more c d (with_more a b t) ≡ with_more (a ++ c) (b ++ d) t
more_twice a b c d t = same_traffic _ _ _ _ (append_assoc t.taken a c) (append_assoc t.written b d)

pub moves_then : (a b c d : List ℕ) (x y z : Option Traffic) → Moves a b x y → Moves c d y z → Moves (a ++ c) (b ++ d) x z
moves_then a b c d None y z p q = subst (λ (v : Option Traffic). Moves c d v z) p q
moves_then a b c d (Some t) y z p q = subst (λ (v : Option Traffic). Moves c d v z) p q ∙ ap (λ (u : Traffic). Some u) (more_twice a b c d t)

pub moves_none : (x : Option Traffic) → Moves [] [] x x
moves_none None = refl
moves_none (Some t) = ap (λ (u : Traffic). Some u) (same_traffic _ _ _ _ (sym (append-nil t.taken)) (sym (append-nil t.written)))

-- as other bytes that are the same
pub moves_as : (a b c d : List ℕ) (x y : Option Traffic) → a ≡ c → b ≡ d → Moves a b x y → Moves c d x y
moves_as a b c d x y p q m = subst (λ (z : List ℕ × List ℕ). Moves z.0 z.1 x y) (λ i. (p i, q i)) m

-- What calls may do, again and again.

pub later_none : (link : LinkState) → IsLater link link
later_none link = record { taken = []; written = []; moves = moves_none link.told; faults = omega arith }

pub later_then : (a b c : LinkState) → IsLater a b → IsLater b c → IsLater a c
later_then a b c p q = record {
  taken = p.taken ++ q.taken;
  written = p.written ++ q.written;
  moves = moves_then p.taken p.written q.taken q.written a.told b.told c.told p.moves q.moves;
  faults = omega (arith, p.faults, q.faults);
}

-- Parts of a buffer that were written, one after the other.

-- a slice from a place on
pub rest_whole : (d : ℕ) (bytes : List ℕ) → take (length bytes - d) (drop d bytes) ≡ drop d bytes
rest_whole d bytes = ap (λ (k : ℕ). take k (drop d bytes)) (sym (length-drop d bytes)) ∙ take-length (drop d bytes)

pub part_then : (d n : ℕ) (bytes : List ℕ) (x y z : Option Traffic) → Moves [] (take d bytes) x y → Moves [] (take n (take (length bytes - d) (drop d bytes))) y z → Moves [] (take (d + n) bytes) x z
part_then d n bytes x y z p q =
    moves_as [] (take d bytes ++ take n (take (length bytes - d) (drop d bytes))) [] (take (d + n) bytes) x z refl
    (ap (λ (b : List ℕ). take d bytes ++ take n b) (rest_whole d bytes) ∙ sym (take-add d n bytes))
    (moves_then [] (take d bytes) [] (take n (take (length bytes - d) (drop d bytes))) x y z p q)

pub all_parts : (d : ℕ) (bytes : List ℕ) (x y : Option Traffic) → d ≡ length bytes → Moves [] (take d bytes) x y → Moves [] bytes x y
all_parts d bytes x y e p = moves_as [] (take d bytes) [] bytes x y refl (ap (λ (k : ℕ). take k bytes) e ∙ take-length bytes) p

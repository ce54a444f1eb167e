-- Steps of a loop that writes a text piece by piece.
use Rattle.std.proofs.Common.{◌≡◌, ◌+◌, ◌-◌, ℕ, List, Option, length, take, drop, subst, sym, ap}
use Rattle.std.proofs.Math.Seq.{take-add}
use Rattle.std.proofs.lemmas.List.{take_rest}
use Rattle.std.specs.Io.KnownBytes.{Appends}
use Rattle.std.proofs.KnownBytes.{Appends-trans}

-- after the first bytes of a text some more of its rest were written
pub front_grows : (text : List ℕ) (at n : ℕ) (a b c : Option (List ℕ)) → Appends a b (take at text) → Appends b c (take n (take (length text - at) (drop at text))) → Appends a c (take (at + n) text)
front_grows text at n a b c first second =
    let rest : take n (take (length text - at) (drop at text)) ≡ take n (drop at text) = ap (take n) (take_rest text at) in
    subst (Appends a c) (sym (take-add at n text)) (Appends-trans a b c _ _ first (subst (Appends b c) rest second))

-- Groups of elements, while they are written one after the other.
use Rattle.std.proofs.Common.{◌≡◌, ℕ, ◌+◌, ◌*◌, ◌<◌, ◌≤◌, List, [], ◌∷◌, ◌++◌, length, ◌∙◌, arith, append_assoc, length-append}
use Rattle.std.specs.List.{flat_map, AllByRecursion}
use Rattle.std.proofs.lemmas.List.Sums.{sum_by-cons}
use Rattle.avl_values.specs.IoElement.{IoElement}
use Rattle.avl_values.specs.RecordValue.{pairs_of}
use Rattle.avl_values.specs.Width.{limit}
use Rattle.avl_values.specs.declared.width.Width.{Width}
use Rattle.avl_values.specs.declared.width.Width.TheVariants.{W2}
use Rattle.layout.specs.Bytes.{AreBytes}
use Rattle.record_layout.specs.Spelling.{spell, pair_bytes, triple_bytes}
use Rattle.record_writing.specs.Length.{pairs_length, triples_length}

abbrev pub PairFits : Width → Width → ℕ × ℕ → Type 0
PairFits id value e = (e.0 < limit id) × (e.1 < limit value)

abbrev pub TripleFits : Width → Width → ℕ × List ℕ → Type 0
TripleFits id len e = (e.0 < limit id) × (length e.1 < limit len) × AreBytes e.1

-- What is written and the pairs of the elements that are left are the start and all pairs.
pub record PairsLeft (id width : Width) (start : List ℕ) (all : List IoElement) (out : List ℕ) (left : List IoElement) : Type 0 where
  pub bytes : out ++ flat_map (pair_bytes id width) (pairs_of width left) ≡ start ++ flat_map (pair_bytes id width) (pairs_of width all)
  pub len : length out + pairs_length id width (pairs_of width left) ≡ length start + pairs_length id width (pairs_of width all)
  pub fit : AllByRecursion (PairFits id width) (pairs_of width left) → AllByRecursion (PairFits id width) (pairs_of width all)

-- And so of elements of any length.
pub record TriplesLeft (id len : Width) (start : List ℕ) (all : List (ℕ × List ℕ)) (out : List ℕ) (left : List (ℕ × List ℕ)) : Type 0 where
  pub bytes : out ++ flat_map (triple_bytes id len) left ≡ start ++ flat_map (triple_bytes id len) all
  pub room : length out + triples_length id len left ≡ length start + triples_length id len all
  pub fit : AllByRecursion (TripleFits id len) left → AllByRecursion (TripleFits id len) all

-- each takes id and length, so there are few of them
pub triples_count : (es : List (ℕ × List ℕ)) → 4 * length es ≤ triples_length W2 W2 es
triples_count [] = omega arith
triples_count (e ∷ es) = omega (arith, triples_count es, sum_by-cons (λ (x : ℕ × List ℕ). 4 + length x.1) e es)

join_triple : (out a b c d : List ℕ) → (((out ++ a) ++ b) ++ c) ++ d ≡ out ++ ((a ++ (b ++ c)) ++ d)
join_triple out a b c d = simp append_assoc

pub triple_written : (start : List ℕ) (all : List (ℕ × List ℕ)) (out : List ℕ) (e : ℕ × List ℕ) (left : List (ℕ × List ℕ)) → TriplesLeft W2 W2 start all out (e ∷ left) → TripleFits W2 W2 e
    → TriplesLeft W2 W2 start all (((out ++ spell W2 e.0) ++ spell W2 (length e.1)) ++ e.1) left
triple_written start all out e left l fits =
    let a = spell W2 e.0 in
    let b = spell W2 (length e.1) in
    let one = sum_by-cons (λ (x : ℕ × List ℕ). 4 + length x.1) e left in record {
      bytes = join_triple out a b e.1 (flat_map (triple_bytes W2 W2) left) ∙ l.bytes;
      room = omega (arith, l.room, one, length-append ((out ++ a) ++ b) e.1, length-append (out ++ a) b, length-append out a);
      fit = λ h. l.fit (fits, h);
    }

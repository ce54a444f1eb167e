-- A script's lines at their places.
use Rattle.std.proofs.Common.{◌≡◌, ◌+◌, ℕ, zero, suc, List, [], ◌∷◌, ◌++◌, take, drop, Option, Some, None, ap, ◌∙◌, arith}
use Rattle.std.specs.Prelude.{option_map, slice_get}
use Rattle.std.specs.List.{filter_map}
use Rattle.std.proofs.lemmas.List.{map-append}
use Rattle.std.proofs.lemmas.List.Elements.{filter_map-append}
use Rattle.trial_model.specs.Script.{Script, lines_of}
use Rattle.trial_model.specs.declared.script.ScriptLine.{ScriptLine}

-- a line at a place, with its number
pub line_here : (script : Script) (i : ℕ) (line : ScriptLine) → option_map (λ (l : ℕ × ScriptLine). l.1) (slice_get script i) ≡ Some line → (number : ℕ) × (slice_get script i ≡ Some (number, line))
line_here script i line h = by (slice_get script i) h
  where
    by : (o : Option (ℕ × ScriptLine)) → option_map (λ (l : ℕ × ScriptLine). l.1) o ≡ Some line → (number : ℕ) × (o ≡ Some (number, line))
    by None h = absurd (cc)
    by (Some (n, x)) h = (n, let e : x ≡ line = cc in ap (λ (y : ScriptLine). Some (n, y)) e)

-- the line and the number that were asked for stand there together
pub numbered : (script : Script) (i number : ℕ) (line : ScriptLine) → option_map (λ (l : ℕ × ScriptLine). l.0) (slice_get script i) ≡ Some number → option_map (λ (l : ℕ × ScriptLine). l.1) (slice_get script i) ≡ Some line
    → slice_get script i ≡ Some (number, line)
numbered script i number line n h = by (slice_get script i) n h
  where
    by : (o : Option (ℕ × ScriptLine)) → option_map (λ (l : ℕ × ScriptLine). l.0) o ≡ Some number → option_map (λ (l : ℕ × ScriptLine). l.1) o ≡ Some line → o ≡ Some (number, line)
    by None n h = absurd (cc)
    by (Some (m, x)) n h = let a : m ≡ number = cc in let b : x ≡ line = cc in ap (λ (k : ℕ). Some (k, x)) a ∙ ap (λ (y : ScriptLine). Some (number, y)) b

module _ {X : Type 0} where
  pub take_more : (xs : List X) (i : ℕ) (x : X) → slice_get xs i ≡ Some x → take (suc i) xs ≡ take i xs ++ x ∷ []
  take_more [] i x h = absurd (cc)
  take_more (y ∷ ys) zero x h = let e : y ≡ x = cc in ap (λ (z : X). z ∷ []) e
  take_more (y ∷ ys) (suc i) x h = ap (λ (zs : List X). y ∷ zs) (take_more ys i x h)

  pub parted : (xs : List X) (i : ℕ) (x : X) → slice_get xs i ≡ Some x → xs ≡ take i xs ++ x ∷ drop (suc i) xs
  parted [] i x h = absurd (cc)
  parted (y ∷ ys) zero x h = let e : y ≡ x = cc in ap (λ (z : X). z ∷ ys) e
  parted (y ∷ ys) (suc i) x h = ap (λ (zs : List X). y ∷ zs) (parted ys i x h)

-- the lines before a place, and the line there
pub lines_more : (script : Script) (i number : ℕ) (line : ScriptLine) → slice_get script i ≡ Some (number, line) → lines_of (take (suc i) script) ≡ lines_of (take i script) ++ line ∷ []
lines_more script i number line h = ap lines_of (take_more script i (number, line) h) ∙ map-append (λ (l : ℕ × ScriptLine). l.1) (take i script) ((number, line) ∷ [])

pub lines_parted : (script : Script) (i number : ℕ) (line : ScriptLine) → slice_get script i ≡ Some (number, line) → lines_of script ≡ lines_of (take i script) ++ line ∷ lines_of (drop (suc i) script)
lines_parted script i number line h = ap lines_of (parted script i (number, line) h) ∙ map-append (λ (l : ℕ × ScriptLine). l.1) (take i script) ((number, line) ∷ drop (suc i) script)

-- what is found of the lines up to a place and the one there
module _ {Y : Type 0} (f : ScriptLine → Option Y) (script : Script) (i : ℕ) (line : ScriptLine) where
  pub finds_more : (found : List Y) → option_map (λ (l : ℕ × ScriptLine). l.1) (slice_get script i) ≡ Some line → filter_map f (lines_of (take i script)) ≡ found
      → filter_map f (lines_of (take (i + 1) script)) ≡ found ++ filter_map f (line ∷ [])
  finds_more found h before =
      let p = line_here script i line h in
      let e : i + 1 ≡ suc i = omega arith in
      ap (λ (k : ℕ). filter_map f (lines_of (take k script))) e ∙ ap (λ (ls : List ScriptLine). filter_map f ls) (lines_more script i p.0 line p.1)
      ∙ filter_map-append f (lines_of (take i script)) (line ∷ []) ∙ ap (λ (ys : List Y). ys ++ filter_map f (line ∷ [])) before

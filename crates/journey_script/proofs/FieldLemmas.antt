-- A line that is cut at its spaces.
use Rattle.std.proofs.Common.{◌≡◌, ◌==◌, ◌+◌, ℕ, true, false, suc, sym, List, [], ◌∷◌, ◌++◌, length, Option, Some, None, Result, Ok, Err, Bor, MatchOption, option_map, refl, ap, ◌∙◌, append_assoc, arith}
use Rattle.std.proofs.lemmas.List.Splits.{length-slice_split}
use Rattle.std.proofs.lemmas.Bool.Decides.{nat_tests}
use Rattle.std.proofs.lemmas.List.{append-nil}
use Rattle.std.specs.Prelude.{count_by}
use Rattle.text_lines.specs.Cuts.{cut_at}
use Rattle.text_lines.proofs.CutLemmas.{cut_none, cut_some}
use Rattle.journey_script.specs.declared.fault.ScriptFault.{ScriptFault}
use Rattle.journey_script.specs.Lines.{fields_of, first_of, rest_of, read_values, ◌>>=◌}
use Rattle.journey_script.specs.Table.{read_field, value_kind}

-- the first field and those after it, or the only one
pub fields_cut : (line : List ℕ) (parts : Option (Bor (List ℕ) × Bor (List ℕ))) → option_map (λ p. (p.0.now, p.1.now)) parts ≡ cut_at 32 line
    → MatchOption parts (fields_of line ≡ line ∷ []) (λ p. fields_of line ≡ p.0.now ∷ fields_of p.1.now)
fields_cut line None is = cut_none 32 line is
fields_cut line (Some p) is = cut_some 32 line p.0.now p.1.now is

pub fields_count : (line : List ℕ) → length (fields_of line) ≡ count_by (λ b. b == 32) line + 1
fields_count line = length-slice_split (λ b. b == 32) line

some : (n : ℕ) (fields : List (List ℕ)) → length fields ≡ n + 1 → false ≡ (length fields == 0)
some n [] e = absurd (omega arith)
some n (f ∷ fs) e = let none : (suc (length fs) == 0) ≡ false = grind (arith, nat_tests) in sym none

pub some_left : (line : List ℕ) → false ≡ (length (fields_of line) == 0)
some_left line = some _ (fields_of line) (fields_count line)

-- what values were read, before those of the fields that are left
abbrev pub with_front : List ℕ → Result (List ℕ) ScriptFault → Result (List ℕ) ScriptFault
with_front front (Ok values) = Ok (front ++ values)
with_front front (Err fault) = Err fault

moved : (front : List ℕ) (value : ℕ) (said : Result (List ℕ) ScriptFault) → with_front front (said >>= (λ values. Ok (value ∷ values))) ≡ with_front (front ++ value ∷ []) said
moved front value (Ok values) = ap Ok (sym (append_assoc front (value ∷ []) values))
moved front value (Err fault) = refl

one_more : (front : List ℕ) (fields : List (List ℕ)) (value : ℕ) → (length fields == 0) ≡ false → Ok value ≡ read_field value_kind (first_of fields)
    → with_front front (read_values fields) ≡ with_front (front ++ value ∷ []) (read_values (rest_of fields))
unfolding read_values
one_more front [] value some is = absurd (cc)
one_more front (f ∷ fs) value some is = ap (λ (r : Result ℕ ScriptFault). with_front front (r >>= (λ v. read_values fs >>= (λ values. Ok (v ∷ values))))) (sym is) ∙ moved front value (read_values fs)

pub value_read : (all : List (List ℕ)) (front : List ℕ) (fields : List (List ℕ)) (value : ℕ) → read_values all ≡ with_front front (read_values fields) → (length fields == 0) ≡ false
    → Ok value ≡ read_field value_kind (first_of fields) → read_values all ≡ with_front (front ++ value ∷ []) (read_values (rest_of fields))
value_read all front fields value h some is = h ∙ one_more front fields value some is

pub value_refused : (all : List (List ℕ)) (front : List ℕ) (fields : List (List ℕ)) (fault : ScriptFault) → read_values all ≡ with_front front (read_values fields) → (length fields == 0) ≡ false
    → Err fault ≡ read_field value_kind (first_of fields) → read_values all ≡ Err fault
unfolding read_values
value_refused all front [] fault h some is = absurd (cc)
value_refused all front (f ∷ fs) fault h some is = h ∙ ap (λ (r : Result ℕ ScriptFault). with_front front (r >>= (λ v. read_values fs >>= (λ values. Ok (v ∷ values))))) (sym is)

pub all_read : (all : List (List ℕ)) (front : List ℕ) (fields : List (List ℕ)) → read_values all ≡ with_front front (read_values fields) → (length fields == 0) ≡ true
    → read_values all ≡ Ok front
unfolding read_values
all_read all front [] h none = h ∙ ap Ok (append-nil front)
all_read all front (f ∷ fs) h none = let some : (suc (length fs) == 0) ≡ false = grind (arith, nat_tests) in absurd (cc)

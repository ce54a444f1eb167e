-- A text cut at the first such byte.
use Rattle.std.proofs.Common.{◌≡◌, ◌==◌, ℕ, ◌+◌, ◌-◌, ◌<◌, ◌≤◌, Bool, cond, nat_lt, slice_index, true, List, [], ◌∷◌, take, drop, length, Option, Some, None, option_map, unwrap_or, refl, ap, sym, ◌∙◌, ne_eqb, false, arith}
use Rattle.std.specs.List.{position, position_or_len, slice_split}
use Rattle.memchr.specs.Find.{IsFirstByte, is_byte}
use Rattle.text_lines.specs.Cuts.{cut_at}
use Rattle.std.specs.Str.Lines.{lines, lines_of_parts, strip_carriage_return}
use Rattle.std.proofs.lemmas.Bool.Decides.{nat_tests}
use Rattle.std.proofs.lemmas.List.Quantifiers.{position-Some}
use Rattle.std.proofs.lemmas.List.Splits.{length-slice_split, slice_split_first, slice_split_none}
use Rattle.std.proofs.lemmas.List.Sums.{fails_before_first, position_or_len_is}

not_so : (b : Bool) → (b ≡ true → ⊥) → b ≡ false
not_so true never = absurd (never refl)
not_so false _ = refl

placed : (xs : List ℕ) (byte i : ℕ) (b : Bool) → position_or_len (is_byte byte) xs ≡ i → nat_lt i (length xs) ≡ b → cond b (Some i) None ≡ position (λ b. b == byte) xs
placed xs byte i b e t = ap (λ c. cond c (Some i) None) (sym t) ∙ ap (λ n. cond (nat_lt n (length xs)) (Some n) None) (sym e)

-- the first place that a search finds is the first such place
pub first_place : (byte : ℕ) (xs : List ℕ) (found : Option ℕ) → IsFirstByte (is_byte byte) xs found → found ≡ position (λ b. b == byte) xs
first_place byte xs None none = placed xs byte (length xs) false
    (position_or_len_is (is_byte byte) xs (length xs) 0 (omega arith) (λ k below. not_so (is_byte byte (slice_index xs k)) (none k (omega arith) below)) (λ past. absurd (omega (arith, past)))) (grind (arith, nat_tests))
first_place byte xs (Some i) first = placed xs byte i true
    (position_or_len_is (is_byte byte) xs i 0 (omega (arith, first.0.high)) (λ k below. not_so (is_byte byte (slice_index xs k)) (first.0.before k (omega arith) below)) (λ _. first.1)) (let high : i < length xs = first.0.high in grind (arith, nat_tests))

place_is : (byte : ℕ) (xs : List ℕ) (i : ℕ) → position (λ b. b == byte) xs ≡ Some i → position_or_len (λ b. b == byte) xs ≡ i
place_is byte xs i h =
    let P : ℕ → Bool = λ b. b == byte in
    let s = position-Some P xs i 0 h in
    position_or_len_is P xs i 0 (omega arith) s.2 (λ _. s.1)

split_found : (byte : ℕ) (xs : List ℕ) (i : ℕ) → position (λ b. b == byte) xs ≡ Some i
    → slice_split (λ b. b == byte) xs ≡ take i xs ∷ slice_split (λ b. b == byte) (drop (i + 1) xs)
split_found byte xs i h =
    let P : ℕ → Bool = λ b. b == byte in
    let e = place_is byte xs i h in
    let below : i < length xs = (position-Some P xs i 0 h).0 in
    let some : position_or_len P xs < length xs = omega (arith, e) in
    rw e at (slice_split_first P xs 0 some)

none_past : (a n : ℕ) (o : Option ℕ) → o ≡ None → cond (nat_lt a n) (Some a) None ≡ o → n ≤ a
none_past a n o e h = grind (arith, nat_tests)

split_missing : (byte : ℕ) (xs : List ℕ) → position (λ b. b == byte) xs ≡ None → slice_split (λ b. b == byte) xs ≡ xs ∷ []
split_missing byte xs h =
    let P : ℕ → Bool = λ b. b == byte in
    let past = none_past (position_or_len P xs) (length xs) None refl h in
    slice_split_none P xs (λ k d below. fails_before_first P xs k d (omega arith))

abbrev parts_at : List ℕ → Option ℕ → Option (List ℕ × List ℕ)
parts_at xs place = option_map (λ i. (take i xs, drop (i + 1) xs)) place

-- the parts of a text that is cut: what comes before the cut, and the parts after it
pub cut_some : (byte : ℕ) (xs line rest : List ℕ) → Some (line, rest) ≡ cut_at byte xs → slice_split (λ b. b == byte) xs ≡ line ∷ slice_split (λ b. b == byte) rest
cut_some byte xs line rest h = go (position (λ b. b == byte) xs) refl h
  where
    go : (o : Option ℕ) → position (λ b. b == byte) xs ≡ o → Some (line, rest) ≡ parts_at xs o
        → slice_split (λ b. b == byte) xs ≡ line ∷ slice_split (λ b. b == byte) rest
    go None e h = absurd (cc)
    go (Some i) e h =
        let same = ap (λ o. unwrap_or o (line, rest)) h in
        split_found byte xs i e ∙ sym (ap (λ (p : List ℕ × List ℕ). p.0 ∷ slice_split (λ b. b == byte) p.1) same)

-- and of one that isn't: the whole text
pub cut_none : (byte : ℕ) (xs : List ℕ) → None ≡ cut_at byte xs → slice_split (λ b. b == byte) xs ≡ xs ∷ []
cut_none byte xs h = go (position (λ b. b == byte) xs) refl h
  where
    go : (o : Option ℕ) → position (λ b. b == byte) xs ≡ o → None ≡ parts_at xs o → slice_split (λ b. b == byte) xs ≡ xs ∷ []
    go None e h = split_missing byte xs e
    go (Some i) e h = absurd (cc)

-- a part and the parts of what is left are lines, the first without its end
lines_parted : (x : List ℕ) (parts : List (List ℕ)) → 0 < length parts → lines_of_parts (x ∷ parts) ≡ strip_carriage_return x ∷ lines_of_parts parts
lines_parted x [] h = absurd (omega arith)
lines_parted x (y ∷ more) h = refl

lines_found : (text line rest : List ℕ) → slice_split (λ b. b == 10) text ≡ line ∷ slice_split (λ b. b == 10) rest → lines text ≡ strip_carriage_return line ∷ lines rest
lines_found text line rest h =
    let some : 0 < length (slice_split (λ b. b == 10) rest) = omega (arith, length-slice_split (λ b. b == 10) rest) in
    rw h (lines_parted line (slice_split (λ b. b == 10) rest) some)

-- the first line of a text with one more
pub first_line_found : (text line rest : List ℕ) → Some (line, rest) ≡ cut_at 10 text → lines text ≡ strip_carriage_return line ∷ lines rest
first_line_found text line rest h = lines_found text line rest (cut_some 10 text line rest h)

-- and the line of a text that has no end of a line
pub last_line_found : (text : List ℕ) → 0 < length text → None ≡ cut_at 10 text → lines text ≡ text ∷ lines (take (length text - length text) (drop (length text) text))
last_line_found [] some h = absurd (omega arith)
last_line_found (b ∷ more) some h =
    let filled : (length (b ∷ more) == 0) ≡ false = ne_eqb (length (b ∷ more)) 0 (omega arith) in
    let whole : lines (b ∷ more) ≡ (b ∷ more) ∷ [] = ap lines_of_parts (cut_none 10 (b ∷ more) h) ∙ ap (λ t. cond t [] ((b ∷ more) ∷ [])) filled in
    let none : length (b ∷ more) - length (b ∷ more) ≡ 0 = omega arith in
    rw (whole, none) refl

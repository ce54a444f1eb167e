-- IMEIs of one digit per half byte, and what fills their rows.
use Rattle.std.proofs.Common.{◌≡◌, ℕ, zero, suc, ◌+◌, ◌*◌, ◌/◌, ◌%◌, ◌^◌, ◌<◌, ◌≤◌, ◌&&◌, List, ◌∷◌, ◌++◌, Bool, true, false, Option, Some, None, refl, sym, ap, subst, ◌∙◌, arith}
use Rattle.std.specs.Prelude.{nat_le}
use Rattle.std.specs.Option.{is_some}
use Rattle.std.proofs.Math.Nat.{div-div-eq-div-mul}
use Rattle.std.proofs.lemmas.Bool.Decides.{nat_tests}
use Rattle.avl_values.specs.declared.fault.FaultKind.TheVariants.{ImeiDigits}
use Rattle.layout.specs.Bytes.{AreBytes}
use Rattle.layout.specs.Fields.{fault_unless, number_row}
use Rattle.layout.specs.Rows.{Rows, Fills}
use Rattle.layout.proofs.NumberFills.{number_fill, number_take, spell-one}
use Rattle.record_layout.proofs.Fitting.{passed}
use Rattle.command_layout.specs.CommandRows.{digits_rule, imei_rows, pair_rows}
use Rattle.command_layout.specs.Spelling.{ImeiFits, digit_pairs, imei_bytes, two_digits}

-- two digits in a byte, both ways

two_byte : (x : ℕ) → two_digits x < 256
two_byte x = omega arith

two_pass : (x : ℕ) → digits_rule (two_digits x) ≡ None
two_pass x =
    let b = two_digits x in
    let high : b / 16 ≤ 9 = omega arith in
    let low : b % 16 ≤ 9 = omega arith in
    let both : (nat_le (b / 16) 9 && nat_le (b % 16) 9) ≡ true = grind (arith, nat_tests) in
    ap (λ t. fault_unless t ImeiDigits) both

two_next : (k n : ℕ) → n / 100 ^ suc k * 100 + (two_digits (n / 100 ^ k) / 16 * 10 + two_digits (n / 100 ^ k) % 16) ≡ n / 100 ^ k
two_next k n =
    let x = n / 100 ^ k in
    let power : 100 ^ k * 100 ≡ 100 ^ suc k = omega arith in
    let high : n / 100 ^ suc k ≡ x / 100 = ap (λ p. n / p) (sym power) ∙ sym (div-div-eq-div-mul n (100 ^ k) 100) in
    ap (λ h. h * 100 + (two_digits x / 16 * 10 + two_digits x % 16)) high ∙ omega arith

two_from : (b : ℕ) → digits_rule b ≡ None → (b / 16 ≤ 9) × (b % 16 ≤ 9)
two_from b e =
    let t = passed (nat_le (b / 16) 9 && nat_le (b % 16) 9) ImeiDigits e in
    let high : b / 16 ≤ 9 = grind (arith, nat_tests) in
    let low : b % 16 ≤ 9 = grind (arith, nat_tests) in
    (high, low)

-- the pairs after the first

pairs_fill : {V : Type 0} (k n : ℕ) (rest : ℕ → Rows V) (v : V) (more : List ℕ) → Fills (rest n) v more → Fills (pair_rows k (n / 100 ^ k) rest) v (digit_pairs k n ++ more)
unfolding pair_rows digit_pairs
pairs_fill zero n rest v more fills = let same : n / 100 ^ zero ≡ n = omega arith in subst (λ m. Fills (rest m) v more) (sym same) fills
pairs_fill (suc k) n rest v more fills =
    let b = two_digits (n / 100 ^ k) in
    let inner = pairs_fill k n rest v more fills in
    subst (λ f. Fills (number_row 1 digits_rule (λ d. pair_rows k (n / 100 ^ suc k * 100 + (d / 16 * 10 + d % 16)) rest)) v (f ++ (digit_pairs k n ++ more))) (spell-one b (two_byte (n / 100 ^ k)))
    (number_fill 1 digits_rule (λ d. pair_rows k (n / 100 ^ suc k * 100 + (d / 16 * 10 + d % 16)) rest) v b (digit_pairs k n ++ more) (two_byte (n / 100 ^ k)) (two_pass (n / 100 ^ k))
    (subst (λ m. Fills (pair_rows k m rest) v (digit_pairs k n ++ more)) (sym (two_next k n)) inner))

record TakenPairs {V : Type 0} (k n : ℕ) (rest : ℕ → Rows V) (v : V) (bytes : List ℕ) : Type 0 where
  pub number : ℕ
  pub more : List ℕ
  pub is : bytes ≡ digit_pairs k number ++ more
  pub high : number / 100 ^ k ≡ n
  pub fills : Fills (rest number) v more
  pub bytes_behind : AreBytes more

pairs_take : {V : Type 0} (k n : ℕ) (rest : ℕ → Rows V) (v : V) (bytes : List ℕ) → AreBytes bytes → Fills (pair_rows k n rest) v bytes → TakenPairs k n rest v bytes
unfolding pair_rows digit_pairs
pairs_take zero n rest v bytes p fills = record { number = n; more = bytes; is = refl; high = omega arith; fills = fills; bytes_behind = p }
pairs_take (suc k) n rest v bytes p fills =
    let one = number_take 1 digits_rule (λ d. pair_rows k (n * 100 + (d / 16 * 10 + d % 16)) rest) v bytes p fills in
    let b = one.n in
    let d = two_from b one.passes in
    let t = pairs_take k (n * 100 + (b / 16 * 10 + b % 16)) rest v one.more one.bytes_behind one.fills in
    let low : two_digits (t.number / 100 ^ k) ≡ b = ap two_digits t.high ∙ omega (arith, d.0, d.1) in
    let power : 100 ^ suc k ≡ 100 ^ k * 100 = omega arith in
    let high : t.number / 100 ^ suc k ≡ n = ap (λ x. t.number / x) power ∙ sym (div-div-eq-div-mul t.number (100 ^ k) 100) ∙ ap (λ x. x / 100) t.high ∙ omega (arith, d.0, d.1) in
    record {
      number = t.number;
      more = t.more;
      is = one.is ∙ ap (λ f. f ++ one.more) (spell-one b one.bound) ∙ ap (λ x. b ∷ x) t.is ∙ ap (λ x. x ∷ (digit_pairs k t.number ++ t.more)) (sym low);
      high = high;
      fills = t.fills;
      bytes_behind = t.bytes_behind;
    }

-- the IMEI

first_is : (n : ℕ) → n < 10 ^ 15 → two_digits (n / 100 ^ 7) ≡ n / 100 ^ 7
first_is n h = omega arith

some_fill : {V : Type 0} (n : ℕ) (rest : Option ℕ → Rows V) (v : V) (more : List ℕ) → n < 10 ^ 15 → Fills (rest (Some n)) v more → Fills (imei_rows true rest) v (imei_bytes (Some n) ++ more)
unfolding imei_rows digit_pairs
some_fill n rest v more small fills =
    let b = n / 100 ^ 7 in
    let few : b ≤ 9 = omega arith in
    let digit : nat_le b 9 ≡ true = grind (arith, nat_tests) in
    let inner = pairs_fill 7 n (λ m. rest (Some m)) v more fills in
    let filled : Fills (imei_rows true rest) v (b ∷ (digit_pairs 7 n ++ more)) =
    subst (λ f. Fills (imei_rows true rest) v (f ++ (digit_pairs 7 n ++ more))) (spell-one b (omega arith))
    (number_fill 1 (λ x. fault_unless (nat_le x 9) ImeiDigits) (λ x. pair_rows 7 x (λ m. rest (Some m))) v b (digit_pairs 7 n ++ more) (omega arith) (ap (λ t. fault_unless t ImeiDigits) digit) inner) in
    subst (λ x. Fills (imei_rows true rest) v (x ∷ (digit_pairs 7 n ++ more))) (sym (first_is n small)) filled

none_fill : {V : Type 0} (rest : Option ℕ → Rows V) (v : V) (more : List ℕ) → Fills (rest None) v more → Fills (imei_rows false rest) v more
unfolding imei_rows
none_fill rest v more fills = fills

pub imei_fill : {V : Type 0} (has : Bool) (imei : Option ℕ) (rest : Option ℕ → Rows V) (v : V) (more : List ℕ) → is_some imei ≡ has → ImeiFits imei → Fills (rest imei) v more
    → Fills (imei_rows has rest) v (imei_bytes imei ++ more)
imei_fill true (Some n) rest v more e fits fills = some_fill n rest v more fits fills
imei_fill true None rest v more e fits fills = absurd (cc)
imei_fill false (Some n) rest v more e fits fills = absurd (cc)
imei_fill false None rest v more e fits fills = none_fill rest v more fills

pub record TakenImei {V : Type 0} (has : Bool) (rest : Option ℕ → Rows V) (v : V) (bytes : List ℕ) : Type 0 where
  pub imei : Option ℕ
  pub more : List ℕ
  pub is : bytes ≡ imei_bytes imei ++ more
  pub there : is_some imei ≡ has
  pub fits : ImeiFits imei
  pub fills : Fills (rest imei) v more
  pub bytes_behind : AreBytes more

pub imei_take : {V : Type 0} (has : Bool) (rest : Option ℕ → Rows V) (v : V) (bytes : List ℕ) → AreBytes bytes → Fills (imei_rows has rest) v bytes → TakenImei has rest v bytes
unfolding imei_rows digit_pairs
imei_take true rest v bytes p fills =
    let one = number_take 1 (λ x. fault_unless (nat_le x 9) ImeiDigits) (λ x. pair_rows 7 x (λ m. rest (Some m))) v bytes p fills in
    let b = one.n in
    let digit = passed (nat_le b 9) ImeiDigits one.passes in
    let few : b ≤ 9 = grind (arith, nat_tests) in
    let t = pairs_take 7 b (λ m. rest (Some m)) v one.more one.bytes_behind one.fills in
    let high : t.number / 100 ^ 7 ≡ b = t.high in
    let small : t.number < 10 ^ 15 = omega (arith, high, few) in
    let first : two_digits (t.number / 100 ^ 7) ≡ b = first_is t.number small ∙ high in
    record {
      imei = Some t.number;
      more = t.more;
      is = one.is ∙ ap (λ f. f ++ one.more) (spell-one b one.bound) ∙ ap (λ x. b ∷ x) t.is ∙ ap (λ x. x ∷ (digit_pairs 7 t.number ++ t.more)) (sym first);
      there = refl;
      fits = small;
      fills = t.fills;
      bytes_behind = t.bytes_behind;
    }
imei_take false rest v bytes p fills = record { imei = None; more = bytes; is = refl; there = refl; fits = tt; fills = fills; bytes_behind = p }

-- Logins and what fills their rows, whatever comes after them.
use Rattle.std.proofs.Common.{◌≡◌, ℕ, zero, suc, ◌+◌, ◌-◌, ◌*◌, ◌/◌, ◌%◌, ◌^◌, ◌<◌, ◌≤◌, ◌==◌, List, [], ◌∷◌, ◌++◌, true, refl, sym, ap, subst, ◌∙◌, arith, append_assoc, None}
use Rattle.std.proofs.lemmas.Bool.Decides.{nat_tests}
use Rattle.std.proofs.lemmas.List.{append-nil}
use Rattle.std.specs.Int.{bytes_high_first}
use Rattle.avl_values.specs.Imei.{decimal_places, imei_text, is_digit}
use Rattle.avl_values.specs.declared.fault.FaultKind.TheVariants.{LoginLength, LoginDigit}
use Rattle.avl_values.proofs.Places.{places-more, places-none, places-suc, power-more}
use Rattle.layout.specs.Bytes.{AreBytes}
use Rattle.layout.specs.Fields.{fault_unless}
use Rattle.layout.specs.Rows.{Rows, Fills}
use Rattle.layout.proofs.Filling.{fills_done, done_filled}
use Rattle.layout.proofs.NumberFills.{number_fill, number_take, spell-one}
use Rattle.record_layout.proofs.Fitting.{exactly, is_exactly, passed}
use Rattle.frame_layout.specs.Items.{IsLogin, login_of}
use Rattle.frame_layout.specs.Logins.{digit_rows, login_rows}
use Rattle.frame_layout.specs.UpRows.{login_end}
use Rattle.frame_layout.specs.Values.{UpValue, login}

-- What fills the rows of digits.

record TakenDigits {V : Type 0} (places : ℕ) (rest : ℕ → Rows V) (v : V) (front bytes : List ℕ) : Type 0 where
  pub imei : ℕ
  pub more : List ℕ
  pub small : imei < 10 ^ places
  pub is : front ++ bytes ≡ decimal_places places imei ++ more
  pub fills : Fills (rest imei) v more
  pub bytes_behind : AreBytes more

digits_take : {V : Type 0} (k j n : ℕ) (rest : ℕ → Rows V) (v : V) (bytes : List ℕ) → AreBytes bytes → n < 10 ^ j → Fills (digit_rows k n rest) v bytes → TakenDigits (j + k) rest v (decimal_places j n) bytes
unfolding digit_rows
digits_take zero j n rest v bytes p small fills =
    let same : j ≡ j + zero = omega arith in
    record {
      imei = n;
      more = bytes;
      small = subst (λ m. n < 10 ^ m) same small;
      is = ap (λ m. decimal_places m n ++ bytes) same;
      fills = fills;
      bytes_behind = p;
    }
digits_take (suc k) j n rest v bytes p small fills =
    let one = number_take 1 (λ b. fault_unless (is_digit b) LoginDigit) (λ b. digit_rows k (n * 10 + (b - 48)) rest) v bytes p fills in
    let b = one.n in
    let digit = passed (is_digit b) LoginDigit one.passes in
    let low : 48 ≤ b = grind (arith, nat_tests) in
    let high : b ≤ 57 = grind (arith, nat_tests) in
    let next : n * 10 + (b - 48) < 10 ^ (j + 1) = power-more j n (b - 48) small (omega arith) in
    let t = digits_take k (j + 1) (n * 10 + (b - 48)) rest v one.more one.bytes_behind next one.fills in
    let same : j + 1 + k ≡ j + suc k = omega arith in
    let back : 48 + (b - 48) ≡ b = omega arith in
    let after : decimal_places (j + 1) (n * 10 + (b - 48)) ≡ decimal_places j n ++ b ∷ [] =
    ap (λ m. decimal_places m (n * 10 + (b - 48))) (omega arith) ∙ places-more j n (b - 48) (omega arith) ∙ ap (λ x. decimal_places j n ++ x ∷ []) back in
    let first : bytes ≡ b ∷ one.more = one.is ∙ ap (λ f. f ++ one.more) (spell-one b (omega arith)) in
    let seam : decimal_places (j + 1) (n * 10 + (b - 48)) ++ one.more ≡ decimal_places j n ++ bytes =
    ap (λ f. f ++ one.more) after ∙ append_assoc (decimal_places j n) (b ∷ []) one.more ∙ ap (λ f. decimal_places j n ++ f) (sym first) in
    record {
      imei = t.imei;
      more = t.more;
      small = subst (λ m. t.imei < 10 ^ m) same t.small;
      is = sym seam ∙ t.is ∙ ap (λ m. decimal_places m t.imei ++ t.more) same;
      fills = t.fills;
      bytes_behind = t.bytes_behind;
    }

-- N digits of a number, and what fills the rows after them
digits_fill : {V : Type 0} (k r n m : ℕ) (rest : ℕ → Rows V) (v : V) (more : List ℕ) → m < 10 ^ k → Fills (digit_rows r (n * 10 ^ k + m) rest) v more → Fills (digit_rows (k + r) n rest) v (decimal_places k m ++ more)
unfolding digit_rows
digits_fill zero r n m rest v more small fills =
    let none : n * 10 ^ zero + m ≡ n = omega arith in
    let same : r ≡ zero + r = omega arith in
    subst (λ b. Fills (digit_rows (zero + r) n rest) v (b ++ more)) (sym (places-none m)) (subst (λ a. Fills (digit_rows a n rest) v more) same (subst (λ x. Fills (digit_rows r x rest) v more) none fills))
digits_fill (suc k) r n m rest v more small fills =
    let d = m % 10 in
    let power : 10 ^ suc k ≡ 10 * 10 ^ k = omega arith in
    let few : m / 10 < 10 ^ k = omega arith in
    let digit : is_digit (48 + d) ≡ true = grind (arith, nat_tests) in
    let passes : fault_unless (is_digit (48 + d)) LoginDigit ≡ None = ap (λ t. fault_unless t LoginDigit) digit in
    let scaled : n * 10 ^ suc k ≡ 10 * (n * 10 ^ k) = ap (λ p. n * p) power ∙ grind arith in
    let joined : (n * 10 ^ k + m / 10) * 10 + (48 + d - 48) ≡ n * 10 ^ suc k + m = omega arith in
    let inner : Fills (digit_rows (suc r) (n * 10 ^ k + m / 10) rest) v ((48 + d) ∷ more) =
    subst (λ b. Fills (digit_rows (suc r) (n * 10 ^ k + m / 10) rest) v (b ++ more)) (spell-one (48 + d) (omega arith))
    (number_fill 1 (λ b. fault_unless (is_digit b) LoginDigit) (λ b. digit_rows r ((n * 10 ^ k + m / 10) * 10 + (b - 48)) rest) v (48 + d) more (omega arith) passes
    (subst (λ x. Fills (digit_rows r x rest) v more) (sym joined) fills)) in
    let all = digits_fill k (suc r) n (m / 10) rest v ((48 + d) ∷ more) few inner in
    let rows : k + suc r ≡ suc k + r = omega arith in
    let bytes : decimal_places k (m / 10) ++ ((48 + d) ∷ more) ≡ decimal_places (suc k) m ++ more =
    sym (ap (λ b. b ++ more) (places-suc k m) ∙ append_assoc (decimal_places k (m / 10)) ((48 + d) ∷ []) more) in
    subst (λ b. Fills (digit_rows (suc k + r) n rest) v b) bytes (subst (λ a. Fills (digit_rows a n rest) v (decimal_places k (m / 10) ++ ((48 + d) ∷ more))) rows all)

-- What fills the rows of a login.

-- after the last digit
last_fill : {V : Type 0} (n : ℕ) (rest : ℕ → Rows V) (v : V) (more : List ℕ) → Fills (rest n) v more → Fills (digit_rows 0 (0 * 10 ^ 15 + n) rest) v more
unfolding digit_rows
last_fill n rest v more fills = let same : n ≡ 0 * 10 ^ 15 + n = omega arith in subst (λ m. Fills (rest m) v more) same fills

-- a login, and what fills the rows after it
pub login_fill : {V : Type 0} (rest : ℕ → Rows V) (imei : ℕ) (v : V) (more : List ℕ) → imei < 10 ^ 15 → Fills (rest imei) v more → Fills (login_rows rest) v (login_of imei ++ more)
unfolding login_rows
login_fill rest imei v more small fills =
    number_fill 2 (λ n. fault_unless (n == 15) LoginLength) (λ _. digit_rows 15 0 rest) v 15 (imei_text imei ++ more) (omega arith) (exactly 15 15 LoginLength refl)
    (digits_fill 15 0 0 imei rest v more small (last_fill imei rest v more fills))

-- the login at the front of what fills its rows, and what fills those after it
pub record TakenLogin {V : Type 0} (rest : ℕ → Rows V) (v : V) (bytes : List ℕ) : Type 0 where
  pub imei : ℕ
  pub more : List ℕ
  pub small : imei < 10 ^ 15
  pub is : bytes ≡ login_of imei ++ more
  pub fills : Fills (rest imei) v more
  pub bytes_behind : AreBytes more

pub login_take : {V : Type 0} (rest : ℕ → Rows V) (v : V) (bytes : List ℕ) → AreBytes bytes → Fills (login_rows rest) v bytes → TakenLogin rest v bytes
unfolding login_rows
login_take rest v bytes p fills =
    let len = number_take 2 (λ n. fault_unless (n == 15) LoginLength) (λ _. digit_rows 15 0 rest) v bytes p fills in
    let fifteen : len.n ≡ 15 = is_exactly len.n 15 LoginLength len.passes in
    let t = digits_take 15 0 0 rest v len.more len.bytes_behind (omega arith) len.fills in
    let text : len.more ≡ imei_text t.imei ++ t.more = ap (λ b. b ++ len.more) (sym (places-none 0)) ∙ t.is in
    record {
      imei = t.imei;
      more = t.more;
      small = t.small;
      is = len.is ∙ ap (λ n. bytes_high_first 2 n ++ len.more) fifteen ∙ ap (λ b. 0 ∷ 15 ∷ b) text;
      fills = t.fills;
      bytes_behind = t.bytes_behind;
    }

-- The item up.

pub login_fills : (imei : ℕ) (bytes : List ℕ) → IsLogin imei bytes → Fills (login_rows login_end) (login imei) bytes
login_fills imei bytes is =
    subst (Fills (login_rows login_end) (login imei)) (append-nil (login_of imei) ∙ sym is.is) (login_fill login_end imei (login imei) [] is.digits (fills_done (login imei)))

pub record IsSomeLogin (v : UpValue) (bytes : List ℕ) : Type 0 where
  pub imei : ℕ
  pub value : v ≡ login imei
  pub is : IsLogin imei bytes

pub login_taken : (v : UpValue) (bytes : List ℕ) → AreBytes bytes → Fills (login_rows login_end) v bytes → IsSomeLogin v bytes
login_taken v bytes p fills =
    let t = login_take login_end v bytes p fills in
    let end = done_filled (login t.imei) v t.more t.fills in
    record { imei = t.imei; value = sym end.0; is = record { is = t.is ∙ ap (λ b. login_of t.imei ++ b) end.1 ∙ append-nil (login_of t.imei); digits = t.small } }

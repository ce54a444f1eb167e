-- Numbers in bytes, the highest first, both ways.
use Rattle.std.proofs.Common.{◌≡◌, ℕ, zero, suc, ◌+◌, ◌*◌, ◌/◌, ◌%◌, ◌^◌, ◌<◌, ◌≤◌, List, [], ◌∷◌, ◌++◌, length, get_or, take, drop, refl, sym, ap, ◌∙◌, arith, length-take}
use Rattle.std.specs.Int.{bytes_high_first, byte_at}
use Rattle.std.specs.List.{fold}
use Rattle.std.proofs.Math.Seq.{take-length}
use Rattle.std.proofs.Math.Nat.{div-div-eq-div-mul, pow-le-pow_right}
use Rattle.std.proofs.lemmas.Nat.{div-mul-add, mod-mul-add}
use Rattle.std.proofs.lemmas.List.{take_more}
use Rattle.layout.specs.Fields.{number}
use Rattle.layout.specs.Bytes.{AreBytes}

-- Lists of bytes.

pub bytes-append : (xs ys : List ℕ) → AreBytes xs → AreBytes ys → AreBytes (xs ++ ys)
bytes-append [] ys p q = q
bytes-append (x ∷ xs) ys p q = (p.0, bytes-append xs ys p.1 q)

pub bytes-front : (xs ys : List ℕ) → AreBytes (xs ++ ys) → AreBytes xs
bytes-front [] ys p = tt
bytes-front (x ∷ xs) ys p = (p.0, bytes-front xs ys p.1)

pub bytes-back : (xs ys : List ℕ) → AreBytes (xs ++ ys) → AreBytes ys
bytes-back [] ys p = p
bytes-back (x ∷ xs) ys p = bytes-back xs ys p.1

pub bytes-take : (n : ℕ) (xs : List ℕ) → AreBytes xs → AreBytes (take n xs)
bytes-take zero xs p = tt
bytes-take (suc n) [] p = tt
bytes-take (suc n) (x ∷ xs) p = (p.0, bytes-take n xs p.1)

pub bytes-drop : (n : ℕ) (xs : List ℕ) → AreBytes xs → AreBytes (drop n xs)
bytes-drop zero xs p = p
bytes-drop (suc n) [] p = tt
bytes-drop (suc n) (x ∷ xs) p = bytes-drop n xs p.1

-- what a clause knows of a slice's elements
pub are_bytes : (xs : List ℕ) → ((i : ℕ) → get_or xs i 0 < 256) → AreBytes xs
are_bytes [] h = tt
are_bytes (x ∷ xs) h = (h 0, are_bytes xs (λ i. h (suc i)))

-- A number, one byte more.

fold_push : (n : ℕ) (xs : List ℕ) (b : ℕ) → fold (λ m x. m * 256 + x) n (xs ++ b ∷ []) ≡ fold (λ m x. m * 256 + x) n xs * 256 + b
fold_push n [] b = refl
fold_push n (x ∷ xs) b = fold_push (n * 256 + x) xs b

pub number_push : (xs : List ℕ) (b : ℕ) → number (xs ++ b ∷ []) ≡ number xs * 256 + b
number_push xs b = fold_push 0 xs b

byte_at_next : (k n : ℕ) → byte_at (suc k) n ≡ byte_at k (n / 256)
byte_at_next zero n = refl
byte_at_next (suc k) n =
    let power : 256 ^ suc (suc k) ≡ 256 * 256 ^ suc k = omega arith in
    ap (λ d. n / d % 256) power ∙ ap (λ m. m % 256) (sym (div-div-eq-div-mul n 256 (256 ^ suc k)))

pub spell_push : (k n : ℕ) → bytes_high_first (suc k) n ≡ bytes_high_first k (n / 256) ++ n % 256 ∷ []
spell_push zero n = refl
spell_push (suc k) n = ap (λ b. b ∷ bytes_high_first (suc k) n) (byte_at_next k n) ∙ ap (λ bs. byte_at k (n / 256) ∷ bs) (spell_push k n)

pub length_spell : (k n : ℕ) → length (bytes_high_first k n) ≡ k
length_spell zero n = refl
length_spell (suc k) n = ap (λ m. suc m) (length_spell k n)

byte_at_byte : (k n : ℕ) → byte_at k n < 256
byte_at_byte zero n = omega arith
byte_at_byte (suc k) n = omega arith

pub spell_bytes : (k n : ℕ) → AreBytes (bytes_high_first k n)
spell_bytes zero n = tt
spell_bytes (suc k) n = (byte_at_byte k n, spell_bytes k n)

-- the number that a number's bytes spell
pub number_spell : (k n : ℕ) → n < 256 ^ k → number (bytes_high_first k n) ≡ n
number_spell zero n h = omega arith
number_spell (suc k) n h =
    let fits : n / 256 < 256 ^ k = omega arith in
    let rest = number_spell k (n / 256) fits in
    let push = number_push (bytes_high_first k (n / 256)) (n % 256) in
    ap number (spell_push k n) ∙ push ∙ omega (arith, rest)

-- a list's last element apart
pub last_apart : (k : ℕ) (xs : List ℕ) → length xs ≡ suc k → (xs ≡ take k xs ++ get_or xs k 0 ∷ []) × (length (take k xs) ≡ k)
last_apart k xs h =
    let more = take_more xs k 0 (omega arith) in
    let n : length xs ≡ k + 1 = omega arith in
    (sym (take-length xs) ∙ ap (λ m. take m xs) n ∙ more, omega (arith, length-take k xs))

byte-last : (xs : List ℕ) (k : ℕ) → AreBytes xs → get_or xs k 0 < 256
byte-last [] k p = omega arith
byte-last (x ∷ xs) zero p = p.0
byte-last (x ∷ xs) (suc k) p = byte-last xs k p.1

-- what one more byte takes of a number of eight
pub power_bound : (k : ℕ) → k < 8 → 256 ^ k ≤ 256 ^ 7
power_bound k h = pow-le-pow_right {n = 256} (omega arith) {i = k} {j = 7} (omega arith)

pub number_bound : (k : ℕ) (xs : List ℕ) → AreBytes xs → length xs ≡ k → number xs < 256 ^ k
number_bound zero [] p h = omega arith
number_bound zero (x ∷ xs) p h = absurd (omega arith)
number_bound (suc k) xs p h =
    let apart = last_apart k xs h in
    let rest = number_bound k (take k xs) (bytes-take k xs p) apart.1 in
    let e = ap number apart.0 ∙ number_push (take k xs) (get_or xs k 0) in
    let b = byte-last xs k p in
    omega (arith, e, rest, b)

-- and the bytes of the number that bytes spell
pub spell_number : (k : ℕ) (xs : List ℕ) → AreBytes xs → length xs ≡ k → bytes_high_first k (number xs) ≡ xs
spell_number zero [] p h = refl
spell_number zero (x ∷ xs) p h = absurd (omega arith)
spell_number (suc k) xs p h =
    let apart = last_apart k xs h in
    let front = take k xs in
    let b = get_or xs k 0 in
    let byte = byte-last xs k p in
    let e : number xs ≡ number front * 256 + b = ap number apart.0 ∙ number_push front b in
    let high : number xs / 256 ≡ number front = ap (λ n. n / 256) e ∙ div-mul-add (number front) 256 b byte in
    let low : number xs % 256 ≡ b = ap (λ n. n % 256) e ∙ mod-mul-add (number front) 256 b byte in
    spell_push k (number xs) ∙ ap (λ n. bytes_high_first k n ++ number xs % 256 ∷ []) high ∙ ap (λ n. bytes_high_first k (number front) ++ n ∷ []) low
    ∙ ap (λ bs. bs ++ b ∷ []) (spell_number k front (bytes-take k xs p) apart.1) ∙ sym apart.0

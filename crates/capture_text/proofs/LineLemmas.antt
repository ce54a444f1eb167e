-- One line of a capture.
use Rattle.std.proofs.Common.{◌≡◌, ◌==◌, ◌<◌, ◌+◌, ◌++◌, ◌∷◌, ◌&&◌, ◌↔◌, suc, take, take-suc, get_or, ◌*◌, ◌/◌, ◌%◌, ◌∙◌, ℕ, Bool, true, false, List, [], length, Option, Some, None, Result, Ok, Err, IsOk, IsTrue, is_ok, refl, sym, ap, arith, eq-eqb}
use Rattle.std.proofs.lemmas.Bool.{eqb-true}
use Rattle.std.proofs.lemmas.List.{nil_from_length}
use Rattle.std.proofs.lemmas.List.Elements.{All-more, All-pop}
use Rattle.std.specs.Char.{is_ascii_hexdigit}
use Rattle.std.specs.List.{AllPass}
use Rattle.std.specs.Prelude.{◌||◌, ◌-◌, nat_le, is_some, if◌then◌else◌}
use Rattle.std.specs.Result.{result_unwrap_or}
use Rattle.hex.specs.Hex.{decode_of, is_hex_digit}
use Rattle.hex.proofs.HexLemmas.{decode_of-digits, decode_of-ok}
use Rattle.text_lines.specs.Cuts.{cut_at}
use Rattle.capture_text.specs.Capture.{bytes_of, line_says, parts_say, with_bytes, with_digits}
use Rattle.capture_text.specs.Words.{word_of}
use Rattle.capture_text.specs.declared.fault.CaptureFault.TheVariants.{BadHex, UnknownWord}
use Rattle.capture_text.specs.declared.word.CaptureWord.{CaptureWord}

-- what a result that is Ok has
pub ok_value : {X E : Type 0} (r : Result X E) (d : X) → IsOk r → r ≡ Ok (result_unwrap_or r d)
ok_value (Ok x) d h = refl
ok_value (Err e) d h = absurd (cc)

-- the digits that decode are twice as many as their bytes
pub twice_as_many : (digits : List ℕ) → IsOk (decode_of digits) → length digits ≡ 2 * length (bytes_of digits)
twice_as_many digits h = (decode_of-ok digits (bytes_of digits) (ok_value (decode_of digits) [] h)).2

pub half_as_many : (digits : List ℕ) → IsOk (decode_of digits) → length digits / 2 ≡ length (bytes_of digits)
half_as_many digits h = omega (arith, twice_as_many digits h)

pub empty_bytes : (digits bytes : List ℕ) (r : Bool) → IsOk (decode_of digits) → r ≡ (length digits == 0) → bytes_of digits ≡ bytes
    → (IsTrue r → bytes ≡ []) × (bytes ≡ [] → IsTrue r)
empty_bytes digits bytes r h is same =
    let twice = twice_as_many digits h in
    let many : length digits ≡ 2 * length bytes = twice ∙ ap (λ (bs : List ℕ). 2 * length bs) same in (
      λ yes. let none : length digits ≡ 0 = eqb-true (length digits) 0 (sym is ∙ yes) in nil_from_length bytes (omega arith),
      λ none. let no_bytes : length bytes ≡ 0 = ap (λ (bs : List ℕ). length bs) none in is ∙ eq-eqb (length digits) 0 (omega arith),
    )

-- an even number of digits decodes, and nothing else does
pub pairs_decode : (digits : List ℕ) → length digits % 2 ≡ 0 → AllPass is_hex_digit digits → IsOk (decode_of digits)
pairs_decode digits even all = ap is_ok (decode_of-digits digits even all).1

pub decoded_even : (digits : List ℕ) → IsOk (decode_of digits) → length digits % 2 ≡ 0
decoded_even digits h = (decode_of-ok digits (bytes_of digits) (ok_value (decode_of digits) [] h)).0

pub decoded_digits : (digits : List ℕ) → IsOk (decode_of digits) → AllPass is_hex_digit digits
decoded_digits digits h = (decode_of-ok digits (bytes_of digits) (ok_value (decode_of digits) [] h)).1

-- a line without a space
pub alone_known : (line : List ℕ) (word : CaptureWord) → None ≡ cut_at 32 line → Some word ≡ word_of line → line_says line ≡ Err BadHex
unfolding line_says
alone_known line word none known = ap (parts_say line) (sym none) ∙ ap (λ w. with_digits w None) (sym known)

pub alone_unknown : (line : List ℕ) → None ≡ cut_at 32 line → None ≡ word_of line → line_says line ≡ Err UnknownWord
unfolding line_says
alone_unknown line none unknown = ap (parts_say line) (sym none) ∙ ap (λ w. with_digits w None) (sym unknown)

-- a line with one
pub parted_known : (line name digits : List ℕ) (word : CaptureWord) → ◌≡◌ {A = Option (List ℕ × List ℕ)} (Some (name, digits)) (cut_at 32 line) → Some word ≡ word_of name
    → line_says line ≡ with_bytes word (decode_of digits)
unfolding line_says
parted_known line name digits word parts known = ap (parts_say line) (sym parts) ∙ ap (λ w. with_digits w (Some digits)) (sym known)

pub parted_unknown : (line name digits : List ℕ) → ◌≡◌ {A = Option (List ℕ × List ℕ)} (Some (name, digits)) (cut_at 32 line) → None ≡ word_of name → line_says line ≡ Err UnknownWord
unfolding line_says
parted_unknown line name digits parts unknown = ap (parts_say line) (sym parts) ∙ ap (λ w. with_digits w (Some digits)) (sym unknown)

-- std's test of a digit, and that of `hex`
pub is_ascii_hexdigit_is : (c : ℕ) → is_ascii_hexdigit c ≡ is_hex_digit c
is_ascii_hexdigit_is c =
    go (nat_le 48 c && nat_le c 57) (nat_le 65 c && nat_le c 70) (nat_le 97 c && nat_le c 102)
  where
    go : (digit upper lower : Bool) → ((digit || upper) || lower) ≡ is_some (if upper then Some (c - 55) else if lower then Some (c - 87) else if digit then Some (c - 48) else None)
    go true true lower = refl
    go true false true = refl
    go true false false = refl
    go false true lower = refl
    go false false true = refl
    go false false false = refl

-- one digit more
pub digits_more : (text : List ℕ) (i : ℕ) (all digit : Bool) → i < length text → digit ≡ is_hex_digit (get_or text i 0) → (IsTrue all ↔ AllPass is_hex_digit (take i text))
    → (IsTrue (all && digit) ↔ AllPass is_hex_digit (take (i + 1) text))
digits_more text i all digit lt is so_far =
    let P : ℕ → Type 0 = λ b. is_hex_digit b ≡ true in
    let e : i + 1 ≡ suc i = omega arith in
    let one : take (i + 1) text ≡ take i text ++ get_or text i 0 ∷ [] = ap (λ n. take n text) e ∙ take-suc text i 0 lt in (
      λ both. All-more P text i 0 lt (so_far.0 (first_true all digit both)) (sym is ∙ second_true all digit both),
      λ pass. let parts = All-pop P (take (i + 1) text) (take i text) (Some (get_or text i 0)) one pass in both_true all digit (so_far.1 parts.0) (is ∙ parts.1),
    )
  where
    first_true : (a b : Bool) → (a && b) ≡ true → a ≡ true
    first_true true b h = refl
    first_true false b h = h

    second_true : (a b : Bool) → (a && b) ≡ true → b ≡ true
    second_true true b h = h
    second_true false b h = absurd (cc)

    both_true : (a b : Bool) → a ≡ true → b ≡ true → (a && b) ≡ true
    both_true true b ha hb = hb
    both_true false b ha hb = ha

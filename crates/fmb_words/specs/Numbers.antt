-- Numbers and IMEIs as words (this project's own).
use Rattle.std.specs.Prelude.{ℕ, ◌==◌, nat_le, ◌&&◌, List, [], ◌∷◌, length, Option, Some, None, option_and_then, option_map, if◌then◌else◌, decimal}
use Rattle.std.specs.List.{list_all}
use Rattle.std.specs.Str.{bytes_eq}
use Rattle.std.specs.Str.Parse.{digits_value}
use Rattle.avl_values.specs.Imei.{is_digit}

-- the number from low to high whose decimal digits the word is, without a leading zero
unfoldable pub number_within : ℕ → ℕ → List ℕ → Option ℕ
number_within low high word =
    let number = digits_value 10 word in
    if bytes_eq (decimal number) word && (nat_le low number && nat_le number high) then Some number else None

-- the number of 15 digits
unfoldable pub imei_of : List ℕ → Option ℕ
imei_of word = if (length word == 15) && list_all is_digit word then Some (digits_value 10 word) else None

-- the numbers of words that are 15 digits each; None where one isn't
abbrev pub imeis_of : List (List ℕ) → Option (List ℕ)
imeis_of [] = Some []
imeis_of (word ∷ words) = option_and_then (λ imei. option_map (λ imeis. imei ∷ imeis) (imeis_of words)) (imei_of word)

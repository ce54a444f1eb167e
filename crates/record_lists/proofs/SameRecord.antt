-- Two records are the same exactly where the test says so.
use Rattle.std.proofs.Common.{◌≡◌, ℕ, Bool, true, false, ◌&&◌, List, [], ◌∷◌, ◌∙◌, ap, refl, arith}
use Rattle.std.specs.Str.{bytes_eq}
use Rattle.std.proofs.lemmas.Bool.Decides.{nat_tests}
use Rattle.std.proofs.lemmas.Slice.Eq.{bytes_eq-Decides}
use Rattle.avl_values.specs.Codec.{is_codec}
use Rattle.avl_values.specs.Record.{Record}
use Rattle.avl_values.specs.declared.codec.Codec.{Codec}
use Rattle.avl_values.specs.declared.codec.Codec.TheVariants.{C8, C8E, C16}
use Rattle.record_lists.specs.SameRecord.{is_same}
use Rattle.record_lists.proofs.EachOnce.{TellsSame}

codec-equal : (a b : Codec) → is_codec a b ≡ true → a ≡ b
codec-equal C8 C8 is = refl
codec-equal C8 C8E is = absurd (let never : false ≡ true = is in cc)
codec-equal C8 C16 is = absurd (let never : false ≡ true = is in cc)
codec-equal C8E C8 is = absurd (let never : false ≡ true = is in cc)
codec-equal C8E C8E is = refl
codec-equal C8E C16 is = absurd (let never : false ≡ true = is in cc)
codec-equal C16 C8 is = absurd (let never : false ≡ true = is in cc)
codec-equal C16 C8E is = absurd (let never : false ≡ true = is in cc)
codec-equal C16 C16 is = refl

codec-itself : (a : Codec) → is_codec a a ≡ true
codec-itself C8 = refl
codec-itself C8E = refl
codec-itself C16 = refl

pub and-left : (a b : Bool) → (a && b) ≡ true → a ≡ true
and-left true b is = refl
and-left false b is = is

pub and-right : (a b : Bool) → (a && b) ≡ true → b ≡ true
and-right true b is = is
and-right false b is = absurd (let never : false ≡ true = is in cc)

bytes-itself : (xs : List ℕ) → bytes_eq xs xs ≡ true
bytes-itself [] = refl
bytes-itself (x ∷ xs) = let rest = bytes-itself xs in grind (arith, nat_tests, rest)

record-equal : (a b : Record) → is_same a b ≡ true → a ≡ b
record-equal a b is =
    ap (λ c. record { codec = c; bytes = a.bytes }) (codec-equal a.codec b.codec (and-left (is_codec a.codec b.codec) (bytes_eq a.bytes b.bytes) is))
    ∙ ap (λ (l : List ℕ). record { codec = b.codec; bytes = l }) ((bytes_eq-Decides a.bytes b.bytes).0 (and-right (is_codec a.codec b.codec) (bytes_eq a.bytes b.bytes) is))

record-itself : (a : Record) → is_same a a ≡ true
record-itself a = ap (λ t. t && bytes_eq a.bytes a.bytes) (codec-itself a.codec) ∙ bytes-itself a.bytes

pub records-tell : TellsSame is_same
records-tell = record { equal = record-equal; itself = record-itself }

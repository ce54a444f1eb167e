-- The laws of what answers a command.
use Rattle.std.proofs.Common.{◌≡◌, ℕ, ◌<◌, ◌≤◌, ◌^◌, ◌==◌, Bool, true, false, List, [], ◌∷◌, length, Option, Some, None, if◌then◌else◌, refl, sym, ap, subst, ◌∙◌, arith, length-append}
use Rattle.std.proofs.Math.Seq.{take-length}
use Rattle.std.proofs.lemmas.Bool.Decides.{nat_tests}
use Rattle.std.proofs.lemmas.List.{append-nil}
use Rattle.std.specs.Option.{is_some}
use Rattle.layout.specs.Bytes.{AreBytes}
use Rattle.layout.specs.Rows.{Verdict, whole, short, fault}
use Rattle.command_layout.specs.Answers.{answer_to, is_own, own_where, response_by, said}
use Rattle.command_layout.specs.CommandRows.{command_verdict}
use Rattle.command_layout.specs.Laws.{AnswerFits, AnswerIsCommand, AnswerIsWellFormed, CommandIsValue, ValueIsCommand}
use Rattle.command_layout.specs.Spelling.{Fits, ImeiFits, IsCommand, content_of, digit_pairs, imei_bytes}
use Rattle.command_layout.specs.Table.{IsOf, WellFormed}
use Rattle.command_layout.specs.Values.{CommandValue}
use Rattle.command_layout.specs.declared.way.Way.TheVariants.{Up, Down}
use Rattle.command_layout.proofs.CommandFills.{command_size}
use Rattle.command_layout.proofs.CommandLaws.{command_whole, whole_command}

-- The value of a body.

pub command_value : CommandIsValue
command_value way v body is = ap said (ap (command_verdict way (length body)) (sym (append-nil body)) ∙ command_whole way v body [] is)

-- a verdict that says a value is whole
whole_by : {V : Type 0} (verdict : Verdict V) (v : V) → said verdict ≡ Some v → (n : ℕ) × (verdict ≡ whole v n)
whole_by (whole w n) v e = (n, let same : w ≡ v = cc in ap (λ x. whole x n) same)
whole_by short v e = absurd (cc)
whole_by (fault kind place) v e = absurd (cc)

pub value_command : ValueIsCommand
value_command way v body p e =
    let w = whole_by (command_verdict way (length body) body) v e in
    let c = whole_command way (length body) w.0 v body p w.1 in
    subst (IsCommand way v) (take-length body) c.2

-- A command down is of Codec 12 with no IMEI, or of Codec 14 with one.

none_of : (o : Option ℕ) → is_some o ≡ false → o ≡ None
none_of None e = refl
none_of (Some n) e = absurd (cc)

some_of : (o : Option ℕ) → is_some o ≡ true → (n : ℕ) × (o ≡ Some n)
some_of None e = absurd (cc)
some_of (Some n) e = (n, refl)

data IsDown (v : CommandValue) : Type 0 where
  twelve : v.codec ≡ 0x0c → v.imei ≡ None → IsDown v
  fourteen : (imei : ℕ) → v.codec ≡ 0x0e → v.imei ≡ Some imei → IsDown v

by_codec : (v : CommandValue) (a b : Bool) → (v.codec == 0x0c) ≡ a → (v.codec == 0x0e) ≡ b
    → IsOf (if a then Some (record { kinds = 0x05 ∷ []; time = false; imei = false }) else if b then Some (record { kinds = 0x05 ∷ []; time = false; imei = true }) else None) v → IsDown v
by_codec v true b e f is = twelve (grind (arith, nat_tests)) (none_of v.imei is.imei)
by_codec v false true e f is = let one = some_of v.imei is.imei in fourteen one.0 (grind (arith, nat_tests)) one.1
by_codec v false false e f is = absurd is

is_down : (v : CommandValue) → WellFormed Down v → IsDown v
is_down v well = by_codec v (v.codec == 0x0c) (v.codec == 0x0e) refl refl well

-- The answer may pass up.

abbrev IsUp : ℕ → List ℕ → ℕ → Option ℕ → Type 0
IsUp own text codec imei = WellFormed Up (response_by (is_own own imei) codec (own_where own imei) text)

twelve_up : (own : ℕ) (text : List ℕ) → IsUp own text 0x0c None
twelve_up own text = record { kind = refl; time = refl; imei = refl }

fourteen_by : (asked : Bool) (own : ℕ) (text : List ℕ) → WellFormed Up (response_by asked 0x0e (Some own) text)
fourteen_by true own text = record { kind = refl; time = refl; imei = refl }
fourteen_by false own text = record { kind = refl; time = refl; imei = refl }

up_by : (own : ℕ) (text : List ℕ) (v : CommandValue) → IsDown v → WellFormed Up (answer_to own text v)
up_by own text v (twelve codec none) = subst (λ k. IsUp own text k v.imei) (sym codec) (subst (IsUp own text 0x0c) (sym none) (twelve_up own text))
up_by own text v (fourteen imei codec some) =
    subst (λ k. IsUp own text k v.imei) (sym codec) (subst (IsUp own text 0x0e) (sym some) (fourteen_by (imei == own) own text))

pub answer_well : AnswerIsWellFormed
answer_well own text v well = up_by own text v (is_down v well)

-- It isn't long.

imei_few : (imei : Option ℕ) → length (imei_bytes imei) ≤ 8
unfolding digit_pairs
imei_few None = omega arith
imei_few (Some n) = omega arith

content_few : (asked : Bool) (codec : ℕ) (imei : Option ℕ) (text : List ℕ) → length text ≤ 1024 → length (content_of (response_by asked codec imei text)) ≤ 1032
content_few true codec imei text few = omega (arith, length-append (imei_bytes imei) text, imei_few imei)
content_few false codec imei text few = omega (arith, length-append (imei_bytes imei) [], imei_few imei)

pub answer_fits : AnswerFits
answer_fits own text v few =
    let a = answer_to own text v in
    omega (arith, command_size a, content_few (is_own own v.imei) v.codec (own_where own v.imei) text few)

-- It is a command.

codec_fits : (v : CommandValue) → IsDown v → v.codec < 256
codec_fits v (twelve codec none) = omega (arith, codec)
codec_fits v (fourteen imei codec some) = omega (arith, codec)

own_fits : (own : ℕ) (imei : Option ℕ) → own < 10 ^ 15 → ImeiFits (own_where own imei)
own_fits own None fits = tt
own_fits own (Some imei) fits = fits

fits_by : (asked : Bool) (codec : ℕ) (imei : Option ℕ) (text : List ℕ) → codec < 256 → ImeiFits imei → AreBytes text → length text ≤ 1024 → Fits (response_by asked codec imei text)
fits_by true codec imei text c i t few = record { codec = c; kind = omega arith; time = tt; imei = i; text = t; size = omega (arith, content_few true codec imei text few) }
fits_by false codec imei text c i t few = record { codec = c; kind = omega arith; time = tt; imei = i; text = tt; size = omega (arith, content_few false codec imei text few) }

pub answer_command : AnswerIsCommand
answer_command own text v well own_is bytes few = record {
  is = refl;
  well_formed = answer_well own text v well;
  fits = fits_by (is_own own v.imei) v.codec (own_where own v.imei) text (codec_fits v (is_down v well)) (own_fits own v.imei own_is) bytes few;
}

-- Where in a login the next field stands.
use Rattle.std.specs.Prelude.{◌≡◌, ℕ, suc, ◌-◌, ◌<◌, ◌≤◌, ◌^◌, Some}
use Rattle.std.proofs.Common.{refl, ap, ◌∙◌}
use Rattle.layout.specs.Next.{width_of}
use Rattle.layout.specs.Rows.{Rows, done}
use Rattle.field_machine.specs.Places.{Leaves, turns}
use Rattle.field_machine.specs.declared.left.Left.{Left}
use Rattle.field_machine.specs.declared.left.Left.TheVariants as left
use Rattle.frame_layout.specs.Logins.{digit_rows, login_rows}
use Rattle.frame_channel.specs.CountPlaces.{SaysNumber}
use Rattle.frame_channel.specs.declared.login_place.LoginPlace.{LoginPlace}
use Rattle.frame_channel.specs.declared.login_place.LoginPlace.TheVariants as at

-- a login, which says its IMEI
abbrev pub imei_rows : Rows ℕ
imei_rows = login_rows (λ n. done n)

abbrev pub login_left : LoginPlace → Left ℕ
login_left at.Length = left.Field 2
login_left (at.Digit behind number) = left.Field 1
login_left (at.End imei) = left.Nothing imei

-- the digits so far spell a number of as many digits
abbrev pub IsSound : ℕ → ℕ → Type 0
IsSound behind number = (behind ≤ 14) × (number < 10 ^ (14 - behind))

-- the rows that are left
abbrev pub StandsInLogin : LoginPlace → Rows ℕ → Type 0
StandsInLogin at.Length here = here ≡ imei_rows
StandsInLogin (at.Digit behind number) here = (here ≡ digit_rows (suc behind) number (λ n. done n)) × IsSound behind number
StandsInLogin (at.End imei) here = here ≡ done imei

login_width : width_of imei_rows ≡ Some 2
unfolding login_rows
login_width = refl

digit_width : (behind number : ℕ) → width_of (digit_rows (suc behind) number (λ n. done n)) ≡ Some 1
unfolding digit_rows
digit_width behind number = refl

pub login_leaves : (place : LoginPlace) (here : Rows ℕ) → StandsInLogin place here → Leaves SaysNumber (login_left place) here
login_leaves at.Length here is = ap width_of is ∙ login_width
login_leaves (at.Digit behind number) here (is, sound) = ap width_of is ∙ digit_width behind number
login_leaves (at.End imei) here is = (imei, is, refl)

-- no field is of no bytes
pub login_turns : (place : LoginPlace) → turns (login_left place) ≡ 0
login_turns at.Length = refl
login_turns (at.Digit behind number) = refl
login_turns (at.End imei) = refl

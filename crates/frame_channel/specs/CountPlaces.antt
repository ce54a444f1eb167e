-- The four bytes of a count.
use Rattle.std.specs.Prelude.{◌≡◌, ℕ, None}
use Rattle.std.proofs.Common.{refl, ap}
use Rattle.layout.specs.Fields.{number_row}
use Rattle.layout.specs.Next.{width_of}
use Rattle.layout.specs.Rows.{Rows, done}
use Rattle.field_machine.specs.Places.{Leaves}
use Rattle.field_machine.specs.declared.left.Left.{Left}
use Rattle.field_machine.specs.declared.left.Left.TheVariants as left
use Rattle.frame_channel.specs.declared.count_place.CountPlace.{CountPlace}
use Rattle.frame_channel.specs.declared.count_place.CountPlace.TheVariants as at

-- a number of four bytes, which the rows say
abbrev pub four_rows : Rows ℕ
four_rows = number_row 4 (λ _. None) (λ n. done n)

abbrev pub count_left : CountPlace → Left ℕ
count_left at.Count = left.Field 4
count_left (at.End n) = left.Nothing n

abbrev pub StandsInCount : CountPlace → Rows ℕ → Type 0
StandsInCount at.Count here = here ≡ four_rows
StandsInCount (at.End n) here = here ≡ done n

abbrev pub SaysNumber : ℕ → ℕ → Type 0
SaysNumber n v = v ≡ n

pub count_leaves : (place : CountPlace) (here : Rows ℕ) → StandsInCount place here → Leaves SaysNumber (count_left place) here
count_leaves at.Count here is = ap width_of is
count_leaves (at.End n) here is = (n, is, refl)

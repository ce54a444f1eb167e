-- Widths of numbers.
use Rattle.std.specs.Prelude.{ℕ, ◌^◌, ◌==◌, Bool, true, false, Option, Some, None, if◌then◌else◌}
use Rattle.avl_values.specs.declared.width.Width.{Width}
use Rattle.avl_values.specs.declared.width.Width.TheVariants.{W1, W2, W4, W8}

abbrev pub bytes_of : Width → ℕ
bytes_of W1 = 1
bytes_of W2 = 2
bytes_of W4 = 4
bytes_of W8 = 8

-- the width of N bytes, None for any other number
abbrev pub width_of_bytes : ℕ → Option Width
width_of_bytes n = if n == 1 then Some W1 else if n == 2 then Some W2 else if n == 4 then Some W4 else if n == 8 then Some W8 else None

-- the numbers that fit a width are those below this
abbrev pub limit : Width → ℕ
limit W1 = 2 ^ 8
limit W2 = 2 ^ 16
limit W4 = 2 ^ 32
limit W8 = 2 ^ 64

abbrev pub is_width : Width → Width → Bool
is_width W1 W1 = true
is_width W1 W2 = false
is_width W1 W4 = false
is_width W1 W8 = false
is_width W2 W1 = false
is_width W2 W2 = true
is_width W2 W4 = false
is_width W2 W8 = false
is_width W4 W1 = false
is_width W4 W2 = false
is_width W4 W4 = true
is_width W4 W8 = false
is_width W8 W1 = false
is_width W8 W2 = false
is_width W8 W4 = false
is_width W8 W8 = true

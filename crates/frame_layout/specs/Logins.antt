-- The rows of a login, whatever comes after it (Teltonika, Data Sending Protocols, "Codec 8 protocol sending over TCP", and
-- "sending over UDP", where a datagram holds the same rows).
use Rattle.std.specs.Prelude.{ℕ, zero, suc, ◌+◌, ◌-◌, ◌*◌, ◌==◌}
use Rattle.avl_values.specs.Imei.{is_digit}
use Rattle.avl_values.specs.declared.fault.FaultKind.TheVariants.{LoginLength, LoginDigit}
use Rattle.layout.specs.Rows.{Rows}
use Rattle.layout.specs.Fields.{fault_unless, number_row}

-- N digits, after those that spell a number, and what follows the whole number
unfoldable pub digit_rows : {V : Type 0} → ℕ → ℕ → (ℕ → Rows V) → Rows V
digit_rows zero n rest = rest n
digit_rows (suc k) n rest = number_row 1 (λ b. fault_unless (is_digit b) LoginDigit) (λ b. digit_rows k (n * 10 + (b - 48)) rest)

-- the length 15 in two bytes, the 15 digits of an IMEI, and what follows it
unfoldable pub login_rows : {V : Type 0} → (ℕ → Rows V) → Rows V
login_rows rest = number_row 2 (λ n. fault_unless (n == 15) LoginLength) (λ _. digit_rows 15 0 rest)

-- A place in a datagram, one field further on.
use Rattle.std.proofs.Common.{◌≡◌, ℕ, ◌≤◌, List, ◌++◌, length, true, None, Some, refl, ap, ◌∙◌, arith}
use Rattle.std.proofs.lemmas.Bool.Decides.{nat_tests}
use Rattle.avl_values.specs.Imei.{is_digit}
use Rattle.avl_values.specs.declared.fault.FaultKind.TheVariants.{LoginDigit}
use Rattle.layout.specs.Fields.{fault_unless, number}
use Rattle.layout.specs.Next.{rows_after, rule_of, width_of}
use Rattle.layout.specs.Rows.{Rows}
use Rattle.field_machine.specs.declared.left.Left.TheVariants as left
use Rattle.field_machine.proofs.Fields.{width_is}
use Rattle.record_codecs.specs.BodyCursor as packet
use Rattle.record_codecs.specs.CursorLaws as packet_laws
use Rattle.record_codecs.specs.declared.place.PacketPlace.{PacketPlace}
use Rattle.datagrams.specs.BodyRows.{said_after, said_rows, said_rule}
use Rattle.datagrams.specs.DatagramRows.{any_number}
use Rattle.datagrams.specs.Values.{DatagramValue}

-- after a number that any bytes spell
pub any_on : (w : ℕ) (rest : ℕ → Rows DatagramValue) (here : Rows DatagramValue) (field : List ℕ) → here ≡ any_number w rest → (rule_of here field ≡ None) × (rows_after here field ≡ rest (number field))
any_on w rest here field is = (ap (λ r. rule_of r field) is, ap (λ r. rows_after r field) is)

-- in the data body its own rows decide
module _ (place : PacketPlace) (says : List ℕ → DatagramValue) (seen field : List ℕ) (here : Rows DatagramValue) (is : here ≡ said_rows says seen (packet.rows_at place)) (at : packet.left_of place ≡ left.Field (length field)) where
  wide : width_of (packet.rows_at place) ≡ Some (length field)
  wide = width_is packet.SaysHead (packet.left_of place) (length field) (packet.rows_at place) (packet_laws.body_leaves place (packet.rows_at place) refl) at

  pub body_rule : rule_of here field ≡ rule_of (packet.rows_at place) field
  body_rule = ap (λ r. rule_of r field) is ∙ said_rule says seen (packet.rows_at place) (length field) field wide

  pub body_after : rows_after here field ≡ said_rows says (seen ++ field) (rows_after (packet.rows_at place) field)
  body_after = ap (λ r. rows_after r field) is ∙ said_after says seen (packet.rows_at place) (length field) field wide

pub digit_passes : (n v : ℕ) → n ≡ v → 48 ≤ v → v ≤ 57 → fault_unless (is_digit n) LoginDigit ≡ None
digit_passes n v is low high = let digit : is_digit v ≡ true = grind (arith, nat_tests) in ap (λ b. fault_unless (is_digit b) LoginDigit) is ∙ ap (λ t. fault_unless t LoginDigit) digit

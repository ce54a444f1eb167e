-- A record's cursor, field by field.
use Rattle.std.proofs.Common.{◌≡◌, ℕ, ◌+◌, ◌≤◌, ◌==◌, List, [], ◌∷◌, length, drop, Bool, true, false, not, nat_lt, Option, Some, None, Ok, Err, refl, sym, ap, subst, ◌∙◌, arith}
use Rattle.avl_values.specs.Width.{bytes_of}
use Rattle.avl_values.specs.declared.fault.FaultKind.{FaultKind}
use Rattle.avl_values.specs.declared.fault.FaultKind.TheVariants.{TotalMismatch}
use Rattle.avl_values.specs.declared.width.Width.{Width}
use Rattle.avl_values.specs.declared.width.Width.TheVariants.{W1, W2, W4, W8}
use Rattle.layout.specs.Fields.{number, times, fault_unless}
use Rattle.field_machine.specs.Places.{Reads}
use Rattle.record_layout.specs.declared.part.Field.{Field}
use Rattle.record_layout.specs.declared.part.Part.{Part}
use Rattle.record_layout.specs.declared.part.Part.TheVariants.{Plain, Total, Pairs, Triples}
use Rattle.record_layout.specs.RecordRows.{count_rule, pair_rows, triple_rows, parts_rows}
use Rattle.record_layout.specs.Table.{parts_of}
use Rattle.record_codecs.specs.declared.in_record.InRecord.{InRecord}
use Rattle.record_codecs.specs.declared.in_record.InRecord.TheVariants as at
use Rattle.record_codecs.specs.declared.in_record.RecordState.{RecordState}
use Rattle.record_codecs.specs.RecordCursor.{parts_left, rows_in, rows_from, counted_with, some_unless, first_width_of, FollowsIn}

small_width : (w : Width) → bytes_of w ≤ 8
small_width W1 = omega arith
small_width W2 = omega arith
small_width W4 = omega arith
small_width W8 = omega arith

small_part : (p : Part) → first_width_of p ≤ 8
small_part (Plain f w) = small_width w
small_part (Total w) = small_width w
small_part (Pairs c i w) = small_width c
small_part (Triples c i w) = small_width c

-- the value that was read is that of the field
value_is : (p : Part) (field : List ℕ) (value : ℕ) → length field ≡ first_width_of p → Reads field value → number field ≡ value
value_is p field value width reads = reads (omega (arith, width, small_part p))

-- The rule at a count.

pub rule_passes : (rule : Option FaultKind) (n counted : ℕ) → Some counted ≡ some_unless rule n → (rule ≡ None) × (counted ≡ n)
rule_passes None n counted e = (refl, cc)
rule_passes (Some kind) n counted e = absurd (cc)

unless_fails : (b : Bool) (n : ℕ) → None ≡ some_unless (fault_unless b TotalMismatch) n → fault_unless b TotalMismatch ≡ Some TotalMismatch
unless_fails true n e = absurd (cc)
unless_fails false n e = refl

pub rule_fails : (ps : List Part) (total n : ℕ) → None ≡ counted_with ps total n → count_rule ps total n ≡ Some TotalMismatch
rule_fails [] total n e = unless_fails (n == total) n e
rule_fails (p ∷ ps) total n e = unless_fails (not (nat_lt total n)) n e

-- Turns of a part's first field.

pub plain_turn : (r : RecordState) (f : Field) (w : Width) (p : Part) (field : List ℕ) (next : Option InRecord) → p ≡ Plain f w → rows_from next ≡ parts_left r → FollowsIn (rows_in (at.Part r p)) field (Ok next)
unfolding parts_rows
plain_turn r f w p field next is rows = subst (λ q. FollowsIn (rows_in (at.Part r q)) field (Ok next)) (sym is) (refl, sym rows)

pub total_turn : (r : RecordState) (w : Width) (p : Part) (field : List ℕ) (value : ℕ) (next : Option InRecord) → p ≡ Total w → length field ≡ first_width_of p → Reads field value
    → rows_from next ≡ parts_left (record r { total = value }) → FollowsIn (rows_in (at.Part r p)) field (Ok next)
unfolding parts_rows
total_turn r w p field value next is width reads rows =
    let n = value_is p field value width reads in
    subst (λ q. FollowsIn (rows_in (at.Part r q)) field (Ok next)) (sym is) (refl, ap (λ k. parts_left (record r { total = k })) n ∙ sym rows)

pub pairs_turn : (r : RecordState) (c i w : Width) (p : Part) (field : List ℕ) (value counted : ℕ) (next : Option InRecord) → p ≡ Pairs c i w → length field ≡ first_width_of p → Reads field value
    → Some counted ≡ counted_with (drop r.part (parts_of r.codec)) r.total (r.counted + value) → rows_from next ≡ times value (pair_rows i w) (parts_left (record r { counted = counted }))
    → FollowsIn (rows_in (at.Part r p)) field (Ok next)
unfolding parts_rows
pairs_turn r c i w p field value counted next is width reads passes rows =
    let n = value_is p field value width reads in
    let ps = drop r.part (parts_of r.codec) in
    let q = rule_passes (count_rule ps r.total (r.counted + value)) (r.counted + value) counted passes in
    subst (λ q. FollowsIn (rows_in (at.Part r q)) field (Ok next)) (sym is) (
      ap (λ k. count_rule ps r.total (r.counted + k)) n ∙ q.0,
      ap (λ k. times k (pair_rows i w) (parts_left (record r { counted = r.counted + k }))) n ∙ ap (λ k. times value (pair_rows i w) (parts_left (record r { counted = k }))) (sym q.1) ∙ sym rows,
    )

pub triples_turn : (r : RecordState) (c i w : Width) (p : Part) (field : List ℕ) (value counted : ℕ) (next : Option InRecord) → p ≡ Triples c i w → length field ≡ first_width_of p → Reads field value
    → Some counted ≡ counted_with (drop r.part (parts_of r.codec)) r.total (r.counted + value) → rows_from next ≡ times value (triple_rows i w) (parts_left (record r { counted = counted }))
    → FollowsIn (rows_in (at.Part r p)) field (Ok next)
unfolding parts_rows
triples_turn r c i w p field value counted next is width reads passes rows =
    let n = value_is p field value width reads in
    let ps = drop r.part (parts_of r.codec) in
    let q = rule_passes (count_rule ps r.total (r.counted + value)) (r.counted + value) counted passes in
    subst (λ q. FollowsIn (rows_in (at.Part r q)) field (Ok next)) (sym is) (
      ap (λ k. count_rule ps r.total (r.counted + k)) n ∙ q.0,
      ap (λ k. times k (triple_rows i w) (parts_left (record r { counted = r.counted + k }))) n ∙ ap (λ k. times value (triple_rows i w) (parts_left (record r { counted = k }))) (sym q.1) ∙ sym rows,
    )

pub pairs_fail : (r : RecordState) (c i w : Width) (p : Part) (field : List ℕ) (value : ℕ) → p ≡ Pairs c i w → length field ≡ first_width_of p → Reads field value
    → None ≡ counted_with (drop r.part (parts_of r.codec)) r.total (r.counted + value) → FollowsIn (rows_in (at.Part r p)) field (Err TotalMismatch)
unfolding parts_rows
pairs_fail r c i w p field value is width reads fails =
    let n = value_is p field value width reads in
    let ps = drop r.part (parts_of r.codec) in
    subst (λ q. FollowsIn (rows_in (at.Part r q)) field (Err TotalMismatch)) (sym is) (ap (λ k. count_rule ps r.total (r.counted + k)) n ∙ rule_fails ps r.total (r.counted + value) fails)

pub triples_fail : (r : RecordState) (c i w : Width) (p : Part) (field : List ℕ) (value : ℕ) → p ≡ Triples c i w → length field ≡ first_width_of p → Reads field value
    → None ≡ counted_with (drop r.part (parts_of r.codec)) r.total (r.counted + value) → FollowsIn (rows_in (at.Part r p)) field (Err TotalMismatch)
unfolding parts_rows
triples_fail r c i w p field value is width reads fails =
    let n = value_is p field value width reads in
    let ps = drop r.part (parts_of r.codec) in
    subst (λ q. FollowsIn (rows_in (at.Part r q)) field (Err TotalMismatch)) (sym is) (ap (λ k. count_rule ps r.total (r.counted + k)) n ∙ rule_fails ps r.total (r.counted + value) fails)

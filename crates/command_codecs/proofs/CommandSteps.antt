-- What a command's cursor and its reading do, over the rows that are left.
use Rattle.std.proofs.Common.{◌≡◌, ℕ, ◌+◌, ◌-◌, ◌≤◌, List, [], ◌∷◌, ◌++◌, length, take, drop, None, Ok, Err, Some, refl, sym, ap, subst, ◌∙◌, arith, append_assoc, length-append}
use Rattle.std.proofs.Math.Seq.{take-append_seam, drop-append_seam, take-length}
use Rattle.std.specs.Int.{to_be_bytes, w32}
use Rattle.avl_values.specs.declared.fault.FaultKind.{FaultKind}
use Rattle.layout.specs.Bytes.{AreBytes}
use Rattle.layout.specs.Next.{rule_of, rows_after}
use Rattle.layout.specs.Rows.{Rows, body, judge, short, whole}
use Rattle.layout.proofs.NestedLaws.{body_short}
use Rattle.field_machine.specs.Verdicts.{IsVerdict}
use Rattle.field_machine.specs.declared.verdict.Scan.TheVariants.{Whole}
use Rattle.command_layout.specs.declared.way.Way.{Way}
use Rattle.command_layout.specs.CommandRows.{command_rows, command_verdict}
use Rattle.command_layout.specs.Spelling.{ImeiFits, IsCommand, command_of, content_of, imei_bytes, time_bytes}
use Rattle.command_layout.specs.Values.{CommandValue}
use Rattle.command_layout.proofs.CommandLaws.{whole_command}
use Rattle.command_codecs.specs.declared.hearing.Said.{Said}
use Rattle.command_codecs.specs.declared.reading.Heard.{Heard}
use Rattle.command_codecs.specs.declared.cursor.NextField.{NextField}
use Rattle.command_codecs.specs.CommandCursor.{Follows, heard, rows_from}
use Rattle.command_codecs.specs.Hearing.{Says, with_text}
use Rattle.command_codecs.specs.Reading.{SaysHeard}

pub stands_on : (way : Way) (total : ℕ) (cursor next : NextField) (v : CommandValue) (here : Rows CommandValue) (field : List ℕ) → here ≡ rows_from way total cursor v → Follows way total cursor v field (Ok next)
    → (rule_of here field ≡ None) × (rows_after here field ≡ rows_from way total next (heard cursor v field))
stands_on way total cursor next v here field is follows = (ap (λ r. rule_of r field) is ∙ follows.0, ap (λ r. rows_after r field) is ∙ follows.1)

pub breaks_here : (way : Way) (total : ℕ) (cursor : NextField) (kind : FaultKind) (v : CommandValue) (here : Rows CommandValue) (field : List ℕ) → here ≡ rows_from way total cursor v → Follows way total cursor v field (Err kind)
    → rule_of here field ≡ Some kind
breaks_here way total cursor kind v here field is follows = ap (λ r. rule_of r field) is ∙ follows

-- a value that the code holds, and whose IMEI is one, is the code's
same_value : (s : Said) (text : List ℕ) (v : CommandValue) → Says s v → v.text ≡ text → ImeiFits v.imei → with_text s text ≡ v
same_value s text v h t fits = rw (h.codec, h.kind, h.time, h.imei fits, sym t) refl

-- The text of a command comes before its last byte.
pub text_there : (v : CommandValue) (n : ℕ) (bytes : List ℕ) → bytes ≡ command_of v → length v.text ≡ n → (n + 1 ≤ length bytes) × (take n (drop (length bytes - (n + 1)) bytes) ≡ v.text)
text_there v n bytes is len =
    let size = to_be_bytes w32 (length (content_of v)) in
    let head = time_bytes v.time ++ imei_bytes v.imei in
    let front = v.codec ∷ 1 ∷ v.kind ∷ (size ++ head) in
    let back = v.text ++ 1 ∷ [] in
    let content : content_of v ++ 1 ∷ [] ≡ head ++ back = ap (λ x. x ++ 1 ∷ []) (sym (append_assoc (time_bytes v.time) (imei_bytes v.imei) v.text)) ∙ append_assoc head v.text (1 ∷ []) in
    let tail : size ++ (content_of v ++ 1 ∷ []) ≡ (size ++ head) ++ back = ap (λ x. size ++ x) content ∙ sym (append_assoc size head back) in
    let split : bytes ≡ front ++ back = is ∙ ap (λ x. v.codec ∷ 1 ∷ v.kind ∷ x) tail in
    let all : length bytes ≡ length front + (n + 1) = omega (arith, ap length split, length-append front back, length-append v.text (1 ∷ []), len) in
    let before : length bytes - (n + 1) ≡ length front = omega (arith, all) in
    let dropped : drop (length bytes - (n + 1)) bytes ≡ back = ap (λ k. drop k bytes) before ∙ ap (λ b. drop (length front) b) split ∙ drop-append_seam front back in
    (omega (arith, all), ap (λ b. take n b) dropped ∙ ap (λ k. take k back) (sym len) ∙ take-append_seam v.text (1 ∷ []))

-- A whole body.

pub verdict_is : (way : Way) (total : ℕ) (have : List ℕ) → command_verdict way total have ≡ judge (body total (command_rows way total)) 0 have
unfolding command_verdict
verdict_is way total have = refl

-- a whole body is never short
pub whole_body : (way : Way) (total : ℕ) (have : List ℕ) → length have ≡ total → judge (body total (command_rows way total)) 0 have ≡ short → ⊥
whole_body way total have len e = let few = body_short (command_rows way total) total 0 have e in omega arith

-- a body that is a command, of which this was heard
pub record IsHeard (way : Way) (heard : Heard) (have : List ℕ) : Type 0 where
  pub value : CommandValue
  pub verdict : command_verdict way (length have) have ≡ whole value (length have)
  pub command : IsCommand way value have
  pub says : SaysHeard heard value

pub whole_heard : (way : Way) (heard : Heard) (have : List ℕ) → AreBytes have → IsVerdict SaysHeard (length have) (Whole heard) (judge (body (length have) (command_rows way (length have))) 0 have) → IsHeard way heard have
whole_heard way heard have bytes (v, e, says) =
    let verdict = verdict_is way (length have) have ∙ e in
    let (end, long, is) = whole_command way (length have) (length have) v have bytes verdict in
    record { value = v; verdict = verdict; command = subst (IsCommand way v) (take-length have) is; says = says }

pub heard_value : (way : Way) (heard : Heard) (have : List ℕ) (h : IsHeard way heard have) → with_text heard.said (take heard.text (drop (length have - (heard.text + 1)) have)) ≡ h.value
heard_value way heard have h =
    let there = text_there h.value heard.text have h.command.is h.says.1 in
    same_value heard.said _ h.value h.says.0 (sym there.1) h.command.fits.imei

-- A command's body is read, and its answer may pass up.
use Rattle.std.proofs.Common.{◌≡◌, ℕ, ◌≤◌, arith, List, length, Option, Some, None}
use Rattle.layout.specs.Rows.{fault}
use Rattle.avl_values.specs.declared.fault.FaultKind.{FaultKind}
use Rattle.command_layout.specs.CommandRows.{command_verdict}
use Rattle.command_layout.specs.Spelling.{IsCommand, command_of, imei_bytes, time_bytes}
use Rattle.command_layout.specs.Values.{CommandValue}
use Rattle.command_layout.specs.declared.way.Way.TheVariants.{Down}
use Rattle.command_layout.proofs.AnswerLaws.{command_value}
use Rattle.command_codecs.proofs.Digits.{pairs_length}
use Rattle.command_codecs.proofs.Sizes.{body_length}

time-few : (time : Option ℕ) → length (time_bytes time) ≤ 4
time-few None = omega arith
time-few (Some n) = omega arith

imei-few : (imei : Option ℕ) → length (imei_bytes imei) ≤ 8
imei-few None = omega arith
imei-few (Some n) = omega (arith, pairs_length n)

pub response-few : (v : CommandValue) → length v.text ≤ 1024 → length (command_of v) ≤ 1268
response-few v few = omega (arith, body_length v, time-few v.time, imei-few v.imei)

pub no-fault : (v : CommandValue) (body : List ℕ) (kind : FaultKind) (place : ℕ) → IsCommand Down v body → command_verdict Down (length body) body ≡ fault kind place → ⊥
no-fault v body kind place is broken =
    let said_value = command_value Down v body is in
    let P : Option CommandValue → Type 0 = λ o. o ≡ Some v in
    absurd cc

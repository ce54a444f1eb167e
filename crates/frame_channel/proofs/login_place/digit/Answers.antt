use Rattle.std.proofs.Common.{◌≡◌, ◌+◌, ◌-◌, ◌*◌, ◌<◌, ◌^◌, suc, true, false, ap, sym, subst, ◌∙◌, arith}
use Rattle.layout.specs.Fields.{number}
use Rattle.layout.specs.Rows.{done}
use Rattle.frame_layout.specs.Logins.{digit_rows}
use Rattle.frame_channel.proofs.Digits.{digit_more, digit_passes, digit_room, digit_value}
use Rattle.frame_channel.proofs.login_place.digit.Goals as goal

pub returns-then-left-gt0 : goal.returns-then-left-gt0
unfolding digit_rows
returns-then-left-gt0 c field is sound =
    let left = c.args.left in
    let n = c.args.number in
    let v = c.args.value in
    let value = digit_value left n v sound.0 sound.1 (omega arith) in
    let k : left ≡ suc (left - 1) = omega arith in (
      digit_passes (number field) v is (omega arith) (omega arith),
      (
        ap (λ b. digit_rows left (n * 10 + (b - 48)) (λ x. done x)) is ∙ ap (λ l. digit_rows l (n * 10 + (v - 48)) (λ x. done x)) k ∙ ap (λ x. digit_rows (suc (left - 1)) x (λ x. done x)) (sym value),
        (omega arith, subst (λ x. x < 10 ^ (14 - (left - 1))) (sym value) (digit_more left n (v - 48) (omega arith) sound.0 sound.1 (omega arith))),
      ),
    )

pub returns-in-Some : goal.returns-in-Some
unfolding digit_rows
returns-in-Some c field is sound =
    let left = c.args.left in
    let n = c.args.number in
    let v = c.args.value in
    let value = digit_value left n v sound.0 sound.1 (omega arith) in
    let none : left ≡ 0 = omega (arith, c.if-left-gt0.false) in (
      digit_passes (number field) v is (omega arith) (omega arith),
      ap (λ b. digit_rows left (n * 10 + (b - 48)) (λ x. done x)) is ∙ ap (λ l. digit_rows l (n * 10 + (v - 48)) (λ x. done x)) none ∙ ap (λ x. done x) (sym (c.in-Some.ensures.value ∙ value)),
    )

pub returns-in-None : goal.returns-in-None
returns-in-None c field is sound =
    let left = c.args.left in
    let n = c.args.number in
    let v = c.args.value in
    let value = digit_value left n v sound.0 sound.1 (omega arith) in
    let room = digit_room left n sound.0 sound.1 in
    let none : false ≡ true = c.in-None.ensures.found.1 (omega (arith, value, room)) in
    absurd (cc)

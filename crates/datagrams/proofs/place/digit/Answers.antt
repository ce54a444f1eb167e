use Rattle.std.proofs.Common.{◌≡◌, ◌+◌, ◌-◌, ◌*◌, [], suc, ap, arith}
use Rattle.layout.specs.Fields.{number}
use Rattle.frame_layout.specs.Logins.{digit_rows}
use Rattle.datagrams.specs.DatagramRows.{body_rows}
use Rattle.datagrams.proofs.PlaceSteps.{digit_passes}
use Rattle.datagrams.proofs.place.digit.Goals as goal

pub returns-then-left-gt0-clause-follows : goal.returns-then-left-gt0-clause-follows
unfolding digit_rows
returns-then-left-gt0-clause-follows c field says n is =
    let next : c.args.left ≡ suc (c.args.left - 1) = omega arith in
    (digit_passes (number field) c.args.value is (omega arith) (omega arith), (says, n * 10 + (number field - 48), ap (λ k. digit_rows k (n * 10 + (number field - 48)) (λ imei. body_rows (says imei))) next))

pub returns-else-left-gt0-clause-follows : goal.returns-else-left-gt0-clause-follows
unfolding digit_rows
returns-else-left-gt0-clause-follows c field says n is =
    let none : c.args.left ≡ 0 = omega (arith, c.if-left-gt0.false) in
    (digit_passes (number field) c.args.value is (omega arith) (omega arith), (says (n * 10 + (number field - 48)), [], ap (λ k. digit_rows k (n * 10 + (number field - 48)) (λ imei. body_rows (says imei))) none))

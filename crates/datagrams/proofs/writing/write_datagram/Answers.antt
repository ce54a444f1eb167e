use Rattle.std.proofs.Common.{◌≡◌, ◌≤◌, true, false, length, arith}
use Rattle.datagrams.specs.Items.{datagram_of}
use Rattle.datagrams.specs.Views.{value_of}
use Rattle.datagrams.proofs.DatagramFills.{datagram_length}
use Rattle.datagrams.proofs.writing.write_datagram.Goals as goal

pub returns-then-body-gt-LONGEST_BODY-clause-room : goal.returns-then-body-gt-LONGEST_BODY-clause-room
returns-then-body-gt-LONGEST_BODY-clause-room c =
    let size = datagram_length (value_of c.args.value.now) in
    let over : length (datagram_of (value_of c.args.value.now)) ≤ 1280 → ⊥ = λ fits. omega (arith, fits, size, c.if-body-gt-LONGEST_BODY.true) in
    (λ no. absurd (let e : false ≡ true = no in cc), λ fits. absurd (over fits))

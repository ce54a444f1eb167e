use Rattle.std.proofs.Common.{◌≡◌, ◌≤◌, ◌-◌, ◌^◌, length, arith}
use Rattle.fmb_io.proofs.ReadSteps.{read_enough}
use Rattle.fmb_io.proofs.reading.read_pieces.Goals as goal

pub returns-then-count-eq0-clause-text : goal.returns-then-count-eq0-clause-text
returns-then-count-eq0-clause-text g c =
    let within : c.in-Ok.count ≤ length c.read.new.into = omega (arith, c.in-Ok.ensures.bound) in
    let short : length c.pieces.text.items ≤ 2 ^ 24 = omega (arith, c.pieces.text.ok.0, c.pieces.invariant.0) in
    let room_is : 16777216 - c.len-room.result ≡ 2 ^ 24 - length c.pieces.text.items = omega (arith, c.pieces.text.ok.0, c.len-room.ensures) in
    rw c.in-Ok-extend_from_slice.ensures.items (
    read_enough _ _ _ _ _ c.in-Ok.count c.min-kept.result (16777216 - c.len-room.result)
    c.pieces.invariant.2 c.in-Ok.ensures.bytes.0 c.in-Ok.ensures.bytes.1 (omega (arith, c.pieces.invariant.1, c.pieces.auto.piece, c.read.auto.into))
    within short room_is c.min-kept.ensures c.then-count-eq0.either)

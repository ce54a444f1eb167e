use Rattle.std.proofs.Common.{◌++◌, ◌∷◌, ap, drop, refl, ◌∙◌}
use Rattle.std.specs.Int.{to_be_bytes, w16}
use Rattle.frame_channel.proofs.DataFrames.{ended, frame_stands}
use Rattle.frame_channel.proofs.data_frame.data_frame.Goals as goal

pub returns-in-Ok : goal.returns-in-Ok
returns-in-Ok c =
    let body = c.in_ok-body.body.now in
    let behind = c.in_ok-body.behind.now in
    frame_stands c.in-Ok.head body behind c.args.bytes.now (drop 4 behind) c.in_ok-body.ensures
    (ended c.crc.result behind (c.if-ends.ensures refl) ∙ ap (λ n. 0 ∷ 0 ∷ (to_be_bytes w16 n ++ drop 4 behind)) c.crc.ensures)
    c.in-Ok.ensures.accepted

use Rattle.std.proofs.Common.{◌≡◌, of_z, to_z, w64}
use Rattle.std.proofs.Math.Facts.{to_z-of_z}
use Rattle.std.proofs.lemmas.Result.{on_ok_weaker}
use Rattle.show_lines.proofs.Sending.{after, key_sent, signed_sent}
use Rattle.show_lines.proofs.members.signed.Goals as goal

pub returns : goal.returns
returns g c =
    let same : to_z w64 (of_z w64 c.args.n) ≡ c.args.n = to_z-of_z {w = w64} {z = c.args.n} c.ranges.n in
    on_ok_weaker c.i64.result (λ sent. after (key_sent _ _ _ c.in_ok-key.ensures) (signed_sent c.args.n _ _ sent)) (rw same at c.i64.ensures)

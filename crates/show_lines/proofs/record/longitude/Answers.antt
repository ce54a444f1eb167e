use Rattle.std.proofs.Common.{◌≡◌, [], ◌∷◌, ap, codes, of_z, rules, to_z, w64}
use Rattle.std.proofs.lemmas.Result.{on_ok_weaker}
use Rattle.std.specs.Fmt.{signed_decimal}
use Rattle.json.specs.Token.{key, number}
use Rattle.show_lines.proofs.Sending.{said_as}
use Rattle.show_lines.proofs.record.longitude.Goals as goal

pub returns : goal.returns
returns g c =
    let same : to_z w64 (of_z w64 c.from.result) ≡ c.args.gps.now.longitude = search rules in
    on_ok_weaker c.signed.result (λ sent. said_as (ap (λ z. key (codes "longitude") ∷ number (signed_decimal z) ∷ []) same) sent) c.signed.ensures

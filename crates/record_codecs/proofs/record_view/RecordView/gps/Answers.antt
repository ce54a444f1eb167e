use Rattle.std.proofs.Common.{◌≡◌, ℕ, ℤ, ap, ◌∙◌}
use Rattle.std.specs.Int.{w16, w32, cast_signed, cast_unsigned}
use Rattle.std.proofs.lemmas.Int.{to_z-of_z}
use Rattle.avl_values.specs.declared.gps.Gps.{Gps}
use Rattle.record_codecs.proofs.RecordReads.{longitude_is, latitude_is, altitude_is, angle_is, satellites_is, speed_is}
use Rattle.record_codecs.proofs.record_view.RecordView.gps.Goals as goal

pub returns : goal.returns
returns c v shows =
    let codec = c.args.self.now.codec in
    let bytes = c.args.self.now.bytes.now in
    let back_32 : ℤ → ℤ = λ z. cast_signed w32 (cast_unsigned w32 z) in
    let back_16 : ℤ → ℤ = λ z. cast_signed w16 (cast_unsigned w16 z) in
    let lon : back_32 c.cast_signed.result ≡ v.longitude =
    ap back_32 (c.cast_signed.ensures ∙ ap (cast_signed w32) c.number_at.ensures.value ∙ longitude_is codec v bytes shows) ∙ to_z-of_z w32 v.longitude shows.longitude in
    let lat : back_32 c.cast_signed-2.result ≡ v.latitude =
    ap back_32 (c.cast_signed-2.ensures ∙ ap (cast_signed w32) c.number_at-2.ensures.value ∙ latitude_is codec v bytes shows) ∙ to_z-of_z w32 v.latitude shows.latitude in
    let alt : back_16 c.cast_signed-3.result ≡ v.altitude =
    ap back_16 (c.cast_signed-3.ensures ∙ ap (cast_signed w16) c.number_at-3.ensures.value ∙ altitude_is codec v bytes shows) ∙ to_z-of_z w16 v.altitude shows.altitude in
    let ang = c.number_at-4.ensures.value ∙ angle_is codec v bytes shows in
    let sat = c.number_at-5.ensures.value ∙ satellites_is codec v bytes shows in
    let spd = c.number_at-6.ensures.value ∙ speed_is codec v bytes shows in
    let G : ℤ → ℤ → ℤ → ℕ → ℕ → ℕ → Gps = λ lo la al an sa sp. record { longitude = lo; latitude = la; altitude = al; angle = an; satellites = sa; speed = sp } in
    ap (λ x. G x (back_32 c.cast_signed-2.result) (back_16 c.cast_signed-3.result) c.number_at-4.result c.number_at-5.result c.number_at-6.result) lon
    ∙ ap (λ x. G v.longitude x (back_16 c.cast_signed-3.result) c.number_at-4.result c.number_at-5.result c.number_at-6.result) lat
    ∙ ap (λ x. G v.longitude v.latitude x c.number_at-4.result c.number_at-5.result c.number_at-6.result) alt
    ∙ ap (λ x. G v.longitude v.latitude v.altitude x c.number_at-5.result c.number_at-6.result) ang
    ∙ ap (λ x. G v.longitude v.latitude v.altitude v.angle x c.number_at-6.result) sat
    ∙ ap (λ x. G v.longitude v.latitude v.altitude v.angle v.satellites x) spd

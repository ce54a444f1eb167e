use Rattle.std.proofs.Common.{◌≡◌, ◌++◌, ap, ◌∙◌, arith}
use Rattle.std.proofs.lemmas.Int.{ints}
use Rattle.std.specs.Int.{w16, w32, cast_unsigned}
use Rattle.avl_values.specs.declared.width.Width.TheVariants.{W1, W2, W4}
use Rattle.record_layout.specs.Spelling.{spell}
use Rattle.record_writing.proofs.Joins.{written6}
use Rattle.record_writing.proofs.writing.put_gps.Goals as goal

pub returns-clause-bytes : goal.returns-clause-bytes
returns-clause-bytes c =
    let g = c.args.gps.now in
    let longitude : c.cast_unsigned.result ≡ cast_unsigned w32 g.longitude = omega (arith, ints, c.cast_unsigned.ensures) in
    let latitude : c.cast_unsigned-2.result ≡ cast_unsigned w32 g.latitude = omega (arith, ints, c.cast_unsigned-2.ensures) in
    let altitude : c.cast_unsigned-3.result ≡ cast_unsigned w16 g.altitude = omega (arith, ints, c.cast_unsigned-3.ensures) in
    written6 c.args.out.now.items c.put.new.out.items c.put-2.new.out.items c.put-3.new.out.items c.put-4.new.out.items c.put-5.new.out.items c.put-6.new.out.items (spell W4 (cast_unsigned w32 g.longitude)) (spell W4 (cast_unsigned w32 g.latitude)) (spell W2 (cast_unsigned w16 g.altitude)) (spell W2 g.angle) (spell W1 g.satellites) (spell W2 g.speed)
    (c.put.ensures.bytes ∙ ap (λ n. c.args.out.now.items ++ spell W4 n) longitude)
    (c.put-2.ensures.bytes ∙ ap (λ n. c.put.new.out.items ++ spell W4 n) latitude)
    (c.put-3.ensures.bytes ∙ ap (λ n. c.put-2.new.out.items ++ spell W2 n) altitude)
    c.put-4.ensures.bytes c.put-5.ensures.bytes c.put-6.ensures.bytes

-- The values of a codec's parts are those of a record's value, and the other way round.
use Rattle.std.proofs.Common.{◌≡◌, ℕ, ◌+◌, ◌^◌, ◌<◌, ◌≤◌, List, [], length, Bool, true, false, not, None, refl, ap, ◌∙◌, arith, FitsSigned, eq-eqb, ◌==◌, nat_lt}
use Rattle.std.specs.Int.{w16, w32, cast_signed, cast_unsigned}
use Rattle.std.proofs.lemmas.Bool.{le-ltb}
use Rattle.std.proofs.lemmas.Bool.Decides.{nat_tests}
use Rattle.std.proofs.lemmas.Int.{ints, of_z-to_z}
use Rattle.avl_values.specs.RecordValue.{RecordValue}
use Rattle.avl_values.specs.declared.codec.Codec.{Codec}
use Rattle.avl_values.specs.declared.codec.Codec.TheVariants.{C8, C8E, C16}
use Rattle.avl_values.specs.declared.fault.FaultKind.{FaultKind}
use Rattle.layout.specs.Fields.{fault_unless}
use Rattle.record_layout.specs.Table.{parts_of}
use Rattle.record_layout.specs.Spelling.{PartValues, AllFit, part_values, HasNoOther}
use Rattle.record_layout.proofs.Table.{CountsFit}

pub at_most : (total counted : ℕ) (kind : FaultKind) → counted ≤ total → fault_unless (not (nat_lt total counted)) kind ≡ None
at_most total counted kind h = ap (λ b. fault_unless (not b) kind) (le-ltb total counted h)

pub exactly : (counted total : ℕ) (kind : FaultKind) → counted ≡ total → fault_unless (counted == total) kind ≡ None
exactly counted total kind h = ap (λ b. fault_unless b kind) (eq-eqb counted total h)

pub passed : (b : Bool) (kind : FaultKind) → fault_unless b kind ≡ None → b ≡ true
passed true kind e = refl
passed false kind e = absurd (cc)

pub is_exactly : (counted total : ℕ) (kind : FaultKind) → fault_unless (counted == total) kind ≡ None → counted ≡ total
is_exactly counted total kind e = let t = passed (counted == total) kind e in grind (arith, nat_tests)

pub counts_fit : (codec : Codec) (v : RecordValue) → HasNoOther codec v → CountsFit (parts_of codec) (part_values codec v) 0 0
counts_fit C8 v other =
    let none : length v.nx ≡ 0 = ap length other.0 in
    (at_most _ _ _ (omega arith), (at_most _ _ _ (omega arith), (at_most _ _ _ (omega arith), (exactly _ _ _ (omega arith), tt))))
counts_fit C8E v other =
    (at_most _ _ _ (omega arith), (at_most _ _ _ (omega arith), (at_most _ _ _ (omega arith), (at_most _ _ _ (omega arith), (exactly _ _ _ (omega arith), tt)))))
counts_fit C16 v other =
    let none : length v.nx ≡ 0 = ap length other in
    (at_most _ _ _ (omega arith), (at_most _ _ _ (omega arith), (at_most _ _ _ (omega arith), (exactly _ _ _ (omega arith), tt))))

-- a value whose parts these are
pub record HasValue (codec : Codec) (values : PartValues (parts_of codec)) : Type 0 where
  pub value : RecordValue
  pub same : part_values codec value ≡ values
  pub longitude : FitsSigned w32 value.longitude
  pub latitude : FitsSigned w32 value.latitude
  pub altitude : FitsSigned w16 value.altitude
  pub no_other : HasNoOther codec value

signed_32 : (n : ℕ) → n < 2 ^ 32 → FitsSigned w32 (cast_signed w32 n)
signed_32 n h = omega (arith, ints)

signed_16 : (n : ℕ) → n < 2 ^ 16 → FitsSigned w16 (cast_signed w16 n)
signed_16 n h = omega (arith, ints)

-- a value of these numbers, of which a record spells the place and the altitude as signed ones
abbrev made : (time priority lon lat alt angle sats speed event generation : ℕ) (ones twos fours eights : List (ℕ × ℕ)) (nx : List (ℕ × List ℕ)) → RecordValue
made time priority lon lat alt angle sats speed event generation ones twos fours eights nx = record {
  time = time;
  priority = priority;
  longitude = cast_signed w32 lon;
  latitude = cast_signed w32 lat;
  altitude = cast_signed w16 alt;
  angle = angle;
  satellites = sats;
  speed = speed;
  event = event;
  generation = generation;
  ones = ones;
  twos = twos;
  fours = fours;
  eights = eights;
  nx = nx;
}

pub has_value : (codec : Codec) (values : PartValues (parts_of codec)) → AllFit (parts_of codec) values → CountsFit (parts_of codec) values 0 0 → HasValue codec values
has_value C8 (time, (priority, (lon, (lat, (alt, (angle, (sats, (speed, (event, (total, (ones, (twos, (fours, (eights, none)))))))))))))) fit counts =
    let all = is_exactly _ total _ counts.1.1.1.0 in
    let a : cast_unsigned w32 (cast_signed w32 lon) ≡ lon = of_z-to_z w32 lon fit.1.1.0 in
    let b : cast_unsigned w32 (cast_signed w32 lat) ≡ lat = of_z-to_z w32 lat fit.1.1.1.0 in
    let c : cast_unsigned w16 (cast_signed w16 alt) ≡ alt = of_z-to_z w16 alt fit.1.1.1.1.0 in
    let d : length ones + length twos + length fours + length eights + 0 ≡ total = omega (arith, all) in
    let F : ℕ → ℕ → ℕ → ℕ → PartValues (parts_of C8) = λ x y z t. (time, (priority, (x, (y, (z, (angle, (sats, (speed, (event, (t, (ones, (twos, (fours, (eights, none)))))))))))))) in
    record {
      value = made time priority lon lat alt angle sats speed event 0 ones twos fours eights [];
      same = ap (λ x. F x (cast_unsigned w32 (cast_signed w32 lat)) (cast_unsigned w16 (cast_signed w16 alt)) (length ones + length twos + length fours + length eights + 0)) a ∙ ap (λ y. F lon y (cast_unsigned w16 (cast_signed w16 alt)) (length ones + length twos + length fours + length eights + 0)) b ∙ ap (λ z. F lon lat z (length ones + length twos + length fours + length eights + 0)) c ∙ ap (λ t. F lon lat alt t) d;
      longitude = signed_32 lon fit.1.1.0;
      latitude = signed_32 lat fit.1.1.1.0;
      altitude = signed_16 alt fit.1.1.1.1.0;
      no_other = (refl, refl);
    }
has_value C8E (time, (priority, (lon, (lat, (alt, (angle, (sats, (speed, (event, (total, (ones, (twos, (fours, (eights, (nx, none))))))))))))))) fit counts =
    let all = is_exactly _ total _ counts.1.1.1.1.0 in
    let a : cast_unsigned w32 (cast_signed w32 lon) ≡ lon = of_z-to_z w32 lon fit.1.1.0 in
    let b : cast_unsigned w32 (cast_signed w32 lat) ≡ lat = of_z-to_z w32 lat fit.1.1.1.0 in
    let c : cast_unsigned w16 (cast_signed w16 alt) ≡ alt = of_z-to_z w16 alt fit.1.1.1.1.0 in
    let d : length ones + length twos + length fours + length eights + length nx ≡ total = omega (arith, all) in
    let F : ℕ → ℕ → ℕ → ℕ → PartValues (parts_of C8E) = λ x y z t. (time, (priority, (x, (y, (z, (angle, (sats, (speed, (event, (t, (ones, (twos, (fours, (eights, (nx, none))))))))))))))) in
    record {
      value = made time priority lon lat alt angle sats speed event 0 ones twos fours eights nx;
      same = ap (λ x. F x (cast_unsigned w32 (cast_signed w32 lat)) (cast_unsigned w16 (cast_signed w16 alt)) (length ones + length twos + length fours + length eights + length nx)) a ∙ ap (λ y. F lon y (cast_unsigned w16 (cast_signed w16 alt)) (length ones + length twos + length fours + length eights + length nx)) b ∙ ap (λ z. F lon lat z (length ones + length twos + length fours + length eights + length nx)) c ∙ ap (λ t. F lon lat alt t) d;
      longitude = signed_32 lon fit.1.1.0;
      latitude = signed_32 lat fit.1.1.1.0;
      altitude = signed_16 alt fit.1.1.1.1.0;
      no_other = refl;
    }
has_value C16 (time, (priority, (lon, (lat, (alt, (angle, (sats, (speed, (event, (generation, (total, (ones, (twos, (fours, (eights, none))))))))))))))) fit counts =
    let all = is_exactly _ total _ counts.1.1.1.0 in
    let a : cast_unsigned w32 (cast_signed w32 lon) ≡ lon = of_z-to_z w32 lon fit.1.1.0 in
    let b : cast_unsigned w32 (cast_signed w32 lat) ≡ lat = of_z-to_z w32 lat fit.1.1.1.0 in
    let c : cast_unsigned w16 (cast_signed w16 alt) ≡ alt = of_z-to_z w16 alt fit.1.1.1.1.0 in
    let d : length ones + length twos + length fours + length eights + 0 ≡ total = omega (arith, all) in
    let F : ℕ → ℕ → ℕ → ℕ → PartValues (parts_of C16) = λ x y z t. (time, (priority, (x, (y, (z, (angle, (sats, (speed, (event, (generation, (t, (ones, (twos, (fours, (eights, none))))))))))))))) in
    record {
      value = made time priority lon lat alt angle sats speed event generation ones twos fours eights [];
      same = ap (λ x. F x (cast_unsigned w32 (cast_signed w32 lat)) (cast_unsigned w16 (cast_signed w16 alt)) (length ones + length twos + length fours + length eights + 0)) a ∙ ap (λ y. F lon y (cast_unsigned w16 (cast_signed w16 alt)) (length ones + length twos + length fours + length eights + 0)) b ∙ ap (λ z. F lon lat z (length ones + length twos + length fours + length eights + 0)) c ∙ ap (λ t. F lon lat alt t) d;
      longitude = signed_32 lon fit.1.1.0;
      latitude = signed_32 lat fit.1.1.1.0;
      altitude = signed_16 alt fit.1.1.1.1.0;
      no_other = refl;
    }

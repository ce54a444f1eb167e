-- The fields of a made script are in their ranges, and its text is short.
use Rattle.std.proofs.Common.{◌≡◌, ◌+◌, ◌-◌, ◌*◌, ◌^◌, ◌<◌, ◌≤◌, ℕ, zero, suc, true, List, [], ◌∷◌, ◌++◌, map, length, replicate, set, get_or, Option, Some, None, lit<, lit≤, refl, ap, ◌∙◌, arith, decimal}
use Rattle.std.proofs.Math.Nat.{pow-le-pow_right}
use Rattle.std.proofs.lemmas.Fmt.{length-decimal-le}
use Rattle.std.proofs.lemmas.List.{length-replicate, length-set, map-append}
use Rattle.avl_values.specs.Imei.{imei_text}
use Rattle.avl_values.specs.declared.codec.Codec.{Codec}
use Rattle.avl_values.specs.declared.codec.Codec.TheVariants.{C8, C8E, C16}
use Rattle.avl_values.specs.declared.order.Order.TheVariants.{Oldest}
use Rattle.medium_model.specs.declared.bench.Tear.{Tear}
use Rattle.trial_model.specs.declared.script.ScriptLine.{ScriptLine}
use Rattle.trial_model.specs.declared.script.ScriptLine.TheVariants as Line
use Rattle.trial_model.specs.declared.script.Who.TheVariants as Who
use Rattle.journey_script.specs.Words.{codec_name, tear_name}
use Rattle.journey_script.specs.Writing.{spelled, words_of}
use Rattle.journey_script.proofs.FieldReading.{imei_length}
use Rattle.journey_script.proofs.LineReading.{IsWritable}
use Rattle.journey_script.proofs.MadeLaws.{AllWritable, spelled_total}
use Rattle.journey_script.proofs.WrittenLemmas.{total, total_append}
use Rattle.made_script.specs.declared.journey.Vehicle.{Vehicle}
use Rattle.made_script.specs.declared.turn.Event.{Event}
use Rattle.made_script.specs.declared.turn.Event.TheVariants.{CutRound, DeviceFuse, Nothing, Power, ServerFuse, WholeRound}
use Rattle.made_script.specs.declared.turn.Turn.{Turn}
use Rattle.made_script.specs.Draws.{drawn_turns, seeded}
use Rattle.made_script.specs.Made.{Stand, after_turn, codec_at, device_lines, drain_lines, event_lines, fix_of, ignition_setting, imei_at, lines_at, made_lines, moved, of_devices, parked, rounds_of, started, turn_lines, vehicle_at, voltage_setting}
use Rattle.made_script.specs.Ranges.{IsEvent, IsTurn}
use Rattle.made_script.specs.Standing.{HasRoom, IsOn}
use Rattle.made_script.proofs.Turns.{AreTurns, turns_range}

-- ---- how far a journey goes
parked_odometer : (n k : ℕ) → (get_or (replicate n parked) k parked).odometer ≡ 0
parked_odometer zero k = refl
parked_odometer (suc n) zero = refl
parked_odometer (suc n) (suc k) = parked_odometer n k

parked_angle : (n k : ℕ) → (get_or (replicate n parked) k parked).angle ≡ 0
parked_angle zero k = refl
parked_angle (suc n) zero = refl
parked_angle (suc n) (suc k) = parked_angle n k

pub on_start : (devices : ℕ) → IsOn devices 0 (started devices)
on_start devices = record {
  time = refl;
  rounds = omega arith;
  vehicles = length-replicate devices parked;
  odometers = λ place. omega (arith, parked_odometer devices place);
  angles = λ place. omega (arith, parked_angle devices place);
}

one_round : (event : Event) → rounds_of event ≤ 1
one_round (WholeRound piece) = omega arith
one_round (CutRound piece up) = omega arith
one_round Power = omega arith
one_round (DeviceFuse calls tear) = omega arith
one_round (ServerFuse calls tear) = omega arith
one_round Nothing = omega arith

-- a fact of each vehicle after a change of one
each_vehicle : (P : Vehicle → Type 0) (vehicles : List Vehicle) (place : ℕ) (new : Vehicle) → place < length vehicles → P new → ((k : ℕ) → P (get_or vehicles k parked))
    → (k : ℕ) → P (get_or (set vehicles place new) k parked)
each_vehicle P [] place new below is all k = absurd (omega arith)
each_vehicle P (v ∷ vs) zero new below is all zero = is
each_vehicle P (v ∷ vs) zero new below is all (suc k) = all (suc k)
each_vehicle P (v ∷ vs) (suc place) new below is all zero = all zero
each_vehicle P (v ∷ vs) (suc place) new below is all (suc k) = each_vehicle P vs place new (omega arith) is (λ k. all (suc k)) k

pub on_next : (devices turns : ℕ) (stand : Stand) (turn : Turn) → IsOn devices turns stand → IsTurn devices turn → IsOn devices (turns + 1) (after_turn stand turn)
unfolding after_turn
on_next devices turns stand turn on range =
    let place = turn.device - 1 in
    let new = moved turn (vehicle_at turn.device stand) in
    let below : place < length stand.vehicles = omega (arith, range.first, range.last, on.vehicles) in
    let far : new.odometer ≤ 39 * (turns + 1) = omega (arith, on.odometers (turn.device - 1), range.speed) in
    let far_all : (k : ℕ) → (get_or stand.vehicles k parked).odometer ≤ 39 * (turns + 1) = λ k. omega (arith, on.odometers k) in
    record {
      time = omega (arith, on.time);
      rounds = omega (arith, on.rounds, one_round turn.event);
      vehicles = length-set stand.vehicles place new ∙ on.vehicles;
      odometers = λ at. each_vehicle (λ v. v.odometer ≤ 39 * (turns + 1)) stand.vehicles place new below far far_all at;
      angles = λ at. each_vehicle (λ v. v.angle < 360) stand.vehicles place new below (omega arith) on.angles at;
    }

pub has_room : (devices turns : ℕ) (stand : Stand) → turns ≤ 100000 → IsOn devices turns stand → HasRoom stand
has_room devices turns stand few on = record {
  time = omega (arith, on.time);
  rounds = omega (arith, on.rounds);
  odometers = λ place. omega (arith, on.odometers place);
  angles = on.angles;
}

-- ---- single lines
record IsShort (lines : List ScriptLine) (most : ℕ) : Type 0 where
  writable : AllWritable lines
  bytes : total (map spelled lines) ≤ most

short_append : (a b : List ScriptLine) (n m : ℕ) → IsShort a n → IsShort b m → IsShort (a ++ b) (n + m)
short_append a b n m p q = record {
  writable = both a p.writable;
  bytes = omega (arith, p.bytes, q.bytes, total_append (map spelled a) (map spelled b), ap total (map-append spelled a b));
}
  where
    both : (xs : List ScriptLine) → AllWritable xs → AllWritable (xs ++ b)
    both [] h = q.writable
    both (x ∷ xs) h = (h.0, both xs h.1)

short_line : (line : ScriptLine) (most : ℕ) → IsWritable line → total (words_of line) ≤ most → IsShort (line ∷ []) most
short_line line most writable few = record { writable = (writable, tt); bytes = omega (arith, few, spelled_total line) }

short_less : (lines : List ScriptLine) (n m : ℕ) → n ≤ m → IsShort lines n → IsShort lines m
short_less lines n m h p = record { writable = p.writable; bytes = omega (arith, p.bytes) }

-- a number below 10^k has at most k digits
few_digits : (k n : ℕ) → 0 < k → k ≤ 15 → n < 10 ^ k → length (decimal n) ≤ k
few_digits k n some few small =
    let most : 10 ^ k ≤ 10 ^ 15 = pow-le-pow_right {n = 10} (omega arith) {i = k} {j = 15} few in
    length-decimal-le k n some small (omega arith)

fix_short : (stand : Stand) (turn : Turn) (devices : ℕ) → devices ≤ 64 → HasRoom stand → IsTurn devices turn → IsShort (Line.Fix (imei_at turn.device) (fix_of stand turn) ∷ []) 84
fix_short stand turn devices few room range =
    let line = Line.Fix (imei_at turn.device) (fix_of stand turn) in
    let vehicle = vehicle_at turn.device stand in
    let angle = room.angles (turn.device - 1) in
    let odometer = room.odometers (turn.device - 1) in
    let imei : imei_at turn.device < 10 ^ 15 = omega (arith, range.last) in
    let time : length (decimal stand.time) ≤ 13 = few_digits 13 stand.time (omega arith) (omega arith) (omega (arith, room.time)) in
    let east : length (decimal (250000000 + turn.east)) ≤ 9 = few_digits 9 _ (omega arith) (omega arith) (omega (arith, range.east)) in
    let north : length (decimal (546000000 + turn.north)) ≤ 9 = few_digits 9 _ (omega arith) (omega arith) (omega (arith, range.north)) in
    let a : length (decimal vehicle.angle) ≤ 3 = few_digits 3 _ (omega arith) (omega arith) (omega (arith, angle)) in
    let s : length (decimal turn.speed) ≤ 3 = few_digits 3 _ (omega arith) (omega arith) (omega (arith, range.speed)) in
    let o : length (decimal vehicle.odometer) ≤ 7 = few_digits 7 _ (omega arith) (omega arith) (omega (arith, odometer)) in
    let i : length (decimal turn.ignition) ≤ 1 = few_digits 1 _ (omega arith) (omega arith) (omega (arith, range.ignition)) in
    let v : length (decimal turn.voltage) ≤ 5 = few_digits 5 _ (omega arith) (omega arith) (omega (arith, range.voltage)) in
    let writable : IsWritable line = (
      (
        imei,
        (
          (omega arith, omega (arith, room.time), lit< tt),
          (
            (omega (arith, range.east), lit< tt),
            (
              (omega (arith, range.north), lit< tt),
              (
                (omega arith, lit< tt),
                (
                  (omega arith, omega (arith, angle), lit< tt),
                  ((omega arith, omega arith, lit< tt), ((omega arith, omega (arith, range.speed), lit< tt), ((omega arith, omega (arith, odometer), lit< tt), tt))),
                ),
              ),
            ),
          ),
        ),
      ),
      ((omega arith, omega (arith, range.ignition), lit< tt), ((omega arith, omega (arith, range.voltage), lit< tt), tt)),
    ) in
    let bytes : total (words_of line) ≡ 4 + ((length (imei_text (imei_at turn.device)) + 1) + ((length (decimal stand.time) + 1) + ((length (decimal (250000000 + turn.east)) + 1)
    + ((length (decimal (546000000 + turn.north)) + 1) + ((length (decimal 100) + 1) + ((length (decimal vehicle.angle) + 1) + ((length (decimal 9) + 1) + ((length (decimal turn.speed) + 1)
    + ((length (decimal vehicle.odometer) + 1) + ((length (decimal turn.ignition) + 1) + ((length (decimal turn.voltage) + 1) + 0))))))))))) = refl in
    let altitude : length (decimal 100) ≤ 3 = few_digits 3 100 (lit< tt) (lit≤ tt) (lit< tt) in
    let satellites : length (decimal 9) ≤ 1 = few_digits 1 9 (lit< tt) (lit≤ tt) (lit< tt) in
    short_line line 84 writable (omega (arith, bytes, time, east, north, altitude, a, satellites, s, o, i, v, imei_length (imei_at turn.device)))

tear_short : (tear : Tear) → length (tear_name tear) ≤ 4
tear_short Tear.Keep = omega arith
tear_short Tear.New = omega arith
tear_short Tear.Zero = omega arith
tear_short Tear.AllOpen = omega arith
tear_short Tear.Half = omega arith

abbrev IsUp : Option ℕ → Type 0
IsUp None = Unit {0}
IsUp (Some n) = n < 200

round_short : (imei piece : ℕ) (up : Option ℕ) → imei < 10 ^ 15 → 1 ≤ piece → piece ≤ 64 → IsUp up → IsShort (Line.Round imei piece up None ∷ []) 31
round_short imei piece None small first last up =
    let p : length (decimal piece) ≤ 2 = few_digits 2 piece (omega arith) (omega arith) (omega arith) in
    short_line (Line.Round imei piece None None) 31 (small, ((first, omega arith, lit< tt), (tt, (tt, tt)))) (omega (arith, p, imei_length imei))
round_short imei piece (Some n) small first last up =
    let p : length (decimal piece) ≤ 2 = few_digits 2 piece (omega arith) (omega arith) (omega arith) in
    let u : length (decimal n) ≤ 3 = few_digits 3 n (omega arith) (omega arith) (omega arith) in
    short_line (Line.Round imei piece (Some n) None) 31 (small, ((first, omega arith, lit< tt), (omega arith, (tt, tt)))) (omega (arith, p, u, imei_length imei))

event_short : (imei rounds : ℕ) (event : Event) → imei < 10 ^ 15 → rounds ≤ 100000 → IsEvent event → IsShort (event_lines imei rounds event) 60
event_short imei rounds (WholeRound piece) small few range = short_less _ 31 60 (omega arith) (round_short imei piece None small range.0 range.1 tt)
event_short imei rounds (CutRound piece up) small few range =
    let d : length (decimal rounds) ≤ 6 = few_digits 6 rounds (omega arith) (omega arith) (omega arith) in
    let round = round_short imei piece (Some up) small range.0.0 range.0.1 range.1 in
    let late = short_line (Line.Late rounds None) 15 ((omega arith, omega arith, lit< tt), (tt, tt)) (omega (arith, d)) in
    let close = short_line (Line.Close rounds) 14 ((omega arith, omega arith, lit< tt), tt) (omega (arith, d)) in
    short_append (Line.Round imei piece (Some up) None ∷ []) (Line.Late rounds None ∷ Line.Close rounds ∷ []) 31 29 round (short_append (Line.Late rounds None ∷ []) (Line.Close rounds ∷ []) 15 14 late close)
event_short imei rounds Power small few range = short_line (Line.Power (Who.Device imei)) 60 (small, tt) (omega (arith, imei_length imei))
event_short imei rounds (DeviceFuse calls tear) small few range =
    let d : length (decimal calls) ≤ 1 = few_digits 1 calls (omega arith) (omega arith) (omega arith) in
    short_line (Line.Fuse (Who.Device imei) calls tear) 60 (small, ((omega arith, omega arith, lit< tt), (tt, tt))) (omega (arith, d, imei_length imei, tear_short tear))
event_short imei rounds (ServerFuse calls tear) small few range =
    let d : length (decimal calls) ≤ 1 = few_digits 1 calls (omega arith) (omega arith) (omega arith) in
    short_line (Line.Fuse Who.Server calls tear) 60 (tt, ((omega arith, omega arith, lit< tt), (tt, tt))) (omega (arith, d, tear_short tear))
event_short imei rounds Nothing small few range = record { writable = tt; bytes = omega arith }

turn_short : (devices : ℕ) (stand : Stand) (turn : Turn) → devices ≤ 64 → HasRoom stand → IsTurn devices turn → IsShort (lines_at stand turn) 144
turn_short devices stand turn few room range =
    let imei : imei_at turn.device < 10 ^ 15 = omega (arith, range.last) in
    short_append (Line.Fix (imei_at turn.device) (fix_of stand turn) ∷ []) (event_lines (imei_at turn.device) stand.rounds turn.event) 84 60 (fix_short stand turn devices few room range)
    (event_short (imei_at turn.device) stand.rounds turn.event imei room.rounds range.event)

turns_short : (devices done : ℕ) (stand : Stand) (turns : List Turn) → devices ≤ 64 → done + length turns ≤ 100000 → IsOn devices done stand → AreTurns devices turns
    → IsShort (turn_lines stand turns) (144 * length turns)
unfolding turn_lines
turns_short devices done stand [] few most on range = record { writable = tt; bytes = omega arith }
turns_short devices done stand (turn ∷ turns) few most on range =
    let after = after_turn stand turn in
    let next = on_next devices done stand turn on range.0 in
    let first = turn_short devices after turn few (has_room devices (done + 1) after (omega arith) next) range.0 in
    let rest = turns_short devices (done + 1) after turns few (omega arith) next range.1 in
    short_less _ (144 + 144 * length turns) (144 * suc (length turns)) (omega arith) (short_append (lines_at after turn) (turn_lines after turns) 144 (144 * length turns) first rest)

codec_short : (codec : Codec) → length (codec_name codec) ≤ 2
codec_short C8 = omega arith
codec_short C8E = omega arith
codec_short C16 = omega arith

device_short : (device : ℕ) → device ≤ 64 → IsShort (device_lines device) 250
device_short device few =
    let imei : imei_at device < 10 ^ 15 = omega arith in
    let size = imei_length (imei_at device) in
    let a = Line.Device (imei_at device) (codec_at device) 64 Oldest 10000 100 15 10 true in
    let b = Line.Setting (imei_at device) ignition_setting in
    let c = Line.Setting (imei_at device) voltage_setting in
    let two_64 : length (decimal 64) ≤ 2 = few_digits 2 64 (lit< tt) (lit≤ tt) (lit< tt) in
    let five_10000 : length (decimal 10000) ≤ 5 = few_digits 5 10000 (lit< tt) (lit≤ tt) (lit< tt) in
    let three_100 : length (decimal 100) ≤ 3 = few_digits 3 100 (lit< tt) (lit≤ tt) (lit< tt) in
    let two_15 : length (decimal 15) ≤ 2 = few_digits 2 15 (lit< tt) (lit≤ tt) (lit< tt) in
    let two_10 : length (decimal 10) ≤ 2 = few_digits 2 10 (lit< tt) (lit≤ tt) (lit< tt) in
    let three_239 : length (decimal 239) ≤ 3 = few_digits 3 239 (lit< tt) (lit≤ tt) (lit< tt) in
    let one_1 : length (decimal 1) ≤ 1 = few_digits 1 1 (lit< tt) (lit≤ tt) (lit< tt) in
    let one_0 : length (decimal 0) ≤ 1 = few_digits 1 0 (lit< tt) (lit≤ tt) (lit< tt) in
    let two_66 : length (decimal 66) ≤ 2 = few_digits 2 66 (lit< tt) (lit≤ tt) (lit< tt) in
    let one_2 : length (decimal 2) ≤ 1 = few_digits 1 2 (lit< tt) (lit≤ tt) (lit< tt) in
    let five_11000 : length (decimal 11000) ≤ 5 = few_digits 5 11000 (lit< tt) (lit≤ tt) (lit< tt) in
    let five_15000 : length (decimal 15000) ≤ 5 = few_digits 5 15000 (lit< tt) (lit≤ tt) (lit< tt) in
    let bytes_b : total (words_of b) ≡ 3 + ((length (imei_text (imei_at device)) + 1) + ((length (decimal 239) + 1) + ((length (decimal 1) + 1) + (7 + ((length (decimal 0) + 1) + ((length (decimal 0) + 1)
    + ((length (decimal 1) + 1) + 0))))))) = refl in
    let bytes_c : total (words_of c) ≡ 3 + ((length (imei_text (imei_at device)) + 1) + ((length (decimal 66) + 1) + ((length (decimal 2) + 1) + (11 + ((length (decimal 11000) + 1) + ((length (decimal 15000) + 1)
    + ((length (decimal 2) + 1) + 0))))))) = refl in
    let one = short_line a 100 (
      imei,
      (
        tt,
        ((lit≤ tt, lit≤ tt, lit< tt), (tt, ((lit≤ tt, lit≤ tt, lit< tt), ((lit≤ tt, lit≤ tt, lit< tt), ((lit≤ tt, lit≤ tt, lit< tt), ((lit≤ tt, lit≤ tt, lit< tt), (tt, tt))))))),
      ),
    ) (omega (arith, size, codec_short (codec_at device), two_64, five_10000, three_100, two_15, two_10)) in
    let two = short_line b 75 (
      imei,
      ((lit≤ tt, lit≤ tt, lit< tt), ((lit≤ tt, lit≤ tt, lit< tt), (tt, ((lit≤ tt, lit≤ tt, lit< tt), ((lit≤ tt, lit≤ tt, lit< tt), ((lit≤ tt, lit≤ tt, lit< tt), tt)))))),
    ) (omega (arith, size, bytes_b, three_239, one_1, one_0)) in
    let three = short_line c 75 (
      imei,
      ((lit≤ tt, lit≤ tt, lit< tt), ((lit≤ tt, lit≤ tt, lit< tt), (tt, ((lit≤ tt, lit≤ tt, lit< tt), ((lit≤ tt, lit≤ tt, lit< tt), ((lit≤ tt, lit≤ tt, lit< tt), tt)))))),
    ) (omega (arith, size, bytes_c, two_66, one_2, five_11000, five_15000)) in
    short_append (a ∷ []) (b ∷ c ∷ []) 100 150 one (short_append (b ∷ []) (c ∷ []) 75 75 two three)

drain_short : (device : ℕ) → device ≤ 64 → IsShort (drain_lines device) 250
drain_short device few =
    let drain = Line.Drain (imei_at device) 512 in
    let imei : imei_at device < 10 ^ 15 = omega arith in
    let digits : length (decimal 512) ≤ 3 = few_digits 3 512 (lit< tt) (lit≤ tt) (lit< tt) in
    let one = short_line drain 30 (imei, ((lit≤ tt, lit≤ tt, lit< tt), tt)) (omega (arith, imei_length (imei_at device), digits)) in
    short_less _ 60 250 (omega arith) (short_append (drain ∷ []) (drain ∷ []) 30 30 one one)

devices_short : (lines : ℕ → List ScriptLine) (devices : ℕ) → devices ≤ 64 → ((device : ℕ) → device ≤ 64 → IsShort (lines device) 250) → IsShort (of_devices lines devices) (250 * devices)
unfolding of_devices
devices_short lines zero few each = record { writable = tt; bytes = omega arith }
devices_short lines (suc devices) few each =
    short_less _ (250 * devices + 250) (250 * suc devices) (omega arith)
    (short_append (of_devices lines devices) (lines (suc devices)) (250 * devices) 250 (devices_short lines devices (omega arith) each) (each (suc devices) few))

turns_length : (devices turns : ℕ) (g : _) → length (drawn_turns devices turns g) ≡ turns
unfolding drawn_turns
turns_length devices zero g = refl
turns_length devices (suc turns) g = ap suc (turns_length devices turns _)

pub made_short : (seed devices fixes : ℕ) → 1 ≤ devices → devices ≤ 64 → fixes ≤ 100000 → AllWritable (made_lines seed devices fixes) × (total (map spelled (made_lines seed devices fixes)) ≤ 2 ^ 24 + 1)
unfolding made_lines
made_short seed devices fixes some few most =
    let turns = drawn_turns devices fixes (seeded seed) in
    let count = turns_length devices fixes (seeded seed) in
    let first = devices_short device_lines devices few device_short in
    let middle = turns_short devices 0 (started devices) turns few (omega (arith, count)) (on_start devices) (turns_range devices fixes (seeded seed) some) in
    let last = devices_short drain_lines devices few drain_short in
    let all = short_append (of_devices device_lines devices) (turn_lines (started devices) turns ++ of_devices drain_lines devices) (250 * devices) (144 * length turns + 250 * devices) first
    (short_append (turn_lines (started devices) turns) (of_devices drain_lines devices) (144 * length turns) (250 * devices) middle last) in
    (all.writable, omega (arith, all.bytes, count))

-- What is drawn for a turn is in its ranges.
use Rattle.std.proofs.Common.{◌==◌, ◌+◌, ◌<◌, ◌≤◌, ℕ, zero, suc, Bool, true, false, nat_le, List, lit<, arith, if◌then◌else◌}
use Rattle.std.specs.List.{AllByRecursion}
use Rattle.std.proofs.Math.Nat.{mod-lt}
use Rattle.rand_pcg.specs.Lcg.{Lcg}
use Rattle.rand_pcg.specs.Pcg.{pcg32}
use Rattle.made_script.specs.declared.turn.Event.{Event}
use Rattle.made_script.specs.declared.turn.Event.TheVariants.{DeviceFuse, Nothing, Power, ServerFuse}
use Rattle.made_script.specs.declared.turn.Turn.{Turn}
use Rattle.made_script.specs.Draws.{Drawn, draw, drawn_cut, drawn_event, drawn_fuse, drawn_turn, drawn_turns, drawn_whole, event_of}
use Rattle.made_script.specs.Ranges.{IsEvent, IsTurn}

pub draw_below : (n : ℕ) (g : Lcg) → 0 < n → (draw n g).0 < n
unfolding draw
draw_below n g some = mod-lt (pcg32 g).0 some

either : (b : Bool) (x y : Drawn Event) → IsEvent x.0 → IsEvent y.0 → IsEvent (if b then x else y).0
either true x y hx hy = hx
either false x y hx hy = hy

pub event_range : (number : ℕ) (g : Lcg) → IsEvent (event_of number g).0
unfolding event_of
event_range number g =
    let whole : IsEvent (drawn_whole g).0 = let p = draw_below 64 g (lit< tt) in (omega arith, omega (arith, p)) in
    let cut : IsEvent (drawn_cut g).0 = let p = draw_below 64 g (lit< tt) in ((omega arith, omega (arith, p)), draw_below 200 _ (lit< tt)) in
    let device : IsEvent (drawn_fuse DeviceFuse 8 g).0 = draw_below 8 g (lit< tt) in
    let server : IsEvent (drawn_fuse ServerFuse 4 g).0 = draw_below 4 g (lit< tt) in
    either (nat_le number 3) (drawn_whole g) _ whole (either (number == 4) (drawn_cut g) _ cut (either (number == 5) (Power, g) _ tt
    (either (number == 6) (drawn_fuse DeviceFuse 8 g) _ device (either (number == 7) (drawn_fuse ServerFuse 4 g) (Nothing, g) server tt))))

drawn_event_range : (g : Lcg) → IsEvent (drawn_event g).0
unfolding drawn_event
drawn_event_range g = event_range _ _

at_most_one : (b : Bool) → (if b then 0 else 1) ≤ 1
at_most_one true = omega arith
at_most_one false = omega arith

voltage_below : (g : Lcg) → 10000 + (draw 6000 g).0 < 16000
voltage_below g = omega (arith, draw_below 6000 g (lit< tt))

pub turn_range : (devices : ℕ) (g : Lcg) → 1 ≤ devices → IsTurn devices (drawn_turn devices g).0
unfolding drawn_turn
turn_range devices g some = record {
  first = omega arith;
  last = omega (arith, draw_below devices g some);
  speed = draw_below 120 _ (lit< tt);
  bend = draw_below 31 _ (lit< tt);
  east = draw_below 1000000 _ (lit< tt);
  north = draw_below 1000000 _ (lit< tt);
  ignition = at_most_one _;
  voltage = voltage_below _;
  event = drawn_event_range _;
}

abbrev pub AreTurns : ℕ → List Turn → Type 0
AreTurns devices turns = AllByRecursion (IsTurn devices) turns

pub turns_range : (devices turns : ℕ) (g : Lcg) → 1 ≤ devices → AreTurns devices (drawn_turns devices turns g)
unfolding drawn_turns
turns_range devices zero g some = tt
turns_range devices (suc turns) g some = (turn_range devices g some, turns_range devices turns (drawn_turn devices g).1 some)

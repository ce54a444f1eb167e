use Rattle.std.proofs.Common.{◌≡◌, ◌≤◌, ◌+◌, ◌-◌, ◌*◌, ◌++◌, length}
use Rattle.made_script.specs.Draws.{drawn_turns, seeded}
use Rattle.made_script.specs.Made.{started, turn_lines}
use Rattle.made_script.specs.Standing.{IsOn}
use Rattle.made_script.proofs.maker.push_turns.Given as goal

abbrev pub invariant-loop-done : goal.invariant-loop-done
invariant-loop-done l = record {
  lines : l.draft ++ turn_lines l.journey (drawn_turns l.devices (l.fixes - l._done) l.generator) ≡ l.fn.draft ++ turn_lines (started l.devices) (drawn_turns l.devices l.fixes (seeded l.seed));
  on : IsOn l.devices l._done l.journey;
  few : length l.draft ≤ length l.fn.draft + 4 * l._done;
}

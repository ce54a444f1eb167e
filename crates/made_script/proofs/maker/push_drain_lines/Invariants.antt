use Rattle.std.proofs.Common.{◌≡◌, ◌≤◌, ◌+◌, ◌*◌, ◌++◌, length}
use Rattle.made_script.specs.Made.{drain_lines, of_devices}
use Rattle.made_script.proofs.maker.push_drain_lines.Given as goal

abbrev pub invariant-loop-number : goal.invariant-loop-number
invariant-loop-number l = record {
  lines : l.draft ≡ l.fn.draft ++ of_devices drain_lines l.number;
  few : length l.draft ≤ length l.fn.draft + 3 * l.number;
}

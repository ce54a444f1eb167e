use Rattle.std.proofs.Common.{◌≡◌, ◌++◌, drop}
use Rattle.journey_script.specs.Compact.{script_in}
use Rattle.journey_script.specs.WrittenText.{after_line}
use Rattle.journey_script.proofs.writer.write_lines.Given as goal

abbrev pub invariant-loop-line : goal.invariant-loop-line
invariant-loop-line l = l.text.items ++ after_line l.last (script_in (drop l.line-index l.lines)) ≡ after_line 1 (script_in l.lines)

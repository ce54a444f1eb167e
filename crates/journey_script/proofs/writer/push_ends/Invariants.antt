use Rattle.std.proofs.Common.{◌≡◌, ◌++◌, replicate}
use Rattle.journey_script.proofs.writer.push_ends.Given as goal

abbrev pub invariant-loop-done : goal.invariant-loop-done
invariant-loop-done l = l.text.items ≡ l.fn.text.items ++ replicate l._done 10

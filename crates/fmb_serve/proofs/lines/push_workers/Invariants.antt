use Rattle.std.proofs.Common.{◌≡◌, ◌++◌, ◌+◌, drop}
use Rattle.fmb_serve.specs.Lines.{worker_lines}
use Rattle.fmb_serve.proofs.lines.push_workers.Given as goal

abbrev pub invariant-workers : goal.invariant-workers
invariant-workers l =
    l.text.items ++ worker_lines (l.i + 1) (drop l.i l.workers)
    ≡ l.initial.text.items ++ worker_lines 1 l.workers

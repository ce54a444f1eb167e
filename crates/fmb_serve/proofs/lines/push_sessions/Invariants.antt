use Rattle.std.proofs.Common.{◌≡◌, ◌++◌, ◌+◌, drop}
use Rattle.fmb_serve.specs.Lines.{session_lines}
use Rattle.fmb_serve.proofs.lines.push_sessions.Given as goal

abbrev pub invariant-sessions : goal.invariant-sessions
invariant-sessions l =
    l.text.items ++ session_lines l.worker (l.i + 1) (drop l.i l.served)
    ≡ l.initial.text.items ++ session_lines l.worker 1 l.served

use Rattle.std.proofs.Common.{◌<◌, ◌+◌, length, arith}
use Rattle.fmb_text.proofs.AppendLemmas.{at_drop_got, piece_appended}
use Rattle.fmb_serve.specs.Lines.{worker_lines}
use Rattle.fmb_serve.proofs.lines.push_workers.Goals as goal

pub workers-preserved : goal.workers-preserved
workers-preserved c =
    let inside : c.workers.i < length c.args.workers.now = omega (arith, c.len-i-end.ensures, c.workers-test.true) in
    piece_appended _ _ _ _ _ _ c.in_ok-push_sessions.ensures
    (at_drop_got (worker_lines (c.workers.i + 1)) c.args.workers.now c.workers.i c.at.result.now inside c.at.ensures)
    c.workers.invariant

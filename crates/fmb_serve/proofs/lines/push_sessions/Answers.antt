use Rattle.std.proofs.Common.{◌<◌, ◌+◌, length, arith}
use Rattle.fmb_text.proofs.AppendLemmas.{at_drop_got, piece_appended}
use Rattle.fmb_serve.specs.Lines.{session_lines}
use Rattle.fmb_serve.proofs.lines.push_sessions.Goals as goal

pub sessions-preserved : goal.sessions-preserved
sessions-preserved c =
    let inside : c.sessions.i < length c.args.served.now = omega (arith, c.len-i-end.ensures, c.sessions-test.true) in
    piece_appended _ _ _ _ _ _ c.in_ok-push_session.ensures
    (at_drop_got (session_lines c.args.worker (c.sessions.i + 1)) c.args.served.now c.sessions.i c.at.result.now inside c.at.ensures)
    c.sessions.invariant

use Rattle.std.proofs.Common.{append_assoc}
use Rattle.fmb_serve.specs.Lines.{session_line}
use Rattle.fmb_serve.proofs.lines.push_session.Goals as goal

pub returns : goal.returns
unfolding session_line
returns c = rw (
  c.in_ok-push-5.ensures.ok,
  c.in_ok-push_server_end.ensures,
  c.end_of.ensures,
  c.in_ok-push-4.ensures.ok,
  c.in_ok-push_login.ensures,
  c.in_ok-push-3.ensures.ok,
  c.in_ok-push_decimal-2.ensures.ok,
  c.in_ok-push-2.ensures.ok,
  c.in_ok-push_decimal.ensures.ok,
  c.in_ok-push.ensures.ok,
) (simp append_assoc)

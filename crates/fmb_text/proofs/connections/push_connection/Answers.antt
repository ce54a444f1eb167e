use Rattle.std.proofs.Common.{append_assoc}
use Rattle.fmb_text.specs.Report.{connection_line}
use Rattle.fmb_text.proofs.connections.push_connection.Goals as goal

pub returns : goal.returns
unfolding connection_line
returns c = rw (
  c.in_ok-push-5.ensures.ok,
  c.in_ok-push_way-2.ensures,
  c.in_ok-push_way.ensures,
  c.in_ok-push_server_end.ensures,
  c.in_ok-push-4.ensures.ok,
  c.in_ok-push_device_end.ensures,
  c.in_ok-push-3.ensures.ok,
  c.in_ok-push_imei.ensures.ok,
  c.in_ok-push-2.ensures.ok,
  c.in_ok-push_decimal.ensures.ok,
  c.in_ok-push.ensures.ok,
  c.len.ensures,
  c.len-2.ensures,
) (simp append_assoc)

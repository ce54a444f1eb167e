use Rattle.std.proofs.Common.{append_assoc}
use Rattle.fmb_text.specs.Report.{device_line}
use Rattle.fmb_text.proofs.devices.push_device_line.Goals as goal

pub returns : goal.returns
unfolding device_line
returns c = rw (
  c.in_ok-push-2.ensures.ok,
  c.in_ok-push_count-5.ensures,
  c.in_ok-push_count-4.ensures,
  c.in_ok-push_count-3.ensures,
  c.in_ok-push_count-2.ensures,
  c.in_ok-push_count.ensures,
  c.in_ok-push_imei.ensures.ok,
  c.in_ok-push.ensures.ok,
  c.len.ensures,
  c.len-2.ensures,
  c.len-3.ensures,
  c.len-4.ensures,
  c.len-5.ensures,
) (simp append_assoc)

use Rattle.std.proofs.Common.{append_assoc}
use Rattle.fmb_serve.specs.Lines.{archive_line}
use Rattle.fmb_serve.proofs.lines.push_archive.Goals as goal

pub returns : goal.returns
unfolding archive_line
returns g c = rw (
  c.in_ok-push-3.ensures.ok,
  c.in_ok-push_decimal-2.ensures.ok,
  c.devices.ensures,
  c.in_ok-push-2.ensures.ok,
  c.in_ok-push_decimal.ensures.ok,
  c.list.ensures.value,
  c.in_ok-push.ensures.ok,
) (simp append_assoc)

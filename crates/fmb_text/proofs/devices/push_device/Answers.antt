use Rattle.std.proofs.Common.{append_assoc}
use Rattle.fmb_text.specs.Report.{device_text}
use Rattle.fmb_text.proofs.devices.push_device.Goals as goal

pub returns : goal.returns
unfolding device_text
returns c = rw (
  c.in_ok-push_wide_records.ensures,
  c.in_ok-push_records-4.ensures,
  c.in_ok-push_records-3.ensures,
  c.in_ok-push_records-2.ensures,
  c.in_ok-push_records.ensures,
  c.in_ok-push_device_line.ensures,
  c.as_slice.ensures,
  c.as_slice-2.ensures,
  c.as_slice-3.ensures,
  c.as_slice-4.ensures,
  c.as_slice-5.ensures,
) (simp append_assoc)

use Rattle.std.proofs.Common.{append_assoc}
use Rattle.fmb_text.specs.Ends.{server_end_words}
use Rattle.fmb_text.proofs.ends.push_fault.Goals as goal

pub returns : goal.returns
unfolding server_end_words
returns c = rw (c.in_ok-push_decimal.ensures.ok, c.in_ok-push-3.ensures.ok, c.in_ok-push-2.ensures.ok, c.as_bytes.ensures.value, c.name.ensures, c.in_ok-push.ensures.ok) (simp append_assoc)

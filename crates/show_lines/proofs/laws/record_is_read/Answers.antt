use Rattle.show_lines.proofs.Values.{value_read}
use Rattle.show_lines.proofs.laws.record_is_read.Goals as goal

pub returns : goal.returns
returns c = value_read

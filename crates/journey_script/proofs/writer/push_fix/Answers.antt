use Rattle.std.proofs.Common.{rules, append_assoc}
use Rattle.journey_script.proofs.WritingLemmas.{fix_spelled}
use Rattle.journey_script.proofs.writer.push_fix.Goals as goal

pub returns : goal.returns
returns c = rw fix_spelled (search (rules, append_assoc))

use Rattle.command_layout.proofs.CommandLaws.{command_stays}
use Rattle.command_layout.proofs.laws.command_verdict_stays.Goals as goal

pub returns : goal.returns
returns c = command_stays

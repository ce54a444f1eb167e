use Rattle.command_layout.proofs.CommandLaws.{command_whole}
use Rattle.command_layout.proofs.laws.command_is_whole.Goals as goal

pub returns : goal.returns
returns c = command_whole

use Rattle.command_layout.proofs.CommandLaws.{whole_command}
use Rattle.command_layout.proofs.laws.whole_is_command.Goals as goal

pub returns : goal.returns
returns c = whole_command

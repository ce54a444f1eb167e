use Rattle.command_layout.proofs.CommandLaws.{none_begins_command}
use Rattle.command_layout.proofs.laws.no_command_begins_another.Goals as goal

pub returns : goal.returns
returns c = none_begins_command

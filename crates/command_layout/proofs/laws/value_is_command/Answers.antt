use Rattle.command_layout.proofs.AnswerLaws.{value_command}
use Rattle.command_layout.proofs.laws.value_is_command.Goals as goal

pub returns : goal.returns
returns c = value_command

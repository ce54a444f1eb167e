use Rattle.command_layout.proofs.AnswerLaws.{command_value}
use Rattle.command_layout.proofs.laws.command_is_value.Goals as goal

pub returns : goal.returns
returns c = command_value

use Rattle.command_layout.proofs.AnswerLaws.{answer_command}
use Rattle.command_layout.proofs.laws.answer_is_command.Goals as goal

pub returns : goal.returns
returns c = answer_command

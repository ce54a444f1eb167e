use Rattle.command_layout.proofs.AnswerLaws.{answer_well}
use Rattle.command_layout.proofs.laws.answer_is_well_formed.Goals as goal

pub returns : goal.returns
returns c = answer_well

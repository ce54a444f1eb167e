use Rattle.command_layout.proofs.AnswerLaws.{answer_fits}
use Rattle.command_layout.proofs.laws.answer_fits.Goals as goal

pub returns : goal.returns
returns c = answer_fits

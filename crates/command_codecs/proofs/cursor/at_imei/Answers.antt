use Rattle.std.proofs.Common.{ap, ◌∙◌, sym}
use Rattle.command_layout.specs.CommandRows.{imei_rows, text_rows}
use Rattle.command_codecs.specs.CommandCursor.{said}
use Rattle.command_codecs.proofs.CursorSteps.{no_imei}
use Rattle.command_codecs.proofs.cursor.at_imei.Goals as goal

pub returns-else-imei-clause-rows : goal.returns-else-imei-clause-rows
returns-else-imei-clause-rows c way total v =
    no_imei way total c.args.text v ∙ ap (λ b. imei_rows b (λ i. text_rows c.args.text (λ t. said v v.time i t))) (sym c.if-imei.false)

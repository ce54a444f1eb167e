use Rattle.std.proofs.Common.{ap, sym, ◌∙◌}
use Rattle.record_codecs.specs.RecordCursor.{width_in}
use Rattle.record_codecs.proofs.in_record.InRecord.width.Goals as goal

pub returns-in-Part : goal.returns-in-Part
returns-in-Part c = c.first_width.ensures ∙ ap width_in (sym c.in-Part.is)

use Rattle.std.proofs.Common.{◌∙◌}
use Rattle.record_codecs.proofs.RecordReads.{priority_is}
use Rattle.record_codecs.proofs.record_view.RecordView.priority.Goals as goal

pub returns : goal.returns
returns c v shows = c.number_at.ensures.value ∙ priority_is c.args.self.now.codec v c.args.self.now.bytes.now shows

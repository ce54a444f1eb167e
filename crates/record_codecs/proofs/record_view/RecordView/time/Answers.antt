use Rattle.std.proofs.Common.{◌∙◌}
use Rattle.record_codecs.proofs.RecordReads.{time_is}
use Rattle.record_codecs.proofs.record_view.RecordView.time.Goals as goal

pub returns : goal.returns
returns c v shows = c.number_at.ensures.value ∙ time_is c.args.self.now.codec v c.args.self.now.bytes.now shows

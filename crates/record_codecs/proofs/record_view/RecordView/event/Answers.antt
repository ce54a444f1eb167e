use Rattle.std.proofs.Common.{drop, ap, ◌∙◌}
use Rattle.record_codecs.specs.Elements.{front_number}
use Rattle.record_codecs.proofs.RecordReads.{event_is}
use Rattle.record_codecs.proofs.record_view.RecordView.event.Goals as goal

pub returns : goal.returns
returns c v shows =
    let bytes = c.args.self.now.bytes.now in
    c.number_at.ensures.value ∙ ap (λ w. front_number w (drop 24 bytes)) c.id_width.ensures ∙ event_is c.args.self.now.codec v bytes shows

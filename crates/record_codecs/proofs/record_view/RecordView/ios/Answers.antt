use Rattle.std.proofs.Common.{ap, ◌∙◌}
use Rattle.record_codecs.specs.Elements.{all_widths, groups_in}
use Rattle.record_codecs.proofs.RecordReads.{ios_are}
use Rattle.record_codecs.proofs.record_view.RecordView.ios.Goals as goal

pub returns : goal.returns
returns c v shows =
    let codec = c.args.self.now.codec in
    c.new.ensures ∙ ap (groups_in codec all_widths) c.elements.ensures ∙ ios_are codec v c.args.self.now.bytes.now shows

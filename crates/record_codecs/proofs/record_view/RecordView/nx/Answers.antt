use Rattle.std.proofs.Common.{ap, ◌∙◌}
use Rattle.record_codecs.specs.Elements.{all_widths, behind_groups, nx_of}
use Rattle.record_codecs.proofs.RecordReads.{nx_are}
use Rattle.record_codecs.proofs.record_view.RecordView.nx.Goals as goal

pub returns : goal.returns
returns c v shows =
    let codec = c.args.self.now.codec in
    c.new.ensures ∙ ap (nx_of codec) (c.after_groups.ensures ∙ ap (behind_groups codec all_widths) c.elements.ensures) ∙ nx_are codec v c.args.self.now.bytes.now shows

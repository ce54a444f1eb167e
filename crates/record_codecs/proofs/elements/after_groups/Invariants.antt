use Rattle.std.proofs.Common.{◌≡◌, drop}
use Rattle.record_codecs.specs.Elements.{all_widths, behind_groups}
use Rattle.record_codecs.proofs.elements.after_groups.Given as goal

abbrev pub invariant-loop-width : goal.invariant-loop-width
invariant-loop-width l = behind_groups l.codec all_widths l.bytes ≡ behind_groups l.codec (drop l.width-index all_widths) l.rest

use Rattle.std.proofs.Common.{refl}
use Rattle.avl_values.specs.declared.width.Width.TheVariants.{W1}
use Rattle.record_codecs.specs.Elements.{all_widths}
use Rattle.record_codecs.proofs.Groups.{left_none}
use Rattle.record_codecs.proofs.elements.Ios.new.Goals as goal

pub returns : goal.returns
returns c = left_none c.args.codec W1 0 all_widths c.args.rest.now refl

-- The front of N zeros.
use Rattle.std.proofs.Common.{◌++◌, ap, ◌∙◌}
use Rattle.std.proofs.lemmas.List.{take-replicate}
use Rattle.flash_ring.proofs.held.append_zeros.Goals as goal

pub returns : goal.returns
returns c = c.append.ensures ∙ ap (λ zeros. c.args.body.now.items ++ zeros) (take-replicate c.args.count 261 0 c.requires.few)

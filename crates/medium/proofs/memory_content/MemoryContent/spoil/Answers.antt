-- What is read is still an image.
use Rattle.std.proofs.Common.{ap, arith}
use Rattle.medium.specs.Buffer.{ReadyContent}
use Rattle.medium.proofs.Torn.{fit-marked}
use Rattle.medium.proofs.memory_content.MemoryContent.spoil.Goals as goal

pub invariant_of-self : goal.invariant_of-self
invariant_of-self c =
    let ready = ap (λ (v : ReadyContent). v.ready) c.self.view_is in
    fit-marked _ _ _ _ c.args.at c.args.count c.self.invariant (omega (arith, c.requires.ready)) _ c.mark.ensures

-- What is read is still an image.
use Rattle.std.proofs.Common.{length, ap, refl, arith}
use Rattle.medium.specs.Buffer.{ReadyContent}
use Rattle.medium.proofs.Torn.{fit-written}
use Rattle.medium.proofs.memory_content.MemoryContent.write.Goals as goal

pub invariant_of-self : goal.invariant_of-self
invariant_of-self c =
    let ready = ap (λ (v : ReadyContent). v.ready) c.self.view_is in
    fit-written _ _ _ _ c.args.at (length c.args.from.now) c.self.invariant (omega (arith, c.requires.ready)) _ c.mark.ensures c.args.from.now refl _ c.put.ensures

-- The range was set from the bytes, so the buffer's front is the old one with them written.
use Rattle.std.proofs.Common.{length, get_or, refl, arith}
use Rattle.medium.proofs.Buffers.{seen-put, set-in}
use Rattle.medium.proofs.image.Image.put.Goals as goal

pub returns : goal.returns
returns c =
    seen-put c.args.at _ c.args.from.now _ _ _ _ _ c.self.invariant c.requires refl
    (set-in 0 c.args.at (length c.args.from.now) (λ k. get_or c.args.from.now k 0) c.self.inside.bytes _ c.copy_to.new.into c.as_mut_slice.ensures.value c.copy_to.ensures) (omega arith) c.self.view_is

-- The range was set to the byte, so the buffer's front is the old one with it written.
use Rattle.std.proofs.Common.{◌≡◌, length, arith, replicate, refl}
use Rattle.std.proofs.lemmas.List.{length-replicate}
use Rattle.medium.proofs.Buffers.{seen-put, set-in, set-replicate}
use Rattle.medium.proofs.image.Image.fill.Goals as goal

pub returns : goal.returns
returns c =
    let size : length (replicate c.args.count c.args.byte) ≡ c.args.count = length-replicate c.args.count c.args.byte in
    seen-put c.args.at _ (replicate c.args.count c.args.byte) _ _ _ _ _ c.self.invariant (omega arith) refl
    (set-replicate c.args.count c.args.byte (set-in 0 c.args.at c.args.count (λ _. c.args.byte) c.self.inside.bytes _ c.fill_from.new.bytes c.as_mut_slice.ensures.value c.fill_from.ensures))
    (omega arith) c.self.view_is

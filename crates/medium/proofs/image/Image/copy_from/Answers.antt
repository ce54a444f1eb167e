-- The spans were copied, and the two agree elsewhere.
use Rattle.std.proofs.Common.{◌≡◌, ◌∙◌, ℕ, List, length, get_or, ap, sym}
use Rattle.std.specs.Vec.{with_items}
use Rattle.std.proofs.lemmas.List.{with_items_is}
use Rattle.medium.proofs.Buffers.{seen-copied}
use Rattle.medium.proofs.image.Image.copy_from.Goals as goal

pub returns : goal.returns
returns c =
    let bytes = c.self.inside.bytes in
    let after = c.copy_spans.new.into in
    let size : length after ≡ length bytes.items = c.copy_spans.ensures.size ∙ ap length c.as_mut_slice.ensures.value in
    let items : (with_items bytes after).items ≡ after = with_items_is bytes after (size ∙ sym bytes.ok.0) in
    (seen-copied c.other.inside.len c.self.inside.len bytes.items c.other.inside.bytes.items (with_items bytes after).items c.args.self.now c.args.other.now
    c.other.invariant c.self.view_is c.other.view_is c.requires.room (ap length items ∙ size)
    (λ k. ap (λ (b : List ℕ). get_or b k 0) items ∙ c.copy_spans.ensures.same k ∙ ap (λ (b : List ℕ). get_or b k 0) c.as_slice.ensures.value)).1

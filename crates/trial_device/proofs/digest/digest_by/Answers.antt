use Rattle.std.proofs.Common.{◌∙◌, ap, refl}
use Rattle.std.specs.List.{fold}
use Rattle.trial_device.specs.Index.{digest_of, mixed_with}
use Rattle.trial_device.proofs.Listing.{digest-last, digest-more}
use Rattle.trial_device.proofs.digest.digest_by.Goals as goal

pub loop-byte-init : goal.loop-byte-init
unfolding digest_of
loop-byte-init c = ap (λ d. fold mixed_with d c.args.bytes.now) (c.mixed-digest.ensures ∙ ap (mixed_with 0xcbf29ce484222325) c.id.ensures)

pub loop-byte-preserved : goal.loop-byte-preserved
loop-byte-preserved c = digest-more c.args.bytes.now _ _ _ _ _ c.loop-byte-test.true refl c.mixed-digest-in-loop-byte.ensures c.loop-byte.invariant

pub returns : goal.returns
returns c = digest-last c.args.bytes.now _ _ _ c.loop-byte-test.false c.loop-byte.invariant

-- One record more was listed.
use Rattle.std.proofs.Common.{◌∙◌, arith}
use Rattle.flash_ring.proofs.Listings.{found_listed, found_open}
use Rattle.flash_ring.proofs.listing.list.Goals as goal

pub copy_at-requires : goal.copy_at-requires
copy_at-requires c = found_open c.args.slots.now c.args.queue.now.items c.loop-at.at c.index.result.now c.requires (omega (arith, c.loop-at-test.true, c.len-at-end.ensures, c.args.queue.now.ok.0)) c.index.ensures

pub loop-at-preserved : goal.loop-at-preserved
loop-at-preserved c =
    c.in_ok-push.ensures.ok
    ∙ found_listed c.args.slots.now c.args.queue.now.items c.loop-at.at c.index.result.now c.loop-at.records _ c.requires (omega (arith, c.loop-at-test.true, c.len-at-end.ensures, c.args.queue.now.ok.0)) c.index.ensures c.copy_at.ensures c.loop-at.invariant

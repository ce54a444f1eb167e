-- Each exit leaves what the calls before it left.
use Rattle.std.proofs.Common.{◌∙◌, refl}
use Rattle.flash_ring.proofs.Stores.{exit-body, exit-first_sync, exit-gate, exit-last_sync, exit-settled, exit-others, exit-stored}
use Rattle.flash_ring.proofs.store.store.Goals as goal

pub returns-in_err-write-clause-images : goal.returns-in_err-write-clause-images
returns-in_err-write-clause-images g c =
    exit-body _ c.args.slot c.args.slots.now c.args.held.now c.requires.closed refl c.body-body.ensures.fits c.requires.sound _ (c.as_slice.ensures.value ∙ c.body-body.ensures.bytes) _ c.requires.settled
    _ c.in_err-write.ensures.torn

pub returns-in_err-sync-clause-images : goal.returns-in_err-sync-clause-images
returns-in_err-sync-clause-images g c =
    exit-first_sync _ c.args.slot c.args.slots.now c.args.held.now c.requires.closed refl c.body-body.ensures.fits c.requires.sound _ (c.as_slice.ensures.value ∙ c.body-body.ensures.bytes) _ c.requires.settled
    _ _ c.in_ok-write.ensures.written c.in_err-sync.ensures.unchanged

pub returns-in_err-write-2-clause-images : goal.returns-in_err-write-2-clause-images
returns-in_err-write-2-clause-images g c =
    exit-gate _ c.args.slot c.args.slots.now c.args.held.now c.requires.closed refl c.body-body.ensures.fits c.requires.sound _ (c.as_slice.ensures.value ∙ c.body-body.ensures.bytes) _ c.requires.settled
    _ _ c.in_ok-write.ensures.written c.in_ok-sync.ensures.durable _ c.in_err-write-2.ensures.torn

pub returns-in_err-sync-2-clause-images : goal.returns-in_err-sync-2-clause-images
returns-in_err-sync-2-clause-images g c =
    exit-last_sync _ c.args.slot c.args.slots.now c.args.held.now c.requires.closed refl c.body-body.ensures.fits c.requires.sound _ (c.as_slice.ensures.value ∙ c.body-body.ensures.bytes) _ c.requires.settled
    _ _ c.in_ok-write.ensures.written c.in_ok-sync.ensures.durable _ _ c.in_ok-write-2.ensures.written c.in_err-sync-2.ensures.unchanged

pub returns-clause-images : goal.returns-clause-images
returns-clause-images g c =
    exit-stored _ c.args.slot c.args.slots.now c.args.held.now c.requires.closed refl c.body-body.ensures.fits c.requires.sound _ (c.as_slice.ensures.value ∙ c.body-body.ensures.bytes) _ c.requires.settled
    _ _ c.in_ok-write.ensures.written c.in_ok-sync.ensures.durable _ _ c.in_ok-write-2.ensures.written c.in_ok-sync-2.ensures.durable

pub returns-clause-settled : goal.returns-clause-settled
returns-clause-settled g c =
    exit-settled _ c.args.slot c.args.slots.now c.args.held.now c.requires.closed refl c.body-body.ensures.fits c.requires.sound _ (c.as_slice.ensures.value ∙ c.body-body.ensures.bytes) _ c.requires.settled
    _ _ c.in_ok-write.ensures.written c.in_ok-sync.ensures.durable _ _ c.in_ok-write-2.ensures.written c.in_ok-sync-2.ensures.durable

pub returns-clause-others : goal.returns-clause-others
returns-clause-others g c =
    exit-others _ c.args.slot c.args.slots.now c.args.held.now c.requires.closed refl c.body-body.ensures.fits c.requires.sound _ (c.as_slice.ensures.value ∙ c.body-body.ensures.bytes) _ c.requires.settled
    _ _ c.in_ok-write.ensures.written c.in_ok-sync.ensures.durable _ _ c.in_ok-write-2.ensures.written c.in_ok-sync-2.ensures.durable

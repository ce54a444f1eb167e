use Rattle.std.proofs.Common.{rules}
use Rattle.shelf.proofs.Listed.{listing-same, listing-noted, listing-put}
use Rattle.shelf.proofs.Lists.{put-place}
use Rattle.shelf.proofs.listing.put.Goals as goal

pub returns-in_err-insert-clause-listing : goal.returns-in_err-insert-clause-listing
returns-in_err-insert-clause-listing c = listing-same _ _ c.args.places.now _ _ c.reserve.ensures.items c.in_err-insert.ensures.err c.requires.listing

pub returns-in_err-note-clause-listing : goal.returns-in_err-note-clause-listing
returns-in_err-note-clause-listing c =
    listing-noted c.args.items.now.items _ _ c.args.places.now c.insert.new.self c.args.devices.now _ c.args.imei c.args.number _ _ c.args.rec c.requires.listing c.requires.free.0 c.requires.free.1 c.number.ensures.value c.in_ok-insert.ensures.updates
    c.reserve.ensures.items c.deref.ensures.value c.in_err-note.ensures.err

pub returns-clause-listing : goal.returns-clause-listing
returns-clause-listing c =
    listing-put c.args.items.now.items _ _ c.args.places.now c.insert.new.self c.args.devices.now _ c.args.imei c.args.number _ _ c.args.rec c.requires.listing c.requires.free.0 c.requires.free.1 c.number.ensures.value c.in_ok-insert.ensures.updates
    c.reserve.ensures.items c.deref.ensures.value _ (search rules) (c.in_ok-note.ensures.counted c.args.rec) (search rules)

pub returns-clause-place : goal.returns-clause-place
returns-clause-place c = put-place c.args.items.now.items c.push.new.self.items c.args.imei c.len-place.result c.args.rec (search rules) (search rules)

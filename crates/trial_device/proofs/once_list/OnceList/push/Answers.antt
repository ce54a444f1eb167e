use Rattle.std.proofs.Common.{rules}
use Rattle.avl_values.specs.Viewed.{record_of, records_viewed}
use Rattle.trial_device.proofs.Listing.{indexed-push, pushed-records}
use Rattle.trial_device.proofs.once_list.OnceList.push.Goals as goal

pub invariant_of-self-2 : goal.invariant_of-self-2
invariant_of-self-2 c =
    indexed-push (records_viewed c.self.inside.items.items) (records_viewed c.push.new.self.items) (record_of c.args.rec.now) c.self.inside.places c.insert.new.self c.digest.result c.len-place.result c.self.invariant c.in_ok-insert.ensures.updates
    c.digest.ensures (pushed-records c.self.inside.items.items c.reserve.new.self.items c.push.new.self.items c.copy.result c.args.rec.now (search rules) (search rules) c.copy.ensures)

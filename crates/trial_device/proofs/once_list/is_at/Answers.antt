use Rattle.std.proofs.Common.{◌∙◌, sym, arith}
use Rattle.avl_values.specs.Viewed.{record_of}
use Rattle.trial_device.proofs.Listing.{stored-at}
use Rattle.trial_device.proofs.once_list.is_at.Goals as goal

pub returns : goal.returns
returns c = λ same. stored-at c.args.list.now c.args.place c.index-list-place.result (record_of c.args.rec.now) (omega arith) c.index-list-place.is (sym c.is_same.ensures ∙ same)

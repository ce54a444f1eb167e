-- A record whose digest has no place isn't listed.
use Rattle.std.proofs.Common.{◌≡◌, ◌∙◌, ap, sym, subst, false, List}
use Rattle.avl_values.specs.Record.{Record}
use Rattle.avl_values.specs.Viewed.{record_of, records_viewed}
use Rattle.trial_model.specs.RecordLists.{is_listed}
use Rattle.trial_device.specs.Index.{place_in}
use Rattle.trial_device.proofs.Listing.{not-indexed}
use Rattle.trial_device.proofs.once_list.OnceList.has.Goals as goal

pub returns-in-None : goal.returns-in-None
returns-in-None c =
    let none = ap (place_in c.self.inside.places) (sym c.digest.ensures) ∙ sym c.get.ensures.value ∙ sym c.copied.ensures ∙ c.in-None.is in
    let P : List Record → Type 0 = λ l. false ≡ is_listed l (record_of c.args.rec.now) in
    subst P c.self.view_is (sym (not-indexed (records_viewed c.self.inside.items.items) (place_in c.self.inside.places) (record_of c.args.rec.now) c.self.invariant none))

use Rattle.std.proofs.Common.{◌-◌, ◌∙◌, length, take, sym, ap, rules}
use Rattle.std.proofs.lemmas.List.{take-take, take_all}
use Rattle.shelf.proofs.listing.Listing.truncate.Goals as goal

pub loop-self-preserved : goal.loop-self-preserved
loop-self-preserved c = ap (take c.args.len) c.drop_last.ensures ∙ take-take c.args.len (length c.loop-self.self - 1) c.loop-self.self (search rules) ∙ c.loop-self.invariant

pub returns : goal.returns
returns c = sym (take_all c.args.len c.loop-self.self (search rules)) ∙ c.loop-self.invariant

use Rattle.std.proofs.Common.{length, sym, ap, ◌∙◌}
use Rattle.avl_values.proofs.NxLists.{nx-length}
use Rattle.avl_values.proofs.nx_list.NxList.len.Goals as goal

pub returns : goal.returns
returns c = c.len.ensures.value ∙ sym (nx-length c.self.inside.heads.items c.self.inside.bytes.items) ∙ ap length c.self.view_is

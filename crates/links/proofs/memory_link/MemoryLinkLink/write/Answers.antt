use Rattle.std.proofs.Common.{rules, ◌≡◌, sym, subst}
use Rattle.links.specs.contracts.memory_link.MemoryLink.{the_view}
use Rattle.links.specs.Going.{goes_on_written}
use Rattle.links.specs.Memory.{MemoryLinkState, GoesOn, after_write}
use Rattle.links.proofs.Calling.{fail_follows}
use Rattle.links.proofs.memory_link.MemoryLinkLink.write.Goals as goal

pub returns-then-is_chosen-clause-follows : goal.returns-then-is_chosen-clause-follows
returns-then-is_chosen-clause-follows c =
    fail_follows c.args.self.now c.is_chosen.new.self c.fail.new.self c.is_chosen.ensures.counted c.is_chosen.ensures.later c.fail.ensures.counted c.fail.ensures.later

pub returns-clause-follows : goal.returns-clause-follows
returns-clause-follows c =
    let wrote : the_view (record c.self-2.inside { written = c.extend_from_slice.new.self }) ≡ after_write c.args.from.now c.args.self.now = search rules in
    subst (λ (s : MemoryLinkState). GoesOn c.args.self.now s) (sym wrote) (goes_on_written c.args.from.now c.args.self.now c.is_chosen.ensures.later)

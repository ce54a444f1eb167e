use Rattle.std.proofs.Common.{rules, ◌≡◌, ◌++◌, length, take, drop, sym, subst, ◌∙◌, arith}
use Rattle.links.specs.contracts.memory_link.MemoryLink.{the_view}
use Rattle.links.specs.Going.{goes_on_read}
use Rattle.links.specs.Memory.{MemoryLinkState, GoesOn, given}
use Rattle.links.proofs.Calling.{fail_cause, fail_follows, front_copied, read_state, read_took}
use Rattle.links.proofs.memory_link.MemoryLinkLink.read.Goals as goal

pub returns-then-is_chosen-clause-cause : goal.returns-then-is_chosen-clause-cause
returns-then-is_chosen-clause-cause c =
    fail_cause c.fail.result c.args.self.now c.is_chosen.new.self c.fail.new.self c.is_chosen.ensures.counted c.fail.ensures.counted c.fail.ensures.later

pub returns-then-is_chosen-clause-follows : goal.returns-then-is_chosen-clause-follows
returns-then-is_chosen-clause-follows c =
    fail_follows c.args.self.now c.is_chosen.new.self c.fail.new.self c.is_chosen.ensures.counted c.is_chosen.ensures.later c.fail.ensures.counted c.fail.ensures.later

pub returns-clause-after : goal.returns-clause-after
returns-clause-after c =
    read_state c.self.inside.incoming.items c.self.inside.at c.copy_piece-count.result (the_view c.self.inside) c.args.self.now (c.self.view_is ∙ c.is_chosen.ensures.counted)

pub returns-clause-took : goal.returns-clause-took
returns-clause-took c =
    let n = c.copy_piece-count.result in
    let copied : c.copy_piece-count.new.into ≡ take n c.args.self.now.left ++ drop n c.args.into.now = search rules in
    let gives : n ≡ given c.args.self.now (length c.args.into.now) = search rules in
    read_took n _ c.args.self.now c.copy_piece-count.new.into (returns-clause-after c)
    (front_copied n c.args.self.now.left c.args.into.now c.copy_piece-count.new.into (omega (arith, gives)) copied)

pub returns-clause-follows : goal.returns-clause-follows
returns-clause-follows c =
    subst (λ (s : MemoryLinkState). GoesOn c.args.self.now s) (sym (returns-clause-after c)) (goes_on_read c.copy_piece-count.result c.args.self.now c.is_chosen.ensures.later)

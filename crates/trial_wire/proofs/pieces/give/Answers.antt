use Rattle.std.proofs.Common.{◌≡◌, ◌++◌, ◌-◌, length, take, drop, None, IfNone, sym, subst, ◌∙◌, arith, length-take}
use Rattle.session_core.specs.Knowing.{knows}
use Rattle.trial_wire.specs.Hearing.{Gives, HasTaken}
use Rattle.trial_wire.proofs.Giving.{gives-none, gives-then, goes-on}
use Rattle.trial_wire.proofs.pieces.give.Goals as goal

pub loop-at-init : goal.loop-at-init
loop-at-init g c = record {
  within = omega arith;
  going = c.requires.going;
  gives = λ bytes has. gives-none (knows c.args.known.now) bytes c.args.piece.now c.args.session.now c.args.shelf.now c.args.down.now has;
}

pub loop-at-preserved : goal.loop-at-preserved
loop-at-preserved g c =
    let none : c.give_one-n.result.1 ≡ None = goes-on c.give_one-n.result.1 (sym c.is_some.ensures ∙ c.if-is_some.false) in
    let i = c.loop-at.invariant in
    let took = c.give_one-n.ensures.took in
    let rest = take (length c.args.piece.now - c.loop-at.at) (drop c.loop-at.at c.args.piece.now) in
    record {
      within = omega (arith, took.1, i.within, length-take (length c.args.piece.now - c.loop-at.at) (drop c.loop-at.at c.args.piece.now));
      going = (
        i.going.0 ++ take c.give_one-n.result.0 rest,
        subst (λ e. IfNone e (HasTaken (i.going.0 ++ take c.give_one-n.result.0 rest) c.give_one-n.new.session)) none (c.give_one-n.ensures.gives i.going.0 i.going.1).taken,
      );
      gives = λ bytes has.
          let one = i.gives bytes has in
          gives-then (knows c.args.known.now) bytes c.args.piece.now c.loop-at.at c.give_one-n.result.0 c.loop-at.session c.give_one-n.new.session c.args.shelf.now c.loop-at.shelf c.give_one-n.new.shelf
          c.args.down.now c.loop-at.down c.give_one-n.new.down None one
          (subst (Gives (knows c.args.known.now) (bytes ++ take c.loop-at.at c.args.piece.now) rest c.give_one-n.result.0 c.give_one-n.new.session c.loop-at.shelf c.give_one-n.new.shelf c.loop-at.down c.give_one-n.new.down) none
          (c.give_one-n.ensures.gives (bytes ++ take c.loop-at.at c.args.piece.now) one.taken));
    }

pub returns-then-is_some-clause-gives : goal.returns-then-is_some-clause-gives
returns-then-is_some-clause-gives g c = λ bytes has.
    let i = c.loop-at.invariant.gives bytes has in
    gives-then (knows c.args.known.now) bytes c.args.piece.now c.loop-at.at c.give_one-n.result.0 c.loop-at.session c.give_one-n.new.session c.args.shelf.now c.loop-at.shelf c.give_one-n.new.shelf
    c.args.down.now c.loop-at.down c.give_one-n.new.down c.give_one-n.result.1 i (c.give_one-n.ensures.gives (bytes ++ take c.loop-at.at c.args.piece.now) i.taken)

use Rattle.std.proofs.Common.{◌+◌, ◌-◌, ℕ, sym, subst, arith}
use Rattle.made_script.specs.Draws.{seeded}
use Rattle.made_script.specs.Ranges.{IsTurn}
use Rattle.made_script.specs.Standing.{HasRoom, IsOn}
use Rattle.made_script.proofs.Bytes.{has_room, on_next, on_start}
use Rattle.made_script.proofs.Loops.{first_turn, no_turn, one_turn, turn_few}
use Rattle.made_script.proofs.Turns.{turn_range}
use Rattle.made_script.proofs.maker.push_turns.Goals as goal

pub loop-done-init : goal.loop-done-init
unfolding seeded
loop-done-init c = record {
  lines = first_turn c.args.devices c.args.fixes (c.args.fixes - 0) c.args.seed c.seed_from_u64-generator.result c.in_ok-journey.journey c.args.draft.now (omega arith) c.seed_from_u64-generator.ensures c.in_ok-journey.ensures;
  on = subst (IsOn c.args.devices 0) (sym c.in_ok-journey.ensures) (on_start c.args.devices);
  few = omega arith;
}

pub take-requires-clause-range : goal.take-requires-clause-range
take-requires-clause-range c =
    let range = subst (IsTurn c.args.devices) (sym c.draw_turn-turn.ensures.drawn) (turn_range c.args.devices c.loop-done.generator c.requires.least_devices) in
    subst (λ (n : ℕ). IsTurn n c.draw_turn-turn.result) (sym c.loop-done.invariant.on.vehicles) range

pub push_turn-requires-clause-room : goal.push_turn-requires-clause-room
push_turn-requires-clause-room c =
    let range = subst (IsTurn c.args.devices) (sym c.draw_turn-turn.ensures.drawn) (turn_range c.args.devices c.loop-done.generator c.requires.least_devices) in
    let on = on_next c.args.devices c.loop-done._done c.loop-done.journey c.draw_turn-turn.result c.loop-done.invariant.on range in
    subst HasRoom (sym c.take.ensures) (has_room c.args.devices (c.loop-done._done + 1) _ (omega (arith, c.loop-done-test.true, c.requires.fixes)) on)

pub push_turn-requires-clause-range : goal.push_turn-requires-clause-range
push_turn-requires-clause-range c =
    let range = subst (IsTurn c.args.devices) (sym c.draw_turn-turn.ensures.drawn) (turn_range c.args.devices c.loop-done.generator c.requires.least_devices) in
    let on = on_next c.args.devices c.loop-done._done c.loop-done.journey c.draw_turn-turn.result c.loop-done.invariant.on range in
    let after = subst (IsOn c.args.devices (c.loop-done._done + 1)) (sym c.take.ensures) on in
    subst (λ (n : ℕ). IsTurn n c.draw_turn-turn.result) (sym after.vehicles) range

pub loop-done-preserved : goal.loop-done-preserved
loop-done-preserved c =
    let done = c.loop-done._done in
    let range = subst (IsTurn c.args.devices) (sym c.draw_turn-turn.ensures.drawn) (turn_range c.args.devices c.loop-done.generator c.requires.least_devices) in
    let on = on_next c.args.devices done c.loop-done.journey c.draw_turn-turn.result c.loop-done.invariant.on range in
    let few = turn_few c.take.new.self c.draw_turn-turn.result c.loop-done.draft c.push_turn.new.draft c.in_ok-push_turn.ensures in
    record {
      lines = one_turn c.args.devices (c.args.fixes - done) (c.args.fixes - (done + 1)) c.loop-done.generator c.draw_turn-turn.new.generator c.loop-done.journey c.take.new.self c.draw_turn-turn.result c.loop-done.draft
          c.push_turn.new.draft _ c.loop-done.invariant.lines (omega (arith, c.loop-done-test.true)) c.draw_turn-turn.ensures.drawn c.draw_turn-turn.ensures.next c.take.ensures c.in_ok-push_turn.ensures;
      on = subst (IsOn c.args.devices (done + 1)) (sym c.take.ensures) on;
      few = omega (arith, few, c.loop-done.invariant.few);
    }

pub returns-clause-lines : goal.returns-clause-lines
returns-clause-lines c =
    no_turn c.args.devices c.loop-done.generator c.loop-done.journey c.loop-done.draft _ (c.args.fixes - c.loop-done._done) (omega (arith, c.loop-done-test.false)) c.loop-done.invariant.lines

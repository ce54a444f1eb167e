use Rattle.std.proofs.Common.{length, ◌-◌, ◌≤◌, List, ℕ, None}
use Rattle.session_core.specs.Knowing.{knows}
use Rattle.trial_wire.specs.Hearing.{Gives, HasTaken}
use Rattle.trial_wire.proofs.pieces.give.Given as goal

abbrev pub invariant-loop-at : goal.invariant-loop-at
invariant-loop-at g l = record {
  within : l.at ≤ length l.piece;
  going : (bytes : List ℕ) × HasTaken bytes l.session;
  gives : (bytes : List ℕ) → HasTaken bytes l.fn.session → Gives (knows l.known) bytes l.piece l.at l.session l.fn.shelf l.shelf l.fn.down l.down None;
}

abbrev pub decreases-loop-at : goal.decreases-loop-at
decreases-loop-at g l = length l.piece - l.at

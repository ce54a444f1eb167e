-- One read more.
use Rattle.std.proofs.Common.{◌+◌, ◌∙◌, refl, rules}
use Rattle.std.proofs.lemmas.Bool.{false≢true}
use Rattle.medium_model.proofs.Images.{counted-then, counted-as}
use Rattle.archive_journal.proofs.Pieces.{read-more}
use Rattle.archive_journal.proofs.walk.read_file.Goals as goal

pub returns-in_err-count-clause-counted : goal.returns-in_err-count-clause-counted
returns-in_err-count-clause-counted g c = record {
  calls = c.pieces.invariant.counted.calls + 1;
  counted = counted-as refl (λ _. refl) (λ _. search rules) (counted-then c.pieces.invariant.counted.counted c.in_err-count.ensures.counted);
}

pub returns-then-count-eq0-clause-counted : goal.returns-then-count-eq0-clause-counted
returns-then-count-eq0-clause-counted g c = record {
  calls = c.pieces.invariant.counted.calls + 1;
  counted = counted-as refl (λ e. cc) (λ e. absurd (false≢true e)) (counted-then c.pieces.invariant.counted.counted c.in_ok-count.ensures.counted);
}

pub pieces-preserved : goal.pieces-preserved
pieces-preserved g c =
    let inv = c.pieces.invariant in
    record {
      counted = record {
        calls = inv.counted.calls + 1;
        counted = counted-then inv.counted.counted (counted-as refl (λ f. absurd f) false≢true c.in_ok-count.ensures.counted);
      };
      content = c.in_ok-count.ensures.content ∙ inv.content;
      bytes = read-more _ _ _ _ _ _ _ inv.bytes inv.content (search rules) c.in_ok-count.ensures.bound c.in_ok-count.ensures.bytes (search rules);
    }

pub returns-then-is_err-clause-counted : goal.returns-then-is_err-clause-counted
returns-then-is_err-clause-counted g c = record {
  calls = c.pieces.invariant.counted.calls + 1;
  counted = counted-as refl (λ e. cc) (λ e. absurd (false≢true e)) (counted-then c.pieces.invariant.counted.counted c.in_ok-count.ensures.counted);
}

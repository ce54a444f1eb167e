use Rattle.std.proofs.Common.{sym, subst, arith}
use Rattle.std.proofs.lemmas.Result.{err_from_is_err_and}
use Rattle.journey_script.specs.Compact.{script_in}
use Rattle.journey_script.specs.Grammar.{Refuses, script_of}
use Rattle.journey_script.proofs.ReadingLemmas.{few_push, read_on, refused_line, script_push, too_long, whole_text}
use Rattle.journey_script.proofs.reader.read_script.Goals as goal

pub returns-then-text-gt-LONGEST-clause-refused : goal.returns-then-text-gt-LONGEST-clause-refused
returns-then-text-gt-LONGEST-clause-refused c = too_long c.args.text.now (omega arith)

pub loop-line-init : goal.loop-line-init
loop-line-init c = record {
  text = rw (c.new-lines.ensures.items, c.into_iter-line-iterator.ensures.into_iter_gives, c.new-line-items.ensures) (sym (whole_text c.args.text.now (omega arith)));
  knows = rw c.new-lines.ensures.items c.new-standing.ensures.knows;
  few = rw c.new-lines.ensures.items tt;
  count = omega (arith, c.new-standing.ensures.count);
}

pub returns-in_err-taken-clause-refused : goal.returns-in_err-taken-clause-refused
returns-in_err-taken-clause-refused c =
    let line = c.in-Some.line in
    let fault = c.in_err-taken.field-0.0 in
    let first = refused_line line.number line.text.now c.loop-line.line-iterator c.next.new.self (script_in c.loop-line.lines.items) fault c.in-Some.ensures.steps (c.in_err-taken.ensures.refused _ c.loop-line.invariant.knows) in
    let refused : Refuses (script_of c.args.text.now) fault = subst (λ told. Refuses told fault) c.loop-line.invariant.text first in
    let handed = err_from_is_err_and c.from_residual.result c.from_residual.ensures.1 in
    rw handed.1 (subst (Refuses (script_of c.args.text.now)) (sym handed.2) refused)

pub loop-line-preserved : goal.loop-line-preserved
loop-line-preserved c =
    let line = c.in-Some.line in
    let taken = c.in_ok-taken.ensures.takes _ c.loop-line.invariant.knows in
    record {
      text = rw c.in_ok-push.ensures.items (read_on c.loop-line.lines.items c.in_ok-taken.taken line.number line.text.now c.loop-line.line-iterator c.next.new.self _ c.loop-line.invariant.text c.in-Some.ensures.steps taken.script_grows);
      knows = rw (c.in_ok-push.ensures.items, script_push) taken.knows;
      few = rw c.in_ok-push.ensures.items (few_push c.loop-line.lines.items c.in_ok-taken.taken c.loop-line.invariant.few c.in_ok-taken.ensures.few);
      count = omega (arith, c.in_ok-taken.ensures.count, c.loop-line.invariant.count, c.in_ok-push.ensures.len);
    }

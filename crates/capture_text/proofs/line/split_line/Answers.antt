use Rattle.std.proofs.Common.{◌∙◌, ap, sym, Err}
use Rattle.capture_text.proofs.LineLemmas.{alone_known, alone_unknown, parted_known, parted_unknown}
use Rattle.capture_text.proofs.line.split_line.Goals as goal
use Rattle.capture_text.proofs.line.split_line.Goals.{in-Some-from_name, in-None}

pub returns-in_default-clause-fault : goal.returns-in_default-clause-fault
returns-in_default-clause-fault c = elim c.match-from_name.branch [
  | in-Some-from_name w ↦ alone_known c.args.line.now _ c.in_default.ensures.parts w.in-Some-from_name.ensures ∙ ap Err (sym w.result-is)
  | in-None w ↦ alone_unknown c.args.line.now c.in_default.ensures.parts w.in-None.ensures ∙ ap Err (sym w.result-is)
]

pub returns-in-Some-from_name-2-clause-parts : goal.returns-in-Some-from_name-2-clause-parts
returns-in-Some-from_name-2-clause-parts c =
    parted_known c.args.line.now c.in-Some.name.now c.in-Some.digits.now c.in-Some-from_name-2.word c.in-Some.ensures.parts c.in-Some-from_name-2.ensures

pub returns-in-None-from_name-clause-fault : goal.returns-in-None-from_name-clause-fault
returns-in-None-from_name-clause-fault c = parted_unknown c.args.line.now c.in-Some.name.now c.in-Some.digits.now c.in-Some.ensures.parts c.in-None-from_name.ensures

use Rattle.journey_script.proofs.ReadingLemmas.{refused_itself, refused_later, taken_line}
use Rattle.journey_script.proofs.reader.take_line.Goals as goal

pub returns-in-Err-clause-refused : goal.returns-in-Err-clause-refused
returns-in-Err-clause-refused c = rw c.at.ensures (refused_itself c.args.standing.now c.args.number c.args.text.now c.in-Err.fault c.in-Err.ensures.refused)

pub returns-in-Ok-take-clause-takes : goal.returns-in-Ok-take-clause-takes
returns-in-Ok-take-clause-takes c = taken_line c.args.standing.now c.take.new.self c.args.text.now _ c.in-Ok.ensures.line c.in-Ok-take.ensures.takes

pub returns-in-Err-take-clause-refused : goal.returns-in-Err-take-clause-refused
returns-in-Err-take-clause-refused c =
    rw c.at-in-Err-take.ensures (refused_later c.args.standing.now c.args.number c.args.text.now _ c.in-Err-take.fault c.in-Ok.ensures.line c.in-Err-take.ensures.refused)

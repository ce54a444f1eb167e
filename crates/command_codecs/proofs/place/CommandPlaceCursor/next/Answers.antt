use Rattle.command_codecs.specs.CommandCursor.{heard}
use Rattle.command_codecs.proofs.CommandSteps.{stands_on, breaks_here}
use Rattle.command_codecs.proofs.place.CommandPlaceCursor.next.Goals as goal

pub returns-in-Ok-clause-follows : goal.returns-in-Ok-clause-follows
returns-in-Ok-clause-follows c here field (v, e) width reads =
    let on = stands_on c.args.self.way c.args.self.total c.args.self.at c.in-Ok.at v here field e (c.in-Ok.ensures.follows v field width reads) in
    (on.0, (heard c.args.self.at v field, on.1))

pub returns-in-Err-clause-follows : goal.returns-in-Err-clause-follows
returns-in-Err-clause-follows c here field (v, e) width reads = breaks_here c.args.self.way c.args.self.total c.args.self.at c.in-Err.kind v here field e (c.in-Err.ensures.follows v field width reads)

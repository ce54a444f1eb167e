use Rattle.command_codecs.proofs.CursorSteps.{known_codec, unknown_codec}
use Rattle.command_codecs.proofs.cursor.after_codec.Goals as goal

pub returns-in-Some-clause-follows : goal.returns-in-Some-clause-follows
returns-in-Some-clause-follows c total v field n = known_codec c.args.way total c.args.value c.in-Some.row v field n c.in-Some.ensures

pub returns-in-None-clause-follows : goal.returns-in-None-clause-follows
returns-in-None-clause-follows c total v field n = unknown_codec c.args.way total c.args.value v field n c.in-None.ensures

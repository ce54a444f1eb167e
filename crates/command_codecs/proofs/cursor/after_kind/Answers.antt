use Rattle.std.proofs.Common.{◌∙◌, sym}
use Rattle.command_codecs.proofs.CursorSteps.{right_kind, wrong_kind}
use Rattle.command_codecs.proofs.cursor.after_kind.Goals as goal

pub returns-then-has_kind-clause-follows : goal.returns-then-has_kind-clause-follows
returns-then-has_kind-clause-follows c way total v field n = right_kind way total c.args.value c.args.row v field n (sym c.has_kind.ensures ∙ c.if-has_kind.true)

pub returns-else-has_kind-clause-follows : goal.returns-else-has_kind-clause-follows
returns-else-has_kind-clause-follows c way total v field n = wrong_kind way total c.args.value c.args.row v field n (sym c.has_kind.ensures ∙ c.if-has_kind.false)

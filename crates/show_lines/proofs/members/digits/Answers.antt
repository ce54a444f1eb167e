use Rattle.std.proofs.Common.{sym, subst}
use Rattle.std.proofs.lemmas.Str.{IsUtf8-from_ascii}
use Rattle.std.specs.Str.{IsUtf8}
use Rattle.show_lines.proofs.Escapes.{imei_ascii}
use Rattle.show_lines.proofs.members.digits.Goals as goal

pub unreachable-requires : goal.unreachable-requires
unreachable-requires g c = c.in-Err.ensures.cases.0 (subst IsUtf8 (sym c.digits.ensures) (IsUtf8-from_ascii _ (imei_ascii c.args.imei)))

use Rattle.std.proofs.Common.{length, refl, ap, sym, ◌∙◌}
use Rattle.record_codecs.specs.Verdicts.{scan_verdict}
use Rattle.record_codecs.proofs.MachineSteps.{whole_body}
use Rattle.record_codecs.proofs.scanning.read_fields.Goals as goal

pub unreachable-requires : goal.unreachable-requires
unreachable-requires c =
    whole_body (length c.args.body.now) c.args.body.now refl (sym (ap (scan_verdict (length c.args.body.now)) c.in-More.is) ∙ c.scan.ensures)

-- What the judging calls answer, as verdicts that say no value.
use Rattle.std.specs.Prelude.{ℕ}
use Rattle.layout.specs.Rows.{Verdict, whole, short, fault}
use Rattle.field_machine.specs.declared.verdict.Scan.{Scan}
use Rattle.field_machine.specs.declared.verdict.Scan.TheVariants as scan
use Rattle.command_layout.specs.Values.{CommandValue}
use Rattle.command_codecs.specs.declared.verdict.CommandScan.{CommandScan}
use Rattle.command_codecs.specs.declared.verdict.CommandScan.TheVariants.{More, Whole, Broken}

abbrev pub without_value : Verdict CommandValue → Verdict (Unit {0})
without_value (whole v n) = whole (tt {0}) n
without_value short = short
without_value (fault kind place) = fault kind place

abbrev pub scan_verdict : ℕ → CommandScan → Verdict (Unit {0})
scan_verdict total More = short
scan_verdict total Whole = whole (tt {0}) total
scan_verdict total (Broken found) = fault found.kind found.place

-- what was found of any item that says nothing, of a command
abbrev pub command_scan : Scan (Unit {0}) → CommandScan
command_scan scan.More = More
command_scan (scan.Whole nothing) = Whole
command_scan (scan.Broken found) = Broken found

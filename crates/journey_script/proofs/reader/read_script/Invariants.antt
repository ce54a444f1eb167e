use Rattle.std.proofs.Common.{◌≡◌, ◌≤◌, Ok, vec_len}
use Rattle.std.specs.List.{fold}
use Rattle.trial_model.specs.Script.{lines_of}
use Rattle.journey_script.specs.Compact.{AllFew, script_in}
use Rattle.journey_script.specs.Grammar.{script_of, with_text_line}
use Rattle.journey_script.specs.Taking.{Knows}
use Rattle.journey_script.proofs.reader.read_script.Given as goal

abbrev pub invariant-loop-line : goal.invariant-loop-line
invariant-loop-line l = record {
  text : fold with_text_line (Ok (script_in l.lines.items)) l.line-iterator ≡ script_of l.text;
  knows : Knows l.standing (lines_of (script_in l.lines.items));
  few : AllFew l.lines.items;
  count : l.standing.connections.count ≤ vec_len l.lines;
}

use Rattle.std.proofs.Common.{◌∙◌, ap, sym, subst}
use Rattle.journey_script.specs.Grammar.{IsScript, script_of}
use Rattle.journey_script.specs.WrittenText.{after_line}
use Rattle.journey_script.proofs.WrittenLemmas.{written_after, written_is_read}
use Rattle.journey_script.proofs.writer.write_script.Goals as goal

pub returns-clause-text : goal.returns-clause-text
returns-clause-text c =
    let is = subst IsScript c.lines.ensures.lines c.lines.ensures.kept.is_script in
    c.from_vec.ensures ∙ c.in_ok-text.ensures ∙ ap (after_line 1) c.lines.ensures.lines ∙ sym (written_after c.args.script.now is)

pub returns-clause-is_read : goal.returns-clause-is_read
returns-clause-is_read c =
    let is = subst IsScript c.lines.ensures.lines c.lines.ensures.kept.is_script in
    ap script_of (c.from_vec.ensures ∙ c.in_ok-text.ensures ∙ ap (after_line 1) c.lines.ensures.lines ∙ sym (written_after c.args.script.now is)) ∙ written_is_read c.args.script.now is

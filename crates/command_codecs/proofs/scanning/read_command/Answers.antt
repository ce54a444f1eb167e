use Rattle.std.proofs.Common.{length, refl, ap, sym, subst, ◌∙◌, arith}
use Rattle.layout.specs.Rows.{whole}
use Rattle.layout.proofs.Numbers.{are_bytes}
use Rattle.command_layout.specs.CommandRows.{command_rows}
use Rattle.command_layout.specs.Spelling.{IsCommand}
use Rattle.command_codecs.specs.Hearing.{with_text}
use Rattle.command_codecs.proofs.CommandSteps.{heard_value, text_there, verdict_is, whole_body, whole_heard}
use Rattle.command_codecs.proofs.scanning.read_command.Goals as goal

pub unreachable-requires : goal.unreachable-requires
unreachable-requires c = let n = length c.args.body.now in whole_body c.args.way n c.args.body.now refl (c.in-More.ensures (command_rows c.args.way n) c.first.ensures)

pub text_of-requires : goal.text_of-requires
text_of-requires c =
    let have = c.args.body.now in
    let heard = c.in-Whole.heard in
    let h = whole_heard c.args.way heard have (are_bytes _ (λ i. omega (arith, c.type_inv.body i))) (c.in-Whole.ensures (command_rows c.args.way (length have)) c.first.ensures) in
    (text_there h.value heard.text have h.command.is h.says.1).0

pub returns-in-Whole-clause-value : goal.returns-in-Whole-clause-value
returns-in-Whole-clause-value c =
    let have = c.args.body.now in
    let heard = c.in-Whole.heard in
    let h = whole_heard c.args.way heard have (are_bytes _ (λ i. omega (arith, c.type_inv.body i))) (c.in-Whole.ensures (command_rows c.args.way (length have)) c.first.ensures) in
    let is = c.with_text.ensures ∙ ap (with_text heard.said) c.text_of.ensures ∙ heard_value c.args.way heard have h in
    h.verdict ∙ ap (λ v. whole v (length have)) (sym is)

pub returns-in-Whole-clause-command : goal.returns-in-Whole-clause-command
returns-in-Whole-clause-command c =
    let have = c.args.body.now in
    let heard = c.in-Whole.heard in
    let h = whole_heard c.args.way heard have (are_bytes _ (λ i. omega (arith, c.type_inv.body i))) (c.in-Whole.ensures (command_rows c.args.way (length have)) c.first.ensures) in
    let is = c.with_text.ensures ∙ ap (with_text heard.said) c.text_of.ensures ∙ heard_value c.args.way heard have h in
    subst (λ v. IsCommand c.args.way v have) (sym is) h.command

pub returns-in-Broken-clause-broken : goal.returns-in-Broken-clause-broken
returns-in-Broken-clause-broken c = let n = length c.args.body.now in verdict_is c.args.way n c.args.body.now ∙ c.in-Broken.ensures (command_rows c.args.way n) c.first.ensures

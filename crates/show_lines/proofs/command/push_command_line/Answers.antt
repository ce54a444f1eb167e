use Rattle.std.proofs.Common.{◌++◌, ◌∙◌, ap}
use Rattle.std.proofs.lemmas.Result.{on_ok_weaker}
use Rattle.command_codecs.specs.Views.{value_of}
use Rattle.show_lines.specs.Json.{as_line}
use Rattle.show_lines.specs.Tokens.{command_tokens}
use Rattle.show_lines.proofs.ItemPrints.{command_printed}
use Rattle.show_lines.proofs.Sending.{text_of}
use Rattle.show_lines.proofs.command.push_command_line.Goals as goal

pub returns-clause-ok : goal.returns-clause-ok
returns-clause-ok c =
    let said = value_of c.args.command.now in
    on_ok_weaker c.push_json.result
    (λ made. made.4 ∙ ap (λ text. c.args.out.now.items ++ as_line text) (text_of (command_tokens said c.args.line) made.0 made.1 made.2.0 made.3 ∙ command_printed said c.args.line made.2.1))
    c.push_json.ensures.ok

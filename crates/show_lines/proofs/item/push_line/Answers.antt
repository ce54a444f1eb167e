use Rattle.std.proofs.Common.{◌++◌, ◌∙◌, ap}
use Rattle.std.proofs.lemmas.Result.{on_ok_weaker}
use Rattle.show_lines.specs.Json.{as_line}
use Rattle.show_lines.specs.Tokens.{tokens_of}
use Rattle.show_lines.proofs.ItemPrints.{item_printed}
use Rattle.show_lines.proofs.Sending.{text_of}
use Rattle.show_lines.proofs.item.push_line.Goals as goal

pub returns-clause-ok : goal.returns-clause-ok
returns-clause-ok c =
    let item = c.args.item.now in
    on_ok_weaker c.push_json.result
    (λ made. made.4 ∙ ap (λ text. c.args.out.now.items ++ as_line text) (text_of (tokens_of item c.args.line) made.0 made.1 made.2 made.3 ∙ item_printed item c.args.line))
    c.push_json.ensures.ok

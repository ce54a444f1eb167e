use Rattle.std.proofs.Common.{◌++◌, ◌∙◌, ap}
use Rattle.std.proofs.lemmas.Result.{on_ok_weaker}
use Rattle.show_lines.specs.Json.{as_line}
use Rattle.show_lines.specs.Tokens.{record_tokens}
use Rattle.show_lines.proofs.RecordPrints.{record_printed}
use Rattle.show_lines.proofs.Sending.{text_of}
use Rattle.show_lines.proofs.record.push_record_line.Goals as goal

pub returns-clause-ok : goal.returns-clause-ok
returns-clause-ok c =
    on_ok_weaker c.push_json.result
    (λ made v is.
    made.4
    ∙ ap (λ text. c.args.out.now.items ++ as_line text) (text_of (record_tokens c.args.codec v c.args.line) made.0 made.1 (made.2 v is) made.3 ∙ record_printed c.args.codec v c.args.line c.args.bytes.now is))
    c.push_json.ensures.ok

pub returns-clause-kept : goal.returns-clause-kept
returns-clause-kept c = on_ok_weaker c.push_json.result (λ made. record { more = as_line made.1; is = made.4 }) c.push_json.ensures.ok

use Rattle.std.proofs.Common.{◌≡◌, ◌∙◌, List, map, string_bytes, codes, refl, sym, ap₂}
use Rattle.clap.specs.Words.{Text, app_of, with_rule}
use Rattle.fmb_words.specs.Commands.{any_values, bare_app, one_value, serve_app, value_option}
use Rattle.fmb_words.proofs.Parsing.{kinds_are, rows_are}
use Rattle.fmb_words.proofs.PlainLemmas.{serve_is_free, serve_is_plain}
use Rattle.fmb_words.proofs.serve_words.serve_matches.Goals as goal

made : serve_app ≡ with_rule (with_rule (with_rule (with_rule (with_rule (bare_app (codes "serve"))
    (one_value (codes "ADDRESS"))) (one_value (codes "ARCHIVE"))) (any_values (codes "IMEI")))
    (value_option (codes "workers"))) (value_option (codes "sessions"))
unfolding serve_app
made = refl

pub returns : goal.returns
returns c =
    let words : List Text = map (λ s. string_bytes s) c.args.words.now in
    let parse = c.try_get_matches_from in
    let one = c.in_ok-arg.ensures.shape c.one_value-address.ensures.local ∙ ap₂ with_rule c.bare.ensures.app c.one_value-address.ensures.rule in
    let two = c.in_ok-arg-2.ensures.shape c.one_value-archive.ensures.local ∙ ap₂ with_rule one c.one_value-archive.ensures.rule in
    let three = c.in_ok-arg-3.ensures.shape c.any_values-imeis.ensures.local ∙ ap₂ with_rule two c.any_values-imeis.ensures.rule in
    let four = c.in_ok-arg-4.ensures.shape c.value_option-workers.ensures.local ∙ ap₂ with_rule three c.value_option-workers.ensures.rule in
    let same : app_of c.in_ok-command.command ≡ serve_app =
    c.in_ok-command.ensures.shape c.value_option-sessions.ensures.local ∙ ap₂ with_rule four c.value_option-sessions.ensures.rule ∙ sym made in
    record {
      kinds = kinds_are _ serve_app words parse.result same serve_is_free parse.ensures.kinds;
      rows = rows_are _ serve_app words parse.result same serve_is_plain parse.ensures.matches;
    }

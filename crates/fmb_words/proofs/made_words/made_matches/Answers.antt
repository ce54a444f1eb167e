use Rattle.std.proofs.Common.{◌≡◌, ◌∙◌, List, map, string_bytes, codes, refl, sym, ap₂}
use Rattle.clap.specs.Words.{Text, app_of, with_rule}
use Rattle.fmb_words.specs.Commands.{bare_app, made_app, one_value}
use Rattle.fmb_words.proofs.Parsing.{kinds_are, rows_are}
use Rattle.fmb_words.proofs.PlainLemmas.{made_is_free, made_is_plain}
use Rattle.fmb_words.proofs.made_words.made_matches.Goals as goal

made : made_app ≡ with_rule (with_rule (with_rule (bare_app (codes "made")) (one_value (codes "SEED"))) (one_value (codes "DEVICES"))) (one_value (codes "FIXES"))
unfolding made_app
made = refl

pub returns : goal.returns
returns c =
    let words : List Text = map (λ s. string_bytes s) c.args.words.now in
    let parse = c.try_get_matches_from in
    let one = c.in_ok-arg.ensures.shape c.one_value-seed.ensures.local ∙ ap₂ with_rule c.bare.ensures.app c.one_value-seed.ensures.rule in
    let two = c.in_ok-arg-2.ensures.shape c.one_value-devices.ensures.local ∙ ap₂ with_rule one c.one_value-devices.ensures.rule in
    let same : app_of c.in_ok-command.command ≡ made_app =
    c.in_ok-command.ensures.shape c.one_value-fixes.ensures.local ∙ ap₂ with_rule two c.one_value-fixes.ensures.rule ∙ sym made in
    record {
      kinds = kinds_are _ made_app words parse.result same made_is_free parse.ensures.kinds;
      rows = rows_are _ made_app words parse.result same made_is_plain parse.ensures.matches;
    }

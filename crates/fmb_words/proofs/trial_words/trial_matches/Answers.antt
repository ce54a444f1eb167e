use Rattle.std.proofs.Common.{◌≡◌, ◌∙◌, List, map, string_bytes, codes, refl, sym, ap₂}
use Rattle.clap.specs.Words.{Text, app_of, with_rule}
use Rattle.fmb_words.specs.Commands.{bare_app, flag_option, one_value, trial_app}
use Rattle.fmb_words.proofs.Parsing.{kinds_are, rows_are}
use Rattle.fmb_words.proofs.PlainLemmas.{trial_is_free, trial_is_plain}
use Rattle.fmb_words.proofs.trial_words.trial_matches.Goals as goal

made : trial_app ≡ with_rule (with_rule (bare_app (codes "trial")) (one_value (codes "FILE"))) (flag_option (codes "brief"))
unfolding trial_app
made = refl

pub returns : goal.returns
returns c =
    let words : List Text = map (λ s. string_bytes s) c.args.words.now in
    let parse = c.try_get_matches_from in
    let one = c.in_ok-arg.ensures.shape c.one_value-file.ensures.local ∙ ap₂ with_rule c.bare.ensures.app c.one_value-file.ensures.rule in
    let same : app_of c.in_ok-command.command ≡ trial_app =
    c.in_ok-command.ensures.shape c.flag_option-brief.ensures.local ∙ ap₂ with_rule one c.flag_option-brief.ensures.rule ∙ sym made in
    record {
      kinds = kinds_are _ trial_app words parse.result same trial_is_free parse.ensures.kinds;
      rows = rows_are _ trial_app words parse.result same trial_is_plain parse.ensures.matches;
    }

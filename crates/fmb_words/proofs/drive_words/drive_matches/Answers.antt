use Rattle.std.proofs.Common.{◌≡◌, ◌∙◌, List, map, string_bytes, codes, refl, sym, ap₂}
use Rattle.clap.specs.Words.{Text, app_of, with_rule}
use Rattle.fmb_words.specs.Commands.{bare_app, drive_app, one_value}
use Rattle.fmb_words.proofs.Parsing.{kinds_are, rows_are}
use Rattle.fmb_words.proofs.PlainLemmas.{drive_is_free, drive_is_plain}
use Rattle.fmb_words.proofs.drive_words.drive_matches.Goals as goal

made : drive_app ≡ with_rule (with_rule (with_rule (bare_app (codes "drive")) (one_value (codes "ADDRESS"))) (one_value (codes "FLASH"))) (one_value (codes "SCRIPT"))
unfolding drive_app
made = refl

pub returns : goal.returns
returns c =
    let words : List Text = map (λ s. string_bytes s) c.args.words.now in
    let parse = c.try_get_matches_from in
    let one = c.in_ok-arg.ensures.shape c.one_value-address.ensures.local ∙ ap₂ with_rule c.bare.ensures.app c.one_value-address.ensures.rule in
    let two = c.in_ok-arg-2.ensures.shape c.one_value-flash.ensures.local ∙ ap₂ with_rule one c.one_value-flash.ensures.rule in
    let same : app_of c.in_ok-command.command ≡ drive_app =
    c.in_ok-command.ensures.shape c.one_value-script.ensures.local ∙ ap₂ with_rule two c.one_value-script.ensures.rule ∙ sym made in
    record {
      kinds = kinds_are _ drive_app words parse.result same drive_is_free parse.ensures.kinds;
      rows = rows_are _ drive_app words parse.result same drive_is_plain parse.ensures.matches;
    }

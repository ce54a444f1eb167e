use Rattle.std.proofs.Common.{◌≡◌, ◌∙◌, List, map, string_bytes, codes, is_some, refl, sym, subst, true, ap, ap₂}
use Rattle.std.proofs.lemmas.Result.{IfOk-weaker}
use Rattle.clap.proofs.CallerLemmas.{one_required_value}
use Rattle.clap.specs.Words.{Rule, Text, app_of, first_value, found_of, with_rule}
use Rattle.fmb_words.specs.Commands.{bare_app, file_app, one_value}
use Rattle.fmb_words.proofs.Parsing.{kinds_are, own_name, value_is}
use Rattle.fmb_words.proofs.PlainLemmas.{file_is_free, file_is_plain}
use Rattle.fmb_words.proofs.file_word.file_matches.Goals as goal

made : (name : Text) → file_app name ≡ with_rule (bare_app name) (one_value (codes "FILE"))
unfolding file_app
made name = refl

pub returns : goal.returns
returns c =
    let name : Text = c.args.name.now in
    let words : List Text = map (λ s. string_bytes s) c.args.words.now in
    let parse = c.try_get_matches_from in
    let file = c.one_value-file in
    let same : app_of c.in_ok-command.command ≡ file_app name =
    c.in_ok-command.ensures.shape file.ensures.local ∙ ap₂ with_rule c.bare.ensures.app file.ensures.rule ∙ sym (made name) in
    let name_id : file.result.id.now ≡ codes "FILE" = ap (λ x. x.now) file.ensures.id in
    let own = own_name file.result.id.now name_id in
    record {
      kinds = kinds_are _ (file_app name) words parse.result same (file_is_free name) parse.ensures.kinds;
      file = value_is _ (file_app name) words (codes "FILE") parse.result same (file_is_plain name) parse.ensures.matches;
      given = IfOk-weaker parse.result _ _ (λ m p.
          subst (λ t. is_some (first_value (found_of m) t) ≡ true) name_id
          (one_required_value c.bare.result c.in_ok-command.command file.result m c.in_ok-command.ensures c.bare.ensures.empty.0 c.bare.ensures.empty.1
          c.bare.ensures.plain.0 c.bare.ensures.plain.1 file.ensures.plain.0 file.ensures.local (ap (λ (r : Rule). r.required) file.ensures.rule)
          (ap (λ (r : Rule). r.action) file.ensures.rule) file.ensures.plain.1 file.ensures.least
          own.0 own.1 p)) parse.ensures.parsed;
    }

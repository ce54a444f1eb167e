use Rattle.std.proofs.Common.{◌/◌, ◌^◌, ◌∙◌, ap}
use Rattle.command_layout.specs.Spelling.{two_digits}
use Rattle.command_codecs.proofs.Digits.{eight_pairs}
use Rattle.command_codecs.proofs.writing.digit_pairs.Goals as goal

pub returns : goal.returns
returns c =
    let same = c.number-n.ensures.value in
    eight_pairs c.args.imei c.two_digits.result c.two_digits-2.result c.two_digits-3.result c.two_digits-4.result c.two_digits-5.result c.two_digits-6.result c.two_digits-7.result c.two_digits-8.result
    (c.two_digits.ensures ∙ ap (λ n. two_digits (n / 100 ^ 7)) same)
    (c.two_digits-2.ensures ∙ ap (λ n. two_digits (n / 100 ^ 6)) same)
    (c.two_digits-3.ensures ∙ ap (λ n. two_digits (n / 100 ^ 5)) same)
    (c.two_digits-4.ensures ∙ ap (λ n. two_digits (n / 100 ^ 4)) same)
    (c.two_digits-5.ensures ∙ ap (λ n. two_digits (n / 100 ^ 3)) same)
    (c.two_digits-6.ensures ∙ ap (λ n. two_digits (n / 100 ^ 2)) same)
    (c.two_digits-7.ensures ∙ ap (λ n. two_digits (n / 100 ^ 1)) same)
    (c.two_digits-8.ensures ∙ ap two_digits same)

use Rattle.std.proofs.Common.{◌≡◌, ◌<◌, ◌^◌, true, Some, refl, sym, ap, arith}
use Rattle.std.specs.List.{list_all}
use Rattle.std.proofs.lemmas.List.Sums.{list_all-from_AllPass}
use Rattle.avl_values.specs.Imei.{is_digit}
use Rattle.fmb_words.specs.Numbers.{imei_of}
use Rattle.fmb_words.proofs.NumberLemmas.{imei_value}
use Rattle.fmb_words.proofs.number.imei.Goals as goal

pub returns : goal.returns
unfolding imei_of
returns c =
    let h = c.in_ok-imei.ensures.found.0 refl in
    let digits : list_all is_digit c.args.word.now ≡ true = list_all-from_AllPass is_digit c.args.word.now h.1 in
    let below : c.in_ok-imei.imei < 10 ^ 15 = omega (arith, c.number-number.ensures.value, c.number-number.ensures.bound) in
    let v = sym (imei_value c.in_ok-imei.imei c.args.word.now below c.in_ok-imei.ensures.value) in
    rw (h.0, digits) (ap Some v)

use Rattle.std.proofs.Common.{rules, ◌≡◌, take, true, false, ap, subst, sym, ◌∙◌, arith}
use Rattle.std.specs.List.{AllPass}
use Rattle.avl_values.specs.Imei.{imei_text, is_digit}
use Rattle.datagrams.proofs.DatagramReads.{digits_pass, digits_there, long_enough, said_again}
use Rattle.datagrams.proofs.reading.said_by.Goals as goal

pub split_at-requires-2 : goal.split_at-requires-2
split_at-requires-2 c = omega (arith, long_enough c.requires.0 c.args.bytes.now c.requires.1, c.split_at.ensures.back_len)

pub unreachable-requires : goal.unreachable-requires
unreachable-requires c =
    let (v, is) = c.requires in
    let text : c.split_at-2.result.0.now ≡ imei_text v.imei = c.split_at-2.ensures.front ∙ ap (take 15) c.split_at.ensures.back ∙ digits_there v c.args.bytes.now is in
    let none : false ≡ true = c.in-None.ensures.found.1 (c.split_at-2.ensures.front_len, subst (AllPass is_digit) (sym text) (digits_pass 15 v.imei)) in
    absurd (cc)

pub returns : goal.returns
returns c =
    let (v, is) = c.requires in
    let text = c.in-Some.ensures.value ∙ c.split_at-2.ensures.front ∙ ap (take 15) c.split_at.ensures.back in
    rw (c.from_be_bytes.ensures, c.split_at-2.ensures.back, c.split_at.ensures.front, c.split_at.ensures.back) (said_again v c.args.bytes.now c.in-Some.imei is (search rules) text)

use Rattle.std.proofs.Common.{◌∙◌, arith, sym}
use Rattle.fmb_words.proofs.NumberLemmas.{digits_number, other_none, unparsed_none}
use Rattle.fmb_words.proofs.number.number.Goals as goal

pub returns-then-is_within-clause-number : goal.returns-then-is_within-clause-number
returns-then-is_within-clause-number c =
    sym (digits_number c.args.low c.args.high c.in-Ok.number c.args.word.now (omega (arith, c.ranges.high.fits)) (sym c.is_within.ensures ∙ c.if-is_within.true))

pub returns-else-is_within-clause-number : goal.returns-else-is_within-clause-number
returns-else-is_within-clause-number c =
    sym (other_none c.args.low c.args.high c.in-Ok.number c.args.word.now c.parse.result (omega (arith, c.ranges.high.fits)) c.parse.ensures.value.0 c.in-Ok.is (sym c.is_within.ensures ∙ c.if-is_within.false))

pub returns-in-Err-clause-number : goal.returns-in-Err-clause-number
returns-in-Err-clause-number c =
    sym (unparsed_none c.args.low c.args.high c.args.word.now c.parse.result c.in-Err.field-0 (omega (arith, c.ranges.high.fits)) c.parse.ensures.value.0 c.in-Err.is)

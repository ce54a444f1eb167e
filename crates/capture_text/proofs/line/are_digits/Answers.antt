use Rattle.std.proofs.Common.{◌∙◌, get_or, subst, take_all, ◌↔◌, IsTrue, List, ℕ}
use Rattle.std.specs.List.{AllPass}
use Rattle.hex.specs.Hex.{is_hex_digit}
use Rattle.capture_text.proofs.LineLemmas.{digits_more, is_ascii_hexdigit_is}
use Rattle.capture_text.proofs.line.are_digits.Goals as goal

pub loop-byte-preserved : goal.loop-byte-preserved
loop-byte-preserved c =
    digits_more c.args.text.now c.loop-byte.byte-index c.loop-byte.all c.is_ascii_hexdigit-all.result c.loop-byte-test.true
    (c.is_ascii_hexdigit-all.ensures.value ∙ is_ascii_hexdigit_is (get_or c.args.text.now c.loop-byte.byte-index 0)) c.loop-byte.invariant

pub returns : goal.returns
returns c = subst (λ (text : List ℕ). IsTrue c.loop-byte.all ↔ AllPass is_hex_digit text) (take_all c.loop-byte.byte-index c.args.text.now c.loop-byte-test.false) c.loop-byte.invariant

use Rattle.std.proofs.Common.{arith, ap, sym, ◌∙◌}
use Rattle.std.specs.Prelude.{◌/◌, bit_xor}
use Rattle.crc_field.proofs.Bits.{after_byte-halves}
use Rattle.crc_field.proofs.running.next.Goals as goal

pub returns : goal.returns
returns c = ap (bit_xor (c.args.word / 256)) c.looked_up.ensures ∙ sym (after_byte-halves c.args.word c.args.byte (omega arith))

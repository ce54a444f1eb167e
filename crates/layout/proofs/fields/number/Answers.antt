use Rattle.std.proofs.Common.{arith}
use Rattle.layout.proofs.Numbers.{power_bound}
use Rattle.layout.proofs.fields.number.Goals as goal

pub overflow_mul-n : goal.overflow_mul-n
overflow_mul-n c = omega (arith, power_bound c.loop-byte.byte-index (omega arith))

pub overflow_add-n : goal.overflow_add-n
overflow_add-n c = omega (arith, power_bound c.loop-byte.byte-index (omega arith), c.type_inv.field c.loop-byte.byte-index)

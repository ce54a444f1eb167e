use Rattle.std.proofs.Common.{arith}
use Rattle.crc_field.proofs.LookUp.{table-right}
use Rattle.crc_field.proofs.running.looked_up.Goals as goal

pub returns : goal.returns
returns c = table-right c.args.low (omega arith)

use Rattle.std.proofs.Common.{arith}
use Rattle.frame_channel.proofs.DataFrames.{lent}
use Rattle.frame_channel.proofs.up.put_body.Goals as goal

pub returns-clause-body : goal.returns-clause-body
returns-clause-body c = rw (c.copy_from_slice.ensures.after) (lent c.args.frame.now c.args.body.now _ (omega (arith, c.requires)))

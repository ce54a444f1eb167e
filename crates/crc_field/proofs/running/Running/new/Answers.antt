use Rattle.std.proofs.Common.{refl}
use Rattle.crc_field.specs.Crc.{crc_of}
use Rattle.crc_field.proofs.running.Running.new.Goals as goal

pub returns : goal.returns
unfolding crc_of
returns c = refl

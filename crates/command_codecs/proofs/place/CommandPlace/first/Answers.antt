use Rattle.std.proofs.Common.{refl}
use Rattle.command_codecs.specs.Hearing.{nothing_said}
use Rattle.command_codecs.proofs.place.CommandPlace.first.Goals as goal

pub returns-clause-stands : goal.returns-clause-stands
returns-clause-stands c = (nothing_said, refl)

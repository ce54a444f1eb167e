use Rattle.std.proofs.Common.{ap}
use Rattle.acquisition.specs.Watching.{Acquiring}
use Rattle.fmb_drive.proofs.Flashing.{held_again, run_passed}
use Rattle.medium_model.proofs.Images.{run-counted}
use Rattle.fmb_drive.proofs.playing.power_up.Goals as goal

pub returns-in-Ok-clause-powered : goal.returns-in-Ok-clause-powered
returns-in-Ok-clause-powered g c = record {
  slots = held_again _ _ _ _ (c.is_down-durable.ensures.durable c.requires.up).medium.settled c.in-Ok.ensures.holds;
  next = c.in-Ok.ensures.next;
  watching = ap (λ (a : Acquiring). a.watching) c.power_up.ensures;
  durable = c.in-Ok.ensures.durable;
  run = run_passed (run-counted c.in-Ok.ensures.counted.counted);
}

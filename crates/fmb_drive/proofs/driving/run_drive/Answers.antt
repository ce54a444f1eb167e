use Rattle.fmb_drive.proofs.Ran.{driven_then, refused_then, spared_then}
use Rattle.fmb_drive.proofs.driving.run_drive.Goals as goal

pub returns-clause-refuses : goal.returns-clause-refuses
returns-clause-refuses g c = refused_then _ _ _ _ _ _ c.drive_file.ensures

pub returns-clause-drives : goal.returns-clause-drives
returns-clause-drives g c = driven_then _ _ _ _ _ _ c.drive_file.ensures

pub returns-clause-spares : goal.returns-clause-spares
returns-clause-spares g c = spared_then _ _ _ _ _ _ c.drive_file.ensures

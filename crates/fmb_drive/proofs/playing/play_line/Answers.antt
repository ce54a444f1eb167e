use Rattle.std.proofs.Common.{IfErr, length, sym, ap, subst, ◌∙◌, refl}
use Rattle.fmb_drive.proofs.Doing.{does_connect, does_idle, does_power, ok_map, power_halts}
use Rattle.fmb_drive.proofs.Rounds.{both_ok, err_map}
use Rattle.fmb_drive.specs.Halts.{Halts}
use Rattle.fmb_drive.specs.Runs.{BeginsLine}
use Rattle.fmb_drive.specs.Steps.{driver, stage}
use Rattle.trial_model.specs.declared.script.ScriptLine.{ScriptLine}
use Rattle.trial_model.specs.declared.script.ScriptLine.TheVariants as Line
use Rattle.fmb_drive.proofs.playing.play_line.Goals as goal

pub returns-in-Fix-clause-stopped : goal.returns-in-Fix-clause-stopped
returns-in-Fix-clause-stopped g c =
    subst (λ (l : ScriptLine). IfErr c.fix_line.result (λ stop. Halts c.args.address.now (BeginsLine (driver c.args.tracker.now c.args.acquirer.now) c.args.number l (stage c.args.tracker.now c.args.acquirer.now)) stop c.args.tracker.now.imei (length c.args.tracker.now.ring.slots) (g.H.Host.view c.args.host.now) (g.H.Host.view c.fix_line.new.host) c.args.tracker.now.ring.medium c.fix_line.new.tracker.ring.medium))
    (sym c.in-Fix.is) (c.fix_line.ensures.stopped c.args.address.now c.args.number)

pub returns-in-Round-clause-done : goal.returns-in-Round-clause-done
returns-in-Round-clause-done g c =
    ok_map c.connect.result
    (does_connect (driver c.args.tracker.now c.args.acquirer.now) c.args.number 1 c.args.address.now c.args.line.now _ (stage c.args.tracker.now c.args.acquirer.now) (stage c.connect.new.tracker c.args.acquirer.now) _ _ c.in-Round.is refl refl)
    c.connect.ensures.made

pub returns-in-Drain-clause-done : goal.returns-in-Drain-clause-done
returns-in-Drain-clause-done g c =
    ok_map c.connect-in-Drain.result
    (does_connect (driver c.args.tracker.now c.args.acquirer.now) c.args.number 4294967295 c.args.address.now c.args.line.now _ (stage c.args.tracker.now c.args.acquirer.now) (stage c.connect-in-Drain.new.tracker c.args.acquirer.now) _ _ c.in-Drain.is refl refl)
    c.connect-in-Drain.ensures.made

pub returns-in-Device-who-clause-done : goal.returns-in-Device-who-clause-done
returns-in-Device-who-clause-done g c =
    both_ok c.power_line.result
    (λ p stays. does_power _ (driver c.args.tracker.now c.args.acquirer.now) c.args.number c.in-Device-who.device c.args.line.now (stage c.args.tracker.now c.args.acquirer.now) (stage c.power_line.new.tracker c.power_line.new.acquirer) _
    (c.in-Power.is ∙ ap Line.Power c.in-Device-who.is) p stays)
    c.power_line.ensures.powered c.power_line.ensures.stays

pub returns-in-Device-who-clause-stopped : goal.returns-in-Device-who-clause-stopped
returns-in-Device-who-clause-stopped g c =
    err_map _ _ c.power_line.result
    (λ stop is r. power_halts _ stop (driver c.args.tracker.now c.args.acquirer.now) c.args.number c.args.tracker.now.imei (length c.args.tracker.now.ring.slots) c.in-Device-who.device c.args.line.now (stage c.args.tracker.now c.args.acquirer.now) _ _
    (c.in-Power.is ∙ ap Line.Power c.in-Device-who.is) r)
    c.power_line.ensures.stopped

pub returns-in-Server-clause-done : goal.returns-in-Server-clause-done
returns-in-Server-clause-done g c =
    does_idle _ (driver c.args.tracker.now c.args.acquirer.now) c.args.number c.args.line.now _ (stage c.args.tracker.now c.args.acquirer.now) _ c.requires.up (c.in-Power.is ∙ ap Line.Power c.in-Server.is) tt

pub returns-in-Device-clause-done : goal.returns-in-Device-clause-done
returns-in-Device-clause-done g c = does_idle _ (driver c.args.tracker.now c.args.acquirer.now) c.args.number c.args.line.now _ (stage c.args.tracker.now c.args.acquirer.now) _ c.requires.up c.in-Device.is tt

pub returns-in-Setting-clause-done : goal.returns-in-Setting-clause-done
returns-in-Setting-clause-done g c = does_idle _ (driver c.args.tracker.now c.args.acquirer.now) c.args.number c.args.line.now _ (stage c.args.tracker.now c.args.acquirer.now) _ c.requires.up c.in-Setting.is tt

pub returns-in-Late-clause-done : goal.returns-in-Late-clause-done
returns-in-Late-clause-done g c = does_idle _ (driver c.args.tracker.now c.args.acquirer.now) c.args.number c.args.line.now _ (stage c.args.tracker.now c.args.acquirer.now) _ c.requires.up c.in-Late.is tt

pub returns-in-Close-clause-done : goal.returns-in-Close-clause-done
returns-in-Close-clause-done g c = does_idle _ (driver c.args.tracker.now c.args.acquirer.now) c.args.number c.args.line.now _ (stage c.args.tracker.now c.args.acquirer.now) _ c.requires.up c.in-Close.is tt

pub returns-in-Fuse-clause-done : goal.returns-in-Fuse-clause-done
returns-in-Fuse-clause-done g c = does_idle _ (driver c.args.tracker.now c.args.acquirer.now) c.args.number c.args.line.now _ (stage c.args.tracker.now c.args.acquirer.now) _ c.requires.up c.in-Fuse.is tt

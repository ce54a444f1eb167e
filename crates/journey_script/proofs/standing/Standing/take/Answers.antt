-- Each kind of line, by what was taken of it.
use Rattle.std.proofs.Common.{refl, ap, ◌∙◌}
use Rattle.std.proofs.lemmas.Result.{err_from_is_err_and}
use Rattle.journey_script.specs.declared.compact.CompactFix.{CompactFix}
use Rattle.journey_script.proofs.StandingLemmas.{close_refused, close_taken, device_refused, device_taken, drain_refused, drain_taken, fix_refused, fix_taken, fuse_refused, fuse_taken, late_refused, late_taken, power_refused, power_taken, round_absent, round_refused, round_taken, server_fuse_taken, server_power_taken, setting_refused, setting_taken}
use Rattle.journey_script.proofs.standing.Standing.take.Goals as goal

pub returns-in_ok-take_device-in-Device-clause-takes : goal.returns-in_ok-take_device-in-Device-clause-takes
returns-in_ok-take_device-in-Device-clause-takes c = rw c.in-Device.is (device_taken c.args.self.now _ _ _ _ _ _ _ _ _ _ refl c.in_ok-take_device-in-Device.ensures.sound c.in_ok-take_device-in-Device.ensures.enrolled c.in_ok-take_device-in-Device.ensures.count)

pub returns-in_err-take_device-in-Device-clause-refused : goal.returns-in_err-take_device-in-Device-clause-refused
returns-in_err-take_device-in-Device-clause-refused c =
    let p = err_from_is_err_and c.from_residual.result c.from_residual.ensures.1 in
    rw (p.1, p.2, c.in-Device.is) (device_refused c.args.self.now _ _ _ _ _ _ _ _ _ _ c.in_err-take_device-in-Device.ensures.refused)

pub returns-in_ok-take_setting-in-Setting-clause-takes : goal.returns-in_ok-take_setting-in-Setting-clause-takes
returns-in_ok-take_setting-in-Setting-clause-takes c = rw c.in-Setting.is (setting_taken c.args.self.now _ _ _ refl c.in_ok-take_setting-in-Setting.ensures.sound c.in_ok-take_setting-in-Setting.ensures.enrolled c.in_ok-take_setting-in-Setting.ensures.count)

pub returns-in_err-take_setting-in-Setting-clause-refused : goal.returns-in_err-take_setting-in-Setting-clause-refused
returns-in_err-take_setting-in-Setting-clause-refused c =
    let p = err_from_is_err_and c.from_residual-in_err-take_setting-in-Setting.result c.from_residual-in_err-take_setting-in-Setting.ensures.1 in
    rw (p.1, p.2, c.in-Setting.is) (setting_refused c.args.self.now _ _ _ c.in_err-take_setting-in-Setting.ensures.refused)

pub returns-in_ok-take_fix-in-Fix-clause-takes : goal.returns-in_ok-take_fix-in-Fix-clause-takes
returns-in_ok-take_fix-in-Fix-clause-takes c = rw c.in-Fix.is (fix_taken c.args.self.now _ _ c.in-Fix.fix.value _ (c.as_slice.ensures.value ∙ ap (λ (f : CompactFix). f.values.items) c.deref.ensures) refl c.in_ok-take_fix-in-Fix.ensures.sound c.in_ok-take_fix-in-Fix.ensures.enrolled c.in_ok-take_fix-in-Fix.ensures.count)

pub returns-in_err-take_fix-in-Fix-clause-refused : goal.returns-in_err-take_fix-in-Fix-clause-refused
returns-in_err-take_fix-in-Fix-clause-refused c =
    let p = err_from_is_err_and c.from_residual-in_err-take_fix-in-Fix.result c.from_residual-in_err-take_fix-in-Fix.ensures.1 in
    rw (p.1, p.2, c.in-Fix.is) (fix_refused c.args.self.now _ c.in-Fix.fix.value _ _ (c.as_slice.ensures.value ∙ ap (λ (f : CompactFix). f.values.items) c.deref.ensures) c.in_err-take_fix-in-Fix.ensures.refused)

pub returns-in_ok-take_round-in-Round-clause-takes : goal.returns-in_ok-take_round-in-Round-clause-takes
returns-in_ok-take_round-in-Round-clause-takes c = rw (c.in-Round.is) (round_taken c.args.self.now _ _ _ _ _ _ c.is_limited.ensures c.in_ok-take_closing-in-Round.ensures.sound c.in_ok-take_round-in-Round.ensures.sound c.in_ok-take_closing-in-Round.ensures.enrolled c.in_ok-take_closing-in-Round.ensures.count c.in_ok-take_round-in-Round.ensures.count c.in_ok-take_round-in-Round.ensures.half_open c.in_ok-take_round-in-Round.ensures.armed)

pub returns-in_err-take_closing-in-Round-clause-refused : goal.returns-in_err-take_closing-in-Round-clause-refused
returns-in_err-take_closing-in-Round-clause-refused c =
    let p = err_from_is_err_and c.from_residual-in_err-take_closing-in-Round.result c.from_residual-in_err-take_closing-in-Round.ensures.1 in
    rw (p.1, p.2, c.in-Round.is) (round_absent c.args.self.now _ _ _ _ _ c.in_err-take_closing-in-Round.ensures.refused)

pub returns-in_err-take_round-in-Round-clause-refused : goal.returns-in_err-take_round-in-Round-clause-refused
returns-in_err-take_round-in-Round-clause-refused c =
    let p = err_from_is_err_and c.from_residual-in_err-take_round-in-Round.result c.from_residual-in_err-take_round-in-Round.ensures.1 in
    rw (p.1, p.2, c.in-Round.is) (round_refused c.args.self.now _ _ _ _ _ _ c.is_limited.ensures c.in_ok-take_closing-in-Round.ensures.sound c.in_err-take_round-in-Round.ensures.refused)

pub returns-in_ok-take_round-in-Drain-clause-takes : goal.returns-in_ok-take_round-in-Drain-clause-takes
returns-in_ok-take_round-in-Drain-clause-takes c = rw c.in-Drain.is (drain_taken c.args.self.now _ _ _ c.in_ok-take_closing-in-Drain.ensures.sound c.in_ok-take_closing-in-Drain.ensures.enrolled c.in_ok-take_closing-in-Drain.ensures.count c.in_ok-take_round-in-Drain.ensures.count c.in_ok-take_round-in-Drain.ensures.half_open c.in_ok-take_round-in-Drain.ensures.armed)

pub returns-in_err-take_closing-in-Drain-clause-refused : goal.returns-in_err-take_closing-in-Drain-clause-refused
returns-in_err-take_closing-in-Drain-clause-refused c =
    let p = err_from_is_err_and c.from_residual-in_err-take_closing-in-Drain.result c.from_residual-in_err-take_closing-in-Drain.ensures.1 in
    rw (p.1, p.2, c.in-Drain.is) (drain_refused c.args.self.now _ _ _ c.in_err-take_closing-in-Drain.ensures.refused)

pub returns-in_ok-take_late-in-Late-clause-takes : goal.returns-in_ok-take_late-in-Late-clause-takes
returns-in_ok-take_late-in-Late-clause-takes c = rw c.in-Late.is (late_taken c.args.self.now _ _ _ refl c.in_ok-take_late-in-Late.ensures.sound c.in_ok-take_late-in-Late.ensures.count c.in_ok-take_late-in-Late.ensures.half_open c.in_ok-take_late-in-Late.ensures.armed)

pub returns-in_err-take_late-in-Late-clause-refused : goal.returns-in_err-take_late-in-Late-clause-refused
returns-in_err-take_late-in-Late-clause-refused c =
    let p = err_from_is_err_and c.from_residual-in_err-take_late-in-Late.result c.from_residual-in_err-take_late-in-Late.ensures.1 in
    rw (p.1, p.2, c.in-Late.is) (late_refused c.args.self.now _ _ _ c.in_err-take_late-in-Late.ensures.refused)

pub returns-in_ok-take_close-in-Close-clause-takes : goal.returns-in_ok-take_close-in-Close-clause-takes
returns-in_ok-take_close-in-Close-clause-takes c = rw c.in-Close.is (close_taken c.args.self.now _ _ refl c.in_ok-take_close-in-Close.ensures.sound c.in_ok-take_close-in-Close.ensures.count c.in_ok-take_close-in-Close.ensures.half_open c.in_ok-take_close-in-Close.ensures.armed)

pub returns-in_err-take_close-in-Close-clause-refused : goal.returns-in_err-take_close-in-Close-clause-refused
returns-in_err-take_close-in-Close-clause-refused c =
    let p = err_from_is_err_and c.from_residual-in_err-take_close-in-Close.result c.from_residual-in_err-take_close-in-Close.ensures.1 in
    rw (p.1, p.2, c.in-Close.is) (close_refused c.args.self.now _ _ c.in_err-take_close-in-Close.ensures.refused)

pub returns-in_ok-take_closing-in-Device-who-clause-takes : goal.returns-in_ok-take_closing-in-Device-who-clause-takes
returns-in_ok-take_closing-in-Device-who-clause-takes c = rw (c.in-Power.is, c.in-Device-who.is) (power_taken c.args.self.now _ _ refl c.in_ok-take_closing-in-Device-who.ensures.sound c.in_ok-take_closing-in-Device-who.ensures.enrolled c.in_ok-take_closing-in-Device-who.ensures.count)

pub returns-in_err-take_closing-in-Device-who-clause-refused : goal.returns-in_err-take_closing-in-Device-who-clause-refused
returns-in_err-take_closing-in-Device-who-clause-refused c =
    let p = err_from_is_err_and c.from_residual-in_err-take_closing-in-Device-who.result c.from_residual-in_err-take_closing-in-Device-who.ensures.1 in
    rw (p.1, p.2, c.in-Power.is, c.in-Device-who.is) (power_refused c.args.self.now _ _ c.in_err-take_closing-in-Device-who.ensures.refused)

pub returns-in_ok-take_closing-in-Device-who-2-clause-takes : goal.returns-in_ok-take_closing-in-Device-who-2-clause-takes
returns-in_ok-take_closing-in-Device-who-2-clause-takes c = rw (c.in-Fuse.is, c.in-Device-who-2.is) (fuse_taken c.args.self.now _ _ _ _ refl c.in_ok-take_closing-in-Device-who-2.ensures.sound c.in_ok-take_closing-in-Device-who-2.ensures.enrolled c.in_ok-take_closing-in-Device-who-2.ensures.count)

pub returns-in_err-take_closing-in-Device-who-2-clause-refused : goal.returns-in_err-take_closing-in-Device-who-2-clause-refused
returns-in_err-take_closing-in-Device-who-2-clause-refused c =
    let p = err_from_is_err_and c.from_residual-in_err-take_closing-in-Device-who-2.result c.from_residual-in_err-take_closing-in-Device-who-2.ensures.1 in
    rw (p.1, p.2, c.in-Fuse.is, c.in-Device-who-2.is) (fuse_refused c.args.self.now _ _ _ _ c.in_err-take_closing-in-Device-who-2.ensures.refused)

pub returns-in-Server-clause-takes : goal.returns-in-Server-clause-takes
returns-in-Server-clause-takes c = rw (c.in-Power.is, c.in-Server.is) (server_power_taken c.args.self.now _ refl c.take_power.ensures.count c.take_power.ensures.half_open c.take_power.ensures.armed)

pub returns-in-Server-who-clause-takes : goal.returns-in-Server-who-clause-takes
returns-in-Server-who-clause-takes c = rw (c.in-Fuse.is, c.in-Server-who.is) (server_fuse_taken c.args.self.now _ _ _ refl c.take_fuse.ensures.count c.take_fuse.ensures.half_open c.take_fuse.ensures.armed)

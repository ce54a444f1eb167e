-- One connection.
use Rattle.std.proofs.Common.{◌∙◌, ap, refl, subst, ℕ}
use Rattle.frame_layout.specs.Items.{IsLogin}
use Rattle.avl_values.specs.Causes.{Rose}
use Rattle.tracker_session.specs.RoundStates.{round_by, starts}
use Rattle.tracker_session.specs.Rounds.{IsRound}
use Rattle.tracker_session.specs.Responses.{ShellMeaning}
use Rattle.tracker_session.specs.Trackers.{TrackerView, dialed}
use Rattle.tracker_session.specs.declared.round.Progress.{Progress}
use Rattle.tracker_session.proofs.Connecting.{round-cut, round-empty, round-talked}
use Rattle.tracker_session.proofs.round.connect.Goals as goal

pub returns-then-held-eq0-clause-round : goal.returns-then-held-eq0-clause-round
returns-then-held-eq0-clause-round g c =
    let m : ShellMeaning g.row.S.Denot = record { says = g.S.Shell.says; obeyed = g.S.Shell.obeyed } in
    let r = round_by c.args.tracker.now c.args.most c.args.shell.now in
    (starts r, round-empty m c.args.tracker.now c.args.most c.args.shell.now (Rose (g.L.Link.state c.args.link.now).faults (g.L.Link.state c.args.link.now).faults) c.fall_silent.new.self c.ring.result.now c.held.result (g.L.Link.state c.args.link.now).told c.fall_silent.ensures c.ring.ensures c.held.ensures.count c.if-held-eq0.true)

pub returns-in-Err-clause-round : goal.returns-in-Err-clause-round
returns-in-Err-clause-round g c =
    let m : ShellMeaning g.row.S.Denot = record { says = g.S.Shell.says; obeyed = g.S.Shell.obeyed } in
    let v = c.args.tracker.now in
    let P : ℕ → Type 0 = λ k. IsLogin k c.dial_in-login.result in
    let login = subst P (ap (λ (z : TrackerView). z.imei) c.fall_silent.ensures) (record { is = c.dial_in-login.ensures.login.is; digits = c.dial_in-login.ensures.login.digits }) in
    let r = round_by v c.args.most c.args.shell.now in (
      starts r,
      round-cut m v c.args.most c.args.shell.now (Rose (g.L.Link.state c.args.link.now).faults (g.L.Link.state c.send.new.link).faults) c.dial_in-login.new.self c.fall_silent-in-Err.new.self c.dial_in-login.result (g.L.Link.state c.args.link.now).told (g.L.Link.state c.send.new.link).told
          (c.dial_in-login.ensures.dialed ∙ ap dialed c.fall_silent.ensures) c.fall_silent-in-Err.ensures login c.in-Err.ensures.part c.in-Err.ensures.cause.failed,
    )

pub returns-clause-round : goal.returns-clause-round
returns-clause-round g c =
    let m : ShellMeaning g.row.S.Denot = record { says = g.S.Shell.says; obeyed = g.S.Shell.obeyed } in
    let v = c.args.tracker.now in
    let P : ℕ → Type 0 = λ k. IsLogin k c.dial_in-login.result in
    let login = subst P (ap (λ (z : TrackerView). z.imei) c.fall_silent.ensures) (record { is = c.dial_in-login.ensures.login.is; digits = c.dial_in-login.ensures.login.digits }) in
    let p : Progress = record { left = c.args.most; orders = 0; done = 0 } in
    let ends = c.listen-ended.ensures.ends in
    let d = ends.1 in
    let Q : ℕ → Type 0 = λ k. IsRound m (round_by v c.args.most c.args.shell.now) (Rose k (g.L.Link.state c.listen-ended.new.link).faults) d v.ring c.fall_silent-2.new.self.ring c.listen-ended.new.shell (g.L.Link.state c.args.link.now).told (g.L.Link.state c.listen-ended.new.link).told c.listen-ended.result in (
      d,
      subst Q c.in-Ok.ensures.cause.passed (round-talked m v c.args.most c.args.shell.now (Rose (g.L.Link.state c.send.new.link).faults (g.L.Link.state c.listen-ended.new.link).faults) c.dial_in-login.new.self c.listen-ended.new.tracker c.fall_silent-2.new.self p c.dial_in-login.result ends.0 d c.listen-ended.result c.listen-ended.new.shell
          (g.L.Link.state c.args.link.now).told (g.L.Link.state c.send.new.link).told (g.L.Link.state c.listen-ended.new.link).told (c.dial_in-login.ensures.dialed ∙ ap dialed c.fall_silent.ensures) c.fall_silent-2.ensures refl login c.in-Ok.ensures.whole ends.2 ends.3),
    )

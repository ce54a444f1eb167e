-- What the round did to the records that are held, and what of it the link's bytes tell.
use Rattle.std.proofs.Common.{refl}
use Rattle.avl_values.specs.Causes.{Rose}
use Rattle.flash_ring.specs.Ring.{IsDurable}
use Rattle.tracker_session.specs.Responses.{ShellMeaning}
use Rattle.tracker_session.specs.RoundStates.{round_by}
use Rattle.tracker_session.proofs.Draining.{done-drained, is-drained}
use Rattle.tracker_session.proofs.Releasing.{rounds-ring}
use Rattle.tracker_session.proofs.Telling.{round-talks}
use Rattle.tracker_session.proofs.tracker.Tracker.round.Goals as goal

pub returns-clause-round : goal.returns-clause-round
returns-clause-round g c =
    let m : ShellMeaning g.row.S.Denot = record { says = g.S.Shell.says; obeyed = g.S.Shell.obeyed } in
    let r = round_by c.args.self.now c.args.most c.args.shell.now in
    let rose = Rose (g.L.Link.state c.args.link.now).faults (g.L.Link.state c.connect.new.link).faults in
    let goes = c.connect.ensures.round in
    record {
      state = goes.0;
      goes = goes.1;
      ring = rounds-ring m r c.args.self.now.ring (c.is_down-durable.ensures.durable c.requires.up) refl rose c.connect.result goes.0 c.connect.new.tracker.ring c.connect.new.shell _ _ goes.1;
      drained = is-drained m r rose c.connect.result goes.0 c.args.self.now.ring c.connect.new.tracker.ring c.connect.new.shell _ _ goes.1;
    }

pub returns-clause-talks : goal.returns-clause-talks
returns-clause-talks g c =
    let m : ShellMeaning g.row.S.Denot = record { says = g.S.Shell.says; obeyed = g.S.Shell.obeyed } in
    let r = round_by c.args.self.now c.args.most c.args.shell.now in
    let rose = Rose (g.L.Link.state c.args.link.now).faults (g.L.Link.state c.connect.new.link).faults in
    let goes = c.connect.ensures.round in
    let durable : IsDurable c.args.self.now.ring = c.is_down-durable.ensures.durable c.requires.up in
    let ring = rounds-ring m r c.args.self.now.ring durable refl rose c.connect.result goes.0 c.connect.new.tracker.ring c.connect.new.shell _ _ goes.1 in
    λ steady some. round-talks m r durable.sound c.args.self.now.ring c.connect.new.tracker.ring c.connect.new.shell rose steady (λ none. some (c.connect.ensures.empty.1 none)) c.requires.some refl c.connect.result goes.0
    (g.L.Link.state c.args.link.now).told (g.L.Link.state c.connect.new.link).told goes.1 ring

pub returns-clause-drained : goal.returns-clause-drained
returns-clause-drained g c =
    let m : ShellMeaning g.row.S.Denot = record { says = g.S.Shell.says; obeyed = g.S.Shell.obeyed } in
    let r = round_by c.args.self.now c.args.most c.args.shell.now in
    let rose = Rose (g.L.Link.state c.args.link.now).faults (g.L.Link.state c.connect.new.link).faults in
    let goes = c.connect.ensures.round in
    λ n is. done-drained m r rose n goes.0 c.args.self.now.ring c.connect.new.tracker.ring c.connect.new.shell _ _ c.connect.result is goes.1

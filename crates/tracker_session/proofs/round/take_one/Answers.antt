-- What was heard says what a reaction needs, and after it less is left.
use Rattle.std.proofs.Common.{nat_lt, subst}
use Rattle.tracker_session.specs.Hearing.{HearsSome}
use Rattle.tracker_session.specs.Responses.{ShellMeaning}
use Rattle.tracker_session.specs.declared.heard.Hearing.{Hearing}
use Rattle.tracker_session.proofs.TurnSteps.{can-react, lessens}
use Rattle.tracker_session.proofs.round.take_one.Goals as goal

pub react-ended-requires : goal.react-ended-requires
react-ended-requires g c =
    let m : ShellMeaning g.row.S.Denot = record { says = g.S.Shell.says; obeyed = g.S.Shell.obeyed } in
    let P : Hearing → Type 0 = λ h. HearsSome m (nat_lt c.args.progress.now.orders 16) c.args.tracker.now c.hear_some-n.new.self c.args.rest.now c.hear_some-n.result.0 h c.args.shell.now c.hear_some-n.new.shell c.hear_some-n.new.out.items in
    let hears = subst P c.in-Done.is c.hear_some-n.ensures.hears in
    can-react m c.args.tracker.now c.hear_some-n.new.self c.args.rest.now c.hear_some-n.result.0 c.args.shell.now c.hear_some-n.new.shell c.args.progress.now c.requires.ready c.in-Done.heard c.hear_some-n.new.out.items hears c.requires.records

pub returns-in-Done-clause-less : goal.returns-in-Done-clause-less
returns-in-Done-clause-less g c =
    let m : ShellMeaning g.row.S.Denot = record { says = g.S.Shell.says; obeyed = g.S.Shell.obeyed } in
    let P : Hearing → Type 0 = λ h. HearsSome m (nat_lt c.args.progress.now.orders 16) c.args.tracker.now c.hear_some-n.new.self c.args.rest.now c.hear_some-n.result.0 h c.args.shell.now c.hear_some-n.new.shell c.hear_some-n.new.out.items in
    let hears = subst P c.in-Done.is c.hear_some-n.ensures.hears in
    lessens m c.args.tracker.now c.hear_some-n.new.self c.args.rest.now c.hear_some-n.result.0 c.args.shell.now c.hear_some-n.new.shell c.args.progress.now c.requires.ready c.in-Done.heard c.react-ended.result
    c.react-ended.new.tracker c.hear_some-n.new.out.items c.deref.result.now c.react-ended.new.progress _ _ hears c.react-ended.ensures.reacts (hears.0.some c.requires.some) c.requires.orders

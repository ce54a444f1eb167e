-- What was taken is heard item by item.
use Rattle.std.proofs.Common.{inl, ap, ◌≤◌, ◌+◌, ◌++◌, ◌∙◌, [], List, ℕ, length, take, drop, IfNone, Some, Result, ◌-◌, append-nil, arith, refl, sym, subst}
use Rattle.std.proofs.lemmas.List.{length-take}
use Rattle.avl_values.specs.Causes.{Rose}
use Rattle.links.specs.Links.{Moves}
use Rattle.avl_values.specs.declared.errors.MediumFault.{MediumFault}
use Rattle.tracker_session.specs.declared.round_end.RoundEnd.{RoundEnd}
use Rattle.tracker_session.specs.Responses.{ShellMeaning}
use Rattle.tracker_session.specs.RoundStates.{round_of}
use Rattle.tracker_session.specs.Turns.{Takes, Ending, IsReady, Lessens}
use Rattle.tracker_session.proofs.Going.{goes-on}
use Rattle.tracker_session.proofs.Listening.{all-taken, goes-as, goes-none, goes-read, heard-more, piece-bytes}
use Rattle.tracker_session.proofs.Stopping.{ends-read, ends-with}
use Rattle.tracker_session.proofs.round.listen.Goals as goal

pub reads-init : goal.reads-init
reads-init g c =
    let m : ShellMeaning g.row.S.Denot = record { says = g.S.Shell.says; obeyed = g.S.Shell.obeyed } in (
      [],
      goes-none m c.args.tracker.now c.args.progress.now c.args.shell.now (g.L.Link.state c.args.link.now).told c.requires.ready c.requires.begins,
      refl,
      (let none = c.requires.begins.orders in omega arith),
      c.requires.records,
      omega arith,
      g.met.L.Link.follows_none c.args.link.now,
      record { imei = refl; order = refl },
    )

pub items-init : goal.items-init
items-init g c =
    let m : ShellMeaning g.row.S.Denot = record { says = g.S.Shell.says; obeyed = g.S.Shell.obeyed } in
    let inv = c.reads.invariant in
    let r = round_of c.args.tracker.now c.args.progress.now c.args.shell.now in (
      inv.0,
      goes-read m r inv.0 (inv.0 ++ []) inv.0 (take c.in-Ok.count c.read.new.into) c.args.tracker.now.ring c.reads.tracker c.reads.progress c.reads.shell (g.L.Link.state c.args.link.now).told (g.L.Link.state c.reads.link).told (g.L.Link.state c.read.new.self).told
          (sym (append-nil inv.0)) inv.1 c.in-Ok.ensures.took,
      omega arith,
      c.in-Ok.ensures.bound,
      c.read.auto.into ∙ inv.2,
      omega arith,
      (λ some. absurd (omega arith)),
      inv.3,
      inv.4,
      c.in-Ok.ensures.cause.passed ∙ inv.5,
      g.met.L.Link.follows_then c.args.link.now c.reads.link c.read.new.self inv.6 c.read.ensures.follows,
      inv.7,
    )

pub returns-in-Err-clause-ends : goal.returns-in-Err-clause-ends
returns-in-Err-clause-ends g c =
    let m : ShellMeaning g.row.S.Denot = record { says = g.S.Shell.says; obeyed = g.S.Shell.obeyed } in
    let inv = c.reads.invariant in
    let r = round_of c.args.tracker.now c.args.progress.now c.args.shell.now in (
      inv.0,
      inv.1.state,
      inv.1.bytes_heard,
      inl (ends-read m r inv.0 c.args.tracker.now.ring c.reads.tracker c.reads.progress c.reads.shell (g.L.Link.state c.args.link.now).told (g.L.Link.state c.reads.link).told (g.L.Link.state c.read.new.self).told inv.1 c.in-Err.ensures.failed),
    )

pub returns-then-count-eq0-clause-ends : goal.returns-then-count-eq0-clause-ends
returns-then-count-eq0-clause-ends g c =
    let m : ShellMeaning g.row.S.Denot = record { says = g.S.Shell.says; obeyed = g.S.Shell.obeyed } in
    let inv = c.reads.invariant in
    let r = round_of c.args.tracker.now c.args.progress.now c.args.shell.now in
    let y = (g.L.Link.state c.reads.link).told in
    let z = (g.L.Link.state c.read.new.self).told in
    let P : ℕ → Type 0 = λ k. Moves (take k c.read.new.into) [] y z in (
      inv.0,
      inv.1.state,
      inv.1.bytes_heard,
      inl (ends-read m r inv.0 c.args.tracker.now.ring c.reads.tracker c.reads.progress c.reads.shell (g.L.Link.state c.args.link.now).told y z inv.1 (subst P c.if-count-eq0.true c.in-Ok.ensures.took)),
    )

pub returns-in-Some-clause-ends : goal.returns-in-Some-clause-ends
returns-in-Some-clause-ends g c =
    let m : ShellMeaning g.row.S.Denot = record { says = g.S.Shell.says; obeyed = g.S.Shell.obeyed } in
    let inv = c.items.invariant in
    let r = round_of c.args.tracker.now c.args.progress.now c.args.shell.now in
    let buffer : List ℕ = c.read.new.into in
    let at : ℕ = c.items.at in
    let count : ℕ = c.in-Ok.count in
    let n : ℕ = c.take_one-n.result.0 in
    let x = (g.L.Link.state c.args.link.now).told in
    let y = (g.L.Link.state c.items.link).told in
    let z = (g.L.Link.state c.take_one-n.new.link).told in
    let fits = inv.2 in
    let took : n ≤ length (take (count - at) (drop at buffer)) = c.take_one-n.ensures.took.1 in
    let within : at + n ≤ count = omega (arith, length-take (count - at) (drop at buffer)) in
    let P : Ending → Type 0 = λ e. Takes m e c.items.tracker c.take_one-n.new.tracker (take (count - at) (drop at buffer)) n c.items.shell c.take_one-n.new.shell c.items.progress c.take_one-n.new.progress y z in
    let ends = ends-with m r (inv.0 ++ take at buffer) (inv.0 ++ take count buffer) (take (count - at) (drop at buffer)) (drop (at + n) (take count buffer)) n c.args.tracker.now.ring c.items.tracker c.items.progress c.items.shell x y inv.1
    (all-taken inv.0 buffer at n count within) (Rose (g.L.Link.state c.args.link.now).faults (g.L.Link.state c.take_one-n.new.link).faults) c.in-Some.end c.take_one-n.new.tracker c.take_one-n.new.progress c.take_one-n.new.shell z (subst P c.in-Some.is c.take_one-n.ensures.takes)
    (λ broken. let faults = inv.9 in let rose = c.take_one-n.ensures.broken.cause (c.in-Some.is ∙ ap (λ (e : Result RoundEnd MediumFault). Some e) broken) in omega arith) in (
      inv.0 ++ take count buffer,
      ends.0,
      piece-bytes inv.0 buffer at count fits inv.1.bytes_heard c.take_one-n.ensures.bytes,
      ends.1,
    )

pub items-preserved : goal.items-preserved
items-preserved g c =
    let m : ShellMeaning g.row.S.Denot = record { says = g.S.Shell.says; obeyed = g.S.Shell.obeyed } in
    let inv = c.items.invariant in
    let r = round_of c.args.tracker.now c.args.progress.now c.args.shell.now in
    let buffer : List ℕ = c.read.new.into in
    let at : ℕ = c.items.at in
    let count : ℕ = c.in-Ok.count in
    let n : ℕ = c.take_one-n.result.0 in
    let x = (g.L.Link.state c.args.link.now).told in
    let y = (g.L.Link.state c.items.link).told in
    let z = (g.L.Link.state c.take_one-n.new.link).told in
    let fits = inv.2 in
    let took : n ≤ length (take (count - at) (drop at buffer)) = c.take_one-n.ensures.took.1 in
    let within : at + n ≤ count = omega (arith, length-take (count - at) (drop at buffer)) in
    let P : Ending → Type 0 = λ e. Takes m e c.items.tracker c.take_one-n.new.tracker (take (count - at) (drop at buffer)) n c.items.shell c.take_one-n.new.shell c.items.progress c.take_one-n.new.progress y z in
    let Q : Ending → Type 0 = λ e. IfNone e (IsReady c.take_one-n.new.tracker) in
    let R : Ending → Type 0 = λ e. IfNone e (Lessens c.items.tracker c.take_one-n.new.tracker c.items.progress c.take_one-n.new.progress) in
    let less = subst R c.in-None.is c.take_one-n.ensures.less in
    let most = inv.5 in
    let records = inv.8 in
    let fewer = less.budget in
    let same = less.records in (
      inv.0,
      goes-as m r ((inv.0 ++ take at buffer) ++ take n (take (count - at) (drop at buffer))) (inv.0 ++ take (at + n) buffer) (inv.0 ++ take count buffer) c.args.tracker.now.ring c.take_one-n.new.tracker c.take_one-n.new.progress c.take_one-n.new.shell x z (heard-more inv.0 buffer at n count within)
          (goes-on m r (inv.0 ++ take at buffer) (inv.0 ++ take count buffer) (take (count - at) (drop at buffer)) n c.args.tracker.now.ring c.items.tracker c.take_one-n.new.tracker c.items.progress c.take_one-n.new.progress c.items.shell c.take_one-n.new.shell x y z inv.1 c.take_one-n.ensures.bytes
          (subst P c.in-None.is c.take_one-n.ensures.takes) (subst Q c.in-None.is c.take_one-n.ensures.ready)),
      within,
      inv.3,
      inv.4,
      omega arith,
      (λ _. omega arith),
      less.orders,
      omega arith,
      c.take_one-n.ensures.broken.passed (λ broken. let none = sym c.in-None.is ∙ broken in cc) ∙ inv.9,
      g.met.L.Link.follows_then c.args.link.now c.items.link c.take_one-n.new.link inv.10 c.take_one-n.ensures.follows,
      record { imei = c.take_one-n.ensures.same.imei ∙ inv.11.imei; order = c.take_one-n.ensures.same.order ∙ inv.11.order },
    )

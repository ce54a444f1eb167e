-- An item was taken, and what follows from it is done.
use Rattle.std.proofs.Common.{refl, subst, false, []}
use Rattle.frame_layout.specs.Values.{answer, count, order}
use Rattle.frame_channel.specs.declared.down_item.DownItem.TheVariants as down
use Rattle.tracker_session.specs.Hearing.{Hears, HearsUnobeyed}
use Rattle.tracker_session.specs.declared.heard.Heard.TheVariants as heard
use Rattle.tracker_session.specs.Responses.{ShellMeaning}
use Rattle.tracker_session.specs.Trackers.{TrackerView}
use Rattle.tracker_session.proofs.HearSteps.{answer-not_obeyed, count-not_obeyed, takes-said, item-tracker, heard-answer, heard-count, heard-order, heard-unobeyed}
use Rattle.tracker_session.proofs.Silence.{with_reader}
use Rattle.tracker_session.proofs.tracker.Tracker.hear_some.Goals as goal

pub invariant_of-self-in-Login : goal.invariant_of-self-in-Login
invariant_of-self-in-Login g c =
    let v : TrackerView = record { imei = c.self.inside.imei; ring = c.self.inside.ring; order = c.self.inside.order; talking = c.self.inside.talking; answered = false; batch = c.self.inside.batch.items; have = [] } in
    let m : ShellMeaning g.row.S.Denot = record { says = g.S.Shell.says; obeyed = g.S.Shell.obeyed } in
    let r = c.self.inside.reader in
    let q = c.push-n.new.self in
    let piece = c.args.piece.now in
    let n = c.push-n.result.0 in
    let t = takes-said m v r q piece n c.push-n.result.1 (down.Login c.in-Login.byte) (answer c.in-Login.byte) c.in-Login.is refl c.push-n.ensures.pushed in
    item-tracker v r q piece n (answer c.in-Login.byte) c.self.invariant.0 c.self.invariant.1 t

pub invariant_of-self-in-Count : goal.invariant_of-self-in-Count
invariant_of-self-in-Count g c =
    let v : TrackerView = record { imei = c.self.inside.imei; ring = c.self.inside.ring; order = c.self.inside.order; talking = c.self.inside.talking; answered = false; batch = c.self.inside.batch.items; have = [] } in
    let m : ShellMeaning g.row.S.Denot = record { says = g.S.Shell.says; obeyed = g.S.Shell.obeyed } in
    let r = c.self.inside.reader in
    let q = c.push-n.new.self in
    let piece = c.args.piece.now in
    let n = c.push-n.result.0 in
    let t = takes-said m v r q piece n c.push-n.result.1 (down.Count c.in-Count.count) (count c.in-Count.count) c.in-Count.is refl c.push-n.ensures.pushed in
    item-tracker v r q piece n (count c.in-Count.count) c.self.invariant.0 c.self.invariant.1 t

pub invariant_of-self-then-not-obeys : goal.invariant_of-self-then-not-obeys
invariant_of-self-then-not-obeys g c =
    let v : TrackerView = record { imei = c.self.inside.imei; ring = c.self.inside.ring; order = c.self.inside.order; talking = c.self.inside.talking; answered = false; batch = c.self.inside.batch.items; have = [] } in
    let m : ShellMeaning g.row.S.Denot = record { says = g.S.Shell.says; obeyed = g.S.Shell.obeyed } in
    let r = c.self.inside.reader in
    let q = c.push-n.new.self in
    let piece = c.args.piece.now in
    let n = c.push-n.result.0 in
    let t = takes-said m v r q piece n c.push-n.result.1 (down.Order) (order q.body) c.in-Order.is refl c.push-n.ensures.pushed in
    item-tracker v r q piece n (order q.body) c.self.invariant.0 c.self.invariant.1 t

pub invariant_of-self-in-Order : goal.invariant_of-self-in-Order
invariant_of-self-in-Order g c =
    let v : TrackerView = record { imei = c.self.inside.imei; ring = c.self.inside.ring; order = c.self.inside.order; talking = c.self.inside.talking; answered = false; batch = c.self.inside.batch.items; have = [] } in
    let m : ShellMeaning g.row.S.Denot = record { says = g.S.Shell.says; obeyed = g.S.Shell.obeyed } in
    let r = c.self.inside.reader in
    let q = c.push-n.new.self in
    let piece = c.args.piece.now in
    let n = c.push-n.result.0 in
    let t = takes-said m v r q piece n c.push-n.result.1 (down.Order) (order q.body) c.in-Order.is refl c.push-n.ensures.pushed in
    item-tracker v r q piece n (order q.body) c.self.invariant.0 c.self.invariant.1 t

pub returns-in-Login-clause-hears : goal.returns-in-Login-clause-hears
returns-in-Login-clause-hears g c =
    let v : TrackerView = record { imei = c.self.inside.imei; ring = c.self.inside.ring; order = c.self.inside.order; talking = c.self.inside.talking; answered = false; batch = c.self.inside.batch.items; have = [] } in
    let m : ShellMeaning g.row.S.Denot = record { says = g.S.Shell.says; obeyed = g.S.Shell.obeyed } in
    let r = c.self.inside.reader in
    let q = c.push-n.new.self in
    let piece = c.args.piece.now in
    let n = c.push-n.result.0 in
    let t = takes-said m v r q piece n c.push-n.result.1 (down.Login c.in-Login.byte) (answer c.in-Login.byte) c.in-Login.is refl c.push-n.ensures.pushed in
    let P : TrackerView → Type 0 = λ u. Hears m u c.hear_answer.new.self piece n c.hear_answer.result c.args.shell.now c.args.shell.now c.clear.new.self.items in (
      subst P c.self.view_is (heard-answer m v r q piece n c.in-Login.byte c.hear_answer.result c.hear_answer.new.self c.args.shell.now c.clear.new.self.items t c.clear.ensures c.hear_answer.ensures.hears),
      answer-not_obeyed c.hear_answer.result c.in-Login.byte _ _ c.args.obeys c.hear_answer.ensures.hears,
    )

pub returns-in-Count-clause-hears : goal.returns-in-Count-clause-hears
returns-in-Count-clause-hears g c =
    let v : TrackerView = record { imei = c.self.inside.imei; ring = c.self.inside.ring; order = c.self.inside.order; talking = c.self.inside.talking; answered = false; batch = c.self.inside.batch.items; have = [] } in
    let m : ShellMeaning g.row.S.Denot = record { says = g.S.Shell.says; obeyed = g.S.Shell.obeyed } in
    let r = c.self.inside.reader in
    let q = c.push-n.new.self in
    let piece = c.args.piece.now in
    let n = c.push-n.result.0 in
    let t = takes-said m v r q piece n c.push-n.result.1 (down.Count c.in-Count.count) (count c.in-Count.count) c.in-Count.is refl c.push-n.ensures.pushed in
    let P : TrackerView → Type 0 = λ u. Hears m u c.hear_count.new.self piece n c.hear_count.result c.args.shell.now c.args.shell.now c.clear.new.self.items in (
      subst P c.self.view_is (heard-count m v r q piece n c.in-Count.count c.hear_count.result c.hear_count.new.self c.args.shell.now c.clear.new.self.items t c.clear.ensures c.hear_count.ensures.hears),
      count-not_obeyed c.hear_count.result c.in-Count.count _ _ c.args.obeys c.hear_count.ensures.hears,
    )

pub returns-then-not-obeys-clause-hears : goal.returns-then-not-obeys-clause-hears
returns-then-not-obeys-clause-hears g c =
    let v : TrackerView = record { imei = c.self.inside.imei; ring = c.self.inside.ring; order = c.self.inside.order; talking = c.self.inside.talking; answered = false; batch = c.self.inside.batch.items; have = [] } in
    let m : ShellMeaning g.row.S.Denot = record { says = g.S.Shell.says; obeyed = g.S.Shell.obeyed } in
    let r = c.self.inside.reader in
    let q = c.push-n.new.self in
    let piece = c.args.piece.now in
    let n = c.push-n.result.0 in
    let t = takes-said m v r q piece n c.push-n.result.1 (down.Order) (order q.body) c.in-Order.is refl c.push-n.ensures.pushed in
    let P : TrackerView → Type 0 = λ u. HearsUnobeyed u c.fall_silent.new.self piece n in
    (subst P c.self.view_is (heard-unobeyed m v r q piece n c.fall_silent.new.self t c.fall_silent.ensures), refl, c.if-not-obeys.true)

pub returns-else-not-obeys-clause-hears : goal.returns-else-not-obeys-clause-hears
returns-else-not-obeys-clause-hears g c =
    let v : TrackerView = record { imei = c.self.inside.imei; ring = c.self.inside.ring; order = c.self.inside.order; talking = c.self.inside.talking; answered = false; batch = c.self.inside.batch.items; have = [] } in
    let m : ShellMeaning g.row.S.Denot = record { says = g.S.Shell.says; obeyed = g.S.Shell.obeyed } in
    let r = c.self.inside.reader in
    let q = c.push-n.new.self in
    let piece = c.args.piece.now in
    let n = c.push-n.result.0 in
    let t = takes-said m v r q piece n c.push-n.result.1 (down.Order) (order q.body) c.in-Order.is refl c.push-n.ensures.pushed in
    let P : TrackerView → Type 0 = λ u. Hears m u (with_reader v q) piece n heard.Answer c.args.shell.now c.answer.new.shell c.answer.new.out.items in
    (subst P c.self.view_is (heard-order m v r q piece n c.body.result.now c.args.shell.now c.answer.new.shell c.answer.new.out.items t c.body.ensures c.answer.ensures.shell c.answer.ensures.frame), λ _. c.if-not-obeys.false)

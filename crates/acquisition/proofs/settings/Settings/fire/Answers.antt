use Rattle.std.proofs.Common.{length, sym, ap, subst, ◌∙◌, arith}
use Rattle.acquisition.specs.Checked.{AreChecked, AreNarrow}
use Rattle.acquisition.specs.Firing.{fired, remembered, seen}
use Rattle.acquisition.specs.Settings.{AcquisitionSettings}
use Rattle.acquisition.proofs.FiringLaws.{fired_narrow, remembered_watched, seen_watched, watched_length}
use Rattle.acquisition.proofs.SettingLaws.{checked}
use Rattle.acquisition.proofs.Together.{fit_together}
use Rattle.acquisition.proofs.settings.Settings.fire.Goals as goal

pub returns-clause-narrow : goal.returns-clause-narrow
returns-clause-narrow c =
    let settings = c.args.self.now in
    let are : AreChecked settings.codec settings.ios = subst (λ (s : AcquisitionSettings). AreChecked s.codec s.ios) c.self.view_is (checked c.self.inside.codec c.self.inside.ios.items c.self.invariant) in
    subst (AreNarrow settings.codec) (sym (c.fired.ensures.fired ∙ ap (λ ws. fired ws c.args.values.now) c.requires.watched))
    (fired_narrow settings.codec settings.ios (seen c.args.watches.now) c.args.values.now are.narrow)

pub fired-requires-clause-same : goal.fired-requires-clause-same
fired-requires-clause-same c =
    ap length c.requires.watched ∙ watched_length c.args.self.now.ios (seen c.args.watches.now) ∙ fit_together c.args.self.now.ios c.args.values.now c.requires.fit

pub fired-requires-clause-few : goal.fired-requires-clause-few
fired-requires-clause-few c =
    let settings = c.args.self.now in
    let are : AreChecked settings.codec settings.ios = subst (λ (s : AcquisitionSettings). AreChecked s.codec s.ios) c.self.view_is (checked c.self.inside.codec c.self.inside.ios.items c.self.invariant) in
    omega (arith, ap length c.requires.watched, watched_length settings.ios (seen c.args.watches.now), are.few)

pub returns-clause-remembers : goal.returns-clause-remembers
returns-clause-remembers c =
    let ios = c.args.self.now.ios in
    c.fired.ensures.remembers ∙ ap (λ ws. remembered ws c.args.values.now) c.requires.watched
    ∙ remembered_watched ios (seen c.args.watches.now) c.args.values.now (fit_together ios c.args.values.now c.requires.fit)

pub returns-clause-seen : goal.returns-clause-seen
returns-clause-seen c =
    let ios = c.args.self.now.ios in
    let same = fit_together ios c.args.values.now c.requires.fit in
    ap seen (c.fired.ensures.remembers ∙ ap (λ ws. remembered ws c.args.values.now) c.requires.watched ∙ remembered_watched ios (seen c.args.watches.now) c.args.values.now same)
    ∙ seen_watched ios c.args.values.now same

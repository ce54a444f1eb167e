use Rattle.std.proofs.Common.{◌≡◌, ap, subst, ◌∙◌}
use Rattle.acquisition.specs.Checked.{AreChecked}
use Rattle.acquisition.specs.Elements.{elements}
use Rattle.acquisition.specs.Made.{in_codec}
use Rattle.acquisition.specs.Settings.{AcquisitionSettings}
use Rattle.acquisition.proofs.SettingLaws.{checked}
use Rattle.acquisition.proofs.DraftLaws.{draft_narrow, draft_room}
use Rattle.acquisition.proofs.settings.Settings.draft.Goals as goal

pub returns-clause-narrow : goal.returns-clause-narrow
returns-clause-narrow c =
    let settings = c.args.self.now in
    let values = c.args.fix.now.values.items in
    let are : AreChecked settings.codec settings.ios = subst (λ (s : AcquisitionSettings). AreChecked s.codec s.ios) c.self.view_is (checked c.self.inside.codec c.self.inside.ios.items c.self.invariant) in
    let items : c.elements.result.items ≡ elements settings.ios values =
    c.elements.ensures ∙ ap (λ x. elements x c.as_slice-2.result.now) (c.as_slice.ensures.value ∙ ap (λ (s : AcquisitionSettings). s.ios) c.self.view_is) ∙ ap (elements settings.ios) c.as_slice-2.ensures.value in
    draft_narrow settings.codec settings.ios values _ are c.requires items

pub returns-clause-room : goal.returns-clause-room
returns-clause-room c =
    let settings = c.args.self.now in
    let values = c.args.fix.now.values.items in
    let are : AreChecked settings.codec settings.ios = subst (λ (s : AcquisitionSettings). AreChecked s.codec s.ios) c.self.view_is (checked c.self.inside.codec c.self.inside.ios.items c.self.invariant) in
    let items : c.elements.result.items ≡ elements settings.ios values =
    c.elements.ensures ∙ ap (λ x. elements x c.as_slice-2.result.now) (c.as_slice.ensures.value ∙ ap (λ (s : AcquisitionSettings). s.ios) c.self.view_is) ∙ ap (elements settings.ios) c.as_slice-2.ensures.value in
    let generation : c.in_codec.result ≡ in_codec settings.codec c.args.generation = c.in_codec.ensures ∙ ap (λ (s : AcquisitionSettings). in_codec s.codec c.args.generation) c.self.view_is in
    draft_room settings.codec settings.ios values _ c.args.generation are c.requires items c.new.ensures generation

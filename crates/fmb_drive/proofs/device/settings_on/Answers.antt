use Rattle.std.proofs.Common.{◌≡◌, ◌+◌, ◌++◌, take, sym, ap, ◌∙◌, append-nil}
use Rattle.std.specs.List.{filter_map}
use Rattle.trial_model.specs.Script.{lines_of, setting_on}
use Rattle.fmb_drive.proofs.Devices.{no_setting, other_setting, own_setting, settings_more}
use Rattle.fmb_drive.proofs.device.settings_on.Goals.{in-Setting+then-eq+in_ok-push-in-Setting, in-Setting+else-eq, in_default}
use Rattle.fmb_drive.proofs.device.settings_on.Goals as goal

pub loop-i-preserved : goal.loop-i-preserved
loop-i-preserved c = elim c.match-line_at.branch as (λ _. c.match-line_at.settings.items ≡ filter_map (setting_on c.args.imei) (lines_of (take (c.loop-i.i + 1) c.args.script.now))) [
  | in-Setting+then-eq+in_ok-push-in-Setting w ↦
      settings_more c.args.imei c.args.script.now c.loop-i.i c.line_at.result c.loop-i.settings.items c.match-line_at.settings.items c.line_at.ensures c.loop-i.invariant
      (ap (λ v. v.items) w.settings-is ∙ w.in_ok-push-in-Setting.ensures.items
      ∙ ap (λ l. c.loop-i.settings.items ++ l) (sym (own_setting c.args.imei w.in-Setting.who w.in-Setting.setting c.line_at.result w.in-Setting.is (sym w.eq.ensures ∙ w.if-eq.true))))
  | in-Setting+else-eq w ↦
      settings_more c.args.imei c.args.script.now c.loop-i.i c.line_at.result c.loop-i.settings.items c.match-line_at.settings.items c.line_at.ensures c.loop-i.invariant
      (ap (λ v. v.items) w.settings-is ∙ sym (append-nil c.loop-i.settings.items)
      ∙ ap (λ l. c.loop-i.settings.items ++ l) (sym (other_setting c.args.imei w.in-Setting.who w.in-Setting.setting c.line_at.result w.in-Setting.is (sym w.eq.ensures ∙ w.if-eq.false))))
  | in_default w ↦
      settings_more c.args.imei c.args.script.now c.loop-i.i c.line_at.result c.loop-i.settings.items c.match-line_at.settings.items c.line_at.ensures c.loop-i.invariant
      (ap (λ v. v.items) w.settings-is ∙ sym (append-nil c.loop-i.settings.items) ∙ ap (λ l. c.loop-i.settings.items ++ l) (sym (no_setting c.args.imei c.line_at.result w.in_default.not-Setting)))
]

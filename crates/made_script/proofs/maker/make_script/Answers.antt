use Rattle.std.proofs.Common.{List, sym, subst, ap, ◌∙◌}
use Rattle.std.specs.List.{enumerate_from}
use Rattle.trial_model.specs.declared.script.ScriptLine.{ScriptLine}
use Rattle.journey_script.specs.Grammar.{IsScript}
use Rattle.made_script.proofs.MadeScript.{made_is_script, whole_lines}
use Rattle.made_script.proofs.maker.make_script.Goals as goal

pub returns-in_err-push_device_lines-clause-is_script : goal.returns-in_err-push_device_lines-clause-is_script
returns-in_err-push_device_lines-clause-is_script c = made_is_script c.args.seed c.args.devices c.args.fixes c.requires.least_devices c.requires.most_devices c.requires.most_fixes

pub returns-in_err-push_turns-clause-is_script : goal.returns-in_err-push_turns-clause-is_script
returns-in_err-push_turns-clause-is_script c = made_is_script c.args.seed c.args.devices c.args.fixes c.requires.least_devices c.requires.most_devices c.requires.most_fixes

pub returns-in_err-push_drain_lines-clause-is_script : goal.returns-in_err-push_drain_lines-clause-is_script
returns-in_err-push_drain_lines-clause-is_script c = made_is_script c.args.seed c.args.devices c.args.fixes c.requires.least_devices c.requires.most_devices c.requires.most_fixes

pub finish-requires : goal.finish-requires
finish-requires c =
    let whole = whole_lines c.args.seed c.args.devices c.args.fixes c.from-devices.result _ _ _ _ c.from-devices.ensures c.new-draft.ensures c.in_ok-push_device_lines.ensures.lines c.in_ok-push_turns.ensures.lines c.in_ok-push_drain_lines.ensures in
    subst (λ (ls : List ScriptLine). IsScript (enumerate_from 1 ls)) (sym whole) (made_is_script c.args.seed c.args.devices c.args.fixes c.requires.least_devices c.requires.most_devices c.requires.most_fixes)

pub returns-clause-made : goal.returns-clause-made
returns-clause-made c =
    let whole = whole_lines c.args.seed c.args.devices c.args.fixes c.from-devices.result _ _ _ _ c.from-devices.ensures c.new-draft.ensures c.in_ok-push_device_lines.ensures.lines c.in_ok-push_turns.ensures.lines c.in_ok-push_drain_lines.ensures in
    c.finish.ensures ∙ ap (λ (ls : List ScriptLine). enumerate_from 1 ls) whole

pub returns-clause-is_script : goal.returns-clause-is_script
returns-clause-is_script c = made_is_script c.args.seed c.args.devices c.args.fixes c.requires.least_devices c.requires.most_devices c.requires.most_fixes

use Rattle.std.proofs.Common.{inr, sym, ◌∙◌}
use Rattle.fmb_drive.proofs.Texts.{faulty_by, tells_none, text_driven, text_idle, text_no_memory, text_refused}
use Rattle.fmb_drive.proofs.driving.drive_text.Goals as goal

pub returns-in-Err-Line : goal.returns-in-Err-Line
returns-in-Err-Line g c =
    text_refused c.args.address.now c.args.flash.now c.args.text.now c.in-Err-Line.line c.in-Err-Line.kind _ _ _ (faulty_by c.args.text.now c.in-Err-Line.field-0 c.in-Err-Line.line c.in-Err-Line.kind c.in-Err-Line.field-0-is c.in-Err-Line.ensures.refused) c.refuse.ensures.among c.refuse.ensures.refused c.refuse.ensures.no_memory c.refuse.ensures.others

pub returns-in-Err-NoMemory : goal.returns-in-Err-NoMemory
returns-in-Err-NoMemory g c = text_no_memory c.args.address.now c.args.flash.now c.args.text.now _ _ _ c.give_up.ensures.status c.give_up.ensures.line c.give_up.ensures.others

pub returns-in-Some : goal.returns-in-Some
returns-in-Some g c =
    text_refused c.args.address.now c.args.flash.now c.args.text.now c.in-Some.line c.in-Some.kind _ _ _ (record { is = inr (c.in-Ok.script, c.in-Ok.ensures.script, sym c.drive_fault.ensures ∙ c.in-Some.is) }) c.refuse-in-Some.ensures.among c.refuse-in-Some.ensures.refused
    c.refuse-in-Some.ensures.no_memory c.refuse-in-Some.ensures.others

pub returns-in-Ok-Some : goal.returns-in-Ok-Some
returns-in-Ok-Some g c =
    text_driven c.args.address.now c.args.flash.now c.args.text.now c.in-Ok.script _ _ _ (record { is_script = c.in-Ok.ensures.script; no_fault = sym c.drive_fault.ensures ∙ c.in_default.is }) c.drive_device.ensures

pub returns-in-Ok-None : goal.returns-in-Ok-None
returns-in-Ok-None g c =
    text_idle c.args.address.now c.args.flash.now c.args.text.now c.in-Ok.script _ (record { is_script = c.in-Ok.ensures.script; no_fault = sym c.drive_fault.ensures ∙ c.in_default.is }) (tells_none c.in-Ok-None.field-0 _ c.in-Ok-None.field-0-is c.in-Ok-None.ensures)

pub returns : goal.returns
returns g c = text_no_memory c.args.address.now c.args.flash.now c.args.text.now _ _ _ c.give_up-in-Err.ensures.status c.give_up-in-Err.ensures.line c.give_up-in-Err.ensures.others

use Rattle.std.proofs.Common.{List, sym, ap, subst, ◌∙◌}
use Rattle.acquisition.specs.Sound.{AreRecordsOf}
use Rattle.acquisition.specs.Watching.{Acquiring}
use Rattle.avl_values.specs.Viewed.{records_viewed}
use Rattle.avl_values.specs.declared.rec.Rec.{Rec}
use Rattle.fmb_drive.proofs.Doing.{does_fix, does_other, fix_halts, ok_map, records_of, told_other, told_same}
use Rattle.fmb_drive.proofs.Rounds.{err_map}
use Rattle.fmb_drive.specs.Steps.{driver, stage}
use Rattle.fmb_drive.proofs.playing.fix_line.Goals as goal

pub returns-then-ne-clause-done : goal.returns-then-ne-clause-done
returns-then-ne-clause-done g c = λ address number.
    does_other (driver c.args.tracker.now c.args.acquirer.now) number c.args.who.now c.args.fix.now (stage c.args.tracker.now c.args.acquirer.now) address _ c.requires.up
    (told_other c.args.who.now c.args.imei.now c.args.tracker.now.imei c.ne.result c.ne.ensures c.if-ne.true c.requires.own)

pub keep_all-requires-clause-are_records : goal.keep_all-requires-clause-are_records
keep_all-requires-clause-are_records g c =
    records_of c.args.acquirer.now.settings.codec c.as_slice.result.now
    (subst (λ (l : List Rec). AreRecordsOf c.args.acquirer.now.settings.codec (records_viewed l)) (sym c.as_slice.ensures.value) c.fix-records.ensures.sound)

pub returns-clause-done : goal.returns-clause-done
returns-clause-done g c = λ address number.
    ok_map c.keep_all.result
    (does_fix (driver c.args.tracker.now c.args.acquirer.now) number c.args.who.now c.args.fix.now (stage c.args.tracker.now c.args.acquirer.now) address (records_viewed c.as_slice.result.now) _ _ _
    (told_same c.args.who.now c.args.imei.now c.args.tracker.now.imei c.ne.result c.ne.ensures c.if-ne.false c.requires.own) (ap records_viewed c.as_slice.ensures.value ∙ c.fix-records.ensures.records)
    (ap (λ (a : Acquiring). a.watching) c.fix-records.ensures.watching))
    c.keep_all.ensures.stored

pub returns-clause-stopped : goal.returns-clause-stopped
returns-clause-stopped g c = λ address number.
    err_map _ _ c.keep_all.result
    (λ stop is h. fix_halts (driver c.args.tracker.now c.args.acquirer.now) number c.args.who.now c.args.fix.now (stage c.args.tracker.now c.args.acquirer.now) address stop _ _ (records_viewed c.as_slice.result.now) _ _ _ _
    (told_same c.args.who.now c.args.imei.now c.args.tracker.now.imei c.ne.result c.ne.ensures c.if-ne.false c.requires.own) (ap records_viewed c.as_slice.ensures.value ∙ c.fix-records.ensures.records) h)
    (c.keep_all.ensures.stopped address)

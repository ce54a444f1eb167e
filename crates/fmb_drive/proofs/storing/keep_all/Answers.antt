use Rattle.std.proofs.Common.{refl}
use Rattle.fmb_drive.proofs.Keeping.{all_halt, all_more, same_then}
use Rattle.fmb_drive.proofs.Progress.{stores_none}
use Rattle.fmb_drive.proofs.Rounds.{handed_on}
use Rattle.fmb_drive.proofs.storing.keep_all.Goals as goal

pub loop-rec-init : goal.loop-rec-init
loop-rec-init g c = record { stored = stores_none _ _ _ c.requires.up; same = record { imei = refl; order = refl } }

pub returns-in_err-keep-clause-stopped : goal.returns-in_err-keep-clause-stopped
returns-in_err-keep-clause-stopped g c =
    let inv = c.loop-rec.invariant in
    λ address. handed_on c.from_residual.result c.in_err-keep.field-0.0 _ c.from_residual.ensures.1
    (all_halt address _ _ _ c.args.records.now c.loop-rec.rec-index _ _ _ _ _ _ inv.stored inv.same.imei (c.in_err-keep.ensures.stopped address))

pub loop-rec-preserved : goal.loop-rec-preserved
loop-rec-preserved g c =
    let inv = c.loop-rec.invariant in
    record {
      stored = all_more _ _ c.args.records.now c.loop-rec.rec-index c.rec-item.result _ _ _ _ _ _ c.loop-rec-test.true c.rec-item.is inv.same.imei inv.stored c.in_ok-keep.ensures.kept c.in_ok-keep.ensures.printed c.in_ok-keep.ensures.steady
          c.keep.ensures.others;
      same = same_then c.args.tracker.now c.loop-rec.tracker c.keep.new.tracker inv.same c.keep.ensures.same;
    }

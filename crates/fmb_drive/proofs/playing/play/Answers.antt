use Rattle.std.proofs.Common.{refl, ◌∙◌}
use Rattle.fmb_drive.proofs.Doing.{fits_here, plays_halt, plays_more}
use Rattle.fmb_drive.proofs.Keeping.{same_then}
use Rattle.fmb_drive.proofs.Progress.{does_none}
use Rattle.fmb_drive.proofs.Rounds.{handed_on}
use Rattle.fmb_drive.specs.Steps.{driver, stage}
use Rattle.fmb_drive.proofs.playing.play.Goals as goal

pub loop-i-init : goal.loop-i-init
loop-i-init g c = record {
  done = does_none _ (driver c.args.tracker.now c.args.acquirer.now) (stage c.args.tracker.now c.args.acquirer.now) _ c.requires.up;
  same = record { imei = refl; order = refl };
  settings = refl;
}

pub play_line-requires-clause-fit : goal.play_line-requires-clause-fit
play_line-requires-clause-fit g c =
    let inv = c.loop-i.invariant in
    fits_here c.args.tracker.now c.loop-i.tracker c.args.acquirer.now c.loop-i.acquirer inv.same inv.settings c.args.script.now c.loop-i.i c.number_at.result c.line_at-line.result c.number_at.ensures c.line_at-line.ensures c.requires.fit

pub returns-in_err-play_line-clause-stopped : goal.returns-in_err-play_line-clause-stopped
returns-in_err-play_line-clause-stopped g c =
    let inv = c.loop-i.invariant in
    handed_on c.from_residual.result c.in_err-play_line.field-0.0 _ c.from_residual.ensures.1
    (plays_halt c.args.tracker.now c.loop-i.tracker c.args.acquirer.now c.loop-i.acquirer inv.same inv.settings c.args.script.now c.loop-i.i c.number_at.result c.line_at-line.result c.number_at.ensures c.line_at-line.ensures
    c.args.address.now c.in_err-play_line.field-0.0 (stage c.args.tracker.now c.args.acquirer.now) (stage c.loop-i.tracker c.loop-i.acquirer) _ _ _ _ inv.done c.in_err-play_line.ensures.stopped)

pub loop-i-preserved : goal.loop-i-preserved
loop-i-preserved g c =
    let inv = c.loop-i.invariant in
    record {
      done = plays_more c.args.tracker.now c.loop-i.tracker c.args.acquirer.now c.loop-i.acquirer inv.same inv.settings c.args.script.now c.loop-i.i c.number_at.result c.line_at-line.result c.number_at.ensures c.line_at-line.ensures
          c.args.address.now (stage c.args.tracker.now c.args.acquirer.now) (stage c.loop-i.tracker c.loop-i.acquirer) (stage c.play_line.new.tracker c.play_line.new.acquirer) _ _ _ inv.done c.in_ok-play_line.ensures.done;
      same = same_then c.args.tracker.now c.loop-i.tracker c.play_line.new.tracker inv.same c.play_line.ensures.same;
      settings = c.play_line.ensures.settings ∙ inv.settings;
    }

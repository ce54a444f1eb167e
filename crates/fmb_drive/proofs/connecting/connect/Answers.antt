use Rattle.std.proofs.Common.{Err, ap, ◌∙◌}
use Rattle.fmb_drive.proofs.Halting.{halts_at_dial}
use Rattle.fmb_drive.proofs.Rounds.{both_ok, err_map, failed_print, failed_round, linked, makes_one}
use Rattle.fmb_drive.specs.Runs.{unlogged}
use Rattle.fmb_drive.proofs.connecting.connect.Goals as goal

pub returns-in_default-clause-stopped : goal.returns-in_default-clause-stopped
returns-in_default-clause-stopped g c = halts_at_dial _ _ _ _ _ _ _ c.args.tracker.now.ring (unlogged _ _ _) c.in_default.ensures.failed

pub returns-in-Ok-end-clause-made : goal.returns-in-Ok-end-clause-made
returns-in-Ok-end-clause-made g c =
    both_ok c.print_end.result
    (λ printed steady. makes_one _ c.args.tracker.now _ _ _ _ _ _ _ _ _ _ _ c.in-Ok-end.ensures.round c.in-Ok-end.ensures.broken c.in-Ok.ensures.unused (linked _ _ _ _ _ _ c.in-Ok.ensures.handed c.wire_back.ensures) printed steady c.print_end.ensures.others)
    c.print_end.ensures.printed c.print_end.ensures.steady

pub returns-in-Ok-end-clause-stopped : goal.returns-in-Ok-end-clause-stopped
returns-in-Ok-end-clause-stopped g c =
    err_map _ _ c.print_end.result
    (λ stop is among. failed_print _ c.args.tracker.now _ _ _ _ _ _ _ _ _ _ _ _ _ stop c.in-Ok-end.ensures.round c.in-Ok-end.ensures.broken c.in-Ok.ensures.unused (linked _ _ _ _ _ _ c.in-Ok.ensures.handed c.wire_back.ensures) among
    (λ e. c.print_end.ensures.no_memory (is ∙ ap Err e)) (λ e. c.print_end.ensures.sink_fault (is ∙ ap Err e)) c.print_end.ensures.others)
    c.print_end.ensures.among

pub returns-in-Err-clause-stopped : goal.returns-in-Err-clause-stopped
returns-in-Err-clause-stopped g c =
    failed_round _ c.args.tracker.now _ _ c.args.line _ _ _ _ _ _ _ _ _ c.in-Err.ensures.round (linked _ _ _ _ _ _ c.in-Ok.ensures.handed c.wire_back.ensures)

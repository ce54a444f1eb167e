use Rattle.std.proofs.Common.{Err, ap, ◌∙◌}
use Rattle.fmb_drive.proofs.Texts.{err_same, memory_not_host, memory_not_source, missed, ran_from}
use Rattle.fmb_drive.proofs.driving.drive_file.Goals as goal

pub returns-in-Ok : goal.returns-in-Ok
returns-in-Ok g c =
    ran_from c.args.address.now c.args.flash.now _ c.in-Ok.text.items _ _ (g.H.Host.view c.fetch.new.host) _ c.in-Ok.ensures.text (c.in-Ok.ensures.returned (λ e. cc)) (c.in-Ok.ensures.counts (λ e. cc) (λ e. cc)) c.in-Ok.ensures.others
    (rw c.as_slice.ensures.value at c.drive_text.ensures)

pub returns-in-Err : goal.returns-in-Err
returns-in-Err g c =
    missed c.args.address.now c.args.flash.now _ _ _ (g.H.Host.view c.fetch.new.host) _ c.fetch.ensures.others c.miss.ensures.others _ c.in-Err.missing (λ e. c.fetch.ensures.source_cause (c.in-Err.is ∙ ap Err e)) (λ e. c.fetch.ensures.host_cause (c.in-Err.is ∙ ap Err e))
    (λ e. c.fetch.ensures.counts (λ h. memory_not_host c.in-Err.missing e (err_same c.fetch.result _ _ c.in-Err.is h)) (λ s. memory_not_source c.in-Err.missing e (err_same c.fetch.result _ _ c.in-Err.is s)))
    c.miss.ensures.host_fault c.miss.ensures.source_fault c.miss.ensures.no_memory (λ other. c.fetch.ensures.returned (λ h. other (err_same c.fetch.result _ _ c.in-Err.is h)))

-- Whatever was read is what the last sync made durable, and what was written after it keeps the entries.
use Rattle.std.proofs.Common.{◌∙◌, length, ap, refl, arith}
use Rattle.std.proofs.lemmas.Result.{IfOk-weaker}
use Rattle.archive_journal.proofs.Keeping.{keeps-synced, keeps-held, synced-entries, synced-file, few-entries, few-told}
use Rattle.archive_journal.proofs.open.open_archive.Goals as goal

pub returns-then-is_made_anew-clause-entries : goal.returns-then-is_made_anew-clause-entries
returns-then-is_made_anew-clause-entries g c =
    IfOk-weaker c.start_anew.result _ _
    (λ r none. few-entries _ _ _ (let few = c.if-is_made_anew.ensures.yes_few refl in omega (arith, ap length c.deref.ensures.value)) (synced-file _ _ _ c.in_ok-sync.ensures.durable c.in_ok-file.ensures.file) none) c.start_anew.ensures.entries

pub returns-then-is_made_anew-clause-keeps : goal.returns-then-is_made_anew-clause-keeps
returns-then-is_made_anew-clause-keeps g c =
    keeps-held _ _ _ c.in_ok-sync.ensures.was_image (few-told _ _ (let few = c.if-is_made_anew.ensures.yes_few refl in omega (arith, ap length c.deref.ensures.value)) (synced-file _ _ _ c.in_ok-sync.ensures.durable c.in_ok-file.ensures.file)) c.start_anew.ensures.images

pub returns-then-not-begins-clause-keeps : goal.returns-then-not-begins-clause-keeps
returns-then-not-begins-clause-keeps g c = keeps-synced _ _ c.in_ok-sync.ensures.was_image (c.in_ok-file.ensures.content ∙ c.in_ok-sync.ensures.durable)

pub returns-clause-keeps : goal.returns-clause-keeps
returns-clause-keeps g c =
    keeps-held _ _ _ c.in_ok-sync.ensures.was_image (synced-entries _ _ (c.in_ok-file.ensures.content ∙ c.in_ok-sync.ensures.durable)) c.take_over.ensures.images

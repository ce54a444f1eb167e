use Rattle.std.proofs.Common.{◌∙◌, Result, Err, IsSome, ap, sym, subst}
use Rattle.medium_model.specs.State.{IfTold}
use Rattle.archive_journal.specs.Entries.{IsArchive}
use Rattle.archive_journal.specs.Journal.{entries_told}
use Rattle.archive_journal.specs.declared.entry.EntryList.{EntryList}
use Rattle.archive_journal.specs.declared.fault.ArchiveFault.{ArchiveFault}
use Rattle.shelf.specs.Shelf.{ShelfView}
use Rattle.shelf.proofs.Opening.{still-archive, read-both}
use Rattle.shelf.proofs.shelf.Shelf.read_again.Goals as goal

pub unreachable-requires-in-Err-NotArchive : goal.unreachable-requires-in-Err-NotArchive
unreachable-requires-in-Err-NotArchive g c =
    let P : ShelfView → Type 0 = λ v. IsSome v.medium.content in
    let Q : ShelfView → Type 0 = λ v. IfTold v.medium.content (λ c. IsArchive c.reads) in
    still-archive _ (subst P (sym c.self.view_is) c.requires.told) (subst Q (sym c.self.view_is) c.requires.archive)
    (c.in-Err-NotArchive.ensures.not_archive (ap (λ (x : ArchiveFault). let r : Result EntryList ArchiveFault = Err x in r) c.in-Err-NotArchive.field-0-is))

pub returns-clause-entries : goal.returns-clause-entries
returns-clause-entries g c =
    let P : ShelfView → Type 0 = λ v. IsSome v.medium.content in
    let told = subst P (sym c.self.view_is) c.requires.told in
    read-both _ _ _ told (c.in-Ok.ensures.run.told told) c.in-Ok.ensures.entries c.in-Ok.ensures.read ∙ ap (λ (v : ShelfView). entries_told v.medium.content) c.self.view_is

-- What opening makes.
use Rattle.std.proofs.Common.{◌≡◌, List, Option, Some, None, IsSome, sym, ◌∙◌, ap}
use Rattle.std.proofs.lemmas.Bool.{false≢true}
use Rattle.medium_model.specs.Content.{Content}
use Rattle.medium_model.specs.State.{IfTold}
use Rattle.archive_journal.specs.Body.{EntryValue}
use Rattle.archive_journal.specs.Entries.{IsArchive, entries_of}
use Rattle.archive_journal.specs.Journal.{entries_told}

-- An archive that is read again.

pub still-archive : (o : Option Content) → IsSome o → IfTold o (λ c. IsArchive c.reads) → IfTold o (λ c. IsArchive c.reads → ⊥) → ⊥
still-archive None some is never = false≢true some
still-archive (Some c) some is never = never is

pub read-both : (o now : Option Content) (es : List EntryValue) → IsSome o → IsSome now → IfTold o (λ c. es ≡ entries_of c.reads) → IfTold now (λ c. es ≡ entries_of c.reads) → entries_told now ≡ entries_told o
read-both None now es some still before after = absurd (false≢true some)
read-both (Some c) None es some still before after = absurd (false≢true still)
read-both (Some c) (Some d) es some still before after = ap Some (sym after ∙ before)

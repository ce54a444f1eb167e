-- Opening keeps the entries that a power loss might have left.
use Rattle.std.proofs.Common.{◌≡◌, ℕ, ◌≤◌, List, [], length, Option, Some, None, sym, ◌∙◌, ap, refl, subst}
use Rattle.std.proofs.lemmas.Option.{same_Some}
use Rattle.medium_model.specs.Content.{Content, after_sync}
use Rattle.medium_model.specs.State.{IfTold, told}
use Rattle.medium_model.specs.PowerLoss.{IsImage, EveryImage}
use Rattle.medium_model.proofs.Images.{image-settled}
use Rattle.archive_journal.specs.Body.{EntryValue}
use Rattle.archive_journal.specs.Entries.{entries_of, IsArchive}
use Rattle.archive_journal.specs.Journal.{HoldsWith, IsTold, KeepsEntries, entries_told}
use Rattle.archive_journal.proofs.Walks.{small-entries}

every_untold : (o : Option Content) → EveryImage o (KeepsEntries None)
every_untold None = tt
every_untold (Some c) = λ image im. record { old = image; was = tt; same = refl; archive = λ a. a }

pub keeps-synced : (o now : Option Content) → IfTold o (λ c. IsImage c c.reads) → now ≡ told after_sync o → EveryImage now (KeepsEntries o)
keeps-synced None now was is = every_untold now
keeps-synced (Some c) now was is =
    let Q : Option Content → Type 0 = λ s. EveryImage s (KeepsEntries (Some c)) in
    subst Q (sym is) (λ image im.
    let same = image-settled c.reads image im in
    record { old = c.reads; was = was; same = ap entries_of same; archive = subst IsArchive (sym same) })

pub keeps-held : (o now : Option Content) (es : Option (List EntryValue)) → IfTold o (λ c. IsImage c c.reads) → IfTold o (λ c. es ≡ Some (entries_of c.reads)) → EveryImage now (HoldsWith (IsTold es)) → EveryImage now (KeepsEntries o)
keeps-held None now es was is every = every_untold now
keeps-held (Some c) None es was is every = tt
keeps-held (Some c) (Some d) es was is every = λ image im.
    let held = every image im in
    record {
      old = c.reads;
      was = was;
      same = same_Some (entries_of image) (entries_of c.reads) (held.holds.is ∙ is);
      archive = λ _. held.sound;
    }

pub synced-entries : (o now : Option Content) → now ≡ told after_sync o → IfTold o (λ c. entries_told now ≡ Some (entries_of c.reads))
synced-entries None now is = tt
synced-entries (Some c) now is = ap entries_told is

pub synced-file : (o now : Option Content) (file : List ℕ) → now ≡ told after_sync o → IfTold now (λ c. file ≡ c.reads) → IfTold o (λ c. file ≡ c.reads)
synced-file None now file is read = tt
synced-file (Some c) now file is read = let P : Option Content → Type 0 = λ s. IfTold s (λ c. file ≡ c.reads) in subst P is read

pub few-entries : (o : Option Content) (file : List ℕ) (es : List EntryValue) → length file ≤ 9 → IfTold o (λ c. file ≡ c.reads) → es ≡ [] → IfTold o (λ c. es ≡ entries_of c.reads)
few-entries None file es few is none = tt
few-entries (Some c) file es few is none = none ∙ sym (small-entries c.reads (let P : List ℕ → Type 0 = λ l. length l ≤ 9 in subst P is few))

pub few-told : (o : Option Content) (file : List ℕ) → length file ≤ 9 → IfTold o (λ c. file ≡ c.reads) → IfTold o (λ c. Some [] ≡ Some (entries_of c.reads))
few-told None file few is = tt
few-told (Some c) file few is = ap Some (sym (small-entries c.reads (let P : List ℕ → Type 0 = λ l. length l ≤ 9 in subst P is few)))

-- A journal that is up is durable, and every image of its medium is an archive.
use Rattle.std.proofs.Common.{◌≡◌, ◌≤◌, ℕ, false, List, Option, Some, None, IsSome, sym, ◌∙◌, ap, subst, arith}
use Rattle.std.proofs.lemmas.Bool.{false≢true}
use Rattle.medium_model.specs.Content.{Content, settled}
use Rattle.medium_model.specs.PowerLoss.{IsImage, EveryImage, WasImage}
use Rattle.medium_model.specs.State.{MediumState, IfTold, IsRestarted}
use Rattle.medium_model.proofs.Images.{every-map, image-settled}
use Rattle.archive_journal.specs.Entries.{IsArchive}
use Rattle.archive_journal.specs.Journal.{JournalView, IsDurable, KeepsEntries}
use Rattle.archive_journal.specs.Places.{IsClosed, IsJournal}
use Rattle.archive_journal.proofs.Appends.{closed-durable, closed-settled}

pub durable_closed : (v : JournalView) → v.down ≡ false → IfTold v.medium.content (IsClosed v.gate v.bodies) → IsDurable v
durable_closed v up is = record { up = up; same = closed-durable v.gate v.bodies v.medium.content is; settled = closed-settled v.gate v.bodies v.medium.content is }

pub durable_up : (v : JournalView) → IsJournal v → v.down ≡ false → IsDurable v
durable_up v is up = durable_closed v up (is.up up)

pub closed-archives : (gate n : ℕ) (o : Option Content) → IfTold o (IsClosed gate n) → EveryImage o IsArchive
closed-archives gate n o is = every-map o _ _ (λ image held. held.sound) (closed-durable gate n o is)

-- The power came back: what is read is one of the images.

pub restart-archives : (o now : Option Content) → IsSome o → IsRestarted o now → EveryImage o IsArchive → EveryImage now IsArchive
restart-archives None now some is every = absurd (false≢true some)
restart-archives (Some c) now some is every =
    let Q : Option Content → Type 0 = λ s. EveryImage s IsArchive in
    subst Q (sym is.is) (λ other im. subst IsArchive (sym (image-settled is.image other im)) (every is.image is.was))

pub restart-archive : (o now : Option Content) → IsSome o → IsRestarted o now → EveryImage o IsArchive → IfTold now (λ c. IsArchive c.reads)
restart-archive None now some is every = absurd (false≢true some)
restart-archive (Some c) now some is every =
    let Q : Option Content → Type 0 = λ s. IfTold s (λ c. IsArchive c.reads) in
    subst Q (sym is.is) (every is.image is.was)

-- where all that was read was durable it is as before
pub restart-same : (gate n : ℕ) (o now : Option Content) → IsSome o → IsRestarted o now → IfTold o (IsClosed gate n) → now ≡ o
restart-same gate n None now some is closed = absurd (false≢true some)
restart-same gate n (Some c) now some is closed =
    let Q : Content → Type 0 = λ d. IsImage d is.image in
    let same = image-settled c.reads is.image (subst Q closed.rest is.was) in
    is.is ∙ ap (λ (l : List ℕ). Some (settled l)) same ∙ ap Some (sym closed.rest)

-- the invariant over it
pub restarted : (v : JournalView) (m : MediumState) → IsJournal v → IsSome v.medium.content → v.medium.ready ≤ m.ready → IsRestarted v.medium.content m.content → IsJournal (record v { medium = m })
restarted v m is some ready back =
    let low = is.reserved in
    let Q : Option Content → Type 0 = λ s. IfTold s (IsClosed v.gate v.bodies) in
    record {
      bodies = is.bodies;
      gate = is.gate;
      reserved = omega arith;
      most = is.most;
      up = λ up. subst Q (sym (restart-same v.gate v.bodies v.medium.content m.content some back (is.up up))) (is.up up);
      archives = restart-archives v.medium.content m.content some back is.archives;
    }

-- The entries that a power loss might have left, over a restart.

pub keeps-restarted : (o m now : Option Content) → IsRestarted o m → EveryImage now (KeepsEntries m) → EveryImage now (KeepsEntries o)
keeps-restarted o m now back every = every-map now _ _ (λ image held. step o m back image held) every
  where
    step : (o m : Option Content) → IsRestarted o m → (image : List ℕ) → KeepsEntries m image → KeepsEntries o image
    step None m back image held = record { old = held.old; was = tt; same = held.same; archive = held.archive }
    step (Some c) m back image held =
        let P : Option Content → Type 0 = λ s. WasImage s held.old in
        let same = image-settled back.image held.old (subst P back.is held.was) in
        let Q : List ℕ → Type 0 = λ i. IsImage c i in
        record { old = held.old; was = subst Q (sym same) back.was; same = held.same; archive = held.archive }

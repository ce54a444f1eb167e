-- The archive as a trial begins, and as the power comes back.
use Rattle.std.proofs.Common.{◌≡◌, ℕ, List, [], Option, Some, None, refl, sym, ◌∙◌, ap, subst, arith}
use Rattle.std.specs.List.{Contains}
use Rattle.std.proofs.lemmas.List.Elements.{All-nil}
use Rattle.medium_model.specs.Content.{Content, settled}
use Rattle.medium_model.specs.PowerLoss.{EveryImage}
use Rattle.medium_model.specs.State.{IfTold}
use Rattle.medium_model.proofs.Images.{image-settled}
use Rattle.archive_journal.specs.Entries.{entries_of}
use Rattle.archive_journal.specs.Journal.{HoldsWith, IsTold, KeepsEntries, entries_told}
use Rattle.archive_journal.proofs.Walks.{small-entries}
use Rattle.record_lists.proofs.EachOnce.{once-none}
use Rattle.shelf.specs.Archive.{list_of}
use Rattle.shelf.specs.Shelf.{IsDurable, ShelfView}
use Rattle.shelf.proofs.Laws.{each_once-none}
use Rattle.trial_model.specs.RecordLists.{AreIn}
use Rattle.trial_server.specs.Archives.{Account, AreRightEntries, IsRightList, IsRightShelf}

right-none : (given counted : Account) → ((j : ℕ) → counted j ≡ []) → IsRightList given counted []
right-none given counted none = record {
  evidence = λ j. All-nil (Contains (given j));
  keeps = λ j. subst (λ rs. AreIn [] rs) (sym (none j)) (All-nil (Contains []));
  once = λ j. once-none;
}

-- A shelf that was opened over a medium with nothing on it, before the first line.
pub starts-shelf : (given counted : Account) (before : Option Content) (v : ShelfView) → ((j : ℕ) → counted j ≡ []) → before ≡ Some (settled []) → IsDurable v
    → IfTold before (λ c. v.list ≡ list_of (entries_of c.reads)) → EveryImage v.medium.content (KeepsEntries before) → IsRightShelf given counted v
starts-shelf given counted before v none empty durable lists keeps = record {
  images = each v.medium.content durable.told keeps;
  durable = λ _. durable;
  list = λ _. subst (IsRightList given counted) (sym (listed before empty lists)) (right-none given counted none);
}
  where
    no-entries : entries_of [] ≡ []
    no-entries = small-entries [] (omega arith)

    listed : (o : Option Content) → o ≡ Some (settled []) → IfTold o (λ c. v.list ≡ list_of (entries_of c.reads)) → v.list ≡ []
    listed o is h = (let told : v.list ≡ list_of (entries_of []) = subst (λ p. IfTold p (λ c. v.list ≡ list_of (entries_of c.reads))) is h in told) ∙ ap list_of no-entries

    nothing : (o : Option Content) (image : List ℕ) → o ≡ Some (settled []) → KeepsEntries o image → entries_of image ≡ []
    nothing o image is k =
        let kept : KeepsEntries (Some (settled [])) image = subst (λ p. KeepsEntries p image) is k in
        kept.same ∙ ap entries_of (image-settled [] kept.old kept.was) ∙ no-entries

    each : (o : Option Content) → EveryImage o (HoldsWith (IsTold (entries_told v.medium.content))) → EveryImage o (KeepsEntries before) → EveryImage o (HoldsWith (AreRightEntries given counted))
    each None told kept = tt
    each (Some c) told kept = λ image im. record {
      sound = (told image im).sound;
      holds = subst (AreRightEntries given counted) (sym (nothing before image empty (kept image im))) (record { list = right-none given counted none; each_once = each_once-none });
    }

-- What the closing of an open gate leaves, and what an empty archive that is written over few bytes leaves.
use Rattle.std.proofs.Common.{◌≡◌, ◌≢◌, ◌⊎◌, inl, inr, ℕ, ◌+◌, ◌-◌, ◌<◌, ◌≤◌, ◌^◌, List, [], ◌∷◌, ◌++◌, length, get_or, take, drop, replicate, Option, Some, None, sym, ◌∙◌, ap, refl, subst, arith, length-take, length-drop}
use Rattle.std.proofs.lemmas.Bool.{cases_eq, cases_lt}
use Rattle.std.proofs.lemmas.List.{ext_get_or, get_or-take}
use Rattle.std.proofs.lemmas.Option.{same_Some}
use Rattle.medium_model.specs.Content.{Content, settled, written, after_write, after_sync}
use Rattle.medium_model.specs.State.{IfTold, TornWrite, told}
use Rattle.medium_model.specs.PowerLoss.{IsImage, EveryImage}
use Rattle.medium_model.proofs.Images.{SameOutside, WritesWithin, image-settled, written-outside, images-written, images-torn, told-map}
use Rattle.medium_model.proofs.Written.{get_or-written_there}
use Rattle.archive_journal.specs.Body.{EntryValue}
use Rattle.archive_journal.specs.Entries.{magic, size_at, entries_of}
use Rattle.archive_journal.specs.Journal.{HoldsWith, IsTold, entries_told}
use Rattle.archive_journal.specs.Found.{IsDurableFile, IsFound}
use Rattle.archive_journal.specs.Places.{Stand, StandIn, IsClosed, IsOpen, IsSmall}
use Rattle.archive_journal.proofs.Walks.{file-entries, file-closed, file-same, file-archive, small-entries, file-first}
use Rattle.archive_journal.proofs.Appends.{closed-entries, closed-images}
use Rattle.archive_journal.proofs.Images.{WritesFrom, front-written, front-torn}

pub open-entries : (gate n : ℕ) (c : Content) (is : IsOpen gate n c) → entries_of c.reads ≡ is.entries
open-entries gate n c is = file-entries is.entries gate c.reads is.stand is.last

module _ (gate n : ℕ) (c : Content) (is : IsOpen gate n c) (image : List ℕ) (same : SameOutside gate 1 c.reads image) where
  front : take gate image ≡ take gate c.reads
  front = ext_get_or 0 (take gate image) (take gate c.reads) (let size = same.size in omega (arith, length-take gate image, length-take gate c.reads)) (λ k low.
      let before : k < gate = omega (arith, length-take gate image) in
      get_or-take gate image k 0 before ∙ same.same k (inl before) ∙ sym (get_or-take gate c.reads k 0 before))

  stands : StandIn is.entries gate image
  stands = file-same is.entries gate c.reads image is.stand (let size = same.size in let there = is.stand.there in omega arith) front

  -- with the gate as it was the file is as it was
  unchanged_file : get_or image gate 0 ≡ 0xA5 → image ≡ c.reads
  unchanged_file opened = ext_get_or 0 image c.reads same.size (λ k low. elim (cases_eq k gate) as (λ _. get_or image k 0 ≡ get_or c.reads k 0) [
    | inl here ↦ ap (λ i. get_or image i 0) here ∙ opened ∙ sym is.opened ∙ ap (λ i. get_or c.reads i 0) (sym here)
    | inr other ↦ same.same k (apart k gate other)
  ])
    where
      apart : (k g : ℕ) → k ≢ g → (k < g) ⊎ (g + 1 ≤ k)
      apart k g other = elim (cases_lt k g) as (λ _. (k < g) ⊎ (g + 1 ≤ k)) [ inl low ↦ inl low | inr high ↦ inr (omega arith) ]

  keeps : entries_of image ≡ is.entries
  keeps = elim (cases_eq (get_or image gate 0) 0xA5) as (λ _. entries_of image ≡ is.entries) [
    | inl opened ↦ ap entries_of (unchanged_file opened) ∙ open-entries gate n c is
    | inr closed ↦ file-closed is.entries gate image stands closed
  ]

  told_image : HoldsWith (IsTold (Some (entries_of c.reads))) image
  told_image = record { sound = file-archive is.entries gate image stands; holds = record { is = ap Some (keeps ∙ sym (open-entries gate n c is)) } }

close_within : (gate n : ℕ) (c : Content) → IsOpen gate n c → WritesWithin gate 1 (HoldsWith (IsTold (Some (entries_of c.reads)))) c
close_within gate n c is = record { rest = is.rest; fits = (let there = is.stand.there in omega arith); each = told_image gate n c is }

pub close_failed : (gate n : ℕ) (told0 told1 : Option Content) → IfTold told0 (IsOpen gate n) → TornWrite gate 1 told0 told1 → EveryImage told1 (HoldsWith (IsTold (entries_told told0)))
close_failed gate n None told1 is torn = images-torn None told1 gate 1 _ tt torn
close_failed gate n (Some c) told1 is torn = images-torn (Some c) told1 gate 1 _ (close_within gate n c is) torn

pub close_written : (gate n : ℕ) (told0 told1 : Option Content) → IfTold told0 (IsOpen gate n) → told1 ≡ told (after_write gate (0 ∷ [])) told0
    → EveryImage told1 (HoldsWith (IsTold (entries_told told0)))
close_written gate n None told1 is wrote = images-written None told1 gate (0 ∷ []) _ tt wrote
close_written gate n (Some c) told1 is wrote = images-written (Some c) told1 gate (0 ∷ []) _ (close_within gate n c is) wrote

close_settled : (gate n : ℕ) (c : Content) (is : IsOpen gate n c)
    → (entries_of (written 0 gate (0 ∷ []) c.reads) ≡ entries_of c.reads) × IsClosed gate n (settled (written 0 gate (0 ∷ []) c.reads))
close_settled gate n c is =
    let file = written 0 gate (0 ∷ []) c.reads in
    let there = is.stand.there in
    let same = written-outside gate (0 ∷ []) c.reads (omega arith) in
    let at : get_or file gate 0 ≡ 0 = ap (λ k. get_or file k 0) (omega arith) ∙ get_or-written_there 0 gate (0 ∷ []) c.reads 0 (omega arith) in (
      keeps gate n c is file same ∙ sym (open-entries gate n c is),
      record {
        rest = refl;
        entries = is.entries;
        stand = stands gate n c is file same;
        closed = λ opened. absurd (let both : 0 ≡ 0xA5 = sym at ∙ opened in omega arith);
        count = is.count;
      },
    )

pub close_done : (gate n : ℕ) (told0 told1 told2 : Option Content) → IfTold told0 (IsOpen gate n) → told1 ≡ told (after_write gate (0 ∷ [])) told0 → told2 ≡ told after_sync told1
    → (entries_told told2 ≡ entries_told told0) × IfTold told2 (IsClosed gate n)
close_done gate n None told1 told2 is wrote synced =
    let P : Option Content → Type 0 = λ o. (entries_told o ≡ None) × IfTold o (IsClosed gate n) in
    subst P (sym (synced ∙ ap (told after_sync) wrote)) (refl, tt)
close_done gate n (Some c) told1 told2 is wrote synced =
    let P : Option Content → Type 0 = λ o. (entries_told o ≡ Some (entries_of c.reads)) × IfTold o (IsClosed gate n) in
    let last = close_settled gate n c is in
    subst P (sym (synced ∙ ap (told after_sync) wrote)) (ap Some last.0, last.1)

-- An empty archive over few bytes.

abbrev empty : List ℕ
empty = 0x46 ∷ 0x4D ∷ 0x42 ∷ 0x41 ∷ 0x52 ∷ 0x43 ∷ 0x48 ∷ 0x31 ∷ 0 ∷ []

empty_from : (c : Content) → IsSmall c → WritesFrom 0 9 (HoldsWith (IsTold (Some []))) c
empty_from c is = record {
  rest = is.rest;
  fits = omega arith;
  each = λ image same.
      let few = is.few in
      let longest = same.no_longer in
      let small : length image ≤ 9 = omega arith in
      record { sound = inr small; holds = record { is = ap Some (small-entries image small) } };
}

pub empty_failed : (told0 told1 : Option Content) → IfTold told0 IsSmall → TornWrite 0 9 told0 told1 → EveryImage told1 (HoldsWith (IsTold (Some [])))
empty_failed told0 told1 is torn = front-torn told0 told1 0 9 _ (told-map told0 _ _ empty_from is) torn

pub empty_written : (told0 told1 : Option Content) → IfTold told0 IsSmall → told1 ≡ told (after_write 0 empty) told0 → EveryImage told1 (HoldsWith (IsTold (Some [])))
empty_written told0 told1 is wrote = front-written told0 told1 0 empty _ (told-map told0 _ _ empty_from is) wrote

drop_past : (n : ℕ) (xs : List ℕ) → length xs ≤ n → drop n xs ≡ []
drop_past n xs few = ext_get_or 0 (drop n xs) [] (omega (arith, length-drop n xs)) (λ k low. absurd (omega (arith, length-drop n xs)))

written_empty : (xs : List ℕ) → length xs ≤ 9 → written 0 0 empty xs ≡ empty
written_empty xs few =
    let none : 0 - length xs ≡ 0 = omega arith in
    ap (λ k. (take 0 xs ++ replicate k 0) ++ (empty ++ drop 9 xs)) none ∙ ap (λ (l : List ℕ). empty ++ l) (drop_past 9 xs few)

empty_settled : IsClosed 8 0 (settled empty)
empty_settled = record { rest = refl; entries = []; stand = file-first empty refl (omega arith); closed = λ opened. absurd (omega arith); count = refl }

pub empty_done : (told0 told1 told2 : Option Content) → IfTold told0 IsSmall → told1 ≡ told (after_write 0 empty) told0 → told2 ≡ told after_sync told1 → IfTold told2 (IsClosed 8 0)
empty_done None told1 told2 is wrote synced = let P : Option Content → Type 0 = λ o. IfTold o (IsClosed 8 0) in subst P (sym (synced ∙ ap (told after_sync) wrote)) tt
empty_done (Some c) told1 told2 is wrote synced =
    let P : Option Content → Type 0 = λ o. IfTold o (IsClosed 8 0) in
    let Q : List ℕ → Type 0 = λ b. IsClosed 8 0 (settled b) in
    subst P (sym (synced ∙ ap (told after_sync) wrote)) (subst Q (sym (written_empty c.reads is.few)) empty_settled)

pub empty_images : (told2 : Option Content) → IfTold told2 (IsClosed 8 0) → EveryImage told2 (HoldsWith (IsTold (Some [])))
empty_images None is = tt
empty_images (Some c) is = closed-images 8 0 (Some c) _ (record { is = ap Some (closed-entries 8 0 c is ∙ no_entries is.entries is.count) }) is
  where
    no_entries : (es : List EntryValue) → length es ≡ 0 → es ≡ []
    no_entries [] none = refl
    no_entries (e ∷ es) none = absurd (omega arith)

-- Before anything was written.

pub durable-images : (file : List ℕ) (o : Option Content) → take 8 file ≡ magic → IfTold o (IsDurableFile file) → EveryImage o (HoldsWith (IsTold (entries_told o)))
durable-images file None begins is = tt
durable-images file (Some c) begins is = λ image im.
    let Q : Content → Type 0 = λ d. IsImage d image in
    let same = image-settled c.reads image (subst Q is.rest im) in
    record { sound = inl (ap (λ (l : List ℕ). take 8 l) (same ∙ sym is.is) ∙ begins); holds = record { is = ap (λ (l : List ℕ). Some (entries_of l)) same } }

pub small-images : (o : Option Content) → IfTold o IsSmall → EveryImage o (HoldsWith (IsTold (Some [])))
small-images None is = tt
small-images (Some c) is = λ image im.
    let Q : Content → Type 0 = λ d. IsImage d image in
    let same = image-settled c.reads image (subst Q is.rest im) in
    let few : length image ≤ 9 = (let was = is.few in omega (arith, ap length same)) in
    record { sound = inr few; holds = record { is = ap Some (small-entries image few) } }

-- each entry has a byte
stand-count : (es : List EntryValue) (n : ℕ) (bytes : List ℕ) → Stand es n bytes → length es ≤ n
stand-count [] n bytes none = omega arith
stand-count (e ∷ es) n bytes (is, e_is, m, n_is, s) = let rest = stand-count es m (drop (size_at bytes) bytes) s in omega arith

pub found : (es : List EntryValue) (gate n : ℕ) (file : List ℕ) → StandIn es gate file → length file ≤ 2 ^ 62 → n ≡ length es → IsFound gate n es
found es gate n file s few count =
    let bodies = stand-count es s.size (drop 8 file) s.stand in
    let place = s.place in
    let there = s.there in
    record { count = count; bodies_few = omega arith; gate_low = omega arith }

-- what is read after opening

pub empty-read : (o : Option Content) (es : List EntryValue) → IfTold o (IsClosed 8 0) → es ≡ [] → IfTold o (λ c. es ≡ entries_of c.reads)
empty-read None es is none = tt
empty-read (Some c) es is none = none ∙ sym (closed-entries 8 0 c is ∙ no_entries is.entries is.count)
  where
    no_entries : (fs : List EntryValue) → length fs ≡ 0 → fs ≡ []
    no_entries [] few = refl
    no_entries (f ∷ fs) few = absurd (omega arith)

pub taken-read : (o n : Option Content) (file : List ℕ) (es : List EntryValue) → IfTold o (IsDurableFile file) → es ≡ entries_of file → entries_told n ≡ entries_told o → IfTold n (λ c. es ≡ entries_of c.reads)
taken-read o None file es is read same = tt
taken-read None (Some d) file es is read same = absurd (let never : Some (entries_of d.reads) ≡ None = same in cc)
taken-read (Some c) (Some d) file es is read same = read ∙ ap entries_of is.is ∙ sym (same_Some (entries_of d.reads) (entries_of c.reads) same)

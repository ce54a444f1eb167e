-- What each of the four calls of an append leaves.
use Rattle.std.proofs.Common.{◌≡◌, ◌≢◌, inl, inr, ℕ, ◌+◌, ◌<◌, true, List, [], ◌∷◌, ◌++◌, length, get_or, take, drop, Option, Some, None, sym, ◌∙◌, ap, refl, subst, arith, length-append, length-take, length-drop}
use Rattle.std.proofs.lemmas.Bool.{cases_eq}
use Rattle.std.proofs.lemmas.List.{ext_get_or, get_or-take, get_or-drop, get_or_append_left, get_or_at, drop-drop, take-take}
use Rattle.medium_model.specs.Content.{Content, settled, written, after_write, after_sync}
use Rattle.medium_model.specs.State.{IfTold, TornWrite, told}
use Rattle.medium_model.specs.PowerLoss.{IsImage, EveryImage}
use Rattle.medium_model.proofs.Images.{SameOutside, WritesWithin, image-settled, written-outside, told-map, images-written, images-torn}
use Rattle.medium_model.specs.Images.{unchanged, changed}
use Rattle.medium_model.proofs.Written.{length-written, get_or-written_before, get_or-written_there}
use Rattle.archive_journal.specs.Body.{EntryValue, is_body, entry_in}
use Rattle.archive_journal.specs.Entries.{size_at, entries_of, IsArchive}
use Rattle.archive_journal.specs.Journal.{HoldsWith, IsEither, IsSettled, IsTold, entries_told, with_entry}
use Rattle.archive_journal.specs.Places.{StandIn, IsClosed}
use Rattle.archive_journal.proofs.Walks.{file-closed, file-same, file-more, file-archive}
use Rattle.archive_journal.proofs.Bodies.{IsWritten, written-entry}
use Rattle.archive_journal.proofs.Images.{SameFront, WritesFrom, front-written, front-torn}

-- The body has been written after the closed gate, with another closed gate after it, and is durable.
record HasBody (gate n : ℕ) (body : List ℕ) (es : List EntryValue) (c : Content) : Type 0 where
  rest : c ≡ settled c.reads
  stand : StandIn es gate c.reads
  count : length es ≡ n
  there : take (length body) (drop (gate + 1) c.reads) ≡ body
  long : gate + 1 + length body < length c.reads
  next : get_or c.reads (gate + 1 + length body) 0 ≢ 0xA5

-- a file whose gates but one are known
module _ (es : List EntryValue) (gate : ℕ) (body : List ℕ) (well : is_body body ≡ true) (base : List ℕ)
    (stand : StandIn es gate base)
    (there : take (length body) (drop (gate + 1) base) ≡ body)
    (long : gate + 1 + length body < length base)
    (next : get_or base (gate + 1 + length body) 0 ≢ 0xA5)
    (image : List ℕ) (same : SameOutside gate 1 base image) where
  image-front : take gate image ≡ take gate base
  image-front = ext_get_or 0 (take gate image) (take gate base) (let size = same.size in omega (arith, length-take gate image, length-take gate base)) (λ k low.
      let before : k < gate = omega (arith, length-take gate image) in
      get_or-take gate image k 0 before ∙ same.same k (inl before) ∙ sym (get_or-take gate base k 0 before))

  image-stand : StandIn es gate image
  image-stand = file-same es gate base image stand (let size = same.size in omega arith) image-front

  image-body : take (length body) (drop 1 (drop gate image)) ≡ body
  image-body =
      let size = same.size in
      let at : take (length body) (drop (gate + 1) image) ≡ take (length body) (drop (gate + 1) base) =
      ext_get_or 0 (take (length body) (drop (gate + 1) image)) (take (length body) (drop (gate + 1) base))
      (omega (arith, length-take (length body) (drop (gate + 1) image), length-take (length body) (drop (gate + 1) base), length-drop (gate + 1) image, length-drop (gate + 1) base)) (λ k low.
      let within : k < length body = omega (arith, length-take (length body) (drop (gate + 1) image)) in
      get_or-take (length body) (drop (gate + 1) image) k 0 within ∙ get_or-drop (gate + 1) image k 0 ∙ same.same (gate + 1 + k) (inr (omega arith))
      ∙ sym (get_or-drop (gate + 1) base k 0) ∙ sym (get_or-take (length body) (drop (gate + 1) base) k 0 within)) in
      ap (λ l. take (length body) l) (drop-drop 1 gate image) ∙ at ∙ there

  -- where the gate is closed the entries are as before, and where it is open there is one more
  image-closed : get_or image gate 0 ≢ 0xA5 → entries_of image ≡ es
  image-closed closed = file-closed es gate image image-stand closed

  image-entry : get_or image gate 0 ≡ 0xA5 → IsWritten body (drop gate image)
  image-entry gate_is =
      let at : get_or (drop gate image) 0 0 ≡ get_or image gate 0 = get_or-drop gate image 0 0 ∙ ap (λ k. get_or image k 0) (omega arith) in
      let size = same.size in
      written-entry body (drop gate image) (at ∙ gate_is) image-body (omega (arith, length-drop gate image)) well

  image-more : get_or image gate 0 ≡ 0xA5 → StandIn (es ++ entry_in body ∷ []) (gate + 1 + length body) image
  image-more gate_is =
      let w = image-entry gate_is in
      let size = w.size in
      let P : List ℕ → ℕ → Type 0 = λ b g. StandIn (es ++ entry_in b ∷ []) g image in
      let Q : List ℕ → Type 0 = λ b. P b (gate + size_at (drop gate image)) in
      let R : ℕ → Type 0 = λ g. P body g in
      let g : gate + size_at (drop gate image) ≡ gate + 1 + length body = omega arith in
      subst R g (subst Q w.is_there (file-more es gate image image-stand w.is))

  image-next : get_or image (gate + 1 + length body) 0 ≢ 0xA5
  image-next open_gate = next (sym (same.same (gate + 1 + length body) (inr (omega arith))) ∙ open_gate)

  image-opened : get_or image gate 0 ≡ 0xA5 → entries_of image ≡ es ++ entry_in body ∷ []
  image-opened gate_is = file-closed _ _ image (image-more gate_is) image-next

  image-either : HoldsWith (IsEither (Some es) (Some (es ++ entry_in body ∷ []))) image
  image-either = record {
    sound = file-archive es gate image image-stand;
    holds = elim (cases_eq (get_or image gate 0) 0xA5) as (λ _. IsEither (Some es) (Some (es ++ entry_in body ∷ [])) (entries_of image)) [
      | inl is ↦ record { is = changed (ap Some (image-opened is)) }
      | inr closed ↦ record { is = unchanged (ap Some (image-closed closed)) }
    ];
  }

-- What holds of a content whose last gate is closed.

pub closed-entries : (gate n : ℕ) (c : Content) (is : IsClosed gate n c) → entries_of c.reads ≡ is.entries
closed-entries gate n c is = file-closed is.entries gate c.reads is.stand is.closed

pub closed-settled : (gate n : ℕ) (o : Option Content) → IfTold o (IsClosed gate n) → IfTold o (IsSettled n)
closed-settled gate n o is = told-map o _ _ (λ c at. record { rest = at.rest; begins = at.stand.begins; count = ap length (closed-entries gate n c at) ∙ at.count }) is

pub closed-images : (gate n : ℕ) (o : Option Content) (P : List EntryValue → Type 0) → IfTold o (λ c. P (entries_of c.reads)) → IfTold o (IsClosed gate n) → EveryImage o (HoldsWith P)
closed-images gate n None P so is = tt
closed-images gate n (Some c) P so is = λ image im.
    let Q : Content → Type 0 = λ d. IsImage d image in
    let same = image-settled c.reads image (subst Q is.rest im) in
    record { sound = subst IsArchive (sym same) (file-archive is.entries gate c.reads is.stand); holds = subst P (ap entries_of (sym same)) so }

pub closed-durable : (gate n : ℕ) (o : Option Content) → IfTold o (IsClosed gate n) → EveryImage o (HoldsWith (IsTold (entries_told o)))
closed-durable gate n None is = tt
closed-durable gate n (Some c) is = closed-images gate n (Some c) _ (record { is = refl }) is

-- The calls of an append.
module _ (gate n : ℕ) (body : List ℕ) (well : is_body body ≡ true) where
  -- while the body is written
  body_from : (c : Content) (at m : ℕ) → at ≡ gate + 1 → IsClosed gate n c
      → WritesFrom at m (HoldsWith (IsEither (Some (entries_of c.reads)) (Some (entries_of c.reads ++ entry_in body ∷ [])))) c
  body_from c at m is_at is = record {
    rest = is.rest;
    fits = (let there = is.stand.there in omega arith);
    each = λ image same0.
        let P : ℕ → Type 0 = λ k. SameFront k m c.reads image in
        let same = subst P is_at same0 in
        let there = is.stand.there in
        let longer = same.no_shorter in
        let front : take gate image ≡ take gate c.reads = sym (take-take gate (gate + 1) image (omega arith)) ∙ ap (λ l. take gate l) same.front ∙ take-take gate (gate + 1) c.reads (omega arith) in
        let at_gate : get_or image gate 0 ≡ get_or c.reads gate 0 =
        sym (get_or-take (gate + 1) image gate 0 (omega arith)) ∙ ap (λ (l : List ℕ). get_or l gate 0) same.front ∙ get_or-take (gate + 1) c.reads gate 0 (omega arith) in
        let stand = file-same is.entries gate c.reads image is.stand (omega arith) front in
        record {
          sound = file-archive is.entries gate image stand;
          holds = record { is = unchanged (ap Some (file-closed is.entries gate image stand (λ opened. is.closed (sym at_gate ∙ opened)) ∙ sym (closed-entries gate n c is))) };
        };
  }

  pub body_failed : (told0 told1 : Option Content) (m : ℕ) → IfTold told0 (IsClosed gate n) → TornWrite (gate + 1) m told0 told1
      → EveryImage told1 (HoldsWith (IsEither (entries_told told0) (with_entry (entry_in body) (entries_told told0))))
  body_failed None told1 m was torn = front-torn None told1 (gate + 1) m _ tt torn
  body_failed (Some c) told1 m was torn = front-torn (Some c) told1 (gate + 1) m _ (body_from c (gate + 1) m refl was) torn

  pub body_written : (told0 told1 : Option Content) (bytes : List ℕ) → IfTold told0 (IsClosed gate n) → told1 ≡ told (after_write (gate + 1) bytes) told0
      → EveryImage told1 (HoldsWith (IsEither (entries_told told0) (with_entry (entry_in body) (entries_told told0))))
  body_written None told1 bytes was done = front-written None told1 (gate + 1) bytes _ tt done
  body_written (Some c) told1 bytes was done = front-written (Some c) told1 (gate + 1) bytes _ (body_from c (gate + 1) (length bytes) refl was) done

  -- the body is durable
  has_body : (c : Content) → IsClosed gate n c → HasBody gate n body (entries_of c.reads) (settled (written 0 (gate + 1) (body ++ 0 ∷ []) c.reads))
  has_body c is =
      let bytes = body ++ 0 ∷ [] in
      let file = written 0 (gate + 1) bytes c.reads in
      let before = is.stand.there in
      let count : length bytes ≡ length body + 1 = length-append body (0 ∷ []) ∙ omega arith in
      let long : gate + 1 + length body < length file = omega (arith, length-written 0 (gate + 1) bytes c.reads) in
      let at = λ (k : ℕ) (low : k < gate). get_or-written_before 0 (gate + 1) bytes c.reads k (omega arith) in
      let front : take gate file ≡ take gate c.reads = ext_get_or 0 (take gate file) (take gate c.reads) (omega (arith, length-take gate file, length-take gate c.reads)) (λ k low.
      let below : k < gate = omega (arith, length-take gate file) in
      get_or-take gate file k 0 below ∙ at k below ∙ sym (get_or-take gate c.reads k 0 below)) in
      let there : take (length body) (drop (gate + 1) file) ≡ body =
      ext_get_or 0 (take (length body) (drop (gate + 1) file)) body (omega (arith, length-take (length body) (drop (gate + 1) file), length-drop (gate + 1) file)) (λ k low.
      let within : k < length body = omega (arith, length-take (length body) (drop (gate + 1) file)) in
      get_or-take (length body) (drop (gate + 1) file) k 0 within ∙ get_or-drop (gate + 1) file k 0
      ∙ get_or-written_there 0 (gate + 1) bytes c.reads k (omega arith) ∙ get_or_append_left body (0 ∷ []) 0 k within) in
      let last : get_or file (gate + 1 + length body) 0 ≡ 0 = get_or-written_there 0 (gate + 1) bytes c.reads (length body) (omega arith) ∙ get_or_at body 0 [] 0 (length body) refl in
      let P : List EntryValue → Type 0 = λ es. StandIn es gate file in
      record {
        rest = refl;
        stand = subst P (sym (closed-entries gate n c is)) (file-same is.entries gate c.reads file is.stand (omega arith) front);
        count = ap length (closed-entries gate n c is) ∙ is.count;
        there = there;
        long = long;
        next = λ opened. absurd (let both : 0 ≡ 0xA5 = sym last ∙ opened in omega arith);
      }

  -- while the gate is written
  gate_within : (es : List EntryValue) (c : Content) → HasBody gate n body es c → WritesWithin gate 1 (HoldsWith (IsEither (Some es) (Some (es ++ entry_in body ∷ [])))) c
  gate_within es c has = record {
    rest = has.rest;
    fits = (let long = has.long in omega arith);
    each = λ image same. image-either es gate body well c.reads has.stand has.there has.long has.next image same;
  }

  -- the gate is durable
  gate_settled : (es : List EntryValue) (c : Content) → HasBody gate n body es c
      → (entries_of (written 0 gate (0xA5 ∷ []) c.reads) ≡ es ++ entry_in body ∷ []) × IsClosed (gate + 1 + length body) (n + 1) (settled (written 0 gate (0xA5 ∷ []) c.reads))
  gate_settled es c has =
      let file = written 0 gate (0xA5 ∷ []) c.reads in
      let long = has.long in
      let same = written-outside gate (0xA5 ∷ []) c.reads (omega arith) in
      let at : get_or file gate 0 ≡ 0xA5 = ap (λ k. get_or file k 0) (omega arith) ∙ get_or-written_there 0 gate (0xA5 ∷ []) c.reads 0 (omega arith) in (
        image-opened es gate body well c.reads has.stand has.there has.long has.next file same at,
        record {
          rest = refl;
          entries = es ++ entry_in body ∷ [];
          stand = image-more es gate body well c.reads has.stand has.there has.long has.next file same at;
          closed = image-next es gate body well c.reads has.stand has.there has.long has.next file same;
          count = (let count = has.count in omega (arith, length-append es (entry_in body ∷ [])));
        },
      )

  -- What was written, and what is told after each call.
  module _ (bytes : List ℕ) (is : bytes ≡ body ++ 0 ∷ []) where
    two : (c : Content) (told1 told2 : Option Content) → told1 ≡ told (after_write (gate + 1) bytes) (Some c) → told2 ≡ told after_sync told1
        → told2 ≡ Some (settled (written 0 (gate + 1) (body ++ 0 ∷ []) c.reads))
    two c told1 told2 wrote synced = synced ∙ ap (told after_sync) wrote ∙ ap (λ (b : List ℕ). Some (settled (written 0 (gate + 1) b c.reads))) is

    pub gate_failed : (told0 told1 told2 told3 : Option Content) → IfTold told0 (IsClosed gate n) → told1 ≡ told (after_write (gate + 1) bytes) told0 → told2 ≡ told after_sync told1
        → TornWrite gate 1 told2 told3 → EveryImage told3 (HoldsWith (IsEither (entries_told told0) (with_entry (entry_in body) (entries_told told0))))
    gate_failed None told1 told2 told3 was wrote synced torn =
        let P : Option Content → Type 0 = λ o. TornWrite gate 1 o told3 in
        images-torn None told3 gate 1 _ tt (subst P (synced ∙ ap (told after_sync) wrote) torn)
    gate_failed (Some c) told1 told2 told3 was wrote synced torn =
        let P : Option Content → Type 0 = λ o. TornWrite gate 1 o told3 in
        images-torn (Some (settled (written 0 (gate + 1) (body ++ 0 ∷ []) c.reads))) told3 gate 1 _ (gate_within _ _ (has_body c was)) (subst P (two c told1 told2 wrote synced) torn)

    pub gate_written : (told0 told1 told2 told3 : Option Content) → IfTold told0 (IsClosed gate n) → told1 ≡ told (after_write (gate + 1) bytes) told0 → told2 ≡ told after_sync told1
        → told3 ≡ told (after_write gate (0xA5 ∷ [])) told2 → EveryImage told3 (HoldsWith (IsEither (entries_told told0) (with_entry (entry_in body) (entries_told told0))))
    gate_written None told1 told2 told3 was wrote synced opened =
        let P : Option Content → Type 0 = λ o. EveryImage o (HoldsWith (IsEither None None)) in
        subst P (sym (opened ∙ ap (told (after_write gate (0xA5 ∷ []))) (synced ∙ ap (told after_sync) wrote))) tt
    gate_written (Some c) told1 told2 told3 was wrote synced opened =
        images-written (Some (settled (written 0 (gate + 1) (body ++ 0 ∷ []) c.reads))) told3 gate (0xA5 ∷ []) _ (gate_within _ _ (has_body c was))
        (opened ∙ ap (told (after_write gate (0xA5 ∷ []))) (two c told1 told2 wrote synced))

    pub gate_closed : (told0 told1 told2 told3 told4 : Option Content) → IfTold told0 (IsClosed gate n) → told1 ≡ told (after_write (gate + 1) bytes) told0 → told2 ≡ told after_sync told1
        → told3 ≡ told (after_write gate (0xA5 ∷ [])) told2 → told4 ≡ told after_sync told3
        → (entries_told told4 ≡ with_entry (entry_in body) (entries_told told0)) × IfTold told4 (IsClosed (gate + 1 + length body) (n + 1))
    gate_closed None told1 told2 told3 told4 was wrote synced opened done =
        let P : Option Content → Type 0 = λ o. (entries_told o ≡ None) × IfTold o (IsClosed (gate + 1 + length body) (n + 1)) in
        subst P (sym (done ∙ ap (told after_sync) (opened ∙ ap (told (after_write gate (0xA5 ∷ []))) (synced ∙ ap (told after_sync) wrote)))) (refl, tt)
    gate_closed (Some c) told1 told2 told3 told4 was wrote synced opened done =
        let P : Option Content → Type 0 = λ o. (entries_told o ≡ Some (entries_of c.reads ++ entry_in body ∷ [])) × IfTold o (IsClosed (gate + 1 + length body) (n + 1)) in
        let last = gate_settled _ _ (has_body c was) in
        subst P (sym (done ∙ ap (told after_sync) (opened ∙ ap (told (after_write gate (0xA5 ∷ []))) (two c told1 told2 wrote synced)))) (ap Some last.0, last.1)

-- once more entries are told than before
pub closed-changed : (gate n : ℕ) (o : Option Content) (before after : Option (List EntryValue)) → entries_told o ≡ after → IfTold o (IsClosed gate n) → EveryImage o (HoldsWith (IsEither before after))
closed-changed gate n None before after is was = tt
closed-changed gate n (Some c) before after is was = closed-images gate n (Some c) _ (record { is = changed is }) was

-- a fact of every image, where the content is the same
pub every-same : (o same : Option Content) (P : List ℕ → Type 0) → same ≡ o → EveryImage o P → EveryImage same P
every-same o same P is every = let Q : Option Content → Type 0 = λ s. EveryImage s P in subst Q (sym is) every

-- every image has the entries that are told
pub durable-as : (gate n : ℕ) (o : Option Content) (es : Option (List EntryValue)) → entries_told o ≡ es → IfTold o (IsClosed gate n) → EveryImage o (HoldsWith (IsTold es))
durable-as gate n o es is was = let P : Option (List EntryValue) → Type 0 = λ e. EveryImage o (HoldsWith (IsTold e)) in subst P is (closed-durable gate n o was)

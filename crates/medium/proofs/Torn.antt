-- What a write does to an image in memory, and that each such image is one that a power loss may leave.
use Rattle.std.proofs.Common.{◌≡◌, ◌⊎◌, inl, inr, ℕ, ◌+◌, ◌<◌, ◌≤◌, max, ◌/◌, ◌==◌, if◌then◌else◌, Bool, true, false, Result, Ok, Err, OnErr, Some, List, length, get_or, take, replicate, sym, ◌∙◌, ap, refl, subst, arith, length-take}
use Rattle.std.proofs.lemmas.List.{length-replicate, get_or-replicate}
use Rattle.medium_model.specs.Content.{Content, FailedWrite, after_write, written}
use Rattle.medium_model.specs.State.{TornWrite}
use Rattle.medium.specs.Buffer.{Buffer, DirtyMarks, ReadyContent, IsTornImage, FitTogether, content_of}
use Rattle.medium.specs.Memory.{Tears, TearsHeld, IsBench, after_torn, torn_write}
use Rattle.medium_model.specs.declared.bench.Tear.{Tear}
use Rattle.medium_model.specs.declared.bench.Tear.TheVariants.{Half}
use Rattle.medium.specs.declared.power.Power.{Power}
use Rattle.medium.proofs.Buffers.{ahead, inside, past, place_of}
use Rattle.medium_model.proofs.Written.{length-written, get_or-written_before, get_or-written_there, get_or-written_behind}

-- the marks after a write
module _ (at n : ℕ) (was : List Bool) where
  length-marked : length (written false at (replicate n true) was) ≡ max (length was) (at + n)
  length-marked = length-written false at (replicate n true) was ∙ ap (λ m. max (length was) (at + m)) (length-replicate n true)

  -- a byte that is clean now was clean, and is outside of the range
  clean-marked : (k : ℕ) → get_or (written false at (replicate n true) was) k false ≡ false → ((k < at) ⊎ (at + n ≤ k)) × (get_or was k false ≡ false)
  clean-marked k clean = elim (place_of at n k) as (λ _. ((k < at) ⊎ (at + n ≤ k)) × (get_or was k false ≡ false)) [
    | ahead low ↦ (inl low, sym (get_or-written_before false at (replicate n true) was k low) ∙ clean)
    | inside j low eq ↦
        let dirty : get_or (written false at (replicate n true) was) k false ≡ true =
        ap (λ i. get_or (written false at (replicate n true) was) i false) (sym eq)
        ∙ get_or-written_there false at (replicate n true) was j (omega (arith, length-replicate n true)) ∙ get_or-replicate n j true false low in
        absurd (let no : true ≡ false = sym dirty ∙ clean in cc)
    | past high ↦ (inr high, sym (get_or-written_behind false at (replicate n true) was k (omega (arith, length-replicate n true))) ∙ clean)
  ]

module _ (c d : Content) (at n : ℕ) (image : List ℕ)
    (torn : IsTornImage c image)
    (durable : d.durable ≡ c.durable)
    (dirty : d.dirty ≡ written false at (replicate n true) c.dirty) where
  marks : length d.dirty ≡ max (length c.dirty) (at + n)
  marks = ap length dirty ∙ length-marked at n c.dirty

  clean_then : (k : ℕ) → get_or d.dirty k false ≡ false → ((k < at) ⊎ (at + n ≤ k)) × (get_or c.dirty k false ≡ false)
  clean_then k clean = clean-marked at n c.dirty k (ap (λ (m : List Bool). get_or m k false) (sym dirty) ∙ clean)

  torn-of : (left : List ℕ) → length d.durable ≤ length left → length left ≤ max (length d.durable) (length d.dirty) → ((k : ℕ) → get_or d.dirty k false ≡ false → get_or left k 0 ≡ get_or d.durable k 0)
      → IsTornImage d left
  torn-of left short long clean = record { may_be_left = record { no_shorter = short; no_longer = long; stays = λ k low. clean k }; clean = clean }

  -- an image that the write did not reach
  pub torn-marked : IsTornImage d image
  torn-marked = torn-of image
      (let same = ap length durable in omega (arith, torn.may_be_left.no_shorter))
      (let same = ap length durable in omega (arith, torn.may_be_left.no_longer, marks))
      (λ k clean. torn.clean k (clean_then k clean).1 ∙ sym (ap (λ (b : List ℕ). get_or b k 0) durable))

  -- an image that the write reached, with at most N bytes
  pub torn-written : (bytes : List ℕ) → length bytes ≤ n → IsTornImage d (written 0 at bytes image)
  torn-written bytes few = torn-of (written 0 at bytes image)
      (let same = ap length durable in omega (arith, torn.may_be_left.no_shorter, length-written 0 at bytes image))
      (let same = ap length durable in omega (arith, torn.may_be_left.no_longer, marks, length-written 0 at bytes image))
      (λ k clean.
      (elim (clean_then k clean).0 as (λ _. get_or (written 0 at bytes image) k 0 ≡ get_or image k 0) [
        | inl low ↦ get_or-written_before 0 at bytes image k low
        | inr high ↦ get_or-written_behind 0 at bytes image k (omega arith)
      ])
      ∙ torn.clean k (clean_then k clean).1 ∙ sym (ap (λ (b : List ℕ). get_or b k 0) durable))

-- A write in the room keeps the parts together.
module _ (reads durable : Buffer) (dirty : DirtyMarks) (ready at n : ℕ)
    (fit : FitTogether reads durable dirty ready)
    (room : at + n ≤ ready)
    (new_dirty : DirtyMarks) (marked : new_dirty ≡ record dirty { marks = written false at (replicate n true) dirty.marks }) where
  new_marks : new_dirty.marks ≡ written false at (replicate n true) dirty.marks
  new_marks = ap (λ (m : DirtyMarks). m.marks) marked

  new_length : length new_dirty.marks ≡ max (length dirty.marks) (at + n)
  new_length = ap length new_marks ∙ length-marked at n dirty.marks

  new_room : new_dirty.room ≡ dirty.room
  new_room = ap (λ (m : DirtyMarks). m.room) marked

  pub fit-marked : FitTogether reads durable new_dirty ready
  fit-marked = record {
    most = fit.most;
    reads_room = fit.reads_room;
    durable_room = fit.durable_room;
    dirty_room = omega (arith, fit.dirty_room, new_room);
    durable_fits = fit.durable_fits;
    dirty_fits = omega (arith, fit.dirty_fits, new_length);
    reads_image = torn-marked (content_of reads durable dirty) (content_of reads durable new_dirty) at n reads.bytes fit.reads_image refl new_marks;
  }

  pub fit-written : (bytes : List ℕ) → length bytes ≡ n → (new_reads : Buffer) → new_reads ≡ record reads { bytes = written 0 at bytes reads.bytes } → FitTogether new_reads durable new_dirty ready
  fit-written bytes size new_reads put = record {
    most = fit.most;
    reads_room = let same = ap (λ (b : Buffer). b.room) put in omega (arith, fit.reads_room);
    durable_room = fit.durable_room;
    dirty_room = omega (arith, fit.dirty_room, new_room);
    durable_fits = fit.durable_fits;
    dirty_fits = omega (arith, fit.dirty_fits, new_length);
    reads_image =
        let torn = torn-written (content_of reads durable dirty) (content_of new_reads durable new_dirty) at n reads.bytes fit.reads_image refl new_marks bytes (omega arith) in
        let P : List ℕ → Type 0 = λ image. IsTornImage (content_of new_reads durable new_dirty) image in
        subst P (sym (ap (λ (b : Buffer). b.bytes) put)) torn;
  }

-- A write that the bench's power loss did not reach, or one that it may have torn, keeps its images fitting.
module _ (held new_held : ReadyContent) (images : TearsHeld) (tear : Tear) (power : Power) (at : ℕ) (bytes : List ℕ)
    (bench : IsBench held images tear power)
    (durable : new_held.content.durable ≡ held.content.durable)
    (dirty : new_held.content.dirty ≡ written false at (replicate (length bytes) true) held.content.dirty)
    (ready : new_held.ready ≡ held.ready) where
  pub bench-spoiled : IsBench new_held images tear power
  bench-spoiled = record {
    unarmed = bench.unarmed;
    room = omega (arith, bench.room, ready);
    zero = torn-marked held.content new_held.content at (length bytes) _ bench.zero durable dirty;
    opened = torn-marked held.content new_held.content at (length bytes) _ bench.opened durable dirty;
    half = torn-marked held.content new_held.content at (length bytes) _ bench.half durable dirty;
  }

  half_torn : IsTornImage new_held.content (torn_write Half at bytes images.tears.half)
  half_torn =
      let image = images.tears.half in
      let reached = written 0 at (take (length bytes / 2) bytes) image in
      elim (length bytes / 2 == 0) as (λ none. IsTornImage new_held.content (if none then image else reached)) [
        | true ↦ torn-marked held.content new_held.content at (length bytes) image bench.half durable dirty
        | false ↦ torn-written held.content new_held.content at (length bytes) image bench.half durable dirty (take (length bytes / 2) bytes) (omega (arith, length-take (length bytes / 2) bytes))
      ]

  pub bench-written : (new_images : TearsHeld) → new_images.tears ≡ after_torn at bytes images.tears → new_images.room ≡ images.room → IsBench new_held new_images tear power
  bench-written new_images torn room =
      let torn_by = λ (byte : ℕ) (image : List ℕ) (was : IsTornImage held.content image).
      torn-written held.content new_held.content at (length bytes) image was durable dirty (replicate (length bytes) byte) (omega (arith, length-replicate (length bytes) byte)) in
      let P : List ℕ → Type 0 = λ image. IsTornImage new_held.content image in
      record {
        unarmed = bench.unarmed;
        room = omega (arith, bench.room, ready, room);
        zero = subst P (sym (ap (λ (t : Tears). t.zero) torn)) (torn_by 0 images.tears.zero bench.zero);
        opened = subst P (sym (ap (λ (t : Tears). t.opened) torn)) (torn_by 0xA5 images.tears.opened bench.opened);
        half = subst P (sym (ap (λ (t : Tears). t.half) torn)) half_torn;
      }

-- A write that went through is one of those that a failed one may have been.
pub failed-written : (at : ℕ) (bytes : List ℕ) (c : Content) → FailedWrite at (length bytes) c (after_write at bytes c)
failed-written at bytes c = record {
  durable = refl;
  dirty = refl;
  no_shorter = omega (arith, length-written 0 at bytes c.reads);
  no_longer = omega (arith, length-written 0 at bytes c.reads);
  before = λ k low _. get_or-written_before 0 at bytes c.reads k low;
  behind = λ k high _. get_or-written_behind 0 at bytes c.reads k high;
}

pub torn-by_write : {T E : Type 0} (r : Result T E) (at : ℕ) (bytes : List ℕ) (old new : Content) → new ≡ after_write at bytes old
    → OnErr r (TornWrite at (length bytes) (Some old) (Some new))
torn-by_write (Ok x) at bytes old new is = tt
torn-by_write (Err e) at bytes old new is = (new, refl, let P : Content → Type 0 = λ c. FailedWrite at (length bytes) old c in subst P (sym is) (failed-written at bytes old))

-- Records stored within one line, in the code's words.
use Rattle.std.proofs.Common.{◌≡◌, ◌⊎◌, inl, inr, ℕ, zero, suc, ◌+◌, ◌-◌, ◌≤◌, ◌<◌, true, false, List, [], ◌∷◌, length, Option, IsSome, refl, sym, ap, ◌∙◌, subst, arith, nat_le, drop, get_or, add-one, drop-cons}
use Rattle.std.proofs.lemmas.Bool.{cases_lt, false≢true}
use Rattle.std.proofs.lemmas.List.{get_or-map, length-map}
use Rattle.acquisition.specs.Deciding.{decided}
use Rattle.acquisition.specs.declared.fix.Fix.{Fix}
use Rattle.acquisition.specs.Sound.{AreRecordsOf}
use Rattle.avl_values.specs.Record.{Record}
use Rattle.avl_values.specs.Viewed.{record_of, records_viewed}
use Rattle.avl_values.specs.declared.codec.Codec.{Codec}
use Rattle.avl_values.specs.declared.rec.Rec.{Rec}
use Rattle.record_layout.specs.SomeRecord.{IsSomeRecord}
use Rattle.flash_ring.specs.Ring.{RingView}
use Rattle.medium_model.specs.CallsLeft.{CallsLeft, Passes, after, exhausted, less, unknown, unlimited}
use Rattle.medium_model.specs.PowerLoss.{WasImage}
use Rattle.medium_model.specs.State.{Counted, MediumState}
use Rattle.medium_model.proofs.Images.{every-at, every-map, less-over}
use Rattle.flash_ring.specs.Slot.{IsFlash}
use Rattle.tracker_session.specs.Keeping.{KeepsLeft, keep_calls}
use Rattle.trial_device.specs.SideLines.{EndsSide, armed_ring}
use Rattle.trial_device.specs.Counting.{IsCounting}
use Rattle.trial_device.specs.Sides.{Side}
use Rattle.trial_device.specs.Storing.{Stores, StoresAll, begun, cut_later, cut_now, stored}
use Rattle.trial_model.specs.Script.{settings_of}
use Rattle.trial_device.proofs.Fixing.{all-beside}
use Rattle.trial_device.proofs.Images.{each-sound}
use Rattle.trial_device.proofs.Onces.{either}

less-known : (n : ℕ) (l : CallsLeft) → (l ≡ unknown → ⊥) → less n l ≡ unknown → ⊥
less-known n unknown known is = known refl
less-known n unlimited known is = absurd cc
less-known n (after k) known is = either (λ l. l ≡ unknown → ⊥) (nat_le n k) (after (k - n)) exhausted (λ e. absurd cc) (λ e. absurd cc) is
less-known n exhausted known is = absurd cc

fails-spent : (n : ℕ) (l new : CallsLeft) → (l ≡ unknown → ⊥) → (Passes n l → ⊥) → new ≡ less n l → new ≡ exhausted
fails-spent n unknown new known never is = absurd (known refl)
fails-spent n unlimited new known never is = absurd (never tt)
fails-spent n (after k) new known never is = is ∙ less-over n k (elim (cases_lt k n) as (λ _. k < n) [ inl over ↦ over | inr enough ↦ absurd (never enough) ])
fails-spent n exhausted new known never is = is

-- the medium still counts after some calls
counts-on : (n : ℕ) (l k : MediumState) (failed : Type 0) → Counted n l k failed → (l.left ≡ unlimited) ⊎ (IsSome l.content × (l.left ≡ unknown → ⊥)) → (k.left ≡ unlimited) ⊎ (IsSome k.content × (k.left ≡ unknown → ⊥))
counts-on n l k failed counted counts = elim counts as (λ _. (k.left ≡ unlimited) ⊎ (IsSome k.content × (k.left ≡ unknown → ⊥))) [
  | inl free ↦ inl (counted.left ∙ ap (less n) free)
  | inr told ↦ inr (counted.told told.0, λ is. less-known n l.left told.1 (sym counted.left ∙ is))
]

spent-now : (n : ℕ) (l k : MediumState) (failed : Type 0) → Counted n l k failed → failed → (l.left ≡ unlimited) ⊎ (IsSome l.content × (l.left ≡ unknown → ⊥)) → k.left ≡ exhausted
spent-now n l k failed counted fails counts =
    let never : Passes n l.left → ⊥ = λ passes. counted.passes passes fails in
    elim counts as (λ _. k.left ≡ exhausted) [
      | inl free ↦ absurd (never (subst (Passes n) (sym free) tt))
      | inr told ↦ fails-spent n l.left k.left told.1 never counted.left
    ]

pub stores-counting : (n : ℕ) (r : Record) (d e : Side) → Stores r d e → IsCounting (n + 1) d.ring → IsCounting n e.ring
stores-counting n r d e stores c = elim stores as (λ _. IsCounting n e.ring) [
  | stored s ↦ record {
    counts = counts-on (keep_calls d.ring) d.ring.medium e.ring.medium (false ≡ true) s.keeps.counted c.counts;
    spent = λ down. absurd (false≢true (sym s.keeps.down ∙ down));
    short = λ up. (let next = s.keeps.next refl in let short = c.short s.up in omega arith);
    sound = each-sound e.ring (KeepsLeft d.ring r) s.keeps.images;
  }
  | cut_now s ↦ record {
    counts = counts-on (keep_calls d.ring) d.ring.medium e.ring.medium (true ≡ true) s.keeps.counted c.counts;
    spent = λ down. spent-now (keep_calls d.ring) d.ring.medium e.ring.medium (true ≡ true) s.keeps.counted refl c.counts;
    short = λ up. absurd (false≢true (sym up ∙ s.keeps.down));
    sound = each-sound e.ring (KeepsLeft d.ring r) s.keeps.images;
  }
  | cut_later s ↦ record {
    counts = (let spent = s.left ∙ c.spent s.was_down in inr (s.tells, λ is. let never : exhausted ≡ unknown = sym spent ∙ is in absurd cc));
    spent = λ down. s.left ∙ c.spent s.was_down;
    short = λ up. absurd (false≢true (sym up ∙ s.down));
    sound = every-map e.ring.medium.content (WasImage d.ring.medium.content) (IsFlash (length e.ring.slots))
        (λ image was. subst (λ n. IsFlash n image) (sym s.size) (every-at d.ring.medium.content (IsFlash (length d.ring.slots)) image s.told c.sound was)) s.images;
  }
]

-- N records, and fewer
pub counting-fewer : (n k : ℕ) (v : RingView) → k ≤ n → IsCounting n v → IsCounting k v
counting-fewer n k v few c = record { counts = c.counts; spent = c.spent; short = λ up. (let short = c.short up in omega arith); sound = c.sound }

-- The records of a line, after the first k of them were stored.
pub record IsStoring (d : Side) (rs : List Record) (k : ℕ) (x : Side) : Type 0 where
  pub counting : IsCounting (length rs - k) x.ring
  pub rest : (e : Side) → StoresAll (drop k rs) x e → StoresAll rs d e

pub storing-first : (d : Side) (rs : List Record) → IsCounting (length rs) d.ring → IsStoring d rs 0 d
storing-first d rs c = record { counting = counting-fewer (length rs) (length rs - 0) d.ring (omega arith) c; rest = λ e s. s }

pub storing-one : (d : Side) (rs : List Record) (k : ℕ) (x : Side) → k < length rs → IsStoring d rs k x → IsCounting 1 x.ring
storing-one d rs k x low s = counting-fewer (length rs - k) 1 x.ring (omega arith) s.counting

pub storing-more : (d : Side) (rs : List Record) (k next : ℕ) (x y : Side) (r : Record) → k < length rs → next ≡ k + 1 → r ≡ get_or rs k r → Stores r x y → IsStoring d rs k x → IsStoring d rs next y
storing-more d rs k next x y r low is read stores s =
    let now : drop k rs ≡ r ∷ drop next rs = drop-cons rs k r low ∙ ap (λ z. z ∷ drop (suc k) rs) (sym read) ∙ ap (λ n. r ∷ drop n rs) (sym (is ∙ add-one k)) in
    record {
      counting = stores-counting (length rs - next) r x y stores (counting-fewer (length rs - k) (length rs - next + 1) x.ring (omega arith) s.counting);
      rest = λ e later. (let P : List Record → Type 0 = λ l. StoresAll l x e in s.rest e (subst P (sym now) (y, stores, later)));
    }

-- one of these records can be kept
pub record-at : (codec : Codec) (list : List Rec) (k : ℕ) (x : Rec) → AreRecordsOf codec (records_viewed list) → k < length list → x ≡ get_or list k x → IsSomeRecord x.codec x.bytes.items
record-at codec [] k x are low read = absurd (omega arith)
record-at codec (y ∷ list) zero x are low read =
    let P : Codec → Type 0 = λ c. IsSomeRecord c y.bytes.items in
    let Q : Rec → Type 0 = λ z. IsSomeRecord z.codec z.bytes.items in
    subst Q (sym read) (subst P (sym are.0.0) are.0.1)
record-at codec (y ∷ list) (suc k) x are low read = record-at codec list k x are.1 (omega arith) read

-- The loop over a line's records, in the code's words.

pub loop-one : (d : Side) (list : List Rec) (k : ℕ) (x : Side) → k < length list → IsStoring d (records_viewed list) k x → IsCounting 1 x.ring
loop-one d list k x low s = storing-one d (records_viewed list) k x (omega (arith, length-map list record_of)) s

pub loop-more : (d : Side) (list : List Rec) (k next : ℕ) (x y : Side) (rec : Rec) → k < length list → next ≡ k + 1 → rec ≡ get_or list k rec → Stores (record_of rec) x y → IsStoring d (records_viewed list) k x
    → IsStoring d (records_viewed list) next y
loop-more d list k next x y rec low is read stores s =
    let at : record_of rec ≡ get_or (records_viewed list) k (record_of rec) = ap record_of read ∙ sym (get_or-map record_of list k rec (record_of rec) low) in
    storing-more d (records_viewed list) k next x y (record_of rec) (omega (arith, length-map list record_of)) is at stores s

pub loop-first : (d : Side) (list : List Rec) → IsCounting (length list) d.ring → IsStoring d (records_viewed list) 0 d
loop-first d list c = storing-first d (records_viewed list) (counting-fewer (length list) (length (records_viewed list)) d.ring (omega (arith, length-map list record_of)) c)

-- the records of a line, as the code comes by them
pub fix-stores : (fix : Fix) (d b a kept : Side) (rs : List Record) → b ≡ record d { ring = armed_ring d.fuse d.ring } → a ≡ record b { watching = (decided (settings_of b.device) b.watching fix).watching }
    → rs ≡ (decided (settings_of b.device) b.watching fix).records → StoresAll rs a kept → StoresAll (decided (settings_of d.device) d.watching fix).records (begun fix d) kept
fix-stores fix d b a kept rs armed acquired made stores =
    let P : Side → Type 0 = λ b. a ≡ record b { watching = (decided (settings_of b.device) b.watching fix).watching } in
    let Q : Side → Type 0 = λ b. rs ≡ (decided (settings_of b.device) b.watching fix).records in
    let R : Side → Type 0 = λ a. StoresAll rs a kept in
    let S : List Record → Type 0 = λ rs. StoresAll rs (begun fix d) kept in
    subst S (subst Q armed made) (subst R (subst P armed acquired) stores)

pub fix-ends : (fix : Fix) (d kept e : Side) → StoresAll (decided (settings_of d.device) d.watching fix).records (begun fix d) kept → EndsSide kept.fuse kept e → EndsSide d.fuse kept e
fix-ends fix d kept e stores ends =
    let P : Option ℕ → Type 0 = λ fuse. EndsSide fuse kept e in
    subst P (all-beside (decided (settings_of d.device) d.watching fix).records (begun fix d) kept stores).fuse ends

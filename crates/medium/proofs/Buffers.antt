-- A loop that sets a range of a buffer, and what it leaves.
use Rattle.std.proofs.Common.{◌≡◌, ◌⊎◌, inl, inr, ℕ, ◌+◌, ◌-◌, ◌<◌, ◌≤◌, max, Bool, true, false, List, [], length, get_or, set, take, replicate, sym, ◌∙◌, ap, subst, arith, length-take}
use Rattle.std.proofs.lemmas.List.{length-replicate, ext_get_or, get_or-take, get_or-replicate, get_or_past}
use Rattle.std.proofs.lemmas.Bool.{cases_lt}
use Rattle.std.specs.Vec.{with_items}
use Rattle.std.proofs.lemmas.List.{with_items_is}
use Rattle.std.specs.declared.vec.Vec.{Vec}
use Rattle.medium_model.specs.Content.{written}
use Rattle.medium.specs.Buffer.{Buffer, DirtyMarks, HasMore, IsPadded, IsMarked, SetFrom}
use Rattle.medium.specs.declared.spans.Span.{Span}
use Rattle.medium.proofs.Outside.{end-later}
use Rattle.medium_model.proofs.Written.{length-written, get_or-written_before, get_or-written_there, get_or-written_behind}

-- the place of an element, before, in or after a range
pub data Place (at n k : ℕ) : Type 0 where
  ahead : k < at → Place at n k
  inside : (j : ℕ) → j < n → at + j ≡ k → Place at n k
  past : at + n ≤ k → Place at n k

pub place_of : (at n k : ℕ) → Place at n k
place_of at n k = elim (cases_lt k at) as (λ _. Place at n k) [
  | inl low ↦ ahead low
  | inr from ↦ elim (cases_lt k (at + n)) as (λ _. Place at n k) [
    | inl in_range ↦ inside (k - at) (omega arith) (omega arith)
    | inr high ↦ past high
  ]
]

-- what a front gives at a place
front : {A : Type 0} → (d : A) (n : ℕ) (xs : List A) (k : ℕ) → IsPadded d n xs → get_or (take n xs) k d ≡ get_or xs k d
front d n xs k padded = elim (cases_lt k n) as (λ _. get_or (take n xs) k d ≡ get_or xs k d) [
  | inl low ↦ get_or-take n xs k d low
  | inr high ↦ get_or_past (take n xs) k d (omega (arith, length-take n xs)) ∙ sym (padded.behind k high)
]

module _ {A : Type 0} (d : A) (at : ℕ) (ys : List A) (len : ℕ) (before after : List A)
    (padded : IsPadded d len before)
    (fits : at + length ys ≤ length before)
    (so : SetFrom d at (length ys) (λ k. get_or ys k d) before after) where
  pub padded-put : (end : ℕ) → end ≡ max len (at + length ys) → IsPadded d end after
  padded-put end is = record {
    within = let size = so.size in omega (arith, padded.within);
    behind = λ k above. so.elsewhere k (inr (omega arith)) ∙ padded.behind k (omega arith);
  }

  pub take-put : (end : ℕ) → end ≡ max len (at + length ys) → take end after ≡ written d at ys (take len before)
  take-put end is =
      let size = so.size in
      let l : length (take end after) ≡ max len (at + length ys) = omega (arith, length-take end after, padded.within) in
      let r : length (written d at ys (take len before)) ≡ max len (at + length ys) = omega (arith, length-written d at ys (take len before), length-take len before, padded.within) in
      ext_get_or d (take end after) (written d at ys (take len before)) (l ∙ sym r) (λ k _.
      front d end after k (padded-put end is) ∙ elim (place_of at (length ys) k) as (λ _. get_or after k d ≡ get_or (written d at ys (take len before)) k d) [
        | ahead low ↦ so.elsewhere k (inl low) ∙ sym (front d len before k padded) ∙ sym (get_or-written_before d at ys (take len before) k low)
        | inside j low eq ↦
            ap (λ i. get_or after i d) (sym eq) ∙ so.there j low ∙ sym (get_or-written_there d at ys (take len before) j low)
            ∙ ap (λ i. get_or (written d at ys (take len before)) i d) eq
        | past high ↦ so.elsewhere k (inr high) ∙ sym (front d len before k padded) ∙ sym (get_or-written_behind d at ys (take len before) k high)
      ])

-- a fill sets what the list of equal elements gives
pub set-replicate : {A : Type 0} → {d : A} {at : ℕ} (n : ℕ) (y : A) {before after : List A}
    → SetFrom d at n (λ _. y) before after → SetFrom d at (length (replicate n y)) (λ k. get_or (replicate n y) k d) before after
set-replicate {d = d} {at = at} n y {before = before} {after = after} so = record {
  size = so.size;
  there = λ k below. let low : k < n = omega (arith, length-replicate n y) in so.there k low ∙ sym (get_or-replicate n k y d low);
  elsewhere = λ k out. so.elsewhere k (rw length-replicate at out);
}

-- A buffer that took the other's elements is the other's.
module _ {A : Type 0} (d : A) (other_len : ℕ) (mine other after : List A)
    (size : length after ≡ length mine) (other_padded : IsPadded d other_len other) (fits : other_len ≤ length mine)
    (copied : (k : ℕ) → get_or after k d ≡ get_or other k d) where
  pub padded-copied : IsPadded d other_len after
  padded-copied = record { within = omega arith; behind = λ k above. copied k ∙ other_padded.behind k above }

  pub take-copied : take other_len after ≡ take other_len other
  take-copied =
      ext_get_or d (take other_len after) (take other_len other)
      (omega (arith, length-take other_len after, length-take other_len other, other_padded.within))
      (λ k _. front d other_len after k padded-copied ∙ copied k ∙ sym (front d other_len other k other_padded))

-- what contracts see of the marks
pub seen-marked : (at n : ℕ) (end new_end : ℕ) (earlier after : List Bool) (was : DirtyMarks)
    → IsPadded false end earlier → at + n ≤ was.room → SetFrom false at n (λ _. true) earlier after
    → new_end ≡ max end (at + n) → record { marks = take end earlier; room = length earlier } ≡ was
    → record { marks = take new_end after; room = length after } ≡ record was { marks = written false at (replicate n true) was.marks }
seen-marked at n end new_end earlier after was padded fits so is view =
    let was_marks = ap (λ (v : DirtyMarks). v.marks) view in
    let was_room = ap (λ (v : DirtyMarks). v.room) view in
    let count : length (replicate n true) ≡ n = length-replicate n true in
    let marks = take-put false at (replicate n true) end earlier after padded (omega arith) (set-replicate n true so) new_end (omega arith) in
    let size = so.size in
    cc

-- the marks of a range are in the spans with the range added
pub marked-more : (at n : ℕ) (end new_end : ℕ) (span : Span) (spans more : List Span) (earlier after : List Bool)
    → IsMarked spans end earlier → at + n ≤ length earlier → SetFrom false at n (λ _. true) earlier after → new_end ≡ max end (at + n)
    → HasMore span spans more → span.first ≡ at → span.end ≡ at + n → IsMarked more new_end after
marked-more at n end new_end span spans more earlier after marked fits so is has first last = record {
  padded = record {
    within = let size = so.size in let within = marked.padded.within in omega arith;
    behind = λ k above. so.elsewhere k (inr (omega arith)) ∙ marked.padded.behind k (omega arith);
  };
  ends = has.ends new_end (omega arith) (end-later end new_end spans (omega arith) marked.ends);
  clean = λ k out. so.elsewhere k (elim (has.has k out) as (λ _. (k < at) ⊎ (at + n ≤ k)) [ inl low ↦ inl (omega arith) | inr high ↦ inr (omega arith) ]) ∙ marked.clean k (has.covers k out);
}

-- what contracts see of a buffer
abbrev seen : ℕ → List ℕ → Buffer
seen len items = record { bytes = take len items; room = length items }

pub seen-put : (at n : ℕ) (ys : List ℕ) (len end : ℕ) (before after : List ℕ) (was : Buffer)
    → IsPadded 0 len before → at + length ys ≤ was.room → n ≡ length ys → SetFrom 0 at n (λ k. get_or ys k 0) before after
    → end ≡ max len (at + length ys) → seen len before ≡ was
    → seen end after ≡ record was { bytes = written 0 at ys was.bytes }
seen-put at n ys len end before after was padded fits all so is view =
    let so_all = let P : ℕ → Type 0 = λ m. SetFrom 0 at m (λ k. get_or ys k 0) before after in subst P all so in
    let was_bytes = ap (λ (v : Buffer). v.bytes) view in
    let was_room = ap (λ (v : Buffer). v.room) view in
    let bytes = take-put 0 at ys len before after padded (omega arith) so_all end is in
    let size = so.size in
    cc

pub seen-copied : (other_len : ℕ) (len : ℕ) (mine other after : List ℕ) (was it : Buffer)
    → IsPadded 0 other_len other → seen len mine ≡ was → seen other_len other ≡ it
    → length it.bytes ≤ was.room → length after ≡ length mine → ((k : ℕ) → get_or after k 0 ≡ get_or other k 0)
    → IsPadded 0 other_len after × (seen other_len after ≡ record was { bytes = it.bytes })
seen-copied other_len len mine other after was it other_padded view other_view fits size copied =
    let was_room = ap (λ (v : Buffer). v.room) view in
    let it_bytes = ap (λ (v : Buffer). v.bytes) other_view in
    let other_fits : other_len ≤ length mine = omega (arith, ap length it_bytes, length-take other_len other, other_padded.within) in
    let bytes = take-copied 0 other_len mine other after size other_padded other_fits copied in
    (padded-copied 0 other_len mine other after size other_padded other_fits copied, cc)

-- a buffer whose items were set as a slice
pub set-in : {A Z : Type 0} → (d : A) (at n : ℕ) (f : ℕ → A) (v : Vec A Z) (slice after : List A) → slice ≡ v.items → SetFrom d at n f slice after
    → SetFrom d at n f v.items (with_items v after).items
set-in {A = A} d at n f v slice after is so =
    let P : List A → Type 0 = λ before. SetFrom d at n f before after in
    let Q : List A → Type 0 = λ items. SetFrom d at n f v.items items in
    let set = subst P is so in
    subst Q (sym (with_items_is v after (set.size ∙ sym v.ok.0))) set

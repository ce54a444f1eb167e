-- How the media in memory keep their bytes: buffers that are long enough for each write that is allowed, and the filler
-- after the end.
use Rattle.std.specs.Prelude.{◌≡◌, ◌⊎◌, ℕ, ◌+◌, ◌<◌, ◌≤◌, ◌^◌, Bool, false, List, [], ◌∷◌, length, get_or}
use Rattle.std.specs.List.{All}
use Rattle.medium.specs.declared.spans.Span.{Span}
use Rattle.medium_model.specs.Content.{Content}
use Rattle.medium_model.specs.PowerLoss.{IsImage}

-- bytes from place 0 on, and the place up to which there is room
pub record Buffer : Type 0 where
  pub bytes : List ℕ
  pub room : ℕ

-- a mark for each dirty byte, and the place up to which there is room
pub record DirtyMarks : Type 0 where
  pub marks : List Bool
  pub room : ℕ

-- a content, and the place up to which it is ready for writes
pub record ReadyContent : Type 0 where
  pub content : Content
  pub ready : ℕ

-- after its end the list has the filler alone
pub record IsPadded {A : Type 0} (filler : A) (len : ℕ) (items : List A) : Type 0 where
  pub within : len ≤ length items
  pub behind : (k : ℕ) → len ≤ k → get_or items k filler ≡ filler

-- a power loss may leave this image, and it has what is durable wherever nothing was written since, also past the durable end
pub record IsTornImage (c : Content) (image : List ℕ) : Type 0 where
  pub may_be_left : IsImage c image
  pub clean : (k : ℕ) → get_or c.dirty k false ≡ false → get_or image k 0 ≡ get_or c.durable k 0

-- this place is in none of these spans
abbrev pub IsOutside : List Span → ℕ → Type 0
IsOutside [] k = Unit {0}
IsOutside (s ∷ spans) k = ((k < s.first) ⊎ (s.end ≤ k)) × IsOutside spans k

-- each of these spans ends by this place
pub record EndBy (end : ℕ) (spans : List Span) : Type 0 where
  pub each : All (λ (s : Span). s.end ≤ end) spans

-- these spans with one more: a place outside of them is outside of those before and of that one
pub record HasMore (span : Span) (old new : List Span) : Type 0 where
  pub covers : (k : ℕ) → IsOutside new k → IsOutside old k
  pub has : (k : ℕ) → IsOutside new k → (k < span.first) ⊎ (span.end ≤ k)
  pub ends : (end : ℕ) → span.end ≤ end → EndBy end old → EndBy end new

-- n elements from a place on have been set to what f gives, and nothing else has changed
pub record SetFrom {A : Type 0} (d : A) (at n : ℕ) (f : ℕ → A) (before after : List A) : Type 0 where
  pub size : length after ≡ length before
  pub there : (k : ℕ) → k < n → get_or after (at + k) d ≡ f k
  pub elsewhere : (k : ℕ) → (k < at) ⊎ (at + n ≤ k) → get_or after k d ≡ get_or before k d

-- no mark is set outside of these spans, or after the end
pub record IsMarked (spans : List Span) (end : ℕ) (marks : List Bool) : Type 0 where
  pub padded : IsPadded false end marks
  pub ends : EndBy end spans
  pub clean : (k : ℕ) → IsOutside spans k → get_or marks k false ≡ false

abbrev pub content_of : Buffer → Buffer → DirtyMarks → Content
content_of reads durable dirty = record { reads = reads.bytes; durable = durable.bytes; dirty = dirty.marks }

-- the parts of a content in memory fit together
pub record FitTogether (reads durable : Buffer) (dirty : DirtyMarks) (ready : ℕ) : Type 0 where
  pub most : ready ≤ 2 ^ 62
  pub reads_room : ready ≤ reads.room
  pub durable_room : ready ≤ durable.room
  pub dirty_room : ready ≤ dirty.room
  pub durable_fits : length durable.bytes ≤ ready
  pub dirty_fits : length dirty.marks ≤ ready
  pub reads_image : IsTornImage (content_of reads durable dirty) reads.bytes

-- The frames of a stream by their ends.
use Rattle.std.proofs.Common.{◌≡◌, ◌≤◌, ◌<◌, inl, inr, ℕ, zero, suc, ◌+◌, ◌&&◌, nat_le, nat_lt, Bool, true, false, List, [], ◌∷◌, ◌++◌, length, take, drop, refl, sym, ◌∙◌, ap, arith, if◌then◌else◌}
use Rattle.std.specs.List.{filter}
use Rattle.std.proofs.lemmas.Bool.{false≢true}
use Rattle.std.proofs.lemmas.Bool.Decides.{leb_tells}
use Rattle.record_layout.specs.RecordsOf.{records_of}
use Rattle.trial_model.specs.Delivery.{frames_between}
use Rattle.trial_model.specs.Frames.{Frame, body_at, frames_from, frames_of, frames_within, has_frame, login_size, with_frame}

-- Each ends after the one before it, and the first after this place.
abbrev pub Rises : ℕ → List Frame → Type 0
Rises place [] = Unit {0}
Rises place (f ∷ fs) = (place < f.end) × Rises f.end fs

rises-from : (most place : ℕ) (bytes : List ℕ) → Rises place (frames_from most place bytes).frames
unfolding frames_from
rises-from zero place bytes = tt
rises-from (suc most) place bytes = split (rises-from most (place + (12 + length (body_at bytes))) (drop (12 + length (body_at bytes)) bytes)) (has_frame bytes)
  where
    split : Rises (place + (12 + length (body_at bytes))) (frames_from most (place + (12 + length (body_at bytes))) (drop (12 + length (body_at bytes)) bytes)).frames
        → (b : Bool) → Rises place (if b then with_frame (record { end = place + (12 + length (body_at bytes)); records = records_of (body_at bytes) })
        (frames_from most (place + (12 + length (body_at bytes))) (drop (12 + length (body_at bytes)) bytes)) else record { frames = []; rest = bytes }).frames
    split later true = (omega arith, later)
    split later false = tt

pub frames-rise : (up : List ℕ) → Rises login_size (frames_of up)
frames-rise up = rises-from (length up) login_size (drop login_size up)

-- none ends at a place before all
pub none-low : (place b : ℕ) (fs : List Frame) → Rises place fs → b ≤ place → filter (λ f. nat_le f.end b) fs ≡ []
none-low place b [] rises low = refl
none-low place b (f ∷ fs) rises low = elim (leb_tells f.end b) as (λ _. filter (λ f. nat_le f.end b) (f ∷ fs) ≡ []) [
  | inl early ↦ absurd (let first = rises.0 in let at = early.1 in omega arith)
  | inr late ↦ rw late.0 (none-low f.end b fs rises.1 (let first = rises.0 in omega arith))
]

-- those up to a place are those up to an earlier one, and those between
parts : (place a b : ℕ) (fs : List Frame) → Rises place fs → a ≤ b
    → filter (λ f. nat_le f.end b) fs ≡ filter (λ f. nat_le f.end a) fs ++ filter (λ f. nat_lt a f.end && nat_le f.end b) fs
parts place a b [] rises order = refl
parts place a b (f ∷ fs) rises order =
    let rest = parts f.end a b fs rises.1 order in
    elim (leb_tells f.end a) as (λ _. filter (λ f. nat_le f.end b) (f ∷ fs) ≡ filter (λ f. nat_le f.end a) (f ∷ fs) ++ filter (λ f. nat_lt a f.end && nat_le f.end b) (f ∷ fs)) [
      | inl early ↦
          let at_b : nat_le f.end b ≡ true = (elim (leb_tells f.end b) as (λ _. nat_le f.end b ≡ true) [ inl yes_b ↦ yes_b.0 | inr no_b ↦ absurd (let p = early.1 in let q = no_b.1 in omega arith) ]) in
          let not_a : nat_lt a f.end ≡ false = (elim (leb_tells (suc a) f.end) as (λ _. nat_lt a f.end ≡ false) [ inl yes_a ↦ absurd (let p = early.1 in let q = yes_a.1 in omega arith) | inr no_a ↦ no_a.0 ]) in
          rw (early.0, at_b, not_a) (ap (λ l. f ∷ l) rest)
      | inr late ↦
          let after_a : nat_lt a f.end ≡ true = (elim (leb_tells (suc a) f.end) as (λ _. nat_lt a f.end ≡ true) [ inl yes_a ↦ yes_a.0 | inr no_a ↦ absurd (let p = late.1 in let q = no_a.1 in omega arith) ]) in
          let none : filter (λ f. nat_le f.end a) fs ≡ [] = none-low f.end a fs rises.1 (let p = late.1 in omega arith) in
          let only : filter (λ f. nat_le f.end b) fs ≡ filter (λ f. nat_lt a f.end && nat_le f.end b) fs = rest ∙ ap (λ l. l ++ filter (λ f. nat_lt a f.end && nat_le f.end b) fs) none in
          elim (leb_tells f.end b) as (λ _. filter (λ f. nat_le f.end b) (f ∷ fs) ≡ filter (λ f. nat_le f.end a) (f ∷ fs) ++ filter (λ f. nat_lt a f.end && nat_le f.end b) (f ∷ fs)) [
            | inl yes_b ↦ rw (late.0, after_a, yes_b.0, none) (ap (λ l. f ∷ l) only)
            | inr no_b ↦ rw (late.0, after_a, no_b.0, none) only
          ]
    ]

-- those up to a place come first
firsts : (place n : ℕ) (fs : List Frame) → Rises place fs → filter (λ f. nat_le f.end n) fs ≡ take (length (filter (λ f. nat_le f.end n) fs)) fs
firsts place n [] rises = refl
firsts place n (f ∷ fs) rises = elim (leb_tells f.end n) as (λ _. filter (λ f. nat_le f.end n) (f ∷ fs) ≡ take (length (filter (λ f. nat_le f.end n) (f ∷ fs))) (f ∷ fs)) [
  | inl early ↦ rw early.0 (ap (λ l. f ∷ l) (firsts f.end n fs rises.1))
  | inr late ↦ rw (late.0, none-low f.end n fs rises.1 (let p = late.1 in omega arith)) refl
]

pub within-parts : (up : List ℕ) (a b : ℕ) → a ≤ b → frames_within b up ≡ frames_within a up ++ frames_between a b up
within-parts up a b order = parts login_size a b (frames_of up) (frames-rise up) order

pub within-first : (up : List ℕ) (n : ℕ) → frames_within n up ≡ take (length (frames_within n up)) (frames_of up)
within-first up n = firsts login_size n (frames_of up) (frames-rise up)

-- nothing lies between a place and one that isn't after it
pub between-some : (a b : ℕ) (fs : List Frame) → 1 ≤ length (filter (λ f. nat_lt a f.end && nat_le f.end b) fs) → a < b
between-some a b [] some = absurd (omega arith)
between-some a b (f ∷ fs) some = split (λ rest. between-some a b fs rest) (nat_lt a f.end) (nat_le f.end b) refl refl some
  where
    split : (1 ≤ length (filter (λ g. nat_lt a g.end && nat_le g.end b) fs) → a < b) → (x y : Bool) → nat_lt a f.end ≡ x → nat_le f.end b ≡ y
        → 1 ≤ length (filter (λ g. nat_lt a g.end && nat_le g.end b) (f ∷ fs)) → a < b
    split later true true p q some = elim (leb_tells (suc a) f.end) as (λ _. a < b) [
      | inl yes_a ↦ (elim (leb_tells f.end b) as (λ _. a < b) [ inl yes_b ↦ (let u = yes_a.1 in let v = yes_b.1 in omega arith) | inr no_b ↦ absurd (false≢true (sym no_b.0 ∙ q)) ])
      | inr no_a ↦ absurd (false≢true (sym no_a.0 ∙ p))
    ]
    split later true false p q some = later (rw (p, q) at some)
    split later false y p q some = later (rw p at some)

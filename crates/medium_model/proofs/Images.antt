-- What holds of every image that a power loss may leave, weakened or taken over a sync, and runs of calls one after the
-- other. The layers above cite these.
use Rattle.std.proofs.Common.{◌≡◌, ◌⊎◌, inl, inr, ℕ, ◌+◌, ◌-◌, ◌<◌, ◌≤◌, Bool, true, false, List, [], length, get_or, replicate, Option, Some, None, IsSome, sym, ◌∙◌, ap, refl, subst, arith}
use Rattle.std.proofs.lemmas.List.{ext_get_or, get_or_past, length-replicate}
use Rattle.std.proofs.lemmas.Bool.{cases_lt, false≢true}
use Rattle.std.proofs.lemmas.Bool.Decides.{nat_tests}
use Rattle.medium_model.specs.CallsLeft.{CallsLeft, unknown, unlimited, after, exhausted, less, Passes, Fails}
use Rattle.medium_model.specs.Content.{Content, settled, after_sync, after_write, written}
use Rattle.medium_model.proofs.Written.{length-written, get_or-written_before, get_or-written_behind}
use Rattle.medium_model.specs.State.{MediumState, IfTold, TornWrite, Counted, IsRun, told}
use Rattle.medium_model.specs.Images.{HoldsWith, IsSettled, IsDurable}
use Rattle.medium_model.specs.PowerLoss.{IsImage, EveryImage, WasImage}

-- what is durable whole is alone
pub image-settled : (xs image : List ℕ) → IsImage (settled xs) image → image ≡ xs
image-settled xs image is =
    ext_get_or 0 image xs (omega (arith, is.no_shorter, is.no_longer)) (λ k low. is.stays k (omega (arith, is.no_shorter, is.no_longer)) refl)

pub settled-image : (xs : List ℕ) → IsImage (settled xs) xs
settled-image xs = record { no_shorter = omega arith; no_longer = omega arith; stays = λ k _ _. refl }

-- Two lists of bytes of one length that agree outside of a range.
pub record SameOutside (at n : ℕ) (base image : List ℕ) : Type 0 where
  pub size : length image ≡ length base
  pub same : (p : ℕ) → (p < at) ⊎ (at + n ≤ p) → get_or image p 0 ≡ get_or base p 0

-- An image agrees with what is durable outside of the one range that was written, or that a write which failed may have
-- written.
pub images-outside : (c : Content) (base : List ℕ) (at n : ℕ) → c.durable ≡ base → c.dirty ≡ written false at (replicate n true) [] → at + n ≤ length base
    → (image : List ℕ) → IsImage c image → SameOutside at n base image
images-outside c base at n durable dirty fits image is =
    let marks : length c.dirty ≡ at + n = ap length dirty ∙ length-written false at (replicate n true) [] ∙ omega (arith, length-replicate n true) in
    let ends = ap length durable in
    let size : length image ≡ length base = omega (arith, is.no_shorter, is.no_longer) in
    let clean = λ (p : ℕ) (out : (p < at) ⊎ (at + n ≤ p)). ap (λ (m : List Bool). get_or m p false) dirty ∙ (elim out as (λ _. get_or (written false at (replicate n true) []) p false ≡ false) [
      | inl low ↦ get_or-written_before false at (replicate n true) [] p low
      | inr high ↦ get_or-written_behind false at (replicate n true) [] p (omega (arith, length-replicate n true))
    ]) in
    record {
      size = size;
      same = λ p out. elim (cases_lt p (length base)) as (λ _. get_or image p 0 ≡ get_or base p 0) [
        | inl within ↦ is.stays p (omega arith) (clean p out) ∙ ap (λ (b : List ℕ). get_or b p 0) durable
        | inr past ↦ get_or_past image p 0 (omega arith) ∙ sym (get_or_past base p 0 past)
      ];
    }

-- A write within the bytes changes no byte outside of its range.
pub written-outside : (at : ℕ) (bytes base : List ℕ) → at + length bytes ≤ length base → SameOutside at (length bytes) base (written 0 at bytes base)
written-outside at bytes base fits = record {
  size = length-written 0 at bytes base ∙ omega arith;
  same = λ p out. elim out as (λ _. get_or (written 0 at bytes base) p 0 ≡ get_or base p 0) [
    | inl low ↦ get_or-written_before 0 at bytes base p low
    | inr high ↦ get_or-written_behind 0 at bytes base p high
  ];
}

-- a fact of every image, weakened
pub every-map : (o : Option Content) (P Q : List ℕ → Type 0) → ((image : List ℕ) → P image → Q image) → EveryImage o P → EveryImage o Q
every-map None P Q so every = tt
every-map (Some c) P Q so every = λ image is. so image (every image is)

-- a fact of every image, taken over a sync that passed
pub every-synced : (o synced : Option Content) (P : List ℕ → Type 0) → IfTold o (λ c. IsImage c c.reads) → synced ≡ told after_sync o → EveryImage o P → EveryImage synced P
every-synced None synced P was done every = let Q : Option Content → Type 0 = λ s. EveryImage s P in subst Q (sym done) tt
every-synced (Some c) synced P was done every =
    let Q : Option Content → Type 0 = λ s. EveryImage s P in
    subst Q (sym done) (λ image is. subst P (sym (image-settled c.reads image is)) (every c.reads was))

-- a fact of the content, weakened
pub told-map : (o : Option Content) (P Q : Content → Type 0) → ((c : Content) → P c → Q c) → IfTold o P → IfTold o Q
told-map None P Q so p = tt
told-map (Some c) P Q so p = so c p

-- Where all that is read is durable, a write within it leaves images that differ in its range alone.
pub record WritesWithin (at n : ℕ) (P : List ℕ → Type 0) (c : Content) : Type 0 where
  pub rest : c ≡ settled c.reads
  pub fits : at + n ≤ length c.reads
  pub each : (image : List ℕ) → SameOutside at n c.reads image → P image

pub images-written : (old new : Option Content) (at : ℕ) (bytes : List ℕ) (P : List ℕ → Type 0) → IfTold old (WritesWithin at (length bytes) P)
    → new ≡ told (after_write at bytes) old → EveryImage new P
images-written None new at bytes P within is = let Q : Option Content → Type 0 = λ o. EveryImage o P in subst Q (sym is) tt
images-written (Some c) new at bytes P within is =
    let Q : Option Content → Type 0 = λ o. EveryImage o P in
    let dirty = ap (λ (d : Content). written false at (replicate (length bytes) true) d.dirty) within.rest in
    subst Q (sym is) (λ image im. within.each image (images-outside (after_write at bytes c) c.reads at (length bytes) (ap (λ (d : Content). d.durable) within.rest) dirty within.fits image im))

pub images-torn : (old new : Option Content) (at n : ℕ) (P : List ℕ → Type 0) → IfTold old (WritesWithin at n P) → TornWrite at n old new → EveryImage new P
images-torn None new at n P within is = let Q : Option Content → Type 0 = λ o. EveryImage o P in subst Q (sym is) tt
images-torn (Some c) new at n P within (d, is, failed) =
    let Q : Option Content → Type 0 = λ o. EveryImage o P in
    let dirty = failed.dirty ∙ ap (λ (e : Content). written false at (replicate n true) e.dirty) within.rest in
    subst Q (sym is) (λ image im. within.each image (images-outside d c.reads at n (failed.durable ∙ ap (λ (e : Content). e.durable) within.rest) dirty within.fits image im))

-- each image was one
pub every-was : (o : Option Content) → EveryImage o (WasImage o)
every-was None = tt
every-was (Some c) = λ image is. is

-- How much is left after two runs, the first of which passed.
less-none : (l : CallsLeft) → l ≡ less 0 l
less-none unknown = refl
less-none unlimited = refl
less-none (after k) = grind (arith, nat_tests)
less-none exhausted = refl

never_none : (l : CallsLeft) → Fails 0 l → ⊥
never_none unknown f = f
never_none unlimited f = f
never_none (after k) f = omega arith
never_none exhausted f = omega arith

pub less-within : (n k : ℕ) → n ≤ k → less n (after k) ≡ after (k - n)
less-within n k within = grind (arith, nat_tests)

pub less-over : (n k : ℕ) → k < n → less n (after k) ≡ exhausted
less-over n k over = grind (arith, nat_tests)

less-less : (n m : ℕ) (l : CallsLeft) → less m (less n l) ≡ less (n + m) l
less-less n m unknown = refl
less-less n m unlimited = refl
less-less n m (after k) = elim (cases_lt k n) as (λ _. less m (less n (after k)) ≡ less (n + m) (after k)) [
  | inl over ↦ rw (less-over n k over, less-over (n + m) k (omega arith)) refl
  | inr within ↦ elim (cases_lt (k - n) m) as (λ _. less m (less n (after k)) ≡ less (n + m) (after k)) [
    | inl later ↦ rw (less-within n k within, less-over m (k - n) later, less-over (n + m) k (omega arith)) refl
    | inr both ↦ rw (less-within n k within, less-within m (k - n) both, less-within (n + m) k (omega arith)) (ap after (omega arith))
  ]
]
less-less n m exhausted = refl

passes-rest : (n m : ℕ) (l : CallsLeft) → Passes (n + m) l → Passes m (less n l)
passes-rest n m unknown p = omega arith
passes-rest n m unlimited p = tt
passes-rest n m (after k) p = let P : CallsLeft → Type 0 = λ l. Passes m l in let fits : n ≤ k = omega arith in subst P (sym (less-within n k fits)) (omega arith)
passes-rest n m exhausted p = omega arith

fails-rest : (n m : ℕ) (l : CallsLeft) → (Fails n l → ⊥) → Fails (n + m) l → Fails m (less n l)
fails-rest n m unknown passed f = f
fails-rest n m unlimited passed f = f
fails-rest n m (after k) passed f = elim (cases_lt k n) as (λ _. Fails m (less n (after k))) [
  | inl over ↦ absurd (passed over)
  | inr within ↦ let P : CallsLeft → Type 0 = λ l. Fails m l in subst P (sym (less-within n k within)) (omega arith)
]
fails-rest n m exhausted passed f = elim (cases_lt 0 n) as (λ _. 0 < m) [ inl some ↦ absurd (passed some) | inr none ↦ omega arith ]

-- no call
pub counted-none : (s : MediumState) → Counted 0 s s ⊥
counted-none s = record {
  ready = omega arith;
  later = omega arith;
  cause = λ f. absurd f;
  left = less-none s.left;
  passes = λ _ f. f;
  fails = never_none s.left;
  told = λ was. was;
}

-- a run that passed, and then another
pub counted-then : {n m : ℕ} {a b c : MediumState} {failed : Type 0} → Counted n a b ⊥ → Counted m b c failed → Counted (n + m) a c failed
counted-then {n = n} {m = m} {a = a} {b = b} {c = c} {failed = failed} first second = record {
  ready = omega (arith, first.ready, second.ready);
  later = omega (arith, first.later, second.later);
  cause = λ f. let rose = second.cause f in omega (arith, first.later);
  left = second.left ∙ ap (less m) first.left ∙ less-less n m a.left;
  passes = λ p. second.passes (let P : CallsLeft → Type 0 = λ l. Passes m l in subst P (sym first.left) (passes-rest n m a.left p));
  fails = λ f. second.fails (let P : CallsLeft → Type 0 = λ l. Fails m l in subst P (sym first.left) (fails-rest n m a.left first.fails f));
  told = λ was. second.told (first.told was);
}

-- the same run under other words
pub counted-as : {n m : ℕ} {a b : MediumState} {failed given_up : Type 0} → n ≡ m → (given_up → failed) → (failed → given_up) → Counted n a b failed → Counted m a b given_up
counted-as {a = a} {b = b} {failed = failed} {given_up = given_up} same there back counted =
    let P : ℕ → Type 0 = λ k. Counted k a b given_up in
    subst P same (record {
      ready = counted.ready;
      later = counted.later;
      cause = λ g. counted.cause (there g);
      left = counted.left;
      passes = λ p g. counted.passes p (there g);
      fails = λ f. back (counted.fails f);
      told = counted.told;
    })

-- where no call will fail, none fails, and none will
passes-unlimited : (n : ℕ) (l : CallsLeft) → l ≡ unlimited → Passes n l
passes-unlimited n l is = let P : CallsLeft → Type 0 = λ k. Passes n k in subst P (sym is) tt

-- a run of counted calls is a run
pub run-counted : {n : ℕ} {a b : MediumState} {failed : Type 0} → Counted n a b failed → IsRun a b failed
run-counted {n = n} {a = a} {b = b} {failed = failed} counted = record {
  ready = counted.ready;
  later = counted.later;
  cause = counted.cause;
  never = λ is. counted.passes (passes-unlimited n a.left is);
  left = λ is. counted.left ∙ ap (less n) is;
  told = counted.told;
}

-- a run that passed, and then another
pub run-then : {a b c : MediumState} {failed : Type 0} → IsRun a b ⊥ → IsRun b c failed → IsRun a c failed
run-then {a = a} {b = b} {c = c} {failed = failed} first second = record {
  ready = omega (arith, first.ready, second.ready);
  later = omega (arith, first.later, second.later);
  cause = λ f. let rose = second.cause f in omega (arith, first.later);
  never = λ is. second.never (first.left is);
  left = λ is. second.left (first.left is);
  told = λ was. second.told (first.told was);
}

-- the same run under other words
pub run-as : {a b : MediumState} {failed given_up : Type 0} → (given_up → failed) → IsRun a b failed → IsRun a b given_up
run-as there run = record {
  ready = run.ready;
  later = run.later;
  cause = λ g. run.cause (there g);
  never = λ is g. run.never is (there g);
  left = run.left;
  told = run.told;
}

-- What is settled is in each image.
pub settled-images : {T : Type 0} → (IsSound : List ℕ → Type 0) (meaning : List ℕ → T) (P Q : T → Type 0) (o : Option Content) → ((x : T) → P x → Q x)
    → IfTold o (IsSettled IsSound meaning P) → EveryImage o (HoldsWith IsSound meaning Q)
settled-images IsSound meaning P Q None so is = tt
settled-images IsSound meaning P Q (Some c) so is = λ image im.
    let R : Content → Type 0 = λ d. IsImage d image in
    let same = image-settled c.reads image (subst R is.rest im) in
    record { sound = subst IsSound (sym same) is.sound; holds = so (meaning image) (let S : List ℕ → Type 0 = λ i. P (meaning i) in subst S (sym same) is.holds) }

pub durable-settled : {T : Type 0} → (IsSound : List ℕ → Type 0) (meaning : List ℕ → T) (P : T → Type 0) (m : MediumState)
    → IfTold m.content (IsSettled IsSound meaning P) → IsDurable IsSound meaning P m
durable-settled IsSound meaning P m is = record { same = settled-images IsSound meaning P P m.content (λ x p. p) is; settled = is }

-- what the images mean, weakened
pub holds-map : {T : Type 0} → (IsSound : List ℕ → Type 0) (meaning : List ℕ → T) (P Q : T → Type 0) (o : Option Content) → ((x : T) → P x → Q x)
    → EveryImage o (HoldsWith IsSound meaning P) → EveryImage o (HoldsWith IsSound meaning Q)
holds-map IsSound meaning P Q None so every = tt
holds-map IsSound meaning P Q (Some c) so every = λ image im. let h = every image im in record { sound = h.sound; holds = so (meaning image) h.holds }

-- Where the content is told, what each image has is true of one that a power loss might have left.
pub every-at : (o : Option Content) (P : List ℕ → Type 0) (image : List ℕ) → IsSome o → EveryImage o P → WasImage o image → P image
every-at None P image told every was = absurd (false≢true told)
every-at (Some c) P image told every was = every image was

-- What slots may hold, one decision later, and after a round.
use Rattle.std.proofs.Common.{◌≡◌, ◌⊎◌, inl, inr, ℕ, ◌+◌, ◌≤◌, List, [], ◌∷◌, ◌++◌, length, Option, sym, subst, arith, length-append}
use Rattle.std.specs.List.{All, Contains}
use Rattle.std.proofs.lemmas.List.{map-append}
use Rattle.std.proofs.lemmas.List.Elements.{All-push, All-weaker}
use Rattle.avl_values.specs.Record.{Record}
use Rattle.flash_ring.specs.Entries.{held_of}
use Rattle.flash_ring.specs.Held.{Held, IsPart, next_of}
use Rattle.tracker_session.specs.RingRounds.{IsReleased}
use Rattle.trial_model.specs.Decisions.{Decision, records_decided}
use Rattle.trial_device.specs.Sides.{AreHeldRight}
use Rattle.trial_device.proofs.Parts.{part-then}

pub decided-push : (ds : List Decision) (d : Decision) → records_decided (ds ++ d ∷ []) ≡ records_decided ds ++ d.rec ∷ []
decided-push ds d = map-append (λ (d : Decision). d.rec) ds (d ∷ [])

-- other slots, after one more decision
pub right-next : (ds : List Decision) (d : Decision) (load next_load : ℕ) (E F : Record → Type 0) (i j : List (Option Held)) → AreHeldRight ds load E i → ((r : Record) → E r → F r)
    → IsPart (held_of j) (records_decided ds ++ d.rec ∷ []) → length (held_of j) ≤ next_load → next_of j ≤ length ds + 1
    → ((r : Record) → Contains (held_of i) r → Contains (held_of j) r ⊎ F r) → Contains (held_of j) d.rec ⊎ F d.rec → AreHeldRight (ds ++ d ∷ []) next_load F j
right-next ds d load next_load E F i j right so part few next old new =
    let P : Record → Type 0 = λ r. Contains (held_of j) r ⊎ F r in
    let step : (r : Record) → Contains (held_of i) r ⊎ E r → P r = λ r has. elim has as (λ _. P r) [ inl held ↦ old r held | inr gone ↦ inr (so r gone) ] in
    let all : All P (records_decided ds) = All-weaker (λ r. Contains (held_of i) r ⊎ E r) P step (records_decided ds) right.nothing_lost in
    record {
      decided = subst (IsPart (held_of j)) (sym (decided-push ds d)) part;
      few = few;
      next = (let one = length-append ds (d ∷ []) in omega arith);
      nothing_lost = subst (All P) (sym (decided-push ds d)) (All-push P (records_decided ds) d.rec all new);
    }

-- what is left after a round, by a load above it
pub right-released : (ds : List Decision) (load next_load : ℕ) (E F : Record → Type 0) (released : List Record) (i j : List (Option Held)) → AreHeldRight ds load E i → ((r : Record) → E r → F r)
    → ((r : Record) → Contains released r → F r) → length (held_of j) ≤ next_load → IsReleased released i j → AreHeldRight ds next_load F j
right-released ds load next_load E F released i j right so heard few is =
    let P : Record → Type 0 = λ r. Contains (held_of j) r ⊎ F r in
    let step : (r : Record) → Contains (held_of i) r ⊎ E r → P r = λ r has. elim has as (λ _. P r) [
      | inl held ↦ elim (is.keeps r held) as (λ _. P r) [ inl left ↦ inl left | inr gone ↦ inr (heard r gone) ]
      | inr gone ↦ inr (so r gone)
    ] in
    record {
      decided = part-then (held_of j) (held_of i) (records_decided ds) is.part right.decided;
      few = few;
      next = (let low = is.next in let next = right.next in omega arith);
      nothing_lost = All-weaker (λ r. Contains (held_of i) r ⊎ E r) P step (records_decided ds) right.nothing_lost;
    }

-- Evictions, one decision later.
use Rattle.std.proofs.Common.{◌≡◌, ℕ, ◌<◌, List, [], ◌∷◌, ◌++◌, length, map, sym, subst}
use Rattle.std.specs.List.{All, AllZip}
use Rattle.std.proofs.lemmas.List.{map-append}
use Rattle.std.proofs.lemmas.List.Elements.{All-cons, All-head, All-nil, All-push, All-tail}
use Rattle.std.proofs.lemmas.Option.{slice_get_within}
use Rattle.avl_values.specs.Record.{Record}
use Rattle.flash_ring.specs.Held.{IsPart}
use Rattle.record_lists.proofs.EachOnce.{get-front, get-last}
use Rattle.trial_model.specs.Decisions.{Decision, records_decided}
use Rattle.trial_model.specs.Overwritten.{Eviction, IsEviction, IsRising}
use Rattle.trial_model.specs.RecordLists.{is_listed}
use Rattle.trial_device.specs.Sides.{AreEvicted}
use Rattle.trial_device.specs.Storing.{with_first}
use Rattle.trial_device.proofs.Onces.{either}
use Rattle.trial_device.proofs.Parts.{HasPlace, part-place}

later : (slots : ℕ) (ds : List Decision) (d : Decision) (r : Record) (e : Eviction) → IsEviction slots ds r e → IsEviction slots (ds ++ d ∷ []) r e
later slots ds d r e is = record {
  decision = is.decision;
  decided = get-front ds (d ∷ []) e.place is.decision is.decided;
  is_record = is.is_record;
  evictor = is.evictor;
  decided_later = get-front ds (d ∷ []) e.evicting is.evictor is.decided_later;
  full = is.full;
  apart = is.apart;
}

all-later : (slots : ℕ) (ds : List Decision) (d : Decision) (rs : List Record) (es : List Eviction) → AllZip (IsEviction slots ds) rs es → AllZip (IsEviction slots (ds ++ d ∷ [])) rs es
all-later slots ds d [] [] each = tt
all-later slots ds d [] (e ∷ es) each = absurd each
all-later slots ds d (r ∷ rs) [] each = absurd each
all-later slots ds d (r ∷ rs) (e ∷ es) each = (later slots ds d r e each.0, all-later slots ds d rs es each.1)

pub evicted-later : (slots : ℕ) (ds : List Decision) (d : Decision) (rs : List Record) → AreEvicted slots ds rs → AreEvicted slots (ds ++ d ∷ []) rs
evicted-later slots ds d rs are = record { evictions = are.evictions; each = all-later slots ds d rs are.evictions are.each; rising = are.rising }

-- One more eviction, by the last decision.

zip-push : (slots : ℕ) (ds : List Decision) (rs : List Record) (es : List Eviction) (r : Record) (e : Eviction) → AllZip (IsEviction slots ds) rs es → IsEviction slots ds r e → AllZip (IsEviction slots ds) (rs ++ r ∷ []) (es ++ e ∷ [])
zip-push slots ds [] [] r e each is = (is, tt)
zip-push slots ds [] (f ∷ es) r e each is = absurd each
zip-push slots ds (s ∷ rs) [] r e each is = absurd each
zip-push slots ds (s ∷ rs) (f ∷ es) r e each is = (each.0, zip-push slots ds rs es r e each.1 is)

all-below : (slots : ℕ) (ds : List Decision) (rs : List Record) (es : List Eviction) → AllZip (IsEviction slots ds) rs es → All (λ n. n < length ds) (map (λ e. e.evicting) es)
all-below slots ds rs [] each = All-nil (λ n. n < length ds)
all-below slots ds [] (e ∷ es) each = absurd each
all-below slots ds (r ∷ rs) (e ∷ es) each =
    All-cons (λ n. n < length ds) e.evicting (map (λ e. e.evicting) es) (slice_get_within ds e.evicting each.0.evictor each.0.decided_later) (all-below slots ds rs es each.1)

rising-push : (ns : List ℕ) (n : ℕ) → IsRising ns → All (λ m. m < n) ns → IsRising (ns ++ n ∷ [])
rising-push [] n rising below = (All-nil (λ m. n < m), tt)
rising-push (m ∷ ns) n rising below = (All-push (λ k. m < k) ns n rising.0 (All-head (λ k. k < n) m ns below), rising-push ns n rising.1 (All-tail (λ k. k < n) m ns below))

evicted-more : (slots : ℕ) (ds : List Decision) (d : Decision) (r : Record) (listed : List Record) → HasPlace r slots ds → d.load ≡ slots → AreEvicted slots ds listed → AreEvicted slots (ds ++ d ∷ []) (listed ++ r ∷ [])
evicted-more slots ds d r listed at full are =
    let e : Eviction = record { place = at.place; evicting = length ds } in
    let is : IsEviction slots (ds ++ d ∷ []) r e = record {
      decision = at.decision;
      decided = get-front ds (d ∷ []) at.place at.decision at.decided;
      is_record = at.is_record;
      evictor = d;
      decided_later = get-last ds d;
      full = full;
      apart = at.room;
    } in
    let rising = rising-push (map (λ e. e.evicting) are.evictions) (length ds) are.rising (all-below slots ds listed are.evictions are.each) in
    record {
      evictions = are.evictions ++ e ∷ [];
      each = zip-push slots (ds ++ d ∷ []) listed are.evictions r e (all-later slots ds d listed are.evictions are.each) is;
      rising = subst IsRising (sym (map-append (λ (e : Eviction). e.evicting) are.evictions (e ∷ []))) rising;
    }

pub evicted-oldest : (slots : ℕ) (ds : List Decision) (d : Decision) (held listed : List Record) → AreEvicted slots ds listed → IsPart held (records_decided ds) → length held ≡ slots → d.load ≡ slots
    → AreEvicted slots (ds ++ d ∷ []) (with_first held listed)
evicted-oldest slots ds d [] listed are part count full = evicted-later slots ds d listed are
evicted-oldest slots ds d (r ∷ held) listed are part count full =
    let at = subst (λ n. HasPlace r n ds) count (part-place r held ds part) in
    either (AreEvicted slots (ds ++ d ∷ [])) (is_listed listed r) listed (listed ++ r ∷ []) (evicted-later slots ds d listed are) (evicted-more slots ds d r listed at full are)

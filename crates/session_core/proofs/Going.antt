-- The work for items, and then for more.
use Rattle.std.proofs.Common.{◌≡◌, ℕ, ◌+◌, Bool, List, [], ◌∷◌, ◌++◌, length, Result, refl, sym, ap, subst, ◌∙◌, append_assoc, add-zero, arith, length-append}
use Rattle.avl_values.specs.declared.fault.Fault.{Fault}
use Rattle.item_streams.specs.Readers.{Reader}
use Rattle.links.proofs.Moving.{moves_as, moves_none, moves_then}
use Rattle.frame_layout.specs.Values.{UpValue}
use Rattle.shelf.specs.Calls.{AreStored}
use Rattle.shelf.specs.declared.receipt.AdmitFault.{AdmitFault}
use Rattle.shelf.specs.declared.receipt.Receipt.{Receipt}
use Rattle.shelf.proofs.Histories.{feeds_then, stored_then}
use Rattle.session_core.specs.declared.served.SessionEnd.{SessionEnd}
use Rattle.session_core.specs.declared.served.SessionEnd.TheVariants as ends
use Rattle.session_core.specs.Doings.{Doing, Does, Goes, Stops, Breaks, EndsIn}
use Rattle.session_core.specs.Readings.{Heads}
use Rattle.session_core.specs.Talks.{Meaning, Talk, reply, next, stores, text, after, packets, records_in}
use Rattle.session_core.proofs.Reading.{reads_none, reads_then, heads_after, heads_wider, fault_after, fault_wider}

module _ {O : Type 0} (m : Meaning O) (known : ℕ → Bool) where
  pub after_then : (t : Talk O) (xs ys : List UpValue) → after m known t (xs ++ ys) ≡ after m known (after m known t xs) ys
  after_then t [] ys = refl
  after_then t (x ∷ xs) ys = after_then (next m known t x) xs ys

  pub text_then : (t : Talk O) (xs ys : List UpValue) → text m known t (xs ++ ys) ≡ text m known t xs ++ text m known (after m known t xs) ys
  text_then t [] ys = refl
  text_then t (x ∷ xs) ys = ap (λ (b : List ℕ). reply m known t x ++ b) (text_then (next m known t x) xs ys) ∙ sym (append_assoc (reply m known t x) _ _)

  pub packets_then : (t : Talk O) (xs ys : List UpValue) → packets m known t (xs ++ ys) ≡ packets m known t xs ++ packets m known (after m known t xs) ys
  packets_then t [] ys = refl
  packets_then t (x ∷ xs) ys = ap (λ (b : List (ℕ × List ℕ)). stores m known t x ++ b) (packets_then (next m known t x) xs ys) ∙ sym (append_assoc (stores m known t x) _ _)

pub records_then : (ps qs : List (ℕ × List ℕ)) → records_in (ps ++ qs) ≡ records_in ps + records_in qs
records_then [] qs = omega arith
records_then (p ∷ ps) qs = omega (arith, records_then ps qs)

module _ {S O : Type 0} (leaves : S → ℕ → List ℕ → Result Receipt AdmitFault → S → Type 0) (m : Meaning O) (known : ℕ → Bool) where
  pub does_none : (x : Doing S O) → Does leaves m known [] [] x x
  does_none x = record { talk = refl; wire = moves_none x.wire; calls = []; feeds = refl; stored = tt; frames = sym (add-zero x.frames); records = sym (add-zero x.records) }

  pub does_then : (xs ys : List UpValue) (a b : List ℕ) (x y z : Doing S O) → Does leaves m known xs a x y → Does leaves m known ys b y z → Does leaves m known (xs ++ ys) (a ++ b) x z
  does_then xs ys a b x y z p q =
      let t : Talk O = x.talk in
      let u : Talk O = after m known t xs in
      let ps : List (ℕ × List ℕ) = packets m known t xs in
      let qs : List (ℕ × List ℕ) = packets m known u ys in
      let both = packets_then m known t xs ys in
      let wire = moves_as b (text m known y.talk ys) b (text m known u ys) y.wire z.wire refl (ap (λ (s : Talk O). text m known s ys) p.talk) q.wire in
      let stored = subst (λ (s : Talk O). AreStored (packets m known s ys) q.calls) p.talk q.stored in
      let frames = q.frames ∙ ap (λ (s : Talk O). y.frames + length (packets m known s ys)) p.talk in
      let records = q.records ∙ ap (λ (s : Talk O). y.records + records_in (packets m known s ys)) p.talk in
      record {
        talk = q.talk ∙ (ap (λ (s : Talk O). after m known s ys) p.talk ∙ sym (after_then m known t xs ys));
        wire = moves_as (a ++ b) _ (a ++ b) _ x.wire z.wire refl (sym (text_then m known t xs ys)) (moves_then a (text m known t xs) b (text m known u ys) x.wire y.wire z.wire p.wire wire);
        calls = p.calls ++ q.calls;
        feeds = feeds_then leaves p.calls q.calls x.shelf y.shelf z.shelf p.feeds q.feeds;
        stored = subst (λ (r : List (ℕ × List ℕ)). AreStored r (p.calls ++ q.calls)) (sym both) (stored_then ps qs p.calls q.calls p.stored stored);
        frames = omega (arith, frames, p.frames, length-append ps qs, ap (λ (r : List (ℕ × List ℕ)). length r) both);
        records = omega (arith, records, p.records, records_then ps qs, ap (λ (r : List (ℕ × List ℕ)). records_in r) both);
      }

  pub goes_none : (r : Reader) (x : Doing S O) → Goes leaves m known [] [] r r x x
  goes_none r x = record { said = []; reads = reads_none r; does = does_none x }

  pub goes_then : (a b p q : List ℕ) (r s t : Reader) (x y z : Doing S O) → Goes leaves m known a p r s x y → Goes leaves m known b q s t y z → Goes leaves m known (a ++ b) (p ++ q) r t x z
  goes_then a b p q r s t x y z g h = record {
    said = g.said ++ h.said;
    reads = reads_then a b g.said h.said r s t g.reads h.reads;
    does = does_then g.said h.said p q x y z g.does h.does;
  }

  pub goes_as : (a b p q : List ℕ) (r s : Reader) (x y : Doing S O) → a ≡ b → p ≡ q → Goes leaves m known a p r s x y → Goes leaves m known b q r s x y
  goes_as a b p q r s x y e f g = subst (λ (z : List ℕ × List ℕ). Goes leaves m known z.0 z.1 r s x y) (λ i. (e i, f i)) g

  pub stops_after : (end : SessionEnd) (a b p q : List ℕ) (r s : Reader) (x y z : Doing S O) → Goes leaves m known a p r s x y → Stops leaves m known end b q s y z → Stops leaves m known end (a ++ b) (p ++ q) r x z
  stops_after end a b p q r s x y z g h = record {
    dealt = g.said ++ h.dealt;
    at = h.at;
    between = h.between;
    heads = subst (λ (vs : List UpValue). Heads (a ++ b) vs r) (sym (append_assoc g.said h.dealt (h.at ∷ []))) (heads_after a b g.said (h.dealt ++ h.at ∷ []) r s g.reads h.heads);
    does = does_then g.said h.dealt p q x y h.between g.does h.does;
    stops = h.stops;
    imei = h.imei;
  }

  pub stops_wider : (end : SessionEnd) (a b p : List ℕ) (r : Reader) (x y : Doing S O) → Stops leaves m known end a p r x y → Stops leaves m known end (a ++ b) p r x y
  stops_wider end a b p r x y h = record { dealt = h.dealt; at = h.at; between = h.between; heads = heads_wider a b (h.dealt ++ h.at ∷ []) r h.heads; does = h.does; stops = h.stops; imei = h.imei }

  pub breaks_after : (found : Fault) (a b p q : List ℕ) (r s : Reader) (x y z : Doing S O) → Goes leaves m known a p r s x y → Breaks leaves m known found b q s y z → Breaks leaves m known found (a ++ b) (p ++ q) r x z
  breaks_after found a b p q r s x y z g h = record {
    dealt = g.said ++ h.dealt;
    reads = fault_after found a b g.said h.dealt r s g.reads h.reads;
    does = does_then g.said h.dealt p q x y z g.does h.does;
    welcome = h.welcome;
  }

  pub breaks_wider : (found : Fault) (a b p : List ℕ) (r : Reader) (x y : Doing S O) → Breaks leaves m known found a p r x y → Breaks leaves m known found (a ++ b) p r x y
  breaks_wider found a b p r x y h = record { dealt = h.dealt; reads = fault_wider found a b h.dealt r h.reads; does = h.does; welcome = h.welcome }

  -- an end, by what is said of a stop and of a fault
  pub end_map : (end : SessionEnd) (a b p q : List ℕ) (r s : Reader) (x y z : Doing S O) → (Stops leaves m known end a p s y z → Stops leaves m known end b q r x z)
      → ((found : Fault) → Breaks leaves m known found a p s y z → Breaks leaves m known found b q r x z) → EndsIn leaves m known end a p s y z → EndsIn leaves m known end b q r x z
  end_map ends.Ended a b p q r s x y z f g e = f e
  end_map (ends.EndedInside n) a b p q r s x y z f g e = f e
  end_map ends.LinkFault a b p q r s x y z f g e = f e
  end_map (ends.Broken found) a b p q r s x y z f g e = g found e
  end_map (ends.Unknown imei) a b p q r s x y z f g e = f e
  end_map (ends.MediumFault n) a b p q r s x y z f g e = f e
  end_map (ends.Down n) a b p q r s x y z f g e = f e
  end_map (ends.LongEnough n) a b p q r s x y z f g e = f e
  end_map ends.NoMemory a b p q r s x y z f g e = f e

  pub stopped : (end : SessionEnd) (a p : List ℕ) (r : Reader) (x y : Doing S O) → Stops leaves m known end a p r x y → EndsIn leaves m known end a p r x y
  stopped ends.Ended a p r x y s = s
  stopped (ends.EndedInside n) a p r x y s = s
  stopped ends.LinkFault a p r x y s = s
  stopped (ends.Broken found) a p r x y s = absurd s.stops
  stopped (ends.Unknown imei) a p r x y s = s
  stopped (ends.MediumFault n) a p r x y s = s
  stopped (ends.Down n) a p r x y s = s
  stopped (ends.LongEnough n) a p r x y s = s
  stopped ends.NoMemory a p r x y s = s

  pub end_after : (end : SessionEnd) (a b p q : List ℕ) (r s : Reader) (x y z : Doing S O) → Goes leaves m known a p r s x y → EndsIn leaves m known end b q s y z → EndsIn leaves m known end (a ++ b) (p ++ q) r x z
  end_after end a b p q r s x y z g e = end_map end b (a ++ b) q (p ++ q) r s x y z (stops_after end a b p q r s x y z g) (λ found. breaks_after found a b p q r s x y z g) e

  pub end_wider : (end : SessionEnd) (a b p : List ℕ) (r : Reader) (x y : Doing S O) → EndsIn leaves m known end a p r x y → EndsIn leaves m known end (a ++ b) p r x y
  end_wider end a b p r x y e = end_map end a (a ++ b) p p r r x x y (stops_wider end a b p r x y) (λ found. breaks_wider found a b p r x y) e

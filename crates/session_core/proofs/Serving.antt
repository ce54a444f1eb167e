-- A link, piece by piece.
use Rattle.std.proofs.Common.{◌≡◌, inr, ℕ, ◌<◌, ◌≤◌, Bool, true, List, [], ◌∷◌, ◌++◌, length, take, Option, Some, None, Result, IfSome, refl, sym, ap, subst, ◌∙◌, append-nil, add-zero, arith}
use Rattle.std.specs.Prelude.{◌↔◌, ◌^◌}
use Rattle.std.proofs.lemmas.List.{take-append-le, length-take-le}
use Rattle.item_streams.specs.Readers.{Reader}
use Rattle.links.specs.Links.{IsEmptyAtEnd, LinkState, Moves, Traffic}
use Rattle.links.proofs.Moving.{moves_as}
use Rattle.shelf.specs.declared.receipt.AdmitFault.{AdmitFault}
use Rattle.shelf.specs.declared.receipt.Receipt.{Receipt}
use Rattle.session_core.specs.declared.served.SessionEnd.{SessionEnd}
use Rattle.session_core.specs.declared.served.SessionEnd.TheVariants as ends
use Rattle.session_core.specs.Doings.{Doing, Does, Goes, Stops, Breaks, EndsIn}
use Rattle.session_core.specs.Endings.{DoesAll, Ends, IsAtEnd}
use Rattle.session_core.specs.Talks.{Meaning, Talk}
use Rattle.session_core.proofs.Going.{goes_then, goes_as, stops_after, breaks_after}
use Rattle.session_core.proofs.Reading.{reads_none}

-- where a link was at its end it is so still
ended_still : (x y : Option Traffic) (a b : Bool) (n : ℕ) → Moves [] [] x y → IfSome x (λ _. n ≡ 0 ↔ a ≡ true) → (a ≡ true → b ≡ true) → n ≡ 0 → IfSome y (λ _. b ≡ true)
ended_still None y a b n m w s z = subst (λ (v : Option Traffic). IfSome v (λ _. b ≡ true)) (sym m) tt
ended_still (Some x) y a b n m w s z = subst (λ (v : Option Traffic). IfSome v (λ _. b ≡ true)) (sym m) (s (w.0 z))

pub read_end : (old new : LinkState) (n : ℕ) (into : List ℕ) → n ≡ 0 → Moves (take n into) [] old.told new.told → IsEmptyAtEnd old n → (old.ended ≡ true → new.ended ≡ true) → IsAtEnd new
read_end old new n into none move empty stays =
    ended_still old.told new.told old.ended new.ended n (moves_as (take n into) [] [] [] old.told new.told (ap (λ (k : ℕ). take k into) none) refl move) empty stays none

-- how many bytes of a buffer were read
pub read_size : (into more : List ℕ) (n : ℕ) → n ≤ length into → length (take n (into ++ more)) ≡ n
read_size into more n le = ap (λ (l : List ℕ). length l) (take-append-le n into more le) ∙ length-take-le n into le

module _ {S O : Type 0} (leaves : S → ℕ → List ℕ → Result Receipt AdmitFault → S → Type 0) (m : Meaning O) (known : ℕ → Bool) where
  abbrev pub at : Talk O → S → Option Traffic → ℕ → ℕ → Doing S O
  at talk shelf wire frames records = record { talk = talk; shelf = shelf; wire = wire; frames = frames; records = records }

  -- bytes were taken, and nothing is done for them yet
  goes_link : (a p b : List ℕ) (old r : Reader) (x : Doing S O) (t : Talk O) (s : S) (w v : Option Traffic) (f k : ℕ) → Goes leaves m known a p old r x (at t s w f k) → Moves b [] w v → Goes leaves m known a (p ++ b) old r x (at t s v f k)
  goes_link a p b old r x t s w v f k g move =
      let d : Does leaves m known [] b (at t s w f k) (at t s v f k) = record { talk = refl; wire = move; calls = []; feeds = refl; stored = tt; frames = sym (add-zero f); records = sym (add-zero k) } in
      let h : Goes leaves m known [] b r r (at t s w f k) (at t s v f k) = record { said = []; reads = reads_none r; does = d } in
      goes_as leaves m known (a ++ []) a (p ++ b) (p ++ b) old r x (at t s v f k) (append-nil a) refl (goes_then leaves m known a [] p b old r r x (at t s w f k) (at t s v f k) g h)

  -- the link gave n bytes of a buffer
  pub goes_read : (a into more : List ℕ) (n : ℕ) (old r : Reader) (x : Doing S O) (t : Talk O) (s : S) (w v : Option Traffic) (f k : ℕ) → n ≤ length into → Goes leaves m known a a old r x (at t s w f k) → Moves (take n into) [] w v
      → Goes leaves m known a (a ++ take n (into ++ more)) old r x (at t s v f k)
  goes_read a into more n old r x t s w v f k le g move =
      goes_link a a (take n (into ++ more)) old r x t s w v f k g (moves_as (take n into) [] (take n (into ++ more)) [] w v (sym (take-append-le n into more le)) refl move)

  -- and then no bytes
  pub goes_read_none : (a into : List ℕ) (n : ℕ) (old r : Reader) (x : Doing S O) (t : Talk O) (s : S) (w v : Option Traffic) (f k : ℕ) → n ≡ 0 → Goes leaves m known a a old r x (at t s w f k) → Moves (take n into) [] w v → Goes leaves m known a a old r x (at t s v f k)
  goes_read_none a into n old r x t s w v f k none g move =
      goes_as leaves m known a a (a ++ []) a old r x (at t s v f k) refl (append-nil a)
      (goes_link a a [] old r x t s w v f k g (moves_as (take n into) [] [] [] w v (ap (λ (j : ℕ). take j into) none) refl move))

  -- and now what they want is done
  pub goes_piece : (a b : List ℕ) (old r new : Reader) (x y z : Doing S O) → Goes leaves m known a (a ++ b) old r x y → Goes leaves m known b [] r new y z → Goes leaves m known (a ++ b) (a ++ b) old new x z
  goes_piece a b old r new x y z g h = goes_as leaves m known (a ++ b) (a ++ b) ((a ++ b) ++ []) (a ++ b) old new x z refl (append-nil (a ++ b)) (goes_then leaves m known a b (a ++ b) [] old r new x y z g h)

  stops_piece : (end : SessionEnd) (a b : List ℕ) (old r : Reader) (x y z : Doing S O) → Goes leaves m known a (a ++ b) old r x y → Stops leaves m known end b [] r y z → Stops leaves m known end (a ++ b) (a ++ b) old x z
  stops_piece end a b old r x y z g s = subst (λ (p : List ℕ). Stops leaves m known end (a ++ b) p old x z) (append-nil (a ++ b)) (stops_after leaves m known end a b (a ++ b) [] old r x y z g s)

  pub ends_piece : (end : SessionEnd) (a b : List ℕ) (link : LinkState) (old r new : Reader) (x y z : Doing S O) → Goes leaves m known a (a ++ b) old r x y → EndsIn leaves m known end b [] r y z → Ends leaves m known end (a ++ b) link old new x z
  ends_piece ends.Ended a b link old r new x y z g e = absurd e.stops
  ends_piece (ends.EndedInside n) a b link old r new x y z g e = absurd e.stops
  ends_piece ends.LinkFault a b link old r new x y z g e = inr (stops_piece ends.LinkFault a b old r x y z g e)
  ends_piece (ends.Broken found) a b link old r new x y z g e = subst (λ (p : List ℕ). Breaks leaves m known found (a ++ b) p old x z) (append-nil (a ++ b)) (breaks_after leaves m known found a b (a ++ b) [] old r x y z g e)
  ends_piece (ends.Unknown imei) a b link old r new x y z g e = stops_piece (ends.Unknown imei) a b old r x y z g e
  ends_piece (ends.MediumFault n) a b link old r new x y z g e = stops_piece (ends.MediumFault n) a b old r x y z g e
  ends_piece (ends.Down n) a b link old r new x y z g e = stops_piece (ends.Down n) a b old r x y z g e
  ends_piece (ends.LongEnough n) a b link old r new x y z g e = absurd e.stops
  ends_piece ends.NoMemory a b link old r new x y z g e = stops_piece ends.NoMemory a b old r x y z g e

  pub ends_at_end : (end : SessionEnd) (a : List ℕ) (link : LinkState) (old new : Reader) (have : List ℕ) (k : ℕ) (x y : Doing S O) → new.have ≡ have → k ≡ length new.have → (k ≡ 0 → end ≡ ends.Ended) → (0 < k → end ≡ ends.EndedInside k)
      → DoesAll leaves m known a old new x y → IsAtEnd link → length a < 2 ^ 30 → Ends leaves m known end a link old new x y
  ends_at_end end a link old new [] k x y is size none some all there below =
      subst (λ (e : SessionEnd). Ends leaves m known e a link old new x y) (sym (none (size ∙ ap (λ (b : List ℕ). length b) is))) (all, is, there, below)
  ends_at_end end a link old new (b ∷ bs) k x y is size none some all there below =
      let pos : 0 < k = omega (arith, size, ap (λ (c : List ℕ). length c) is) in
      subst (λ (e : SessionEnd). Ends leaves m known e a link old new x y) (sym (some pos)) (all, size, pos, there, below)

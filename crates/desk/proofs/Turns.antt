-- A seat's turn: what it knows from the draw to the entry of its call.
use Rattle.std.proofs.Common.{◌≡◌, ◌⊎◌, ◌↔◌, inl, inr, ℕ, ◌<◌, Bool, true, false, List, [], ◌∷◌, ◌++◌, length, Option, Some, None, Result, Ok, Err, refl, sym, ap, ◌∙◌, subst, arith}
use Rattle.avl_values.specs.Record.{Record}
use Rattle.record_layout.specs.RecordsOf.{records_of}
use Rattle.shelf.specs.Archive.{StoredValue}
use Rattle.shelf.specs.Admits.{Shelved, Answer, answer_of, down_after, Fits}
use Rattle.shelf.specs.Calls.{Brought, brought_by, no_mark, down_by}
use Rattle.shelf.specs.Entries.{Entry, entry, all_brought, IsLegalLog, StandsAfter, AreCountedIn, times}
use Rattle.shelf.specs.Histories.{IsCounted, AreCounted, IsLegalFor, StandsFor}
use Rattle.shelf.specs.Shelf.{ShelfView, front, Leaves, IsMediumFault}
use Rattle.shelf.specs.declared.receipt.Receipt.{Receipt}
use Rattle.shelf.specs.declared.receipt.AdmitFault.{AdmitFault}
use Rattle.shelf.specs.declared.receipt.AdmitFault.TheVariants.{Down, NoMemory, MediumFault}
use Rattle.shelf.proofs.Histories.{stands-snoc, legal-snoc}
use Rattle.desk.specs.Views.{View, IsAlone, first_number}
use Rattle.desk.specs.Views.Stage.{Idle}
use Rattle.desk.specs.Seen.{Extends}
use Rattle.desk.specs.Steps.{Place, HasTurn, Published}
use Rattle.desk.specs.Refusals.{HasFault, before_last, IsDown, CarriesAbove, TellsNoFault, AllFaultless}
use Rattle.desk.proofs.Views.{times-own}
use Rattle.desk.proofs.Histories.{calls_by-append, calls_by-one}

-- Waiting.

-- Holding the shelf.

abbrev held : List (ℕ × Option ShelfView) → Option ShelfView
held [] = None
held (x ∷ xs) = x.1

pub held-same : (l : List (ℕ × Option ShelfView)) (a b : ShelfView) → l ≡ (0, Some a) ∷ [] → l ≡ (0, Some b) ∷ [] → a ≡ b
held-same l a b one other = let same : Some a ≡ Some b = ap held (sym one ∙ other) in cc

brought-snoc : (log : List Entry) (e : Entry) → all_brought (log ++ e ∷ []) ≡ all_brought log ++ e.brought ∷ []
brought-snoc [] e = refl
brought-snoc (x ∷ log) e = ap (λ l. x.brought ∷ l) (brought-snoc log e)

-- Refusals.

pub last-cut : (log : List Entry) (e : Entry) → before_last (log ++ e ∷ []) ≡ log
last-cut [] e = refl
last-cut (x ∷ []) e = refl
last-cut (x ∷ y ∷ log) e = ap (λ l. x ∷ l) (last-cut (y ∷ log) e)

stays-down : (log : List Entry) → down_by true (all_brought log) ≡ true
stays-down [] = refl
stays-down (x ∷ log) = ap (λ d. down_by d (all_brought log)) (still x.brought.answer) ∙ stays-down log
  where
    still : (answer : Answer) → down_after true answer ≡ true
    still (Ok places) = refl
    still (Err (Down faults)) = refl
    still (Err NoMemory) = refl
    still (Err (MediumFault faults)) = refl

-- a shelf that was up is down where a call returned MediumFault
pub down-by-fault : (log : List Entry) → HasFault log → down_by false (all_brought log) ≡ true
down-by-fault [] fault = absurd fault
down-by-fault (x ∷ log) fault = split x.brought.answer fault (down-by-fault log)
  where
    split : (answer : Answer) → IsMediumFault answer ⊎ HasFault log → (HasFault log → down_by false (all_brought log) ≡ true) → down_by (down_after false answer) (all_brought log) ≡ true
    split (Ok places) (inl never) later = absurd never
    split (Ok places) (inr fault) later = later fault
    split (Err (Down faults)) (inl never) later = absurd never
    split (Err (Down faults)) (inr fault) later = later fault
    split (Err NoMemory) (inl never) later = absurd never
    split (Err NoMemory) (inr fault) later = later fault
    split (Err (MediumFault faults)) either later = stays-down log

pub fault-of-down : (log : List Entry) → down_by false (all_brought log) ≡ true → HasFault log
fault-of-down [] down = absurd (let never : false ≡ true = down in cc)
fault-of-down (x ∷ log) down = split x.brought.answer (fault-of-down log) down
  where
    split : (answer : Answer) → (down_by false (all_brought log) ≡ true → HasFault log) → down_by (down_after false answer) (all_brought log) ≡ true → IsMediumFault answer ⊎ HasFault log
    split (Ok places) later down = inr (later down)
    split (Err (Down faults)) later down = inr (later down)
    split (Err NoMemory) later down = inr (later down)
    split (Err (MediumFault faults)) later down = inl tt

down-fits : (list : List StoredValue) (down : Bool) (imei : ℕ) (records : List Record) (result : Result Receipt AdmitFault) → Fits list down imei records (answer_of result) → IsDown result ↔ (down ≡ true)
down-fits list down imei records (Ok receipt) fits = ((λ never. absurd never), (λ is. let e : false ≡ true = sym fits.0 ∙ is in cc))
down-fits list down imei records (Err (Down faults)) fits = ((λ _. fits), (λ _. tt))
down-fits list down imei records (Err NoMemory) fits = ((λ never. absurd never), (λ is. let e : false ≡ true = sym fits ∙ is in cc))
down-fits list down imei records (Err (MediumFault faults)) fits = ((λ never. absurd never), (λ is. let e : false ≡ true = sym fits ∙ is in cc))

counted-last : (low high : ℕ) (bs : List Brought) (b : Brought) → AreCounted low high (bs ++ b ∷ []) → IsCounted low high b.answer
counted-last low high [] b are = are.0
counted-last low high (x ∷ bs) b are = counted-last low high bs b are.1

carries : (low high : ℕ) (result : Result Receipt AdmitFault) → IsCounted low high (answer_of result) → CarriesAbove low result
carries low high (Ok receipt) is = tt
carries low high (Err (Down faults)) is = is.0
carries low high (Err NoMemory) is = tt
carries low high (Err (MediumFault faults)) is = is.0

-- The call.

-- what the call leaves, from what the shelf's call left
pub record Called (o : Shelved) (numbers : List ℕ) (e : Entry) (result : Result Receipt AdmitFault) (old log : List Entry) (s : Shelved) : Type 0 where
  pub stands : StandsAfter o (log ++ e ∷ []) s
  pub legal : IsLegalLog o (log ++ e ∷ [])
  pub extends : Extends o numbers e.brought old (log ++ e ∷ [])
  pub down : IsDown result ↔ HasFault (before_last (log ++ e ∷ []))
  pub fault : CarriesAbove o.faults result

pub called : (o : Shelved) (old new : Place) (imei : ℕ) (body : List ℕ) (result : Result Receipt AdmitFault) (y z : ShelfView) → o.down ≡ false → old.0.opening ≡ o → IsAlone Idle old.0 → HasTurn old new → new.1 ≡ (0, Some y) ∷ [] → Leaves y imei body result z
    → Called o old.0.numbers (entry (first_number old.0.numbers) (brought_by no_mark imei body result)) result old.0.seen new.0.seen (front z)
called o old new imei body result y z up opening alone turn holds left =
    let b : Brought = brought_by no_mark imei body result in
    let ns : List ℕ = old.0.numbers in
    let e : Entry = entry (first_number ns) b in
    let log : List Entry = new.0.seen in
    let same : turn.shelf ≡ y = held-same new.1 turn.shelf y turn.took holds in
    let P : Shelved × ShelfView → Type 0 = λ p. StandsAfter p.0 log (front p.1) in
    let before : StandsAfter o log (front y) = subst P (λ i. (opening i, same i)) turn.stands in
    let was_legal : IsLegalLog o log = subst (λ (x : Shelved). IsLegalLog x log) opening turn.legal in
    let more = brought-snoc log e in
    let now : StandsAfter o (log ++ e ∷ []) (front z) = subst (λ (bs : List Brought). StandsFor o bs (front z)) (sym more) (stands-snoc o (front y) (front z) (all_brought log) b before left.admits) in
    let is_legal : IsLegalLog o (log ++ e ∷ []) = subst (λ (bs : List Brought). IsLegalFor o bs) (sym more) (legal-snoc o (front y) (front z) (all_brought log) b was_legal before left.admits) in
    let is_down : y.down ≡ down_by false (all_brought log) = before.down ∙ ap (λ d. down_by d (all_brought log)) up in
    let fits = down-fits y.list y.down imei (records_of body) result left.admits.fits in
    record {
      stands = now;
      legal = is_legal;
      extends = record {
        between = turn.begins.0;
        grown = ap (λ (l : List Entry). l ++ e ∷ []) turn.begins.1;
        legal = is_legal;
        mine = calls_by-append ns log (e ∷ []) ∙ (λ i. turn.mine i ++ calls_by-one ns e (own ns alone.numbered) i);
        high = z.medium.faults;
        counted = now.counts;
      };
      down = subst (λ (l : List Entry). IsDown result ↔ HasFault l) (sym (last-cut log e))
          ((λ d. fault-of-down log (sym is_down ∙ fits.0 d)), (λ f. fits.1 (is_down ∙ down-by-fault log f)));
      fault = carries o.faults z.medium.faults result (counted-last o.faults z.medium.faults (all_brought log) b (subst (AreCounted o.faults z.medium.faults) more now.counts));
    }
  where
    own : (ns : List ℕ) → 0 < length ns → 0 < times (first_number ns) ns
    own [] none = absurd (omega arith)
    own (n ∷ ns) pos = times-own n ns

-- Closed.

pub faultless : (high : ℕ) (log : List Entry) (low : ℕ) → high ≡ 0 → AreCountedIn low high log → AllFaultless log
faultless high [] low none are = tt
faultless high (x ∷ log) low none are = (one x.brought.answer are.0, faultless high log low none are.1)
  where
    one : (answer : Answer) → IsCounted low high answer → TellsNoFault answer
    one (Ok places) is = tt
    one (Err (Down faults)) is = let above = is.0 in let within = is.1 in absurd (omega arith)
    one (Err NoMemory) is = tt
    one (Err (MediumFault faults)) is = let above = is.0 in let within = is.1 in absurd (omega arith)

-- The entry.

-- From the draw at `old` to the place from which the call is entered: the turn came at `new`, the shelf was taken, its call left
-- what it left, and the shelf was given back.
module _ (o : Shelved) (old new taken place : Place) (imei : ℕ) (body : List ℕ) (result : Result Receipt AdmitFault) (y z : ShelfView) (up : o.down ≡ false) (opening : old.0.opening ≡ o) (alone : IsAlone Idle old.0)
    (turn : HasTurn old new) (holds : new.1 ≡ (0, Some y) ∷ []) (empty : taken ≡ (new.0, (0, None) ∷ [])) (left : Leaves y imei body result z) (back : place ≡ (taken.0, (0, Some z) ∷ [])) where
  same-view : place.0 ≡ new.0
  same-view = ap (λ (p : Place). p.0) back ∙ ap (λ (p : Place). p.0) empty

  pub entered : Called o old.0.numbers (entry (first_number place.0.numbers) (brought_by no_mark imei body result)) result old.0.seen place.0.seen (front z)
  entered =
      let b : Brought = brought_by no_mark imei body result in
      let P : List Entry × ℕ → Type 0 = λ p. Called o old.0.numbers (entry p.1 b) result old.0.seen p.0 (front z) in
      subst P (λ i. (sym (ap (λ (v : View). v.seen) same-view) i, sym (ap (λ (v : View). first_number v.numbers) (same-view ∙ turn.holds)) i))
      (called o old new imei body result y z up opening alone turn holds left)

  -- the shelf that the seat gives back
  pub given-back : (shelf : ShelfView) × (place.1 ≡ (0, Some shelf) ∷ []) × StandsAfter o (place.0.seen ++ entry (first_number place.0.numbers) (brought_by no_mark imei body result) ∷ []) (front shelf)
  given-back = (z, ap (λ (p : Place). p.1) back, entered.stands)

  module _ (after : Place) (published : Published (entry (first_number place.0.numbers) (brought_by no_mark imei body result)) place after) where
    seen-after : place.0.seen ++ entry (first_number place.0.numbers) (brought_by no_mark imei body result) ∷ [] ≡ after.0.seen
    seen-after = sym (ap (λ (p : Place). p.0.seen) published)

    pub extends-after : Extends o old.0.numbers (brought_by no_mark imei body result) old.0.seen after.0.seen
    extends-after = subst (Extends o old.0.numbers (brought_by no_mark imei body result) old.0.seen) seen-after entered.extends

    pub down-after : IsDown result ↔ HasFault (before_last after.0.seen)
    down-after = subst (λ (l : List Entry). IsDown result ↔ HasFault (before_last l)) seen-after entered.down

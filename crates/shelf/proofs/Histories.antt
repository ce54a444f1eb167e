-- Calls in a row: joined, told by who admits, and what they leave of a shelf.
use Rattle.std.proofs.Common.{◌≡◌, ℕ, ◌≤◌, Bool, true, false, List, [], ◌∷◌, ◌++◌, map, Option, Some, None, Result, Ok, Err, sym, ◌∙◌, ap, refl, subst, arith, append_assoc}
use Rattle.std.proofs.lemmas.List.{append-nil}
use Rattle.avl_values.specs.Causes.{IsAbove}
use Rattle.avl_values.specs.Record.{Record}
use Rattle.shelf.specs.Archive.{StoredValue}
use Rattle.shelf.specs.Admits.{Shelved, Answer, list_after, down_after, Fits, Counts, Admits}
use Rattle.shelf.specs.Calls.{Call, Feeds, AreStored, Mark, Brought, brought, with_calls, TellsCall, replay, down_by, IsLegal}
use Rattle.shelf.specs.Histories.{IsCounted, AreCounted, IsLegalFor, StandsFor}
use Rattle.shelf.specs.Shelf.{ShelfView, front, Leaves}
use Rattle.shelf.specs.declared.receipt.Receipt.{Receipt}
use Rattle.shelf.specs.declared.receipt.AdmitFault.{AdmitFault}
use Rattle.shelf.specs.declared.receipt.AdmitFault.TheVariants.{Down, NoMemory, MediumFault}

-- Calls joined.

pub feeds_then : {S : Type 0} → (leaves : S → ℕ → List ℕ → Result Receipt AdmitFault → S → Type 0) (cs ds : List Call) (s t u : S) → Feeds leaves s cs t → Feeds leaves t ds u → Feeds leaves s (cs ++ ds) u
feeds_then {S = S} leaves [] ds s t u first second = let P : S → Type 0 = λ x. Feeds leaves x ds u in subst P (sym first) second
feeds_then leaves (c ∷ cs) ds s t u first second = (first.0, first.1, feeds_then leaves cs ds first.0 t u first.2 second)

pub stored_then : (ps qs : List (ℕ × List ℕ)) (cs ds : List Call) → AreStored ps cs → AreStored qs ds → AreStored (ps ++ qs) (cs ++ ds)
stored_then [] qs [] ds first second = second
stored_then [] qs (c ∷ cs) ds first second = absurd first
stored_then (p ∷ ps) qs [] ds first second = absurd first
stored_then (p ∷ ps) qs (c ∷ cs) ds first second = (first.0, first.1, first.2, stored_then ps qs cs ds first.3 second)

-- Calls told.

with_calls-none : (told : Option (List Brought)) → with_calls [] told ≡ told
with_calls-none None = refl
with_calls-none (Some bs) = ap Some (append-nil bs)

with_calls-then : (more last : List Brought) (told : Option (List Brought)) → with_calls last (with_calls more told) ≡ with_calls (more ++ last) told
with_calls-then more last None = refl
with_calls-then more last (Some bs) = ap Some (append_assoc bs more last)

-- calls in a row, over what tells each of them: all are told, under the mark
pub record TellCalls (cs : List Call) (mark now : Mark) (told told_now : Option (List Brought)) : Type 0 where
  pub same : now ≡ mark
  pub added : told_now ≡ with_calls (map (brought mark) cs) told

module _ {S : Type 0} (leaves : S → ℕ → List ℕ → Result Receipt AdmitFault → S → Type 0) (calls : S → Option (List Brought)) (mark : S → Mark)
    (tells : (s : S) (imei : ℕ) (body : List ℕ) (result : Result Receipt AdmitFault) (t : S) → leaves s imei body result t → TellsCall imei body result (mark s) (mark t) (calls s) (calls t)) where
  pub feeds-told : (cs : List Call) (s t : S) → Feeds leaves s cs t → TellCalls cs (mark s) (mark t) (calls s) (calls t)
  feeds-told [] s t feeds = record { same = ap mark (sym feeds); added = ap calls (sym feeds) ∙ sym (with_calls-none (calls s)) }
  feeds-told (c ∷ cs) s t feeds =
      let one = tells s c.imei c.body c.result feeds.0 feeds.1 in
      let rest = feeds-told cs feeds.0 t feeds.2 in
      record {
        same = rest.same ∙ one.same;
        added = rest.added ∙ ap (λ (m : Mark). with_calls (map (brought m) cs) (calls feeds.0)) one.same
            ∙ ap (with_calls (map (brought (mark s)) cs)) one.added ∙ with_calls-then (brought (mark s) c ∷ []) (map (brought (mark s)) cs) (calls s);
      }

-- One call more.

pub replay-snoc : (list : List StoredValue) (bs : List Brought) (b : Brought) → replay list (bs ++ b ∷ []) ≡ list_after (replay list bs) b.imei b.records b.answer
replay-snoc list [] b = refl
replay-snoc list (c ∷ bs) b = replay-snoc (list_after list c.imei c.records c.answer) bs b

pub down_by-snoc : (down : Bool) (bs : List Brought) (b : Brought) → down_by down (bs ++ b ∷ []) ≡ down_after (down_by down bs) b.answer
down_by-snoc down [] b = refl
down_by-snoc down (c ∷ bs) b = down_by-snoc (down_after down c.answer) bs b

legal-last : (list : List StoredValue) (down : Bool) (bs : List Brought) (b : Brought) → IsLegal list down bs → Fits (replay list bs) (down_by down bs) b.imei b.records b.answer → IsLegal list down (bs ++ b ∷ [])
legal-last list down [] b legal fits = (fits, tt)
legal-last list down (c ∷ bs) b legal fits = (legal.0, legal-last (list_after list c.imei c.records c.answer) (down_after down c.answer) bs b legal.1 fits)

counted-wider : (low high higher : ℕ) (answer : Answer) → high ≤ higher → IsCounted low high answer → IsCounted low higher answer
counted-wider low high higher (Ok places) within is = tt
counted-wider low high higher (Err (Down faults)) within is = (is.0, omega (arith, is.1))
counted-wider low high higher (Err NoMemory) within is = tt
counted-wider low high higher (Err (MediumFault faults)) within is = (is.0, omega (arith, is.1))

pub counted-snoc : (low high higher : ℕ) (bs : List Brought) (b : Brought) → high ≤ higher → AreCounted low high bs → IsCounted low higher b.answer → AreCounted low higher (bs ++ b ∷ [])
counted-snoc low high higher [] b within are is = (is, tt)
counted-snoc low high higher (c ∷ bs) b within are is = (counted-wider low high higher c.answer within are.0, counted-snoc low high higher bs b within are.1 is)

-- what an answer says of the counts
record IsAnswered (low before now : ℕ) (down : Bool) (answer : Answer) : Type 0 where
  later : before ≤ now
  count : IsCounted low now answer
  fell : down_after down answer ≡ true → IsAbove now low

answered : (low before now : ℕ) (list : List StoredValue) (down : Bool) (imei : ℕ) (rs : List Record) (answer : Answer) → low ≤ before → (down ≡ true → IsAbove before low) → Fits list down imei rs answer → Counts before answer now
    → IsAnswered low before now down answer
answered low before now list down imei rs (Ok places) under fell fits counts = record { later = counts; count = tt; fell = λ down_is. let above = fell down_is in omega arith }
answered low before now list down imei rs (Err (Down faults)) under fell fits counts =
    let above = fell fits in
    let same = counts.0 in
    let still = counts.1 in
    record { later = omega arith; count = (omega arith, omega arith); fell = λ _. omega arith }
answered low before now list down imei rs (Err NoMemory) under fell fits counts = record { later = omega (arith, counts); count = tt; fell = λ down_is. let above = fell down_is in omega (arith, counts) }
answered low before now list down imei rs (Err (MediumFault faults)) under fell fits counts =
    let same = counts.0 in
    let later = counts.1 in
    let rose = counts.2 in
    record { later = omega arith; count = (omega arith, omega arith); fell = λ _. omega arith }

pub stands-snoc : (o s t : Shelved) (log : List Brought) (b : Brought) → StandsFor o log s → Admits s b.imei b.records b.answer t → StandsFor o (log ++ b ∷ []) t
stands-snoc o s t log b stands admits =
    let a = answered o.faults s.faults t.faults s.list s.down b.imei b.records b.answer stands.faults stands.fell admits.fits admits.counts in
    let later = a.later in
    let low = stands.faults in
    record {
      list = admits.list ∙ ap (λ (l : List StoredValue). list_after l b.imei b.records b.answer) stands.list ∙ sym (replay-snoc o.list log b);
      down = admits.down ∙ ap (λ d. down_after d b.answer) stands.down ∙ sym (down_by-snoc o.down log b);
      faults = omega arith;
      fell = λ down. a.fell (sym admits.down ∙ down);
      counts = counted-snoc o.faults s.faults t.faults log b later stands.counts a.count;
    }

pub legal-snoc : (o s t : Shelved) (log : List Brought) (b : Brought) → IsLegalFor o log → StandsFor o log s → Admits s b.imei b.records b.answer t → IsLegalFor o (log ++ b ∷ [])
legal-snoc o s t log b legal stands admits =
    let P : List StoredValue × Bool → Type 0 = λ x. Fits x.0 x.1 b.imei b.records b.answer in
    legal-last o.list o.down log b legal (subst P (λ i. (stands.list i, stands.down i)) admits.fits)

-- nothing was called yet
pub stands-none : (s : Shelved) → s.down ≡ false → StandsFor s [] s
stands-none s up = record { list = refl; down = refl; faults = omega arith; fell = λ down. absurd (let never : false ≡ true = sym up ∙ down in cc); counts = tt }

-- calls of a shelf in a row, after others
pub fed-on : (o : Shelved) (mark : Mark) (log : List Brought) (calls : List Call) (s t : ShelfView) → StandsFor o log (front s) → IsLegalFor o log → Feeds Leaves s calls t
    → StandsFor o (log ++ map (brought mark) calls) (front t) × IsLegalFor o (log ++ map (brought mark) calls)
fed-on o mark log [] s t stands legal feeds =
    let P : List Brought → Type 0 = λ l. StandsFor o l (front t) × IsLegalFor o l in
    let Q : ShelfView → Type 0 = λ v. StandsFor o log (front v) in
    subst P (sym (append-nil log)) (subst Q feeds stands, legal)
fed-on o mark log (c ∷ calls) s t stands legal feeds =
    let P : List Brought → Type 0 = λ l. StandsFor o l (front t) × IsLegalFor o l in
    let b = brought mark c in
    let admits = feeds.1.admits in
    subst P (append_assoc log (b ∷ []) (map (brought mark) calls))
    (fed-on o mark (log ++ b ∷ []) calls feeds.0 t (stands-snoc o (front s) (front feeds.0) log b stands admits) (legal-snoc o (front s) (front feeds.0) log b legal stands admits) feeds.2)

pub fed : (mark : Mark) (calls : List Call) (s t : ShelfView) → s.down ≡ false → Feeds Leaves s calls t
    → StandsFor (front s) (map (brought mark) calls) (front t) × IsLegalFor (front s) (map (brought mark) calls)
fed mark calls s t up feeds = fed-on (front s) mark [] calls s t (stands-none (front s) up) tt feeds

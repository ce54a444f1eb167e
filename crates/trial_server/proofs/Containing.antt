-- Records that lists have, and that adding them in turn leaves.
use Rattle.std.proofs.Common.{◌≡◌, suc, ◌||◌, Bool, true, false, List, [], ◌∷◌, ◌++◌, fold, if◌then◌else◌, refl, sym, ◌∙◌, subst, append_assoc, arith}
use Rattle.std.specs.List.{All, Contains}
use Rattle.std.proofs.lemmas.Bool.{false≢true}
use Rattle.std.proofs.lemmas.List.{append-nil}
use Rattle.std.proofs.lemmas.List.Elements.{All-contains, All-contains_itself, All-cons, All-head, All-nil, All-push, All-tail, All-weaker, Contains-append_left, Contains-append_right, Contains-push}
use Rattle.avl_values.specs.Record.{Record}
use Rattle.record_lists.specs.SameRecord.{is_same}
use Rattle.record_lists.proofs.SameRecord.{records-tell}
use Rattle.trial_model.specs.RecordLists.{AreIn, add_once, is_listed}

-- Lists in lists.

pub in-itself : (rs : List Record) → AreIn rs rs
in-itself rs = All-contains_itself rs

pub in-then : (xs ys zs : List Record) → AreIn xs ys → AreIn ys zs → AreIn xs zs
in-then xs ys zs h k = All-weaker (Contains ys) (Contains xs) (λ r at. All-contains (Contains xs) ys r h at) zs k

pub in-left : (xs ys rs : List Record) → AreIn xs rs → AreIn (xs ++ ys) rs
in-left xs ys rs h = All-weaker (Contains xs) (Contains (xs ++ ys)) (λ r at. Contains-append_left xs ys r at) rs h

pub in-right : (xs ys rs : List Record) → AreIn ys rs → AreIn (xs ++ ys) rs
in-right xs ys rs h = All-weaker (Contains ys) (Contains (xs ++ ys)) (λ r at. Contains-append_right xs ys r at) rs h

-- A record is listed exactly where it is in the list.

first-in : (s r : Record) (more : List Record) → s ≡ r → Contains (s ∷ more) r
first-in s r more e = (0, omega arith, e)

later-in : (s r : Record) (more : List Record) → Contains more r → Contains (s ∷ more) r
later-in s r more c = (suc c.0, omega (arith, c.1), c.2)

pub listed-in : (records : List Record) (r : Record) → is_listed records r ≡ true → Contains records r
listed-in [] r h = absurd (false≢true h)
listed-in (s ∷ more) r h = split (is_same s r) refl (listed-in more r)
  where
    split : (same : Bool) → is_same s r ≡ same → (is_listed more r ≡ true → Contains more r) → Contains (s ∷ more) r
    split true e later = first-in s r more (records-tell.equal s r e)
    split false e later = later-in s r more (later (rw e at h))

pub in-listed : (records : List Record) (r : Record) → Contains records r → is_listed records r ≡ true
in-listed records r c = All-contains (λ x. is_listed records x ≡ true) records r (each records) c
  where
    each : (rs : List Record) → All (λ x. is_listed rs x ≡ true) rs
    each [] = All-nil (λ x. is_listed [] x ≡ true)
    each (s ∷ rs) =
        let P : Record → Type 0 = λ x. is_listed (s ∷ rs) x ≡ true in
        All-cons P s rs (rw (records-tell.itself s) refl) (All-weaker (λ x. is_listed rs x ≡ true) P (λ x h. rest (is_same s x) (is_listed rs x) h) rs (each rs))
      where
        rest : (a b : Bool) → b ≡ true → (a || b) ≡ true
        rest true b h = refl
        rest false b h = h

-- One record more, and several.

add-has : (records : List Record) (r : Record) → Contains (add_once records r) r
add-has records r = split (is_listed records r) refl
  where
    split : (b : Bool) → is_listed records r ≡ b → Contains (if b then records else records ++ r ∷ []) r
    split true e = listed-in records r e
    split false e = Contains-push records r

add-keeps : (records : List Record) (s r : Record) → Contains records r → Contains (add_once records s) r
add-keeps records s r c = split (is_listed records s)
  where
    split : (b : Bool) → Contains (if b then records else records ++ s ∷ []) r
    split true = c
    split false = Contains-append_left records (s ∷ []) r c

pub adds-keep : (before rs : List Record) → AreIn (fold add_once before rs) before
adds-keep before [] = in-itself before
adds-keep before (r ∷ rs) = in-then (fold add_once (add_once before r) rs) (add_once before r) before (adds-keep (add_once before r) rs)
    (All-weaker (Contains before) (Contains (add_once before r)) (λ x at. add-keeps before r x at) before (in-itself before))

pub adds-have : (before rs : List Record) → AreIn (fold add_once before rs) rs
adds-have before [] = All-nil (Contains before)
adds-have before (r ∷ rs) =
    let all = fold add_once (add_once before r) rs in
    All-cons (Contains all) r rs (All-contains (Contains all) (add_once before r) r (adds-keep (add_once before r) rs) (add-has before r)) (adds-have (add_once before r) rs)

pub adds-only : (others before rs : List Record) → AreIn others before → AreIn others rs → AreIn others (fold add_once before rs)
adds-only others before [] h k = h
adds-only others before (r ∷ rs) h k = adds-only others (add_once before r) rs (split (is_listed before r)) (All-tail (Contains others) r rs k)
  where
    split : (b : Bool) → AreIn others (if b then before else before ++ r ∷ [])
    split true = h
    split false = All-push (Contains others) before r h (All-head (Contains others) r rs k)

-- The devices of a list, one record more or less.
use Rattle.std.proofs.Common.{◌≡◌, ℕ, suc, ◌+◌, ◌<◌, ◌≤◌, ◌==◌, Bool, true, false, ◌||◌, if◌then◌else◌, List, [], ◌∷◌, ◌++◌, length, Option, Some, None, sym, ◌∙◌, ap, refl, subst, arith, append_assoc}
use Rattle.std.proofs.lemmas.Bool.Decides.{nat_tests}
use Rattle.std.proofs.lemmas.List.{append-nil}
use Rattle.std.proofs.lemmas.Option.{none-some, same_Some}
use Rattle.std.specs.BTreeMap.{BTreeMap, Updates, get}
use Rattle.std.specs.Ordering.{is_eq, nat_cmp}
use Rattle.shelf.specs.Archive.{StoredValue, has_device, devices_after, devices_of}
use Rattle.shelf.specs.Devices.{IsCounted, first_from}
use Rattle.shelf.specs.declared.devices.Devices.{Devices}

-- First places.

pub first-none : (k : ℕ) (list : List StoredValue) (s : StoredValue) (q : ℕ) → first_from k list q ≡ None → first_from k (list ++ s ∷ []) q ≡ (if s.imei == q then Some (k + length list) else None)
first-none k [] s q none = ap (λ n. if s.imei == q then Some n else None) (omega arith)
first-none k (x ∷ list) s q none = split (x.imei == q) none (λ rest. first-none (k + 1) list s q rest)
  where
    split : (b : Bool) → (if b then Some k else first_from (k + 1) list q) ≡ None → (first_from (k + 1) list q ≡ None → first_from (k + 1) (list ++ s ∷ []) q ≡ (if s.imei == q then Some (k + 1 + length list) else None))
        → (if b then Some k else first_from (k + 1) (list ++ s ∷ []) q) ≡ (if s.imei == q then Some (k + length (x ∷ list)) else None)
    split true is rest = absurd (none-some k (sym is))
    split false is rest = rest is ∙ ap (λ n. if s.imei == q then Some n else None) (omega arith)

pub first-some : (k : ℕ) (list more : List StoredValue) (q p : ℕ) → first_from k list q ≡ Some p → first_from k (list ++ more) q ≡ Some p
first-some k [] more q p some = absurd (none-some p some)
first-some k (x ∷ list) more q p some = split (x.imei == q) some (λ rest. first-some (k + 1) list more q p rest)
  where
    split : (b : Bool) → (if b then Some k else first_from (k + 1) list q) ≡ Some p → (first_from (k + 1) list q ≡ Some p → first_from (k + 1) (list ++ more) q ≡ Some p)
        → (if b then Some k else first_from (k + 1) (list ++ more) q) ≡ Some p
    split true is rest = is
    split false is rest = rest is

pub first-low : (k : ℕ) (list : List StoredValue) (q p : ℕ) → first_from k list q ≡ Some p → p < k + length list
first-low k [] q p some = absurd (none-some p some)
first-low k (x ∷ list) q p some = split (x.imei == q) some (λ rest. first-low (k + 1) list q p rest)
  where
    split : (b : Bool) → (if b then Some k else first_from (k + 1) list q) ≡ Some p → (first_from (k + 1) list q ≡ Some p → p < k + 1 + length list) → p < k + length (x ∷ list)
    split true is rest = let same = same_Some k p is in omega arith
    split false is rest = let low = rest is in omega arith

device-none : (k : ℕ) (list : List StoredValue) (q : ℕ) → first_from k list q ≡ None → has_device list q ≡ false
device-none k [] q none = refl
device-none k (x ∷ list) q none = split (x.imei == q) none (λ rest. device-none (k + 1) list q rest)
  where
    split : (b : Bool) → (if b then Some k else first_from (k + 1) list q) ≡ None → (first_from (k + 1) list q ≡ None → has_device list q ≡ false) → (b || has_device list q) ≡ false
    split true is rest = absurd (none-some k (sym is))
    split false is rest = rest is

device-some : (k : ℕ) (list : List StoredValue) (q p : ℕ) → first_from k list q ≡ Some p → has_device list q ≡ true
device-some k [] q p some = absurd (none-some p some)
device-some k (x ∷ list) q p some = split (x.imei == q) some (λ rest. device-some (k + 1) list q p rest)
  where
    split : (b : Bool) → (if b then Some k else first_from (k + 1) list q) ≡ Some p → (first_from (k + 1) list q ≡ Some p → has_device list q ≡ true) → (b || has_device list q) ≡ true
    split true is rest = refl
    split false is rest = rest is

-- Counts.

devices-append : (seen xs ys : List StoredValue) → devices_after seen (xs ++ ys) ≡ devices_after seen xs + devices_after (seen ++ xs) ys
devices-append seen [] ys = ap (λ l. devices_after l ys) (sym (append-nil seen)) ∙ omega arith
devices-append seen (x ∷ xs) ys =
    let rest = devices-append (seen ++ x ∷ []) xs ys in
    let same = ap (λ l. devices_after l ys) (append_assoc seen (x ∷ []) xs) in
    omega (arith, rest, same)

pub devices-last : (list : List StoredValue) (s : StoredValue) → devices_of (list ++ s ∷ []) ≡ devices_of list + (if has_device list s.imei then 0 else 1)
devices-last list s = devices-append [] list (s ∷ []) ∙ omega arith

devices-few : (seen list : List StoredValue) → devices_after seen list ≤ length list
devices-few seen [] = omega arith
devices-few seen (s ∷ list) = split (has_device seen s.imei) (devices-few (seen ++ s ∷ []) list)
  where
    split : (b : Bool) → devices_after (seen ++ s ∷ []) list ≤ length list → (if b then 0 else 1) + devices_after (seen ++ s ∷ []) list ≤ suc (length list)
    split true few = omega arith
    split false few = omega arith

pub devices-most : (list : List StoredValue) → devices_of list ≤ length list
devices-most list = devices-few [] list

-- A record more.

pub counted-known : (list : List StoredValue) (d : Devices) (s : StoredValue) (p : ℕ) → IsCounted list d → get nat_cmp d.firsts s.imei ≡ Some p → IsCounted (list ++ s ∷ []) d
counted-known list d s p is found = record {
  first = λ q. is.first q ∙ sym (keeps q (first_from 0 list q) refl);
  count = is.count ∙ sym (devices-last list s ∙ ap (λ (b : Bool). devices_of list + (if b then 0 else 1)) (device-some 0 list s.imei p (sym (is.first s.imei) ∙ found)) ∙ omega arith);
}
  where
    keeps : (q : ℕ) (o : Option ℕ) → first_from 0 list q ≡ o → first_from 0 (list ++ s ∷ []) q ≡ first_from 0 list q
    keeps q (Some n) at = first-some 0 list (s ∷ []) q n at ∙ sym at
    keeps q None at = first-none 0 list s q at ∙ other (s.imei == q) refl ∙ sym at
      where
        other : (b : Bool) → (s.imei == q) ≡ b → (if s.imei == q then Some (0 + length list) else None) ≡ None
        other true same =
            let is_q : s.imei ≡ q = grind (arith, nat_tests, same) in
            absurd (none-some p (sym at ∙ ap (first_from 0 list) (sym is_q) ∙ sym (is.first s.imei) ∙ found))
        other false apart = ap (λ (b : Bool). if b then Some (0 + length list) else None) apart

number-test : (x y : ℕ) → is_eq (nat_cmp x y) ≡ (x == y)
number-test x y = grind (arith, nat_tests)

pub counted-new : (list : List StoredValue) (d e : Devices) (s : StoredValue) (place : ℕ) → IsCounted list d → get nat_cmp d.firsts s.imei ≡ None → place ≡ length list
    → Updates nat_cmp d.firsts e.firsts s.imei (Some place) → e.count ≡ d.count + 1 → IsCounted (list ++ s ∷ []) e
counted-new list d e s place is none at updates count = record {
  first = λ q. split q (s.imei == q) refl;
  count = count ∙ ap (λ n. n + 1) is.count ∙ sym (devices-last list s ∙ ap (λ (b : Bool). devices_of list + (if b then 0 else 1)) (device-none 0 list s.imei (sym (is.first s.imei) ∙ none)));
}
  where
    split : (q : ℕ) (b : Bool) → (s.imei == q) ≡ b → get nat_cmp e.firsts q ≡ first_from 0 (list ++ s ∷ []) q
    split q true same =
        let is_q : s.imei ≡ q = grind (arith, nat_tests, same) in
        let P : ℕ → Type 0 = λ n. get nat_cmp e.firsts n ≡ first_from 0 (list ++ s ∷ []) n in
        let self : (s.imei == s.imei) ≡ true = grind (arith, nat_tests) in
        subst P is_q (updates.1 ∙ ap Some (at ∙ omega arith) ∙ sym (first-none 0 list s s.imei (sym (is.first s.imei) ∙ none) ∙ ap (λ (b : Bool). if b then Some (0 + length list) else None) self))
    split q false apart = updates.2 q (number-test s.imei q ∙ apart) ∙ is.first q ∙ sym (keeps (first_from 0 list q) refl)
      where
        keeps : (o : Option ℕ) → first_from 0 list q ≡ o → first_from 0 (list ++ s ∷ []) q ≡ first_from 0 list q
        keeps (Some n) was = first-some 0 list (s ∷ []) q n was ∙ sym was
        keeps None was = first-none 0 list s q was ∙ ap (λ (b : Bool). if b then Some (0 + length list) else None) apart ∙ sym was

-- The last record less.

pub counted-less : (list : List StoredValue) (d e : Devices) (s : StoredValue) → IsCounted (list ++ s ∷ []) d → get nat_cmp d.firsts s.imei ≡ Some (length list)
    → Updates nat_cmp d.firsts e.firsts s.imei None → e.count + 1 ≡ d.count → IsCounted list e
counted-less list d e s is last updates count = record { first = λ q. split q (s.imei == q) refl; count = omega (arith, count, is.count, fewer) }
  where
    before : first_from 0 list s.imei ≡ None
    before = was (first_from 0 list s.imei) refl
      where
        was : (o : Option ℕ) → first_from 0 list s.imei ≡ o → first_from 0 list s.imei ≡ None
        was None at = at
        was (Some n) at =
            let low = first-low 0 list s.imei n at in
            let same = same_Some n (length list) (sym (first-some 0 list (s ∷ []) s.imei n at) ∙ sym (is.first s.imei) ∙ last) in
            absurd (omega arith)

    fewer : devices_of (list ++ s ∷ []) ≡ devices_of list + 1
    fewer = devices-last list s ∙ ap (λ (b : Bool). devices_of list + (if b then 0 else 1)) (device-none 0 list s.imei before)

    split : (q : ℕ) (b : Bool) → (s.imei == q) ≡ b → get nat_cmp e.firsts q ≡ first_from 0 list q
    split q true same =
        let is_q : s.imei ≡ q = grind (arith, nat_tests, same) in
        let P : ℕ → Type 0 = λ n. get nat_cmp e.firsts n ≡ first_from 0 list n in
        subst P is_q (updates.1 ∙ sym before)
    split q false apart = updates.2 q (number-test s.imei q ∙ apart) ∙ is.first q ∙ keeps (first_from 0 list q) refl
      where
        keeps : (o : Option ℕ) → first_from 0 list q ≡ o → first_from 0 (list ++ s ∷ []) q ≡ first_from 0 list q
        keeps (Some n) was = first-some 0 list (s ∷ []) q n was ∙ sym was
        keeps None was = first-none 0 list s q was ∙ ap (λ (b : Bool). if b then Some (0 + length list) else None) apart ∙ sym was

pub counted-kept : (list : List StoredValue) (d : Devices) (s : StoredValue) → IsCounted (list ++ s ∷ []) d → (get nat_cmp d.firsts s.imei ≡ Some (length list) → ⊥) → IsCounted list d
counted-kept list d s is other = record { first = λ q. is.first q ∙ keeps q (first_from 0 list q) refl; count = is.count ∙ fewer }
  where
    known : (n : ℕ) × (first_from 0 list s.imei ≡ Some n)
    known = was (first_from 0 list s.imei) refl
      where
        was : (o : Option ℕ) → first_from 0 list s.imei ≡ o → (n : ℕ) × (first_from 0 list s.imei ≡ Some n)
        was (Some n) at = (n, at)
        was None at =
            let self : (s.imei == s.imei) ≡ true = grind (arith, nat_tests) in
            absurd (other (is.first s.imei ∙ first-none 0 list s s.imei at ∙ ap (λ (b : Bool). if b then Some (0 + length list) else None) self ∙ ap Some (omega arith)))

    fewer : devices_of (list ++ s ∷ []) ≡ devices_of list
    fewer = devices-last list s ∙ ap (λ (b : Bool). devices_of list + (if b then 0 else 1)) (device-some 0 list s.imei known.0 known.1) ∙ omega arith

    keeps : (q : ℕ) (o : Option ℕ) → first_from 0 list q ≡ o → first_from 0 (list ++ s ∷ []) q ≡ first_from 0 list q
    keeps q (Some n) at = first-some 0 list (s ∷ []) q n at ∙ sym at
    keeps q None at = first-none 0 list s q at ∙ apart (s.imei == q) refl ∙ sym at
      where
        apart : (b : Bool) → (s.imei == q) ≡ b → (if s.imei == q then Some (0 + length list) else None) ≡ None
        apart true same =
            let is_q : s.imei ≡ q = grind (arith, nat_tests, same) in
            absurd (none-some known.0 (sym at ∙ ap (first_from 0 list) (sym is_q) ∙ known.1))
        apart false different = ap (λ (b : Bool). if b then Some (0 + length list) else None) different

-- In the code's words.

pub found-in : (firsts : BTreeMap ℕ ℕ) (n imei : ℕ) (copied looked w : Option ℕ) → n ≡ imei → copied ≡ looked → looked ≡ get nat_cmp firsts n → copied ≡ w → get nat_cmp firsts imei ≡ w
found-in firsts n imei copied looked w same is read found = ap (get nat_cmp firsts) (sym same) ∙ sym read ∙ sym is ∙ found

pub updates-at : (old new : BTreeMap ℕ ℕ) (n imei : ℕ) (w : Option ℕ) → n ≡ imei → Updates nat_cmp old new n w → Updates nat_cmp old new imei w
updates-at old new n imei w same updates = let P : ℕ → Type 0 = λ k. Updates nat_cmp old new k w in subst P same updates

-- a device that has a first place is counted
pub counted-some : (list : List StoredValue) (d : Devices) (imei p : ℕ) → IsCounted list d → get nat_cmp d.firsts imei ≡ Some p → 1 ≤ d.count
counted-some list d imei p is found =
    let some = some-after [] list (device-some 0 list imei p (sym (is.first imei) ∙ found)) in
    let count = is.count in
    omega arith
  where
    some-after : (seen list : List StoredValue) → has_device list imei ≡ true → 1 ≤ devices_after [] list
    some-after seen [] has = absurd (let never : false ≡ true = has in cc)
    some-after seen (x ∷ list) has = omega arith

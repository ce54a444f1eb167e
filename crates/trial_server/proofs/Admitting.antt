-- The archive through the frames of one line, and through a power loss.
use Rattle.std.proofs.Common.{◌≡◌, inl, inr, ℕ, suc, ◌++◌, ◌-◌, ◌==◌, Bool, true, false, List, [], ◌∷◌, length, take, Option, Some, None, Ok, Err, Result, if◌then◌else◌, refl, sym, ◌∙◌, ap, subst, arith, append_assoc, eqb-true}
use Rattle.std.specs.List.{Contains}
use Rattle.std.proofs.lemmas.Bool.{false≢true}
use Rattle.std.proofs.lemmas.List.Elements.{All-append, All-nil}
use Rattle.avl_values.specs.Record.{Record}
use Rattle.medium_model.specs.Content.{Content}
use Rattle.medium_model.specs.Images.{IsEither, changed, unchanged}
use Rattle.medium_model.specs.PowerLoss.{EveryImage}
use Rattle.medium_model.specs.State.{IfTold, MediumState}
use Rattle.medium_model.proofs.Images.{every-at, every-map}
use Rattle.record_layout.specs.RecordsOf.{records_of}
use Rattle.archive_journal.specs.Body.{EntryValue}
use Rattle.archive_journal.specs.Entries.{entries_of}
use Rattle.archive_journal.specs.Journal.{EachHolds, HoldsWith, entries_told}
use Rattle.shelf.specs.Archive.{HoldEachOnce, admitted, list_of}
use Rattle.shelf.specs.Shelf.{Leaves, Lists, ListsEither, ShelfView}
use Rattle.shelf.specs.declared.receipt.AdmitFault.{AdmitFault}
use Rattle.shelf.specs.declared.receipt.AdmitFault.TheVariants.{MediumFault}
use Rattle.shelf.specs.declared.receipt.Receipt.{Receipt}
use Rattle.shelf.proofs.Laws.{each-holds, each_once-after, lists-after, reads-hold}
use Rattle.trial_model.specs.Frames.{Frame, records_in}
use Rattle.trial_model.specs.RecordLists.{AreIn}
use Rattle.trial_server.specs.Archives.{Account, Adds, AreRightEntries, IsRightList, IsRightShelf, with_records}
use Rattle.trial_server.specs.Serving.{IsAdmitted, IsRefused, Restarts, Serves, armed, receipted}
use Rattle.trial_server.proofs.Accounts.{list-admitted, list-weaker, with-keeps}
use Rattle.trial_server.proofs.Containing.{in-itself, in-left, in-right, in-then}

-- What holds of each image by one fact, and by two.

pub holds-map : (m : MediumState) (P Q : List EntryValue → Type 0) → ((es : List EntryValue) → P es → Q es) → EachHolds m P → EachHolds m Q
holds-map m P Q step every = every-map m.content (HoldsWith P) (HoldsWith Q) (λ image held. record { sound = held.sound; holds = step (entries_of image) held.holds }) every

pub holds-both : (m : MediumState) (P Q R : List EntryValue → Type 0) → ((es : List EntryValue) → P es → Q es → R es) → EachHolds m P → EachHolds m Q → EachHolds m R
holds-both m P Q R step first second = over m.content first second
  where
    over : (o : Option Content) → EveryImage o (HoldsWith P) → EveryImage o (HoldsWith Q) → EveryImage o (HoldsWith R)
    over None first second = tt
    over (Some c) first second = λ image im. record { sound = (first image im).sound; holds = step (entries_of image) (first image im).holds (second image im).holds }

-- Accounts that say more of what was delivered, and less of what was counted.
pub shelf-weaker : (given counted more less : Account) (v : ShelfView) → ((j : ℕ) → AreIn (more j) (given j)) → ((j : ℕ) → AreIn (counted j) (less j)) → IsRightShelf given counted v → IsRightShelf more less v
shelf-weaker given counted more less v grows falls right = record {
  images = holds-map v.medium (AreRightEntries given counted) (AreRightEntries more less)
      (λ es are. record { list = list-weaker given counted more less (list_of es) grows falls are.list; each_once = are.each_once }) right.images;
  durable = right.durable;
  list = λ up. list-weaker given counted more less v.list grows falls (right.list up);
}

-- The medium's calls left are no part of it.
pub shelf-armed : (given counted : Account) (fuse : Option ℕ) (v : ShelfView) → IsRightShelf given counted v → IsRightShelf given counted (armed fuse v)
shelf-armed given counted None v right = right
shelf-armed given counted (Some k) v right = record {
  images = right.images;
  durable = λ up. let d = right.durable up in record { up = d.up; rest = d.rest; reads = d.reads; told = d.told; same = d.same };
  list = right.list;
}

-- One packet.
module _ (given counted : Account) (imei : ℕ) (rs : List Record) (old new : ShelfView) (right : IsRightShelf given counted old) (up : old.down ≡ false) where
  abbrev more : Account
  more = with_records imei rs given

  same-counted : (j : ℕ) → AreIn (counted j) (counted j)
  same-counted j = in-itself (counted j)

  -- the list before, or with the packet
  either-list : (body : List ℕ) → records_of body ≡ rs → (es : List EntryValue) → ListsEither old.list (admitted old.list imei (records_of body)) es → IsRightList more counted (list_of es)
  either-list body are es is = split is.is
    where
      split : IsEither old.list (admitted old.list imei (records_of body)) (list_of es) → IsRightList more counted (list_of es)
      split (unchanged same) = subst (IsRightList more counted) (sym same) (list-weaker given counted more counted old.list (with-keeps imei rs given) same-counted (right.list up))
      split (changed same) = subst (IsRightList more counted) (sym (same ∙ ap (admitted old.list imei) are))
          (list-weaker more (with_records imei rs counted) more counted (admitted old.list imei rs) (λ j. in-itself (more j)) (with-keeps imei rs counted) (list-admitted given counted imei rs old.list (right.list up)))

  each-once : (body : List ℕ) (result : Result Receipt AdmitFault) → Leaves old imei body result new → EachHolds new.medium HoldEachOnce
  each-once body result leaves = each_once-after old new imei body result (right.durable up)
      (reads-hold old HoldEachOnce (right.durable up) (holds-map old.medium (AreRightEntries given counted) HoldEachOnce (λ es are. are.each_once) right.images)) leaves

  -- The medium failed: each image has what it had, or all of the packet.
  pub shelf-refused : IsRefused imei rs old new → IsRightShelf more counted new
  shelf-refused r =
      let down : new.down ≡ true = r.leaves.admits.down in
      record {
        images = holds-both new.medium (ListsEither old.list (admitted old.list imei (records_of r.body))) HoldEachOnce (AreRightEntries more counted)
            (λ es is once. record { list = either-list r.body r.records es is; each_once = once })
            (lists-after old new imei r.body (Err (MediumFault r.faults)) (right.durable up) r.leaves) (each-once r.body (Err (MediumFault r.faults)) r.leaves);
        durable = λ risen. absurd (false≢true (sym risen ∙ down));
        list = λ risen. absurd (false≢true (sym risen ∙ down));
      }

  -- There was a receipt: each image has all of the packet.
  pub shelf-admitted : IsAdmitted imei rs old new → IsRightShelf more (with_records imei rs counted) new
  shelf-admitted a =
      let still : new.down ≡ false = a.leaves.admits.down ∙ up in
      let list_is : new.list ≡ admitted old.list imei rs = a.leaves.admits.list ∙ ap (admitted old.list imei) a.records in
      let list : IsRightList more (with_records imei rs counted) new.list = subst (IsRightList more (with_records imei rs counted)) (sym list_is) (list-admitted given counted imei rs old.list (right.list up)) in
      record {
        images = holds-both new.medium (Lists new.list) HoldEachOnce (AreRightEntries more (with_records imei rs counted))
            (λ es is once. record { list = subst (IsRightList more (with_records imei rs counted)) (sym is.is) list; each_once = once })
            (a.leaves.durable still).same (each-once a.body (Ok a.receipt) a.leaves);
        durable = a.leaves.durable;
        list = λ _. list;
      }

-- a shelf that is up stays up while packets are admitted
pub serves-up : (imei : ℕ) (fs : List Frame) (old new : ShelfView) → old.down ≡ false → Serves imei false fs old new → new.down ≡ false
serves-up imei [] old new up (good, same) = ap (λ (v : ShelfView). v.down) same ∙ up
serves-up imei (f ∷ fs) old new up (inl (mid, a, rest)) = serves-up imei fs mid new (a.leaves.admits.down ∙ up) rest
serves-up imei (f ∷ fs) old new up (inr (bad, last, r)) = absurd (false≢true bad)

none-more : (imei : ℕ) (account : Account) (j : ℕ) → AreIn (account j) (with_records imei [] account j)
none-more imei account j = All-append (Contains (account j)) (account j) (if imei == j then [] else []) (in-itself (account j)) (split (imei == j))
  where
    split : (b : Bool) → AreIn (account j) (if b then [] else [])
    split true = All-nil (Contains (account j))
    split false = All-nil (Contains (account j))

-- an account that keeps another, and has these records of this device
keeps-more : (imei : ℕ) (rs : List Record) (old new : Account) → ((j : ℕ) → AreIn (new j) (old j)) → AreIn (new imei) rs → (j : ℕ) → AreIn (new j) (with_records imei rs old j)
keeps-more imei rs old new keeps has j = All-append (Contains (new j)) (old j) (if imei == j then rs else []) (keeps j) (split (imei == j) refl)
  where
    split : (b : Bool) → (imei == j) ≡ b → AreIn (new j) (if b then rs else [])
    split true own = subst (λ k. AreIn (new k) rs) (eqb-true imei j own) has
    split false other = All-nil (Contains (new j))

-- more records of one device
with-more : (imei : ℕ) (rs others : List Record) (account : Account) → AreIn rs others → (j : ℕ) → AreIn (with_records imei rs account j) (with_records imei others account j)
with-more imei rs others account h j = split (imei == j)
  where
    split : (b : Bool) → AreIn (account j ++ (if b then rs else [])) (account j ++ (if b then others else []))
    split true = All-append (Contains (account j ++ rs)) (account j) others (in-left (account j) rs (account j) (in-itself (account j))) (in-right (account j) rs others h)
    split false = in-itself (account j ++ [])

with-then : (imei : ℕ) (rs others : List Record) (account : Account) (j : ℕ) → AreIn (with_records imei others (with_records imei rs account) j) (with_records imei (rs ++ others) account j)
with-then imei rs others account j = split (imei == j)
  where
    split : (b : Bool) → AreIn ((account j ++ (if b then rs else [])) ++ (if b then others else [])) (account j ++ (if b then rs ++ others else []))
    split true = subst (λ l. AreIn l (account j ++ (rs ++ others))) (sym (append_assoc (account j) rs others)) (in-itself (account j ++ (rs ++ others)))
    split false = in-left (account j ++ []) [] (account j ++ []) (in-itself (account j ++ []))

one-less : (f : Frame) (fs : List Frame) → AreIn (f.records ++ records_in (take (length fs - 1) fs)) (records_in (take (length (f ∷ fs) - 1) (f ∷ fs)))
one-less f [] = subst (λ n. AreIn (f.records ++ []) (records_in (take n (f ∷ [])))) (let e : 0 ≡ length (f ∷ []) - 1 = omega arith in e) (All-nil (Contains (f.records ++ [])))
one-less f (g ∷ gs) = subst (λ n. AreIn (f.records ++ records_in (take (length (g ∷ gs) - 1) (g ∷ gs))) (records_in (take n (f ∷ g ∷ gs))))
    (let e : suc (length (g ∷ gs) - 1) ≡ length (f ∷ g ∷ gs) - 1 = omega arith in e) (in-itself (f.records ++ records_in (take (length (g ∷ gs) - 1) (g ∷ gs))))

receipted-first : (failed : Bool) (f : Frame) (fs : List Frame) → AreIn (f.records ++ records_in (receipted failed fs)) (records_in (receipted failed (f ∷ fs)))
receipted-first true f fs = one-less f fs
receipted-first false f fs = in-itself (f.records ++ records_in fs)

-- The archive through the frames of one line: what was delivered has them all, what is counted those with a receipt.
pub serves-right : (given counted more less : Account) (imei : ℕ) (failed : Bool) (fs : List Frame) (old new : ShelfView)
    → IsRightShelf given counted old → old.down ≡ false → Serves imei failed fs old new
    → Adds imei (records_in fs) given more
    → ((j : ℕ) → AreIn (with_records imei (records_in (receipted failed fs)) counted j) (less j))
    → IsRightShelf more less new
serves-right given counted more less imei failed [] old new right up (good, same) adds falls =
    let none : records_in (receipted failed []) ≡ [] = ap (λ b. records_in (receipted b [])) good in
    let low : (j : ℕ) → AreIn (counted j) (less j) = λ j. in-then (counted j) (with_records imei [] counted j) (less j) (none-more imei counted j)
    (subst (λ rs. AreIn (with_records imei rs counted j) (less j)) none (falls j)) in
    subst (IsRightShelf more less) (sym same) (shelf-weaker given counted more less old adds.keeps low right)
serves-right given counted more less imei failed (f ∷ fs) old new right up (inl (mid, a, rest)) adds falls =
    let first : AreIn (more imei) f.records = in-then (more imei) (f.records ++ records_in fs) f.records adds.has (in-left f.records (records_in fs) f.records (in-itself f.records)) in
    let later : AreIn (more imei) (records_in fs) = in-then (more imei) (f.records ++ records_in fs) (records_in fs) adds.has (in-right f.records (records_in fs) (records_in fs) (in-itself (records_in fs))) in
    serves-right (with_records imei f.records given) (with_records imei f.records counted) more less imei failed fs mid new
    (shelf-admitted given counted imei f.records old mid right up a) (a.leaves.admits.down ∙ up) rest
    (record { keeps = keeps-more imei f.records given more adds.keeps first; has = later })
    (λ j. in-then (with_records imei (records_in (receipted failed fs)) (with_records imei f.records counted) j) (with_records imei (f.records ++ records_in (receipted failed fs)) counted j) (less j)
    (with-then imei f.records (records_in (receipted failed fs)) counted j)
    (in-then (with_records imei (f.records ++ records_in (receipted failed fs)) counted j) (with_records imei (records_in (receipted failed (f ∷ fs))) counted j) (less j)
    (with-more imei (f.records ++ records_in (receipted failed fs)) (records_in (receipted failed (f ∷ fs))) counted (receipted-first failed f fs) j) (falls j)))
serves-right given counted more less imei failed (f ∷ fs) old new right up (inr (bad, last, r)) adds falls =
    let none : records_in (receipted failed (f ∷ fs)) ≡ [] = ap (λ (p : Bool × List Frame). records_in (receipted p.0 (f ∷ p.1))) (λ i. (bad i, last i))
    ∙ ap (λ n. records_in (take n (f ∷ []))) (let e : length (f ∷ []) - 1 ≡ 0 = omega arith in e) in
    let first : AreIn (more imei) f.records = in-then (more imei) (f.records ++ records_in fs) f.records adds.has (in-left f.records (records_in fs) f.records (in-itself f.records)) in
    shelf-weaker (with_records imei f.records given) counted more less new (keeps-more imei f.records given more adds.keeps first)
    (λ j. in-then (counted j) (with_records imei [] counted j) (less j) (none-more imei counted j) (subst (λ rs. AreIn (with_records imei rs counted j) (less j)) none (falls j)))
    (shelf-refused given counted imei f.records old new right up r)

-- A power loss and power-up.
pub shelf-restarted : (given counted : Account) (old new : ShelfView) → IsRightShelf given counted old → Restarts old new → IsRightShelf given counted new
shelf-restarted given counted old new right r =
    let image = r.restarted.image in
    let held = every-at old.medium.content (HoldsWith (AreRightEntries given counted)) image r.told right.images r.restarted.was in
    record {
      images = each-holds new (AreRightEntries given counted) r.durable (told-entries new.medium.content (entries_of image) r.restarted.entries held.holds);
      durable = λ _. r.durable;
      list = λ _. subst (IsRightList given counted) (sym r.restarted.list) held.holds.list;
    }
  where
    some-entries : (es fs : List EntryValue) → Some es ≡ Some fs → es ≡ fs
    some-entries es fs e = cc

    told-entries : (o : Option Content) (es : List EntryValue) → entries_told o ≡ Some es → AreRightEntries given counted es → IfTold o (λ c. AreRightEntries given counted (entries_of c.reads))
    told-entries None es e are = tt
    told-entries (Some c) es e are = subst (AreRightEntries given counted) (sym (some-entries (entries_of c.reads) es e)) are

-- The bytes of what is read of a stream down.
use Rattle.std.proofs.Common.{◌≡◌, ℕ, ◌<◌, Bool, true, false, List, [], ◌∷◌, ◌++◌, refl, sym, ap, subst, ◌∙◌, append_assoc}
use Rattle.std.specs.List.{flat_map}
use Rattle.layout.specs.Bytes.{AreBytes}
use Rattle.layout.specs.Rows.{Verdict, whole, short, fault}
use Rattle.layout.proofs.Numbers.{bytes-back, bytes-front}
use Rattle.avl_values.specs.declared.fault.FaultKind.{FaultKind}
use Rattle.item_streams.specs.Streams.{AreItems, IsReading, Item, Reading, values}
use Rattle.item_streams.proofs.StreamLaws.{has_reading}
use Rattle.frame_layout.specs.DownRows.{down_rows, down_verdict}
use Rattle.frame_layout.specs.Items.{IsDownItem, count_bytes, frame_of}
use Rattle.frame_layout.specs.Readings.{down_reading, order_in, orders_of}
use Rattle.frame_layout.specs.Values.{DownValue, answer, count, order}
use Rattle.frame_layout.proofs.DownLaws.{down_whole, filled_down}
use Rattle.tracker_session.proofs.Advancing.{down_begins}

-- the bytes of an item
abbrev pub spelled : DownValue → List ℕ
spelled (answer b) = b ∷ []
spelled (count n) = count_bytes n
spelled (order body) = frame_of body

pub item-spelled : (after_answer : Bool) (v : DownValue) (bytes : List ℕ) → IsDownItem after_answer v bytes → bytes ≡ spelled v
item-spelled false (answer b) bytes is = is.is
item-spelled false (count n) bytes is = absurd is
item-spelled false (order body) bytes is = absurd is
item-spelled true (answer b) bytes is = absurd is
item-spelled true (count n) bytes is = is.is
item-spelled true (order body) bytes is = is.is

items-spelled : (after_answer : Bool) (place : ℕ) (items : List (Item DownValue)) (rest bytes : List ℕ) → AreBytes bytes → AreItems (down_rows after_answer) (down_rows true) place items rest bytes
    → bytes ≡ flat_map spelled (values items) ++ rest
items-spelled after_answer place [] rest bytes p is = is
items-spelled after_answer place (i ∷ items) rest bytes p (front, more, is, fills, at, others) =
    let q : AreBytes (front ++ more) = subst AreBytes is p in
    let one : front ≡ spelled i.value = item-spelled after_answer i.value front (filled_down after_answer i.value front (bytes-front front more q) fills) in
    let later : more ≡ flat_map spelled (values items) ++ rest = items-spelled true i.end items rest more (bytes-back front more q) others in
    is ∙ ap (λ (b : List ℕ). b ++ more) one ∙ ap (λ (b : List ℕ). spelled i.value ++ b) later ∙ sym (append_assoc (spelled i.value) (flat_map spelled (values items)) rest)

-- an item stands at its place
pub record IsPlaced (v : DownValue) : Type 0 where
  pub after_answer : Bool
  pub is : IsDownItem after_answer v (spelled v)

last-placed : (after_answer : Bool) (place : ℕ) (items : List (Item DownValue)) (last : Item DownValue) (rest bytes : List ℕ) → AreBytes bytes → AreItems (down_rows after_answer) (down_rows true) place (items ++ last ∷ []) rest bytes
    → IsPlaced last.value
last-placed after_answer place [] last rest bytes p (front, more, is, fills, at, others) =
    let item = filled_down after_answer last.value front (bytes-front front more (subst AreBytes is p)) fills in
    record { after_answer = after_answer; is = subst (IsDownItem after_answer last.value) (item-spelled after_answer last.value front item) item }
last-placed after_answer place (i ∷ items) last rest bytes p (front, more, is, fills, at, others) = last-placed true i.end items last rest more (bytes-back front more (subst AreBytes is p)) others

reading-items : (bytes rest : List ℕ) (items : List (Item DownValue)) → down_reading false bytes ≡ record { items = items; rest = rest } → AreItems (down_rows false) (down_rows true) 0 items rest bytes
reading-items bytes rest items e =
    let P : Reading DownValue → Type 0 = λ r. IsReading (down_rows false) (down_rows true) 0 bytes r in
    (subst P e (has_reading (down_rows false) (down_rows true) 0 bytes down_begins)).joined

-- bytes that are read as these items and this rest
pub reading-spelled : (bytes rest : List ℕ) (items : List (Item DownValue)) → AreBytes bytes → down_reading false bytes ≡ record { items = items; rest = rest } → bytes ≡ flat_map spelled (values items) ++ rest
reading-spelled bytes rest items p e = items-spelled false 0 items rest bytes p (reading-items bytes rest items e)

pub reading-placed : (bytes rest : List ℕ) (items : List (Item DownValue)) (last : Item DownValue) → AreBytes bytes → down_reading false bytes ≡ record { items = items ++ last ∷ []; rest = rest } → IsPlaced last.value
reading-placed bytes rest items last p e = last-placed false 0 items last rest bytes p (reading-items bytes rest (items ++ last ∷ []) e)

-- Before the login's answer a byte decides.
pub answer-decides : (b : ℕ) (bytes : List ℕ) → b < 256 → down_verdict false (b ∷ bytes) ≡ whole (answer b) 1
answer-decides b bytes low = down_whole false (answer b) (b ∷ []) bytes (record { is = refl; byte = low })

pub none-taken : (rest : List ℕ) → AreBytes rest → down_verdict false rest ≡ short → rest ≡ []
none-taken [] p e = refl
none-taken (b ∷ rest) p e = absurd (let f : whole (answer b) 1 ≡ short = sym (answer-decides b rest p.0) ∙ e in cc)

pub never-broken : (rest : List ℕ) (kind : FaultKind) (place : ℕ) → AreBytes rest → down_verdict false rest ≡ fault kind place → ⊥
never-broken [] kind place p e = let f : ◌≡◌ {A = Verdict DownValue} short (fault kind place) = sym down_begins.first_begins ∙ e in cc
never-broken (b ∷ rest) kind place p e = let f : whole (answer b) 1 ≡ fault kind place = sym (answer-decides b rest p.0) ∙ e in cc

-- No command.

abbrev pub IsPlain : DownValue → Type 0
IsPlain (answer b) = Unit {0}
IsPlain (count n) = Unit {0}
IsPlain (order body) = ⊥

abbrev pub ArePlain : List DownValue → Type 0
ArePlain [] = Unit {0}
ArePlain (v ∷ vs) = IsPlain v × ArePlain vs

plain-head : (v : DownValue) (rest : List (List ℕ)) → order_in v ++ rest ≡ [] → IsPlain v × (rest ≡ [])
plain-head (answer b) rest e = (tt, e)
plain-head (count n) rest e = (tt, e)
plain-head (order body) rest e = absurd (let f : body ∷ rest ≡ [] = e in cc)

pub plain-items : (items : List (Item DownValue)) → orders_of items ≡ [] → ArePlain (values items)
plain-items [] e = tt
plain-items (i ∷ items) e = let h = plain-head i.value (orders_of items) e in (h.0, plain-items items h.1)

pub plain-front : (xs ys : List (Item DownValue)) → ArePlain (values (xs ++ ys)) → ArePlain (values xs)
plain-front [] ys p = tt
plain-front (x ∷ xs) ys p = (p.0, plain-front xs ys p.1)

pub plain-last : (xs : List (Item DownValue)) (y : Item DownValue) → ArePlain (values (xs ++ y ∷ [])) → IsPlain y.value
plain-last [] y p = p.0
plain-last (x ∷ xs) y p = plain-last xs y p.1

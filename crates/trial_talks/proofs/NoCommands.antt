-- No command is in what a session of the server writes.
use Rattle.std.proofs.Common.{◌≡◌, ◌<◌, ◌^◌, ℕ, zero, suc, Bool, true, false, List, [], ◌∷◌, ◌++◌, length, take, drop, map, Option, Some, None, refl, ◌∙◌, ap, subst, arith}
use Rattle.std.specs.List.{AllByRecursion, flat_map}
use Rattle.std.proofs.lemmas.List.{take-append-drop}
use Rattle.layout.specs.Bytes.{AreBytes}
use Rattle.item_streams.specs.Streams.{AreItems, Item}
use Rattle.item_streams.proofs.StreamLaws.{has_reading}
use Rattle.frame_layout.specs.Items.{IsUpItem, count_bytes}
use Rattle.frame_layout.specs.Readings.{down_reading, orders_of}
use Rattle.frame_layout.specs.UpRows.{up_rows}
use Rattle.frame_layout.specs.Values.{UpValue, login, packet, response}
use Rattle.frame_layout.proofs.UpLaws.{filled_up}
use Rattle.session_core.proofs.Reading.{up_stream}
use Rattle.shelf.specs.Shelf.{ShelfView}
use Rattle.tracker_session.proofs.Exports.{counts_hold_no_command}
use Rattle.trial_model.specs.declared.outcome.ServerEnd.{ServerEnd}
use Rattle.trial_model.specs.declared.outcome.ServerEnd.TheVariants as Server
use Rattle.trial_model.specs.Frames.{Frame, counts_of}
use Rattle.trial_wire.specs.Hearing.{Stands, answers, as_frames, frame_by, items_in}
use Rattle.trial_wire.specs.Hearing as hearing
use Rattle.trial_talks.proofs.Bodies.{body-count}

-- a count that may be written
abbrev pub IsCountable : ℕ → Type 0
IsCountable n = (0 < n) × (n < 2 ^ 32)

abbrev pub AreCountable : List Frame → Type 0
AreCountable fs = AllByRecursion (λ (f : Frame). IsCountable (length f.records)) fs

countable-append : (fs gs : List Frame) → AreCountable fs → AreCountable gs → AreCountable (fs ++ gs)
countable-append [] gs first later = later
countable-append (f ∷ fs) gs first later = (first.0, countable-append fs gs first.1 later)

-- Items that were read have such frames.

abbrev pub AreCounted : List (Item UpValue) → Type 0
AreCounted items = AllByRecursion (λ (i : Item UpValue). AreCountable (frame_by i.end i.value)) items

item-counted : (after : Bool) (v : UpValue) (bytes : List ℕ) (end : ℕ) → IsUpItem after v bytes → AreCountable (frame_by end v)
item-counted after (login imei) bytes end is = tt
item-counted after (response body) bytes end is = tt
item-counted false (packet head body) bytes end is = absurd is
item-counted true (packet head body) bytes end is = let n = body-count head body is.of_body in ((omega (arith, n.0), omega (arith, n.1)), tt)

bytes-front : (xs ys : List ℕ) → AreBytes (xs ++ ys) → AreBytes xs
bytes-front [] ys are = tt
bytes-front (x ∷ xs) ys are = (are.0, bytes-front xs ys are.1)

bytes-back : (xs ys : List ℕ) → AreBytes (xs ++ ys) → AreBytes ys
bytes-back [] ys are = are
bytes-back (x ∷ xs) ys are = bytes-back xs ys are.1

joined-counted : (after : Bool) (place : ℕ) (items : List (Item UpValue)) (rest bytes : List ℕ) → AreBytes bytes → AreItems (up_rows after) (up_rows true) place items rest bytes → AreCounted items
joined-counted after place [] rest bytes are joined = tt
joined-counted after place (i ∷ items) rest bytes are (front, more, is, fills, end, later) =
    let both : AreBytes (front ++ more) = subst AreBytes is are in
    (item-counted after i.value front i.end (filled_up after i.value front (bytes-front front more both) fills), joined-counted true i.end items rest more (bytes-back front more both) later)

pub items-counted : (bytes : List ℕ) → AreBytes bytes → AreCounted (items_in bytes)
items-counted bytes are = joined-counted false 0 (items_in bytes) _ bytes are (has_reading (up_rows false) (up_rows true) 0 bytes up_stream).joined

frames-counted : (items : List (Item UpValue)) → AreCounted items → AreCountable (as_frames items)
frames-counted [] each = tt
frames-counted (i ∷ items) each = countable-append (frame_by i.end i.value) (as_frames items) each.0 (frames-counted items each.1)

counted-front : (xs ys : List (Item UpValue)) → AreCounted (xs ++ ys) → AreCounted xs
counted-front [] ys each = tt
counted-front (x ∷ xs) ys each = (each.0, counted-front xs ys each.1)

-- What is written is one byte, and then counts.

abbrev pub numbers_of : List Frame → List ℕ
numbers_of fs = map (λ (f : Frame). length f.records) fs

counts-numbers : (fs : List Frame) → counts_of fs ≡ flat_map count_bytes (numbers_of fs)
counts-numbers [] = refl
counts-numbers (f ∷ fs) = ap (λ (l : List ℕ). count_bytes (length f.records) ++ l) (counts-numbers fs)

numbers-countable : (fs : List Frame) → AreCountable fs → AllByRecursion (λ n. (0 < n) × (n < 2 ^ 32)) (numbers_of fs)
numbers-countable [] each = tt
numbers-countable (f ∷ fs) each = (each.0, numbers-countable fs each.1)

plain-counts : (b n : ℕ) (fs : List Frame) (down : List ℕ) → b < 256 → AreCountable fs → down ≡ b ∷ counts_of fs → orders_of (down_reading false (take n down)).items ≡ []
plain-counts b n fs down low each is =
    counts_hold_no_command b (numbers_of fs) (take n down) (drop n down) low (numbers-countable fs each) (take-append-drop n down ∙ (is ∙ ap (λ (l : List ℕ). b ∷ l) (counts-numbers fs)))

plain-nothing : (n : ℕ) (down : List ℕ) → down ≡ [] → orders_of (down_reading false (take n down)).items ≡ []
plain-nothing n down is = counts_hold_no_command 1 [] (take n down) (1 ∷ []) (omega arith) tt (ap (λ (l : List ℕ). take n l ++ 1 ∷ []) is ∙ none n)
  where
    none : (n : ℕ) → take {A = ℕ} n [] ++ 1 ∷ [] ≡ 1 ∷ []
    none zero = refl
    none (suc n) = refl

plain-answers : (friend : Bool) (items : List (Item UpValue)) (n : ℕ) (down : List ℕ) → AreCounted items → down ≡ answers friend items → orders_of (down_reading false (take n down)).items ≡ []
plain-answers friend [] n down each is = plain-nothing n down is
plain-answers true (i ∷ items) n down each is = plain-counts 1 n (as_frames items) down (omega arith) (frames-counted items each.1) is
plain-answers false (i ∷ items) n down each is = plain-counts 0 n [] down (omega arith) tt is

module _ (known : ℕ → Bool) (old : List (Item UpValue)) (start : ShelfView) (bytes down : List ℕ) (shelf : ShelfView) (are : AreBytes bytes) where
  over-plain : (end : ServerEnd) (n : ℕ) → hearing.IsOver known old start bytes down shelf end → (end ≡ Server.NoMemory → ⊥) → orders_of (down_reading false (take n down)).items ≡ []
  over-plain end n (hearing.refused i items none_old unknown at answer same end_is) memory = plain-counts 0 n [] down (omega arith) tt answer
  over-plain end n (hearing.failed faults i front last news items split friend at one answer serves end_is) memory =
      plain-answers true (i ∷ front) n down (counted-front (i ∷ front) (last ∷ []) (subst AreCounted items (items-counted bytes are))) answer
  over-plain end n (hearing.broken found judged answer end_is) memory = plain-answers _ (items_in bytes) n down (items-counted bytes are) answer
  over-plain end n (hearing.starved end_is) memory = absurd (memory end_is)

  -- whatever the device took of what was written
  pub stands-plain : (ended : Option ServerEnd) (n : ℕ) → Stands known old start bytes down shelf ended → (ended ≡ Some Server.NoMemory → ⊥) → orders_of (down_reading false (take n down)).items ≡ []
  stands-plain None n h memory = plain-answers _ (items_in bytes) n down (items-counted bytes are) h.down_is
  stands-plain (Some end) n over memory = over-plain end n over (λ e. memory (ap (λ (x : ServerEnd). Some x) e))

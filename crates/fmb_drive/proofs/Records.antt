-- The records of a drive, counted with repeats: what is held at its end, what was given up and what was counted are just what was held
-- before and what was decided.
use Rattle.std.proofs.Common.{◌≡◌, inl, inr, ◌+◌, suc, Bool, true, false, List, [], ◌∷◌, ◌++◌, length, drop, refl, sym, ap, subst, ◌∙◌, arith, append-nil, length-append}
use Rattle.std.specs.Prelude.{if◌then◌else◌}
use Rattle.std.specs.List.{filter}
use Rattle.std.proofs.lemmas.Grind.{flat_map-append}
use Rattle.std.proofs.lemmas.List.Elements.{filter-append}
use Rattle.avl_values.specs.Record.{Record}
use Rattle.avl_values.specs.declared.order.Order.TheVariants.{Oldest}
use Rattle.flash_ring.specs.Entries.{entries_of, held_of, with_room, without_first}
use Rattle.flash_ring.specs.Held.{IsPart, is_full}
use Rattle.flash_ring.specs.Ring.{RingView}
use Rattle.flash_ring.proofs.HeldRecords.{held_of-with_room}
use Rattle.fmb_drive.specs.Log.{Event, lost_by, lost_in, released_by, released_in}
use Rattle.fmb_drive.specs.Runs.{AreSame, Stores, gives_up, lost_first, more, none, times}
use Rattle.record_lists.specs.SameRecord.{is_same}
use Rattle.tracker_session.specs.Keeping.{Keeps}

pub times-append : (r : Record) (xs ys : List Record) → times r (xs ++ ys) ≡ times r xs + times r ys
times-append r xs ys = ap length (filter-append (λ (s : Record). is_same s r) xs ys) ∙ length-append (filter (λ (s : Record). is_same s r) xs) (filter (λ (s : Record). is_same s r) ys)

pub same_none : (a : List Record) → AreSame (a ++ ([] ++ [])) (a ++ [])
same_none a = record { each = λ r. refl; number = refl }

-- with the same record before both
same-head : (r y : Record) (xs ys : List Record) → times r xs ≡ times r ys → times r (y ∷ xs) ≡ times r (y ∷ ys)
same-head r y xs ys same = omega (arith, times-append r (y ∷ []) xs, times-append r (y ∷ []) ys, same)

-- the records of one step, and of those after it
pub same_then : (a b c gone more_gone counted more_counted gained more_gained : List Record) → AreSame (b ++ (gone ++ counted)) (a ++ gained) → AreSame (c ++ (more_gone ++ more_counted)) (b ++ more_gained)
    → AreSame (c ++ ((gone ++ more_gone) ++ (counted ++ more_counted))) (a ++ (gained ++ more_gained))
same_then a b c gone more_gone counted more_counted gained more_gained first next = record {
  each = λ r. let one = first.each r in
      let two = next.each r in
      omega (
        arith,
        one,
        two,
        times-append r b (gone ++ counted),
        times-append r gone counted,
        times-append r a gained,
        times-append r c (more_gone ++ more_counted),
        times-append r more_gone more_counted,
        times-append r b more_gained,
        times-append r c ((gone ++ more_gone) ++ (counted ++ more_counted)),
        times-append r (gone ++ more_gone) (counted ++ more_counted),
        times-append r gone more_gone,
        times-append r counted more_counted,
        times-append r a (gained ++ more_gained),
        times-append r gained more_gained,
      );
  number = let one = first.number in
      let two = next.number in
      omega (
        arith,
        one,
        two,
        length-append b (gone ++ counted),
        length-append gone counted,
        length-append a gained,
        length-append c (more_gone ++ more_counted),
        length-append more_gone more_counted,
        length-append b more_gained,
        length-append c ((gone ++ more_gone) ++ (counted ++ more_counted)),
        length-append (gone ++ more_gone) (counted ++ more_counted),
        length-append gone more_gone,
        length-append counted more_counted,
        length-append a (gained ++ more_gained),
        length-append gained more_gained,
      );
}

-- what a full ring gives up is its first record
lost-first : (xs : List Record) → lost_in (lost_first xs) ++ drop 1 xs ≡ xs
lost-first [] = refl
lost-first (x ∷ xs) = refl

released-first : (xs : List Record) → released_in (lost_first xs) ≡ []
released-first [] = refl
released-first (x ∷ xs) = refl

-- what is held after room was made, and what was given up for it, are what was held
room-same : (full : Bool) (v : RingView) → is_full v.slots ≡ full → (lost_in (if full then lost_first (held_of v.slots) else []) ++ held_of (with_room v.slots) ≡ held_of v.slots) × (released_in (if full then lost_first (held_of v.slots) else []) ≡ [])
room-same true v is = (
  ap (λ (rest : List Record). lost_in (lost_first (held_of v.slots)) ++ rest) (held_of-with_room v.slots is) ∙ lost-first (held_of v.slots),
  released-first (held_of v.slots),
)
room-same false v is = (ap (λ (b : Bool). held_of (if b then without_first (entries_of Oldest v.slots) v.slots else v.slots)) is, refl)

-- a record was kept
pub step-same : (v w : RingView) (r : Record) → Keeps r false v w → AreSame (held_of w.slots ++ (lost_in (gives_up v) ++ released_in (gives_up v))) (held_of v.slots ++ r ∷ [])
step-same v w r keeps =
    let gone = lost_in (gives_up v) in
    let counted = released_in (gives_up v) in
    let kept = held_of (with_room v.slots) in
    let room : (gone ++ kept ≡ held_of v.slots) × (counted ≡ []) = room-same (is_full v.slots) v refl in
    let held : held_of w.slots ≡ kept ++ r ∷ [] = keeps.held refl in
    record {
      each = λ x. omega (
        arith,
        ap (times x) held,
        times-append x kept (r ∷ []),
        ap (times x) room.0,
        times-append x gone kept,
        ap (times x) room.1,
        times-append x (held_of w.slots) (gone ++ counted),
        times-append x gone counted,
        times-append x (held_of v.slots) (r ∷ []),
      );
      number = omega (
        arith,
        ap length held,
        length-append kept (r ∷ []),
        ap length room.0,
        length-append gone kept,
        ap length room.1,
        length-append (held_of w.slots) (gone ++ counted),
        length-append gone counted,
        length-append (held_of v.slots) (r ∷ []),
      );
    }

-- the same in words of the joined log
pub along : (held before gained : List Record) (log more_log : List Event) → AreSame (held ++ ((lost_in log ++ lost_in more_log) ++ (released_in log ++ released_in more_log))) (before ++ gained)
    → AreSame (held ++ (lost_in (log ++ more_log) ++ released_in (log ++ more_log))) (before ++ gained)
along held before gained log more_log same =
    subst (λ (g : List Record). AreSame (held ++ (g ++ released_in (log ++ more_log))) (before ++ gained)) (sym (flat_map-append lost_by log more_log))
    (subst (λ (c : List Record). AreSame (held ++ ((lost_in log ++ lost_in more_log) ++ c)) (before ++ gained)) (sym (flat_map-append released_by log more_log)) same)

-- records were kept, one after the other
pub stores-same : (rs : List Record) (a b : RingView) (log : List Event) → Stores rs a log b → AreSame (held_of b.slots ++ (lost_in log ++ released_in log)) (held_of a.slots ++ rs)
stores-same rs a b log (none a') = same_none (held_of a'.slots)
stores-same rs a b log (more rs' r a' b' c' log' s keeps) =
    along (held_of c'.slots) (held_of a'.slots) (rs' ++ r ∷ []) log' (gives_up b')
    (same_then (held_of a'.slots) (held_of b'.slots) (held_of c'.slots) (lost_in log') (lost_in (gives_up b')) (released_in log') (released_in (gives_up b')) rs' (r ∷ [])
    (stores-same rs' a' b' log' s) (step-same b' c' r keeps))

-- a connection was made
pub connects-same : (held before released : List Record) → AreSame (held ++ released) before → AreSame (held ++ ([] ++ (released ++ []))) (before ++ [])
connects-same held before released same =
    subst (λ (rs : List Record). AreSame (held ++ rs) (before ++ [])) (sym (append-nil released)) (subst (λ (bs : List Record). AreSame (held ++ released) bs) (sym (append-nil before)) same)

-- a part of a list, in order, and the rest of it
pub part-rest : (xs ys : List Record) → IsPart xs ys → (rest : List Record) × AreSame (xs ++ rest) ys
part-rest [] ys part = (ys, record { each = λ r. refl; number = refl })
part-rest (x ∷ xs) [] part = absurd part
part-rest (x ∷ xs) (y ∷ ys) (inl (is, part)) =
    let found = part-rest xs ys part in (
      found.0,
      record {
        each = λ r. ap (λ (z : Record). times r (z ∷ (xs ++ found.0))) is ∙ same-head r y (xs ++ found.0) ys (found.1.each r);
        number = ap suc found.1.number;
      },
    )
part-rest (x ∷ xs) (y ∷ ys) (inr part) =
    let found = part-rest (x ∷ xs) ys part in (
      y ∷ found.0,
      record {
        each = λ r. omega (arith, times-append r (x ∷ xs) (y ∷ found.0), times-append r (x ∷ xs) found.0, times-append r (y ∷ []) found.0, times-append r (y ∷ []) ys, found.1.each r);
        number = omega (arith, length-append (x ∷ xs) (y ∷ found.0), length-append (x ∷ xs) found.0, found.1.number);
      },
    )

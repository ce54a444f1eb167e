-- A part of an item, byte by byte: what the machine answers of the part, as the verdict on the item.
use Rattle.std.proofs.Common.{◌≡◌, ℕ, ◌+◌, ◌≤◌, List, [], ◌∷◌, ◌++◌, length, take, drop, Result, Ok, Err, refl, sym, ap, subst, ◌∙◌, arith, length-append, append_assoc}
use Rattle.std.proofs.Math.Seq.{take-append_seam, drop-append_seam}
use Rattle.std.proofs.lemmas.List.{append-nil}
use Rattle.avl_values.specs.declared.fault.Fault.{Fault}
use Rattle.avl_values.specs.declared.fault.FaultKind.{FaultKind}
use Rattle.std.specs.Prelude.{IfOk}
use Rattle.layout.specs.Fields.{number}
use Rattle.layout.specs.Nested.{and_then, moved, with_bytes}
use Rattle.layout.specs.Rows.{Rows, Verdict, body, done, fault, judge, short, whole, within}
use Rattle.layout.proofs.FaultPlaces.{fault_place}
use Rattle.layout.proofs.Judging.{judge_done}
use Rattle.layout.proofs.NestedLaws.{judge_moved, judge_within}
use Rattle.layout.proofs.BodyLaws.{body_filled}
use Rattle.layout.proofs.RowLaws.{stays}
use Rattle.field_machine.specs.Machines.{HasTaken}
use Rattle.field_machine.specs.Parts.{InPart, LeftAfter}
use Rattle.field_machine.specs.Places.{Follows, Leaves, Reads, turns}
use Rattle.field_machine.specs.Verdicts.{IsVerdict}
use Rattle.field_machine.specs.declared.left.Left.{Left}
use Rattle.field_machine.specs.declared.left.Left.TheVariants as left
use Rattle.field_machine.specs.declared.machine.Machine.{Machine}
use Rattle.field_machine.specs.declared.verdict.Scan.TheVariants.{Broken, Whole}
use Rattle.field_machine.proofs.Fields.{same_width}
use Rattle.field_machine.proofs.MachineSteps.{taken_below, taken_short}

-- What is left of an item.

pub left_all : {W : Type 0} (all rows : Rows W) → all ≡ rows → LeftAfter all [] rows
left_all all rows same = record { judged = λ more. ap (λ r. judge r 0 more) same }

pub left_as : {W : Type 0} (all : Rows W) (fields : List ℕ) (rows other : Rows W) → rows ≡ other → LeftAfter all fields rows → LeftAfter all fields other
left_as {W = W} all fields rows other same left = subst (λ (r : Rows W). LeftAfter all fields r) same left

pub ended : {W : Type 0} (all : Rows W) (bytes : List ℕ) (w : W) → LeftAfter all bytes (done w) → judge all 0 bytes ≡ whole w (length bytes)
ended all bytes w left = ap (judge all 0) (sym (append-nil bytes)) ∙ left.judged [] ∙ judge_done w (length bytes) []

module _ {V W : Type 0} (all : Rows W) (rows : Rows V) (after : V × List ℕ → Rows W) (total : ℕ) where
  abbrev pub behind : ℕ → List ℕ → V → ℕ → Verdict W
  behind place bytes v n = judge (after (v, take total bytes)) (place + total) (drop total bytes)

  -- the verdict is that on the part, and then that on what follows it
  judged : (before bytes : List ℕ) → LeftAfter all before (within total (with_bytes [] rows) after)
      → judge all 0 (before ++ bytes) ≡ and_then (moved (length before) (judge (body total rows) 0 bytes)) (behind (length before) bytes)
  judged before bytes left =
      let at : length before ≡ length before + 0 = omega arith in
      left.judged bytes ∙ judge_within rows total [] after (length before) bytes
      ∙ ap (λ v. and_then v (behind (length before) bytes)) (ap (λ p. judge (body total rows) p bytes) at ∙ judge_moved (body total rows) (length before) 0 bytes)

  -- after a part that is whole, what it says decides what is left
  past : (before taken : List ℕ) (v : V) → LeftAfter all before (within total (with_bytes [] rows) after) → judge (body total rows) 0 taken ≡ whole v total → length taken ≡ total → LeftAfter all (before ++ taken) (after (v, taken))
  past before taken v left e size = record {
    judged = λ more.
        let bytes = taken ++ more in
        let place = length before in
        let come : judge (body total rows) 0 taken ≡ short → ⊥ = λ s. let w : whole v total ≡ short = sym e ∙ s in cc in
        let stay : judge (body total rows) 0 bytes ≡ whole v total = stays (body total rows) 0 taken more come ∙ e in
        let front : take total bytes ≡ taken = ap (λ k. take k bytes) (sym size) ∙ take-append_seam taken more in
        let back : drop total bytes ≡ more = ap (λ k. drop k bytes) (sym size) ∙ drop-append_seam taken more in
        let at : place + total ≡ length (before ++ taken) = ap (λ k. place + k) (sym size) ∙ sym (length-append before taken) in
        ap (judge all 0) (append_assoc before taken more) ∙ judged before bytes left ∙ ap (λ x. and_then (moved place x) (behind place bytes)) stay
        ∙ ap (λ t. judge (after (v, t)) (place + total) (drop total bytes)) front ∙ ap (λ x. judge (after (v, taken)) (place + total) x) back
        ∙ ap (λ p. judge (after (v, taken)) p more) at;
  }

module _ {C H V W : Type 0} (all : Rows W) (rows : Rows V) (after : V × List ℕ → Rows W) (total : ℕ) (left_of : C → Left H) (says : H → V → Type 0) (stands : C → Rows V → Type 0) (leaves : (c : C) (here : Rows V) → stands c here → Leaves says (left_of c) here) where
  -- the part is the whole item's first
  abbrev pub first_part : (m : Machine C) (bytes : List ℕ) → all ≡ within total (with_bytes [] rows) after → HasTaken left_of stands m total rows bytes → InPart left_of stands all rows after m 0 total bytes
  first_part m bytes same has = record { before = []; taken = bytes; is = refl; begins = refl; left = left_all all (within total (with_bytes [] rows) after) same; has = has }

  -- a part begins after these fields
  abbrev pub part_begins : (m : Machine C) (start : ℕ) (fields : List ℕ) → start ≡ length fields → LeftAfter all fields (within total (with_bytes [] rows) after) → HasTaken left_of stands m total rows []
      → InPart left_of stands all rows after m start total fields
  part_begins m start fields begins left has = record { before = fields; taken = []; is = sym (append-nil fields); begins = begins; left = left; has = has }

  -- what was taken is short
  pub part_short : (m : Machine C) (start : ℕ) (bytes : List ℕ) → InPart left_of stands all rows after m start total bytes → judge all 0 bytes ≡ short
  part_short m start bytes h =
      ap (judge all 0) h.is ∙ judged all rows after total h.before h.taken h.left ∙ ap (λ x. and_then (moved (length h.before) x) (behind all rows after total (length h.before) h.taken)) (taken_short left_of says stands leaves m total rows h.taken h.has)

  pub part_start : (m : Machine C) (start : ℕ) (bytes : List ℕ) → InPart left_of stands all rows after m start total bytes → start ≤ length bytes
  part_start m start bytes h = omega (arith, h.begins, ap length h.is, length-append h.before h.taken)

  pub joined : (m : Machine C) (start b : ℕ) (bytes : List ℕ) (h : InPart left_of stands all rows after m start total bytes) → bytes ++ b ∷ [] ≡ h.before ++ (h.taken ++ b ∷ [])
  joined m start b bytes h = ap (λ x. x ++ b ∷ []) h.is ∙ append_assoc h.before h.taken (b ∷ [])

  -- the next byte

  abbrev pub part_on : (m n : Machine C) (start b : ℕ) (bytes : List ℕ) (h : InPart left_of stands all rows after m start total bytes) → HasTaken left_of stands n total rows (h.taken ++ b ∷ [])
      → InPart left_of stands all rows after n start total (bytes ++ b ∷ [])
  part_on m n start b bytes h has = record { before = h.before; taken = h.taken ++ b ∷ []; is = joined m start b bytes h; begins = h.begins; left = h.left; has = has }

  -- its place is within the bytes
  pub part_place : (m : Machine C) (start b : ℕ) (bytes : List ℕ) (found : Fault) (h : InPart left_of stands all rows after m start total bytes) → IsVerdict says total (Broken found) (judge (body total rows) 0 (h.taken ++ b ∷ []))
      → start + found.place ≤ length bytes + 1
  part_place m start b bytes found h e =
      omega (arith, h.begins, fault_place (body total rows) 0 (h.taken ++ b ∷ []) found.kind found.place e, ap length h.is, length-append h.before h.taken, length-append h.taken (b ∷ []))

  pub part_breaks : (m : Machine C) (start b : ℕ) (bytes : List ℕ) (found : Fault) (h : InPart left_of stands all rows after m start total bytes) → IsVerdict says total (Broken found) (judge (body total rows) 0 (h.taken ++ b ∷ []))
      → judge all 0 (bytes ++ b ∷ []) ≡ fault found.kind (start + found.place)
  part_breaks m start b bytes found h e =
      let taken = h.taken ++ b ∷ [] in
      ap (judge all 0) (joined m start b bytes h) ∙ judged all rows after total h.before taken h.left ∙ ap (λ x. and_then (moved (length h.before) x) (behind all rows after total (length h.before) taken)) e
      ∙ ap (λ s. fault found.kind (s + found.place)) (sym h.begins)

  -- the part is whole: what it says, what is left, and where it ends
  pub record Ends (head : H) (start : ℕ) (taken bytes : List ℕ) : Type 0 where
    pub value : V
    pub said : says head value
    pub whole_part : judge (body total rows) 0 taken ≡ whole value total
    pub size : length taken ≡ total
    pub left : LeftAfter all bytes (after (value, taken))
    pub place : start + total ≡ length bytes

  pub part_ends : (m : Machine C) (start b : ℕ) (bytes : List ℕ) (head : H) (h : InPart left_of stands all rows after m start total bytes) → IsVerdict says total (Whole head) (judge (body total rows) 0 (h.taken ++ b ∷ []))
      → Ends head start (h.taken ++ b ∷ []) (bytes ++ b ∷ [])
  part_ends m start b bytes head h (v, e, said) =
      let taken = h.taken ++ b ∷ [] in
      let size : length taken ≡ total = omega (arith, (body_filled rows total total v taken e).1, taken_below left_of says stands leaves m total rows h.taken h.has, length-append h.taken (b ∷ [])) in
      let j = joined m start b bytes h in
      record {
        value = v;
        said = said;
        whole_part = e;
        size = size;
        left = subst (λ x. LeftAfter all x (after (v, taken))) (sym j) (past all rows after total h.before taken v h.left e size);
        place = omega (arith, h.begins, size, ap length j, length-append h.before taken);
      }

-- A cursor whose fields are known by their places.

-- what follows in rows follows in those that are left
pub follows_here : {C H V : Type 0} (stands : C → Rows V → Type 0) (l : Left H) (w value : ℕ) (rows here : Rows V) (field : List ℕ) (r : Result C FaultKind) → w ≤ 8 → here ≡ rows → l ≡ left.Field w → l ≡ left.Field (length field) → Reads field value
    → ((f : List ℕ) → number f ≡ value → Follows stands rows f r) → Follows stands here field r
follows_here stands l w value rows here field r few same one other reads follows =
    let n : w ≡ length field = same_width w (length field) (sym one ∙ other) in
    subst (λ x. Follows stands x field r) (sym same) (follows field (reads (omega (arith, n))))

-- no field is of no bytes
pub no_turn : {C H : Type 0} (left_of : C → Left H) (p : C) (r : Result C FaultKind) → ((c : C) → turns (left_of c) ≡ 0) → IfOk r (λ next. turns (left_of next) + turns (left_of p) ≤ 1)
no_turn left_of p (Ok next) none = omega (arith, none next, none p)
no_turn left_of p (Err kind) none = tt

-- A machine over a body, byte by byte.
use Rattle.std.proofs.Common.{◌≡◌, ℕ, ◌+◌, ◌-◌, ◌*◌, ◌%◌, ◌^◌, ◌<◌, ◌≤◌, List, [], ◌∷◌, ◌++◌, length, take, drop, Some, None, Ok, Err, Result, zero, suc, refl, sym, ap, subst, ◌∙◌, arith, add-one, append_assoc, length-append}
use Rattle.std.proofs.Math.Nat.{mod-eq_of_lt}
use Rattle.std.proofs.Math.Seq.{take-append_seam, drop-append_seam, take-length}
use Rattle.std.proofs.lemmas.List.{append-nil}
use Rattle.avl_values.specs.declared.fault.FaultKind.{FaultKind}
use Rattle.avl_values.specs.declared.fault.FaultKind.TheVariants.{Overrun, Excess}
use Rattle.layout.specs.Rows.{Rows, judge, body, short, fault, whole}
use Rattle.layout.specs.Fields.{number}
use Rattle.layout.specs.Next.{rule_of, rows_after, width_of}
use Rattle.layout.proofs.Numbers.{number_push, power_bound}
use Rattle.layout.proofs.Stepping.{body_overrun, body_missing, body_on, body_fault, body_whole, body_excess}
use Rattle.field_machine.specs.declared.left.Left.{Left}
use Rattle.field_machine.specs.declared.left.Left.TheVariants as left
use Rattle.field_machine.specs.declared.machine.Machine.{Machine}
use Rattle.field_machine.specs.declared.verdict.Scan.{Scan}
use Rattle.field_machine.specs.declared.verdict.Scan.TheVariants.{More, Whole, Broken}
use Rattle.field_machine.specs.Places.{Leaves, Reads, Follows}
use Rattle.field_machine.specs.Machines.{Begins, HasTaken, GoesOn, HasCome, Enters}
use Rattle.field_machine.specs.Verdicts.{IsVerdict}
use Rattle.field_machine.proofs.Fields.{width_is, at_end}

-- A part of a field, and one byte more.

part_more : (part : List ℕ) (b : ℕ) → length (part ++ b ∷ []) ≡ length part + 1
part_more part b = length-append part (b ∷ [])

power_next : (k : ℕ) → 256 ^ (k + 1) ≡ 256 * 256 ^ k
power_next k = ap (λ x. 256 ^ x) (add-one k) ∙ omega arith

-- the number of one byte more
next_value : (value b : ℕ) (part : List ℕ) → value ≡ number part → value < 256 ^ length part → b < 256 → length part + 1 ≤ 8
    → (((value * 256 % 2 ^ 64) + b) % 2 ^ 64 ≡ number (part ++ b ∷ [])) × (((value * 256 % 2 ^ 64) + b) % 2 ^ 64 < 256 ^ length (part ++ b ∷ []))
next_value value b part is bound byte few =
    let n = number_push part b in
    let p = power_bound (length part) (omega arith) in
    let q = power_next (length part) in
    let len = part_more part b in
    let small : value * 256 % 2 ^ 64 ≡ value * 256 = mod-eq_of_lt (omega (arith, p)) in
    let wrapped : ((value * 256 % 2 ^ 64) + b) % 2 ^ 64 ≡ value * 256 + b = ap (λ x. (x + b) % 2 ^ 64) small ∙ mod-eq_of_lt (omega (arith, p)) in
    let below : value * 256 + b < 256 ^ (length part + 1) = omega (arith, q) in
    (wrapped ∙ ap (λ x. x * 256 + b) is ∙ sym n, subst (λ k. ((value * 256 % 2 ^ 64) + b) % 2 ^ 64 < 256 ^ k) (sym len) (subst (λ x. x < 256 ^ (length part + 1)) (sym wrapped) below))

some_width : (w missing : ℕ) → missing ≡ w → (w ≡ 0 → ⊥) → 0 < missing
some_width zero missing n some = absurd (some refl)
some_width (suc w) missing n some = omega (arith, n)

-- the machine with one byte more
abbrev pub after_byte : {C : Type 0} → Machine C → ℕ → Machine C
after_byte m b = record { total = m.total; taken = m.taken + 1; start = m.start; cursor = m.cursor; missing = m.missing - 1; value = (m.value * 256 % 2 ^ 64 + b) % 2 ^ 64 }

-- the verdict goes on after the field
pub record JudgedAfter {C V : Type 0} (stands : C → Rows V → Type 0) (total : ℕ) (rows : Rows V) (place : ℕ) (bytes : List ℕ) (next : C) : Type 0 where
  pub here : Rows V
  pub at : stands next here
  pub judged : (more : List ℕ) → judge (body total rows) 0 (bytes ++ more) ≡ judge (body (total - place) here) place more

module _ {C H V : Type 0} (left_of : C → Left H) (says : H → V → Type 0) (stands : C → Rows V → Type 0) (leaves : (c : C) (here : Rows V) → stands c here → Leaves says (left_of c) here) where
  width_at : (c : C) (here : Rows V) (w : ℕ) → stands c here → left_of c ≡ left.Field w → width_of here ≡ Some w
  width_at c here w at is = width_is says (left_of c) w here (leaves c here at) is

  -- A fresh machine.
  pub fresh : (total missing : ℕ) (first : C) (rows : Rows V) → stands first rows → left_of first ≡ left.Field missing → Begins (left_of first) total
      → HasTaken left_of stands (let m : Machine C = record { total = total; taken = 0; start = 0; cursor = first; missing = missing; value = 0 } in m) total rows []
  fresh total missing first rows at is begins =
      let b : (0 < missing) × (missing ≤ total) = subst (λ l. Begins l total) is begins in
      let none : total - 0 ≡ total = omega arith in
      record {
        fields = [];
        part = [];
        here = rows;
        is = refl;
        of_total = refl;
        start = refl;
        taken = refl;
        at = at;
        width = is ∙ ap (λ k. left.Field k) (omega arith);
        lacks = b.0;
        room = omega (arith, b.1);
        value = λ h. (refl, omega arith);
        judged = λ more. ap (λ k. judge (body k rows) 0 more) (sym none);
      }

  -- The bytes that a machine has taken, and one more.

  one_more : (m : Machine C) (total : ℕ) (rows : Rows V) (b : ℕ) (bytes : List ℕ) (h : HasTaken left_of stands m total rows bytes) → bytes ++ b ∷ [] ≡ h.fields ++ (h.part ++ b ∷ [])
  one_more m total rows b bytes h = ap (λ x. x ++ b ∷ []) h.is ∙ append_assoc h.fields h.part (b ∷ [])

  pub taken_all : (m : Machine C) (total : ℕ) (rows : Rows V) (b : ℕ) (bytes : List ℕ) → HasTaken left_of stands m total rows bytes → length (bytes ++ b ∷ []) ≡ m.taken + 1
  taken_all m total rows b bytes h = omega (arith, length-append bytes (b ∷ []), ap length h.is, length-append h.fields h.part, h.taken)

  -- A field that still lacks bytes.
  pub still_missing : (m : Machine C) (total : ℕ) (rows : Rows V) (b : ℕ) (bytes : List ℕ) → HasTaken left_of stands m total rows bytes → b < 256 → 0 < m.missing - 1
      → IsVerdict says total More (judge (body total rows) 0 (bytes ++ b ∷ [])) × HasTaken left_of stands (after_byte m b) total rows (bytes ++ b ∷ [])
  still_missing m total rows b bytes h byte lacks =
      let part = h.part ++ b ∷ [] in
      let len = part_more h.part b in
      let is = one_more m total rows b bytes h in
      let w = length h.part + m.missing in
      let k : length part + (m.missing - 1) ≡ w = omega (arith, len, h.lacks) in
      let few : length part < w = omega (arith, len, lacks) in
      let fits : w ≤ total - m.start = omega (arith, h.room, h.of_total) in
      let verdict : judge (body total rows) 0 (bytes ++ b ∷ []) ≡ short =
      ap (judge (body total rows) 0) is ∙ h.judged part ∙ body_missing h.here w (total - m.start) m.start part (width_at m.cursor h.here w h.at h.width) fits few in (
        verdict,
        record {
          fields = h.fields;
          part = part;
          here = h.here;
          is = is;
          of_total = h.of_total;
          start = h.start;
          taken = omega (arith, len, h.taken);
          at = h.at;
          width = h.width ∙ ap (λ x. left.Field x) (sym k);
          lacks = lacks;
          room = omega (arith, k, h.room);
          value = λ small. let v = h.value (omega (arith, k, small)) in next_value m.value b h.part v.0 v.1 byte (omega (arith, len, k, small, lacks));
          judged = h.judged;
        },
      )

  -- A field that is there.

  pub field_here : (m : Machine C) (total : ℕ) (rows : Rows V) (b : ℕ) (bytes : List ℕ) (h : HasTaken left_of stands m total rows bytes) → m.missing - 1 ≡ 0 → left_of m.cursor ≡ left.Field (length (h.part ++ b ∷ []))
  field_here m total rows b bytes h none = let n : length h.part + m.missing ≡ length (h.part ++ b ∷ []) = omega (arith, part_more h.part b, h.lacks) in h.width ∙ ap (λ x. left.Field x) n

  pub field_reads : (m : Machine C) (total : ℕ) (rows : Rows V) (b : ℕ) (bytes : List ℕ) (h : HasTaken left_of stands m total rows bytes) → b < 256 → m.missing - 1 ≡ 0 → Reads (h.part ++ b ∷ []) ((m.value * 256 % 2 ^ 64 + b) % 2 ^ 64)
  field_reads m total rows b bytes h byte none small =
      let len = part_more h.part b in
      let v = h.value (omega (arith, len, h.lacks)) in
      sym ((next_value m.value b h.part v.0 v.1 byte (omega (arith, len))).0)

  pub field_small : (m : Machine C) (total : ℕ) (rows : Rows V) (b : ℕ) (bytes : List ℕ) (h : HasTaken left_of stands m total rows bytes) → b < 256 → m.missing - 1 ≡ 0
      → length (h.part ++ b ∷ []) ≤ 8 → (m.value * 256 % 2 ^ 64 + b) % 2 ^ 64 < 256 ^ length (h.part ++ b ∷ [])
  field_small m total rows b bytes h byte none few =
      let len = part_more h.part b in
      let v = h.value (omega (arith, len, h.lacks)) in
      (next_value m.value b h.part v.0 v.1 byte (omega (arith, len))).1

  pub field_broken : (m : Machine C) (total : ℕ) (rows : Rows V) (b : ℕ) (bytes : List ℕ) (kind : FaultKind) (h : HasTaken left_of stands m total rows bytes) → m.missing - 1 ≡ 0
      → Follows stands h.here (h.part ++ b ∷ []) (Err kind) → judge (body total rows) 0 (bytes ++ b ∷ []) ≡ fault kind m.start
  field_broken m total rows b bytes kind h none fails =
      let field = h.part ++ b ∷ [] in
      let w = length field in
      let fits : w ≤ total - m.start = omega (arith, h.room, h.of_total, part_more h.part b, h.lacks) in
      let whole_field : rule_of h.here (take w field) ≡ Some kind = ap (rule_of h.here) (take-length field) ∙ fails in
      ap (judge (body total rows) 0) (one_more m total rows b bytes h) ∙ h.judged field
      ∙ body_fault h.here w (total - m.start) m.start kind field (width_at m.cursor h.here w h.at (field_here m total rows b bytes h none)) fits (omega arith) whole_field

  pub field_passed : (m : Machine C) (total : ℕ) (rows : Rows V) (b : ℕ) (bytes : List ℕ) (next : C) (h : HasTaken left_of stands m total rows bytes) → m.missing - 1 ≡ 0
      → Follows stands h.here (h.part ++ b ∷ []) (Ok next) → JudgedAfter stands total rows (m.taken + 1) (bytes ++ b ∷ []) next
  field_passed m total rows b bytes next h none follows = record {
    here = rows_after h.here (h.part ++ b ∷ []);
    at = follows.1;
    judged = λ more.
        let field = h.part ++ b ∷ [] in
        let after = rows_after h.here field in
        let w = length field in
        let len = part_more h.part b in
        let fits : w ≤ total - m.start = omega (arith, h.room, h.of_total, len, h.lacks) in
        let long : w ≤ length (field ++ more) = omega (arith, length-append field more) in
        let t = take-append_seam field more in
        let passes : rule_of h.here (take w (field ++ more)) ≡ None = ap (rule_of h.here) t ∙ follows.0 in
        let later : rows_after h.here (take w (field ++ more)) ≡ after = ap (rows_after h.here) t in
        let place : m.start + w ≡ m.taken + 1 = omega (arith, h.start, h.taken, len) in
        let room : total - m.start - w ≡ total - (m.taken + 1) = omega (arith, place) in
        let joined : (bytes ++ b ∷ []) ++ more ≡ h.fields ++ (field ++ more) = ap (λ x. x ++ more) (one_more m total rows b bytes h) ∙ append_assoc h.fields field more in
        ap (judge (body total rows) 0) joined ∙ h.judged (field ++ more)
        ∙ body_on h.here w (total - m.start) m.start (field ++ more) (width_at m.cursor h.here w h.at (field_here m total rows b bytes h none)) fits long passes
        ∙ ap (λ r. judge (body (total - m.start - w) r) (m.start + w) (drop w (field ++ more))) later
        ∙ ap (λ x. judge (body (total - m.start - w) after) (m.start + w) x) (drop-append_seam field more)
        ∙ ap (λ x. judge (body x after) (m.start + w) more) room ∙ ap (λ p. judge (body (total - (m.taken + 1)) after) p more) place;
  }

  -- The answer where a field's end was reached.

  pub come : (total place : ℕ) (rows : Rows V) (bytes : List ℕ) (next : C) (scan : Scan H) → JudgedAfter stands total rows place bytes next → Enters {V = V} left_of says stands total place next (Err scan)
      → IsVerdict says total scan (judge (body total rows) 0 bytes)
  come total place rows bytes next scan j enters = subst (IsVerdict says total scan) (sym (ap (judge (body total rows) 0) (sym (append-nil bytes)) ∙ j.judged [])) (enters.1 j.here [] j.at)

  pub nothing_goes_on : (n : Machine C) (total : ℕ) (rows : Rows V) (bytes : List ℕ) (scan : Scan H) → HasCome scan → GoesOn left_of stands n total rows bytes scan
  nothing_goes_on n total rows bytes More come = absurd come
  nothing_goes_on n total rows bytes (Whole head) come = tt
  nothing_goes_on n total rows bytes (Broken found) come = tt

  pub goes_on : (n : Machine C) (total place : ℕ) (rows : Rows V) (bytes : List ℕ) (next : C) → length bytes ≡ place → JudgedAfter stands total rows place bytes next → Enters {V = V} left_of says stands total place next (Ok n)
      → IsVerdict says total More (judge (body total rows) 0 bytes) × HasTaken left_of stands n total rows bytes
  goes_on n total place rows bytes next len j enters =
      let s = enters.0 in
      let on = enters.1 j.here j.at in
      let here : (more : List ℕ) → judge (body total rows) 0 (bytes ++ more) ≡ judge (body (total - n.start) on.0) n.start more = λ more.
      j.judged more ∙ on.2 more ∙ ap (λ p. judge (body (total - p) on.0) p more) (sym s.start) in
      let verdict : judge (body total rows) 0 bytes ≡ short =
      ap (judge (body total rows) 0) (sym (append-nil bytes)) ∙ j.judged [] ∙ on.2 []
      ∙ body_missing on.0 n.missing (total - place) place [] (width_at n.cursor on.0 n.missing on.1 s.width) (omega (arith, s.room)) s.lacks in (
        verdict,
        record {
          fields = bytes;
          part = [];
          here = on.0;
          is = sym (append-nil bytes);
          of_total = s.of_total;
          start = s.start ∙ sym len;
          taken = omega (arith, s.taken, len);
          at = on.1;
          width = s.width ∙ ap (λ x. left.Field x) (omega arith);
          lacks = s.lacks;
          room = omega (arith, s.room, s.start, s.of_total);
          value = λ small. (s.value, omega (arith, s.value));
          judged = here;
        },
      )

  -- The verdict at a place.

  pub enters_excess : (total place : ℕ) (at : C) (head : H) → left_of at ≡ left.Nothing head → 0 < total - place → Enters {V = V} left_of says stands total place at (Err (Broken (record { kind = Excess; place = place })))
  enters_excess total place at head is some = (
    tt,
    λ here more stand.
        let d = at_end says (left_of at) head here (leaves at here stand) is in
        ap (λ r. judge (body (total - place) r) place more) d.1 ∙ body_excess d.0 (total - place) place more some,
  )

  pub enters_whole : (total place : ℕ) (at : C) (head : H) → left_of at ≡ left.Nothing head → total - place ≡ 0 → place ≡ total → Enters {V = V} left_of says stands total place at (Err (Whole head))
  enters_whole total place at head is none end = (
    tt,
    λ here more stand.
        let d = at_end says (left_of at) head here (leaves at here stand) is in
        (d.0, ap (λ r. judge (body (total - place) r) place more) d.1 ∙ body_whole d.0 (total - place) place more none ∙ ap (whole d.0) end, d.2),
  )

  pub enters_overrun : (total place w : ℕ) (at : C) → left_of at ≡ left.Field w → total - place < w → Enters {V = V} left_of says stands total place at (Err (Broken (record { kind = Overrun; place = place })))
  enters_overrun total place w at is over = (tt, λ here more stand. body_overrun here w (total - place) place more (width_at at here w stand is) over)

  pub enters_field : (total place w : ℕ) (at : C) → left_of at ≡ left.Field w → place + w ≤ total → (left_of at ≡ left.Field 0 → ⊥)
      → Enters {V = V} left_of says stands total place at (Ok (record { total = total; taken = place; start = place; cursor = at; missing = w; value = 0 }))
  enters_field total place w at is room some = (
    record { of_total = refl; start = refl; taken = refl; value = refl; width = is; lacks = some_width w w refl (λ none. some (is ∙ ap (λ x. left.Field x) none)); room = room },
    λ here stand. (here, stand, λ more. refl),
  )

  pub enters_broken : (total place : ℕ) (at : C) (kind : FaultKind) → left_of at ≡ left.Field 0 → ((here : Rows V) → stands at here → Follows stands here [] (Err kind))
      → Enters {V = V} left_of says stands total place at (Err (Broken (record { kind = kind; place = place })))
  enters_broken total place at kind is fails =
      (tt, λ here more stand. body_fault here 0 (total - place) place kind more (width_at at here 0 stand is) (omega arith) (omega arith) (fails here stand))

  past : (total place : ℕ) (here : Rows V) (more : List ℕ) → width_of here ≡ Some 0 → rule_of here [] ≡ None → judge (body (total - place) here) place more ≡ judge (body (total - place) (rows_after here [])) place more
  past total place here more is passes =
      let room : total - place - 0 ≡ total - place = omega arith in
      let on : place + 0 ≡ place = omega arith in
      body_on here 0 (total - place) place more is (omega arith) (omega arith) passes ∙ ap (λ x. judge (body x (rows_after here [])) (place + 0) more) room
      ∙ ap (λ p. judge (body (total - place) (rows_after here [])) p more) on

  -- past a field of no bytes
  pub enters_past : (total place : ℕ) (at next : C) (result : Result (Machine C) (Scan H)) → left_of at ≡ left.Field 0 → ((here : Rows V) → stands at here → Follows stands here [] (Ok next))
      → Enters {V = V} left_of says stands total place next result → Enters {V = V} left_of says stands total place at result
  enters_past total place at next (Ok m) is follows enters = (
    enters.0,
    λ here stand.
        let f = follows here stand in
        let on = enters.1 (rows_after here []) f.1 in
        (on.0, on.1, λ more. past total place here more (width_at at here 0 stand is) f.0 ∙ on.2 more),
  )
  enters_past total place at next (Err scan) is follows enters = (
    enters.0,
    λ here more stand. let f = follows here stand in subst (IsVerdict says total scan) (sym (past total place here more (width_at at here 0 stand is) f.0)) (enters.1 (rows_after here []) more f.1),
  )

  -- what the machine's own total says is said of the body's
  pub enters_here : (k total place : ℕ) (at : C) (result : Result (Machine C) (Scan H)) → k ≡ total → Enters {V = V} left_of says stands k place at result → Enters {V = V} left_of says stands total place at result
  enters_here k total place at result same enters = subst (λ x. Enters {V = V} left_of says stands x place at result) same enters

  -- What a machine has taken is short, and fewer bytes than the body's length.

  pub taken_short : (m : Machine C) (total : ℕ) (rows : Rows V) (bytes : List ℕ) → HasTaken left_of stands m total rows bytes → judge (body total rows) 0 bytes ≡ short
  taken_short m total rows bytes h =
      let w = length h.part + m.missing in
      ap (judge (body total rows) 0) h.is ∙ h.judged h.part
      ∙ body_missing h.here w (total - m.start) m.start h.part (width_at m.cursor h.here w h.at h.width) (omega (arith, h.room, h.of_total)) (omega (arith, h.lacks))

  pub taken_below : (m : Machine C) (total : ℕ) (rows : Rows V) (bytes : List ℕ) → HasTaken left_of stands m total rows bytes → length bytes < total
  taken_below m total rows bytes h = omega (arith, ap length h.is, length-append h.fields h.part, h.start, h.lacks, h.room, h.of_total)

-- An item down, byte by byte.
use Rattle.std.proofs.Common.{◌≡◌, ℕ, ◌+◌, ◌<◌, ◌==◌, inl, inr, Bool, true, false, List, [], ◌∷◌, ◌++◌, length, take, None, refl, sym, ap, subst, ◌∙◌, arith, append_assoc, if◌then◌else◌}
use Rattle.std.proofs.Math.Seq.{take-length}
use Rattle.std.proofs.lemmas.List.{append-nil}
use Rattle.std.proofs.lemmas.Bool.Decides.{nat_tests}
use Rattle.avl_values.specs.declared.fault.Fault.{Fault}
use Rattle.avl_values.specs.declared.fault.FaultKind.{FaultKind}
use Rattle.layout.specs.Fields.{number}
use Rattle.layout.specs.Rows.{Rows, body, done, fault, judge, short, whole, within}
use Rattle.layout.specs.MappedRows.{map_verdict}
use Rattle.layout.proofs.Judging.{judge_done, judge_field}
use Rattle.layout.proofs.RowLaws.{filled}
use Rattle.layout.proofs.MappedLaws.{map_judged}
use Rattle.command_layout.specs.declared.way.Way.TheVariants.{Down}
use Rattle.frame_layout.specs.DownRows.{answer_rows, count_rows, down_rows, down_verdict, order_rows}
use Rattle.frame_layout.specs.FrameBodies.{body_kind_rows, longest_body}
use Rattle.frame_layout.specs.FrameRows.{length_rows}
use Rattle.frame_layout.specs.Values.{DownValue, answer, count, order}
use Rattle.frame_layout.proofs.Lengths.{short_down_few, starts_short_down}
use Rattle.frame_layout.proofs.Places.{SaysDown, SaysOrder, says_down}
use Rattle.frame_channel.specs.BodyIn.{body_in}
use Rattle.frame_channel.specs.DownMachines.{HasTaken, InCount, InFrame}
use Rattle.item_streams.specs.Readers.{Reader}
use Rattle.frame_channel.specs.DownPushes.{PushedByteDown}
use Rattle.frame_channel.specs.FrameVerdicts.{frame_verdict}
use Rattle.frame_channel.specs.FrameMachines as frame_machine
use Rattle.frame_channel.specs.declared.down_item.DownItem.TheVariants.{More, Login, Count, Order, Broken}
use Rattle.frame_channel.specs.declared.down_machine.DownMachine.{DownMachine}
use Rattle.frame_channel.specs.declared.down_machine.DownMachine.TheVariants as machine
use Rattle.frame_channel.specs.CountPlaces.{SaysNumber, StandsInCount, count_leaves, count_left, four_rows}
use Rattle.frame_channel.specs.declared.count_place.CountPlace.{CountPlace}
use Rattle.field_machine.specs.Parts.{InPart}
use Rattle.field_machine.specs.Verdicts.{IsVerdict}
use Rattle.field_machine.specs.declared.machine.Machine.{Machine}
use Rattle.field_machine.specs.declared.verdict.Scan.TheVariants as scan
use Rattle.field_machine.proofs.Parts.{first_part, part_breaks, part_ends, part_short}
use Rattle.layout.specs.Nested.{with_bytes}
use Rattle.frame_channel.specs.declared.frame_machine.FrameMachine.{FrameMachine}
use Rattle.frame_layout.specs.declared.body_kind.BodyKind.{BodyKind}
use Rattle.frame_channel.proofs.FrameSteps.{Said, says}
use Rattle.frame_channel.proofs.FrameSteps as frame_steps

-- the login's answer

pub answer_judged : (b : ℕ) → judge answer_rows 0 (b ∷ []) ≡ whole (answer b) 1
unfolding answer_rows
answer_judged b =
    let n : number (b ∷ []) ≡ b = omega arith in
    judge_field 1 (λ _. None) (λ field. done (answer (number field))) 0 (b ∷ []) [] refl ∙ judge_done (answer (number (b ∷ []))) 1 [] ∙ ap (λ k. whole (answer k) 1) n

-- a count, and four zero bytes

abbrev counted : ℕ × List ℕ → Rows DownValue
counted b = if b.0 == 0 then order_rows else done (count b.0)

count_is : count_rows ≡ within 4 (with_bytes [] four_rows) counted
unfolding count_rows within with_bytes
count_is = refl

-- what the four bytes say is their number
four_number : (v n : ℕ) (bytes : List ℕ) → length bytes ≡ 4 → judge (body 4 four_rows) 0 bytes ≡ whole v n → number bytes ≡ v
unfolding within
four_number v n bytes four e =
    let all = judge_field 4 (λ _. None) (λ field. done (number field)) 0 bytes [] four ∙ judge_done (number bytes) 4 [] in
    let same : whole (number bytes) 4 ≡ whole v n = sym all ∙ ap (judge (body 4 four_rows) 0) (append-nil bytes) ∙ e in
    cc

behind_count : (b : Bool) (n : ℕ) (field more : List ℕ) → length field ≡ 4 → number field ≡ n → (n == 0) ≡ b → judge count_rows 0 (field ++ more) ≡ judge (if b then order_rows else done (count n)) 4 more
unfolding count_rows
behind_count b n field more four value test =
    judge_field 4 (λ _. None) (λ f. if number f == 0 then order_rows else done (count (number f))) 0 field more four
    ∙ ap (λ k. judge (if k == 0 then order_rows else done (count k)) 4 more) value ∙ ap (λ t. judge (if t then order_rows else done (count n)) 4 more) test

pub count_judged : (n : ℕ) (field : List ℕ) → length field ≡ 4 → number field ≡ n → (n == 0) ≡ false → judge count_rows 0 field ≡ whole (count n) 4
count_judged n field four value some =
    ap (judge count_rows 0) (sym (append-nil field)) ∙ behind_count false n field [] four value some ∙ judge_done (count n) 4 []

-- after four zero bytes the verdict is that on a frame

abbrev pub says_down_frame : Said → DownValue
says_down_frame f = order f.1

order_judged : (place : ℕ) (bytes : List ℕ) → judge order_rows place bytes ≡ map_verdict says_down_frame (judge (length_rows (longest_body Down) (body_kind_rows Down)) place bytes)
unfolding order_rows
order_judged place bytes = map_judged says_down_frame (length_rows (longest_body Down) (body_kind_rows Down)) place bytes

pub down_frame_judged : (after_answer : Bool) (zeros more : List ℕ) → after_answer ≡ true → length zeros ≡ 4 → number zeros ≡ 0 → down_verdict after_answer (zeros ++ more) ≡ map_verdict says_down_frame (frame_verdict Down (zeros ++ more))
down_frame_judged after_answer zeros more place four none =
    ap (λ b. down_verdict b (zeros ++ more)) place ∙ behind_count true 0 zeros more four none refl ∙ order_judged 4 more
    ∙ ap (λ v. map_verdict says_down_frame v) (sym (frame_steps.behind_preamble Down zeros more four none))

pub in_frame_judged : (after_answer : Bool) (bytes zeros more : List ℕ) → after_answer ≡ true → bytes ≡ zeros ++ more → length zeros ≡ 4 → number zeros ≡ 0 → down_verdict after_answer bytes ≡ map_verdict says_down_frame (frame_verdict Down bytes)
in_frame_judged after_answer bytes zeros more place is four none =
    ap (down_verdict after_answer) is ∙ down_frame_judged after_answer zeros more place four none ∙ ap (λ x. map_verdict says_down_frame (frame_verdict Down x)) (sym is)

abbrev in_count : (m : Machine CountPlace) (bytes : List ℕ) → InCount m bytes → InPart count_left StandsInCount count_rows four_rows counted m 0 4 bytes
in_count m bytes h = first_part count_rows four_rows counted 4 count_left SaysNumber StandsInCount count_leaves m bytes count_is h

-- what a machine has taken is short, and so has few bytes

pub has_short : (m : DownMachine) (after_answer : Bool) (bytes : List ℕ) → HasTaken m after_answer bytes → down_verdict after_answer bytes ≡ short
has_short machine.Answer after_answer bytes h = ap (down_verdict after_answer) h.1 ∙ starts_short_down after_answer
has_short (machine.Count m) after_answer bytes h = ap (λ b. down_verdict b bytes) h.0 ∙ part_short count_rows four_rows counted 4 count_left SaysNumber StandsInCount count_leaves m 0 bytes (in_count m bytes h.1)
has_short (machine.Frame m) after_answer bytes h =
    let i = h.1 in
    in_frame_judged after_answer bytes i.zeros i.more h.0 i.is i.four i.zero ∙ ap (λ v. map_verdict says_down_frame v) (frame_steps.has_short m Down bytes i.has)

pub has_few : (m : DownMachine) (after_answer : Bool) (bytes : List ℕ) → HasTaken m after_answer bytes → length bytes < 1280
has_few m after_answer bytes h = short_down_few after_answer bytes (has_short m after_answer bytes h)

-- what a whole verdict says

whole_says : (after_answer : Bool) (v : DownValue) (bytes : List ℕ) → down_verdict after_answer bytes ≡ whole v (length bytes) → SaysDown after_answer v bytes
whole_says after_answer v bytes e =
    let f = filled (down_rows after_answer) 0 (length bytes) v bytes e in
    let k : f.0 ≡ length bytes = omega (arith, f.1) in
    subst (SaysDown after_answer v) (ap (λ n. take n bytes) k ∙ take-length bytes) (says_down after_answer v (take f.0 bytes) f.3)

order_place : (after_answer : Bool) (body bytes : List ℕ) → SaysDown after_answer (order body) bytes → (after_answer ≡ true) × SaysOrder (order body) bytes
order_place false body bytes s = absurd (let e = s.value in cc)
order_place true body bytes (inl s) = absurd (let e = s.value in cc)
order_place true body bytes (inr s) = (refl, s)

-- the body that a whole frame says
order_says : (after_answer : Bool) (bytes : List ℕ) → (body : List ℕ) × (down_verdict after_answer bytes ≡ whole (order body) (length bytes))
    → (after_answer ≡ true) × (down_verdict after_answer bytes ≡ whole (order (body_in bytes)) (length bytes))
order_says after_answer bytes (body, e) =
    let p = order_place after_answer body bytes (whole_says after_answer (order body) bytes e) in
    let value = p.1.value in
    let same : body ≡ p.1.body = cc in
    (p.0, e ∙ ap (λ x. whole (order x) (length bytes)) (same ∙ sym p.1.holds.body_is))

-- a reader's fields as contracts see them

abbrev pub seen : List ℕ → List ℕ → Bool → Bool → Reader
seen have last after_answer failed = record { have = have; after_first = after_answer; failed = failed; body = body_in last }

pub on_byte : (have last : List ℕ) (b : ℕ) (after_answer failed : Bool) (m : DownMachine) → HasTaken m after_answer (have ++ b ∷ []) → PushedByteDown (seen have last after_answer failed) (seen (have ++ b ∷ []) last after_answer failed) b More
on_byte have last b after_answer failed m taking = record { verdict = has_short m after_answer (have ++ b ∷ []) taking; state = refl }

pub answer_byte : (have last : List ℕ) (b n : ℕ) (after_answer failed : Bool) → down_verdict after_answer (have ++ b ∷ []) ≡ whole (answer n) (length (have ++ b ∷ []))
    → PushedByteDown (seen have last after_answer failed) (seen [] last true failed) b (Login n)
answer_byte have last b n after_answer failed e = record { verdict = e; state = refl }

pub count_byte : (have last : List ℕ) (b n : ℕ) (after_answer failed : Bool) → down_verdict after_answer (have ++ b ∷ []) ≡ whole (count n) (length (have ++ b ∷ []))
    → PushedByteDown (seen have last after_answer failed) (seen [] last true failed) b (Count n)
count_byte have last b n after_answer failed e = record { verdict = e; state = refl }

pub order_byte : (have last : List ℕ) (b : ℕ) (after_answer failed : Bool) → (body : List ℕ) × (down_verdict after_answer (have ++ b ∷ []) ≡ whole (order body) (length (have ++ b ∷ [])))
    → PushedByteDown (seen have last after_answer failed) (seen [] (have ++ b ∷ []) true failed) b Order
order_byte have last b after_answer failed e = let s = order_says after_answer (have ++ b ∷ []) e in record { verdict = s.1; state = refl }

-- the answer, a count, and four zero bytes, once the last byte is there

pub answer_taken : (b : ℕ) (after_answer : Bool) (bytes : List ℕ) → after_answer ≡ false → bytes ≡ [] → down_verdict after_answer (bytes ++ b ∷ []) ≡ whole (answer b) (length (bytes ++ b ∷ []))
answer_taken b after_answer bytes place none =
    ap (λ p. down_verdict p (bytes ++ b ∷ [])) place ∙ ap (λ x. down_verdict false (x ++ b ∷ [])) none ∙ answer_judged b ∙ ap (λ x. whole (answer b) (length (x ++ b ∷ []))) (sym none)

-- once the four bytes are there, they spell what the machine says
record FourCame (n : ℕ) (bytes : List ℕ) : Type 0 where
  pub four : length bytes ≡ 4
  pub number_is : number bytes ≡ n

four_came : (m : Machine CountPlace) (n b : ℕ) (bytes : List ℕ) → InCount m bytes → IsVerdict SaysNumber 4 (scan.Whole n) (judge (body 4 four_rows) 0 (bytes ++ b ∷ [])) → FourCame n (bytes ++ b ∷ [])
four_came m n b bytes h is =
    let e = part_ends count_rows four_rows counted 4 count_left SaysNumber StandsInCount count_leaves m 0 b bytes n (in_count m bytes h) is in
    record { four = e.size; number_is = four_number e.value 4 (bytes ++ b ∷ []) e.size e.whole_part ∙ e.said }

pub count_broken : (m : Machine CountPlace) (found : Fault) (b : ℕ) (after_answer : Bool) (bytes : List ℕ) → after_answer ≡ true → InCount m bytes → IsVerdict SaysNumber 4 (scan.Broken found) (judge (body 4 four_rows) 0 (bytes ++ b ∷ []))
    → down_verdict after_answer (bytes ++ b ∷ []) ≡ fault found.kind found.place
count_broken m found b after_answer bytes place h is =
    let zero : 0 + found.place ≡ found.place = omega arith in
    ap (λ p. down_verdict p (bytes ++ b ∷ [])) place ∙ part_breaks count_rows four_rows counted 4 count_left SaysNumber StandsInCount count_leaves m 0 b bytes found (in_count m bytes h) is ∙ ap (fault found.kind) zero

pub count_taken : (m : Machine CountPlace) (n b : ℕ) (after_answer : Bool) (bytes : List ℕ) → after_answer ≡ true → InCount m bytes → IsVerdict SaysNumber 4 (scan.Whole n) (judge (body 4 four_rows) 0 (bytes ++ b ∷ [])) → (n ≡ 0 → ⊥)
    → down_verdict after_answer (bytes ++ b ∷ []) ≡ whole (count n) (length (bytes ++ b ∷ []))
count_taken m n b after_answer bytes place h is some =
    let c = four_came m n b bytes h is in
    let test : (n == 0) ≡ false = grind (arith, nat_tests) in
    ap (λ p. down_verdict p (bytes ++ b ∷ [])) place ∙ count_judged n (bytes ++ b ∷ []) c.four c.number_is test ∙ ap (λ k. whole (count n) k) (sym c.four)

pub zeros_taken : (m : Machine CountPlace) (n b : ℕ) (f : FrameMachine) (after_answer : Bool) (bytes : List ℕ) → after_answer ≡ true → InCount m bytes → IsVerdict SaysNumber 4 (scan.Whole n) (judge (body 4 four_rows) 0 (bytes ++ b ∷ [])) → n ≡ 0
    → ((zeros : List ℕ) → length zeros ≡ 4 → number zeros ≡ 0 → frame_machine.HasTaken f Down zeros) → HasTaken (machine.Frame f) after_answer (bytes ++ b ∷ [])
zeros_taken m n b f after_answer bytes place h is zero begins =
    let c = four_came m n b bytes h is in
    let zeros = bytes ++ b ∷ [] in
    let nothing : number zeros ≡ 0 = c.number_is ∙ zero in
    (place, record { zeros = zeros; more = []; is = sym (append-nil zeros); four = c.four; zero = nothing; has = begins zeros c.four nothing })

-- what a frame is, is what the item is

pub frame_whole : (m : FrameMachine) (kind : BodyKind) (b : ℕ) (after_answer : Bool) (bytes : List ℕ) → after_answer ≡ true → InFrame m bytes
    → (body : List ℕ) × (frame_verdict Down (bytes ++ b ∷ []) ≡ whole (says kind body) (length (bytes ++ b ∷ [])))
    → (body : List ℕ) × (down_verdict after_answer (bytes ++ b ∷ []) ≡ whole (order body) (length (bytes ++ b ∷ [])))
frame_whole m kind b after_answer bytes place i (body, e) =
    let is : bytes ++ b ∷ [] ≡ i.zeros ++ (i.more ++ b ∷ []) = ap (λ x. x ++ b ∷ []) i.is ∙ append_assoc i.zeros i.more (b ∷ []) in
    (body, in_frame_judged after_answer (bytes ++ b ∷ []) i.zeros (i.more ++ b ∷ []) place is i.four i.zero ∙ ap (λ v. map_verdict says_down_frame v) e)

pub frame_broken : (m : FrameMachine) (kind : FaultKind) (p b : ℕ) (after_answer : Bool) (bytes : List ℕ) → after_answer ≡ true → InFrame m bytes → frame_verdict Down (bytes ++ b ∷ []) ≡ fault kind p
    → down_verdict after_answer (bytes ++ b ∷ []) ≡ fault kind p
frame_broken m kind p b after_answer bytes place i e =
    let is : bytes ++ b ∷ [] ≡ i.zeros ++ (i.more ++ b ∷ []) = ap (λ x. x ++ b ∷ []) i.is ∙ append_assoc i.zeros i.more (b ∷ []) in
    in_frame_judged after_answer (bytes ++ b ∷ []) i.zeros (i.more ++ b ∷ []) place is i.four i.zero ∙ ap (λ v. map_verdict says_down_frame v) e

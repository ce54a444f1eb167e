-- The laws of the items down.
use Rattle.std.proofs.Common.{◌≡◌, ℕ, ◌+◌, ◌<◌, ◌^◌, ◌==◌, Bool, true, false, List, [], ◌∷◌, ◌++◌, length, take, None, refl, sym, ap, subst, ◌∙◌, arith, if◌then◌else◌}
use Rattle.std.proofs.lemmas.Bool.Decides.{nat_tests}
use Rattle.std.proofs.lemmas.List.{append-nil}
use Rattle.std.specs.Int.{bytes_high_first}
use Rattle.layout.specs.Bytes.{AreBytes}
use Rattle.layout.specs.Rows.{Rows, done, whole, Fills}
use Rattle.layout.proofs.Filling.{fills_done, done_filled}
use Rattle.layout.proofs.Numbers.{bytes-take}
use Rattle.layout.proofs.RowLaws.{filled, is_whole, none_begins, stays}
use Rattle.layout.proofs.MappedLaws.{map_fill, map_take}
use Rattle.layout.proofs.NumberFills.{number_fill, number_take, spell-one}
use Rattle.command_layout.specs.declared.way.Way.TheVariants.{Down}
use Rattle.frame_layout.specs.DownRows.{answer_rows, count_rows, down_rows, order_rows}
use Rattle.frame_layout.specs.FrameBodies.{body_kind_rows}
use Rattle.frame_layout.specs.FrameRows.{length_rows}
use Rattle.frame_layout.specs.Items.{IsAnswer, IsCount, IsDownItem, IsFrame}
use Rattle.frame_layout.specs.Laws.{DownItemIsWhole, DownVerdictStays, NoDownItemBeginsAnother, WholeIsDownItem}
use Rattle.frame_layout.specs.Values.{DownValue, answer, count, order}
use Rattle.frame_layout.specs.declared.body_kind.BodyKind.{BodyKind}
use Rattle.frame_layout.specs.declared.body_kind.BodyKind.TheVariants.{Packet, Command}
use Rattle.frame_layout.proofs.FrameFills.{behind_zeros, length_fill, length_taken}
use Rattle.frame_layout.proofs.KindFills.{kind_fill, kind_size, kind_taken}

answer_fills : (n : ℕ) (bytes : List ℕ) → IsAnswer n bytes → Fills answer_rows (answer n) bytes
unfolding answer_rows
answer_fills n bytes is =
    let one : bytes_high_first 1 n ++ [] ≡ bytes = append-nil (bytes_high_first 1 n) ∙ spell-one n is.byte ∙ sym is.is in
    subst (Fills answer_rows (answer n)) one (number_fill 1 (λ _. None) (λ k. done (answer k)) (answer n) n [] (omega (arith, is.byte)) refl (fills_done (answer n)))

filled_answer : (v : DownValue) (bytes : List ℕ) → AreBytes bytes → Fills answer_rows v bytes → IsDownItem false v bytes
unfolding answer_rows
filled_answer v bytes p fills =
    let one = number_take 1 (λ _. None) (λ k. done (answer k)) v bytes p fills in
    let end = done_filled (answer one.n) v one.more one.fills in
    let byte : one.n < 256 = omega (arith, one.bound) in
    let is : bytes ≡ one.n ∷ [] = one.is ∙ ap (λ b. b ++ one.more) (spell-one one.n byte) ∙ ap (λ b. one.n ∷ b) end.1 in
    let made : IsDownItem false (answer one.n) bytes = record { is = is; byte = byte } in
    subst (λ x. IsDownItem false x bytes) end.0 made

-- The frame of a command, after its four zero bytes.

abbrev says : BodyKind × List ℕ → DownValue
says f = order f.1

abbrev counted : Bool → ℕ → Rows DownValue
counted b n = if b then order_rows else done (count n)

order_fills : (body bytes : List ℕ) → IsFrame Down Command body bytes → Fills count_rows (order body) bytes
unfolding count_rows order_rows
order_fills body bytes is =
    let fills : Fills (length_rows 1268 (body_kind_rows Down)) (Command, body) (behind_zeros body) =
    length_fill 1268 (body_kind_rows Down) Command body is.are_bytes (kind_size Down Command body is.of_body) is.fits (omega arith) (kind_fill Down Command body is.of_body) in
    let behind : Fills (counted (0 == 0) 0) (order body) (behind_zeros body) = map_fill says (length_rows 1268 (body_kind_rows Down)) (Command, body) (behind_zeros body) fills in
    subst (Fills count_rows (order body)) (sym is.is) (number_fill 4 (λ _. None) (λ k. counted (k == 0) k) (order body) 0 (behind_zeros body) (omega arith) refl behind)

-- only a command passes down
order_item : (kind : BodyKind) (body bytes : List ℕ) → IsFrame Down kind body bytes → IsDownItem true (order body) bytes
order_item (Packet head) body bytes is = absurd is.of_body
order_item Command body bytes is = is

filled_order : (v : DownValue) (more bytes : List ℕ) → AreBytes more → bytes ≡ bytes_high_first 4 0 ++ more → Fills order_rows v more → IsDownItem true v bytes
unfolding order_rows
filled_order v more bytes p is fills =
    let m = map_take says (length_rows 1268 (body_kind_rows Down)) v more fills in
    let t = length_taken 1268 (body_kind_rows Down) m.0 more p m.2 in
    let frame : IsFrame Down m.0.0 m.0.1 bytes =
    record { is = is ∙ ap (λ x. bytes_high_first 4 0 ++ x) t.is; of_body = kind_taken Down (length m.0.1) m.0.0 m.0.1 t.bytes_in t.fills; fits = t.fits; are_bytes = t.bytes_in } in
    subst (λ x. IsDownItem true x bytes) m.1 (order_item m.0.0 m.0.1 bytes frame)

-- A count.

count_fills : (n : ℕ) (bytes : List ℕ) → IsCount n bytes → Fills count_rows (count n) bytes
unfolding count_rows
count_fills n bytes is =
    let some : (n == 0) ≡ false = let s = is.some in grind (arith, nat_tests) in
    let behind : Fills (counted (n == 0) n) (count n) [] = subst (λ b. Fills (counted b n) (count n) []) (sym some) (fills_done (count n)) in
    subst (Fills count_rows (count n)) (append-nil (bytes_high_first 4 n) ∙ sym is.is) (number_fill 4 (λ _. None) (λ k. counted (k == 0) k) (count n) n [] (omega (arith, is.fits)) refl behind)

by_count : (b : Bool) (n : ℕ) (v : DownValue) (more bytes : List ℕ) → (n == 0) ≡ b → n < 2 ^ 32 → AreBytes more → bytes ≡ bytes_high_first 4 n ++ more → Fills (counted b n) v more → IsDownItem true v bytes
by_count true n v more bytes e bound p is fills =
    let none : n ≡ 0 = grind (arith, nat_tests) in
    filled_order v more bytes p (is ∙ ap (λ k. bytes_high_first 4 k ++ more) none) fills
by_count false n v more bytes e bound p is fills =
    let end = done_filled (count n) v more fills in
    let some : 0 < n = grind (arith, nat_tests) in
    let made : IsDownItem true (count n) bytes = record { is = is ∙ ap (λ b. bytes_high_first 4 n ++ b) end.1 ∙ append-nil (bytes_high_first 4 n); some = some; fits = bound } in
    subst (λ x. IsDownItem true x bytes) end.0 made

filled_count : (v : DownValue) (bytes : List ℕ) → AreBytes bytes → Fills count_rows v bytes → IsDownItem true v bytes
unfolding count_rows
filled_count v bytes p fills =
    let one = number_take 4 (λ _. None) (λ k. counted (k == 0) k) v bytes p fills in
    by_count (one.n == 0) one.n v one.more bytes refl (omega (arith, one.bound)) one.bytes_behind one.is one.fills

pub down_fills : (after_answer : Bool) (v : DownValue) (bytes : List ℕ) → IsDownItem after_answer v bytes → Fills (down_rows after_answer) v bytes
down_fills false (answer n) bytes is = answer_fills n bytes is
down_fills false (count n) bytes is = absurd is
down_fills false (order body) bytes is = absurd is
down_fills true (answer n) bytes is = absurd is
down_fills true (count n) bytes is = count_fills n bytes is
down_fills true (order body) bytes is = order_fills body bytes is

pub filled_down : (after_answer : Bool) (v : DownValue) (bytes : List ℕ) → AreBytes bytes → Fills (down_rows after_answer) v bytes → IsDownItem after_answer v bytes
filled_down false v bytes p fills = filled_answer v bytes p fills
filled_down true v bytes p fills = filled_count v bytes p fills

pub whole_down : WholeIsDownItem
whole_down after_answer v n bytes p e =
    let f = filled (down_rows after_answer) 0 n v bytes e in
    let k : f.0 ≡ n = omega (arith, f.1) in
    (omega (arith, f.1, f.2), subst (λ m. IsDownItem after_answer v (take m bytes)) k (filled_down after_answer v (take f.0 bytes) (bytes-take f.0 bytes p) f.3))

pub down_whole : DownItemIsWhole
down_whole after_answer v bytes more is =
    let n : 0 + length bytes ≡ length bytes = omega arith in
    is_whole (down_rows after_answer) 0 v bytes more (down_fills after_answer v bytes is) ∙ ap (λ k. whole v k) n

pub down_stays : DownVerdictStays
down_stays after_answer bytes more come = stays (down_rows after_answer) 0 bytes more come

pub none_begins_down : NoDownItemBeginsAnother
none_begins_down after_answer v w a b x y p q same = none_begins (down_rows after_answer) v w a b x y (down_fills after_answer v a p) (down_fills after_answer w b q) same

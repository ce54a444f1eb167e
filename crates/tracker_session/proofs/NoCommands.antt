-- No command stands among counts.
use Rattle.std.proofs.Common.{◌≡◌, ℕ, ◌+◌, ◌<◌, ◌^◌, true, false, List, [], ◌∷◌, ◌++◌, length, refl, sym, ap, subst, ◌∙◌}
use Rattle.std.proofs.Math.Seq.{drop-append_seam}
use Rattle.std.proofs.lemmas.Grind.{flat_map-append}
use Rattle.std.specs.List.{AllByRecursion, flat_map}
use Rattle.layout.specs.Rows.{Verdict}
use Rattle.item_streams.specs.Laws.{AreStreamRows}
use Rattle.item_streams.specs.Streams.{IsNotWhole, Item, Reading, reading_of}
use Rattle.item_streams.proofs.StreamLaws.{front_read, nothing_read, prefix}
use Rattle.frame_layout.specs.DownRows.{down_rows}
use Rattle.frame_layout.specs.Items.{count_bytes}
use Rattle.frame_layout.specs.Readings.{down_reading, order_in, orders_of}
use Rattle.frame_layout.specs.Values.{DownValue, answer, count}
use Rattle.frame_layout.proofs.DownLaws.{down_whole}
use Rattle.frame_layout.proofs.Lengths.{starts_short_down}
use Rattle.tracker_session.specs.Talks.{CountsHoldNoCommand}
use Rattle.tracker_session.proofs.Advancing.{down_begins}

later_begins : AreStreamRows (down_rows true) (down_rows true)
later_begins = record { first_begins = starts_short_down true; later_begins = starts_short_down true }

-- of counts one after the other, from any place on
counts-plain : (place : ℕ) (ns : List ℕ) → AllByRecursion (λ n. (0 < n) × (n < 2 ^ 32)) ns → orders_of (reading_of (down_rows true) (down_rows true) place (flat_map count_bytes ns)).items ≡ []
counts-plain place [] each =
    ap (λ (r : Reading DownValue). orders_of r.items) (nothing_read (down_rows true) (down_rows true) place [] (subst (λ (v : Verdict DownValue). IsNotWhole v) (sym (starts_short_down true)) tt))
counts-plain place (n ∷ ns) each =
    let one = count_bytes n in
    let rest = flat_map count_bytes ns in
    let rows = down_rows true in
    let first = front_read rows rows place (length one) (count n) (one ++ rest) later_begins (down_whole true (count n) one rest (record { is = refl; some = each.0.0; fits = each.0.1 })) in
    ap (λ (r : Reading DownValue). orders_of r.items) first
    ∙ ap (λ (b : List ℕ). orders_of (reading_of rows rows (place + length one) b).items) (drop-append_seam one rest)
    ∙ counts-plain (place + length one) ns each.1

front-none : (xs ys : List (List ℕ)) → xs ++ ys ≡ [] → xs ≡ []
front-none [] ys e = refl
front-none (x ∷ xs) ys e = absurd cc

pub no-commands : CountsHoldNoCommand
no-commands b ns taken more low each is =
    let first = down_rows false in
    let later = down_rows true in
    let rest = flat_map count_bytes ns in
    let read = front_read first later 0 1 (answer b) (b ∷ rest) down_begins (down_whole false (answer b) (b ∷ []) rest (record { is = refl; byte = low })) in
    let all : orders_of (down_reading false (b ∷ rest)).items ≡ [] = ap (λ (r : Reading DownValue). orders_of r.items) read ∙ counts-plain (0 + 1) ns each in
    let front = prefix first later 0 taken more down_begins in
    front-none (orders_of (down_reading false taken).items) (orders_of front.0)
    (sym (flat_map-append (λ (i : Item DownValue). order_in i.value) (down_reading false taken).items front.0) ∙ ap orders_of (sym front.1) ∙ ap (λ (x : List ℕ). orders_of (down_reading false x).items) is ∙ all)

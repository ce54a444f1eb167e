-- A round, one item after the other.
use Rattle.std.proofs.Common.{◌≡◌, ℕ, ◌+◌, true, false, List, [], ◌∷◌, ◌++◌, length, refl, sym, ap, subst, ◌∙◌, append_assoc, append-nil, arith}
use Rattle.std.proofs.lemmas.List.{map-append}
use Rattle.layout.specs.Rows.{Rows, Verdict, whole, short, judge}
use Rattle.item_streams.specs.Streams.{Item, IsNotWhole, Reading, next_rows, place_after, reading_of, values, with_items}
use Rattle.item_streams.proofs.StreamSteps.{later_place, rest_completes, rest_grows}
use Rattle.item_streams.specs.Laws.{AreStreamRows}
use Rattle.item_streams.proofs.StreamLaws.{add_up, compose, nothing_read}
use Rattle.frame_layout.specs.DownRows.{down_rows, down_verdict}
use Rattle.frame_layout.specs.Readings.{down_reading}
use Rattle.frame_layout.specs.Values.{DownValue}
use Rattle.frame_layout.proofs.Lengths.{starts_short_down}
use Rattle.tracker_session.specs.Responses.{ShellMeaning}
use Rattle.tracker_session.specs.RoundStates.{AllFit, Fits, Round, RoundState, after, next, starts, text, writes}
use Rattle.tracker_session.specs.Rounds.{Advances, written}

pub down_begins : AreStreamRows (down_rows false) (down_rows true)
down_begins = record { first_begins = starts_short_down false; later_begins = starts_short_down true }

-- bytes after those that are read to their last
pub reads-after : (heard back : List ℕ) (items : List (Item DownValue)) (last : Item DownValue) → down_reading false heard ≡ record { items = items ++ last ∷ []; rest = [] }
    → down_reading false (heard ++ back) ≡ with_items (items ++ last ∷ []) (reading_of (down_rows true) (down_rows true) (length heard) back)
reads-after heard back items last e =
    let all = items ++ last ∷ [] in
    let first = down_rows false in
    let later = down_rows true in
    let P : Reading DownValue → Type 0 = λ r. place_after 0 r.items + length r.rest ≡ 0 + length heard in
    let place : place_after 0 all ≡ length heard = (let both = subst P e (add_up first later 0 heard down_begins) in omega arith) in
    compose first later 0 heard back down_begins
    ∙ ap (λ (r : Reading DownValue). with_items r.items (reading_of (next_rows first later r.items) later (place_after 0 r.items) (r.rest ++ back))) e
    ∙ ap (λ (rows : Rows DownValue). with_items all (reading_of rows later (place_after 0 all) back)) (later_place first later items last)
    ∙ ap (λ (n : ℕ). with_items all (reading_of later later n back)) place

module _ {S : Type 0} (m : ShellMeaning S) (r : Round S) where
  pub text-last : (d : RoundState S) (vs : List DownValue) (v : DownValue) → text m r d (vs ++ v ∷ []) ≡ text m r d vs ++ writes m r (after m r d vs) v
  text-last d [] v = append-nil (writes m r d v)
  text-last d (w ∷ vs) v = ap (λ (b : List ℕ). writes m r d w ++ b) (text-last (next m r d w) vs v) ∙ sym (append_assoc (writes m r d w) (text m r (next m r d w) vs) _)

  pub after-last : (d : RoundState S) (vs : List DownValue) (v : DownValue) → after m r d (vs ++ v ∷ []) ≡ next m r (after m r d vs) v
  after-last d [] v = refl
  after-last d (w ∷ vs) v = after-last (next m r d w) vs v

  pub fit-last : (d : RoundState S) (vs : List DownValue) (v : DownValue) → AllFit m r d vs → Fits m r (after m r d vs) v → AllFit m r d (vs ++ v ∷ [])
  fit-last d [] v all one = (one, tt)
  fit-last d (w ∷ vs) v all one = (all.0, fit-last (next m r d w) vs v all.1 one)

  pub values-last : (items : List (Item DownValue)) (i : Item DownValue) → values (items ++ i ∷ []) ≡ values items ++ i.value ∷ []
  values-last items i = map-append (λ (x : Item DownValue). x.value) items (i ∷ [])

  -- the same, told otherwise
  abbrev pub advances-as : (bytes other have rest : List ℕ) (d e : RoundState S) → bytes ≡ other → have ≡ rest → d ≡ e → Advances m r bytes have d → Advances m r other rest e
  advances-as bytes other have rest d e same_bytes same_have same_state a = record {
    items = a.items;
    reading = ap (down_reading false) (sym same_bytes) ∙ a.reading ∙ ap (λ (h : List ℕ). record { items = a.items; rest = h }) same_have;
    place = a.place ∙ ap (λ (s : RoundState S). down_rows s.accepted) same_state;
    fits = a.fits;
    state = sym same_state ∙ a.state;
  }

  -- nothing was heard yet
  abbrev pub advances-none : Advances m r [] [] (starts r)
  advances-none = record { items = []; reading = nothing_read (down_rows false) (down_rows true) 0 [] (subst (λ (v : Verdict DownValue). IsNotWhole v) (sym (starts_short_down false)) tt); place = refl; fits = tt; state = refl }

  -- too few bytes for an item
  abbrev pub advances-more : (bytes have more : List ℕ) (d : RoundState S) → Advances m r bytes have d → down_verdict d.accepted (have ++ more) ≡ short → Advances m r (bytes ++ more) (have ++ more) d
  advances-more bytes have more d a verdict =
      let unfinished : IsNotWhole (judge (down_rows d.accepted) 0 (have ++ more)) = subst (λ (v : Verdict DownValue). IsNotWhole v) (sym verdict) tt in
      let nil = append-nil a.items in
      record {
        items = a.items;
        reading = rest_grows (down_rows false) (down_rows true) (down_rows d.accepted) bytes more have a.items down_begins a.reading a.place unfinished ∙ ap (λ (i : List (Item DownValue)). record { items = i; rest = have ++ more }) nil;
        place = a.place;
        fits = a.fits;
        state = a.state;
      }

  -- the item after those so far
  abbrev pub last_item : List ℕ → DownValue → Item DownValue
  last_item bytes v = record { value = v; end = length bytes }

  pub reads-item : (bytes have more : List ℕ) (d : RoundState S) (v : DownValue) (a : Advances m r bytes have d) → down_verdict d.accepted (have ++ more) ≡ whole v (length (have ++ more))
      → down_reading false (bytes ++ more) ≡ record { items = a.items ++ last_item (bytes ++ more) v ∷ []; rest = [] }
  reads-item bytes have more d v a verdict = rest_completes (down_rows false) (down_rows true) (down_rows d.accepted) v bytes more have a.items down_begins a.reading a.place verdict

  abbrev pub advances-item : (bytes have more : List ℕ) (d : RoundState S) (v : DownValue) → Advances m r bytes have d → down_verdict d.accepted (have ++ more) ≡ whole v (length (have ++ more)) → Fits m r d v → (next m r d v).accepted ≡ true
      → Advances m r (bytes ++ more) [] (next m r d v)
  advances-item bytes have more d v a verdict fits accepted =
      let i = last_item (bytes ++ more) v in
      let vs = values-last a.items i in
      let P : List DownValue → Type 0 = λ l. AllFit m r (starts r) l in
      let Q : RoundState S → Type 0 = λ s. Fits m r s v in
      record {
        items = a.items ++ i ∷ [];
        reading = reads-item bytes have more d v a verdict;
        place = later_place (down_rows false) (down_rows true) a.items i ∙ ap down_rows (sym accepted);
        fits = subst P (sym vs) (fit-last (starts r) (values a.items) v a.fits (subst Q a.state fits));
        state = ap (λ (s : RoundState S). next m r s v) a.state ∙ sym (after-last (starts r) (values a.items) v) ∙ ap (after m r (starts r)) (sym vs);
      }

  pub written-item : (bytes have more : List ℕ) (d : RoundState S) (v : DownValue) (a : Advances m r bytes have d) (verdict : down_verdict d.accepted (have ++ more) ≡ whole v (length (have ++ more))) (fits : Fits m r d v) (accepted : (next m r d v).accepted ≡ true)
      → written m r (advances-item bytes have more d v a verdict fits accepted) ≡ written m r a ++ writes m r d v
  written-item bytes have more d v a verdict fits accepted =
      ap (text m r (starts r)) (values-last a.items (last_item (bytes ++ more) v)) ∙ text-last (starts r) (values a.items) v
      ∙ ap (λ (s : RoundState S). text m r (starts r) (values a.items) ++ writes m r s v) (sym a.state)

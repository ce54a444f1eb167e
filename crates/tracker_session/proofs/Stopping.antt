-- How a turn ends a round.
use Rattle.std.proofs.Common.{◌≡◌, ◌⊎◌, inl, inr, ℕ, ◌+◌, nat_lt, Bool, true, false, List, [], ◌++◌, length, take, Option, Some, Ok, Err, Result, refl, sym, ap, subst, ◌∙◌, append_assoc, append-nil, arith}
use Rattle.std.proofs.lemmas.Bool.{ltb-false, ltb-true}
use Rattle.avl_values.specs.declared.errors.MediumFault.{MediumFault}
use Rattle.layout.specs.Rows.{Verdict, whole, short, fault, judge}
use Rattle.links.specs.Links.{Moves, Traffic, WritesPart}
use Rattle.links.proofs.Moving.{moves_as, moves_none, moves_then}
use Rattle.medium_model.proofs.Images.{counted-as, counted-then}
use Rattle.item_streams.specs.Streams.{IsNotWhole, Item, values}
use Rattle.item_streams.proofs.StreamSteps.{rest_grows}
use Rattle.frame_layout.specs.DownRows.{down_rows, down_verdict}
use Rattle.frame_layout.specs.Readings.{down_reading}
use Rattle.frame_layout.specs.Values.{DownValue, answer, count, order}
use Rattle.frame_layout.proofs.DownLaws.{down_stays}
use Rattle.flash_ring.specs.Held.{Held}
use Rattle.flash_ring.specs.Images.{MayClose, reached}
use Rattle.flash_ring.specs.Ring.{RingView}
use Rattle.flash_ring.specs.Entries.{held_of}
use Rattle.flash_ring.proofs.Closes.{closes-more, has_slot-take, holds-map}
use Rattle.medium_model.specs.CallsLeft.{CallsLeft, unknown, unlimited, after as some_left, exhausted}
use Rattle.tracker_session.specs.Batches.{frame_in}
use Rattle.tracker_session.specs.Hearing.{HearsSome, IsWrong}
use Rattle.tracker_session.specs.Responses.{ShellMeaning, answer_frame}
use Rattle.tracker_session.specs.RoundStates.{Fits, IsWaiting, Round, RoundState, accepts, after, counts, next, next_batch, sends, slots_now, starts, writes}
use Rattle.tracker_session.specs.Rounds.{Ends, FailsInside, Leaves, Rests, Stops, StopsAt, stands_at, written}
use Rattle.tracker_session.specs.Trackers.{TrackerView}
use Rattle.tracker_session.specs.Turns.{IsQuiet, Reacts, SendsAnswer, SendsBatch, Takes, batch_now}
use Rattle.tracker_session.specs.declared.heard.Got.{Got}
use Rattle.tracker_session.specs.declared.heard.Got.TheVariants as got
use Rattle.tracker_session.specs.declared.heard.Heard.TheVariants as heard
use Rattle.tracker_session.specs.declared.heard.Hearing.{Hearing}
use Rattle.tracker_session.specs.declared.heard.Hearing.TheVariants as hearing
use Rattle.tracker_session.specs.declared.round.Progress.{Progress}
use Rattle.tracker_session.specs.declared.round_end.RoundEnd.{RoundEnd}
use Rattle.tracker_session.specs.declared.round_end.RoundEnd.TheVariants as end
use Rattle.tracker_session.proofs.Advancing.{down_begins, last_item, reads-after, reads-item}
use Rattle.tracker_session.proofs.Going.{Goes, Stands, accepts-on, batch-same, counts-on, frame-same, judged, none-less, orders-on, slots-same, waiting}

some-reached : (left : CallsLeft) (ks : List ℕ) (before slots : List (Option Held)) → MayClose (reached left ks) before slots → MayClose ks before slots
some-reached unknown ks before slots may = may
some-reached unlimited ks before slots may = may
some-reached (some_left k) ks before slots may = closes-more (take (k + 1) ks) ks before slots (λ j has. has_slot-take (k + 1) ks j has) may
some-reached exhausted ks before slots may = closes-more (take 1 ks) ks before slots (λ j has. has_slot-take 1 ks j has) may

module _ {S : Type 0} (m : ShellMeaning S) (r : Round S) (bytes taken piece back : List ℕ) (n : ℕ) (old : RingView) (v : TrackerView) (p : Progress) (s : S) (x y : Option Traffic) (g : Goes m r bytes taken old v p s x y)
    (split : taken ≡ (bytes ++ take n piece) ++ back) (rose : Type 0) where
  -- the item at which it stops
  stops-at : (e : Result RoundEnd MediumFault) (item : DownValue) (ring : RingView) (t : S) (z : Option Traffic) (then_ : List ℕ) → down_verdict v.answered (v.have ++ take n piece) ≡ whole item (length (v.have ++ take n piece))
      → StopsAt m r rose e g.state item old ring t then_ → Moves [] then_ y z → (d : RoundState S) × Stops m r rose e taken d old ring t x z
  stops-at e item ring t z then_ verdict stops sent =
      let P : RoundState S → Type 0 = λ d. StopsAt m r rose e d item old ring t then_ in
      let last = last_item m r (bytes ++ take n piece) item in
      let reading = reads-item m r bytes v.have (take n piece) g.state item g.advances (judged m r g.state old v p s (v.have ++ take n piece) _ g.stands verdict) in (
        stands_at m r e (after m r (starts r) (values g.advances.items)) item,
        record {
          heard = bytes ++ take n piece;
          back = back;
          split = split;
          items = g.advances.items;
          last = last;
          reading = reading;
          reads_on = ap (down_reading false) split ∙ reads-after (bytes ++ take n piece) back g.advances.items last reading;
          fits = g.advances.fits;
          waits = subst (λ (d : RoundState S). IsWaiting d) g.advances.state (waiting m r bytes taken old v p s x y g);
          state = refl;
          then_ = then_;
          stops = subst P g.advances.state stops;
          wire = moves_as (taken ++ []) _ taken _ x z (append-nil taken) refl (moves_then taken (written m r g.advances) [] then_ x y z g.wire sent);
        },
      )

  -- how it ends, and where it stands then
  abbrev pub Ended : Result RoundEnd MediumFault → RingView → S → Option Traffic → Type 0
  Ended e ring t z = (d : RoundState S) × Ends m r rose e taken d old ring t x z

  -- nothing was written for it
  quiet : (z : Option Traffic) → z ≡ y → Moves [] [] y z
  quiet z same = let P : Option Traffic → Type 0 = λ k. Moves [] [] y k in subst P (sym same) (moves_none y)

  leaves-as : (d : RoundState S) (ring other : RingView) (t u : S) → Leaves m r d old ring t → other ≡ ring → u ≡ t → Leaves m r d old other u
  leaves-as d ring other t u l same_ring same_shell = let P : RingView × S → Type 0 = λ k. Leaves m r d old k.0 k.1 in subst P (λ i. (sym same_ring i, sym same_shell i)) l

  -- a batch went out in part, or there was none to send
  batch-stops : (e : Result RoundEnd MediumFault) (item : DownValue) (d : RoundState S) (u w : TrackerView) (p0 q : Progress) (t : S) (z : Option Traffic) → down_verdict v.answered (v.have ++ take n piece) ≡ whole item (length (v.have ++ take n piece))
      → Fits m r g.state item → next m r g.state item ≡ sends m r d → writes m r g.state item ≡ frame_in (slots_now m r d) (next_batch m r d) → Stands m r d old u p0 t → SendsBatch (Some e) u w p0 q y z → (e ≡ Ok end.Broken → rose) → Ended e w.ring t z
  batch-stops (Ok (end.Done k)) item d u w p0 q t z verdict fits is_next says at sent cause =
      let none : next_batch m r d ≡ [] = sym (batch-same m r d old u p0 t at) ∙ sent.0 in
      let ring : w.ring ≡ u.ring = ap (λ (j : TrackerView). j.ring) sent.1 in
      let P : RoundState S → Type 0 = λ j. Leaves m r j old w.ring t × (j.batch ≡ []) × (k ≡ length j.closed) × ((j.left ≡ 0) ⊎ (held_of w.ring.slots ≡ [])) in
      let l = leaves-as d u.ring w.ring t t at.leaves ring refl in
      let drained : ((sends m r d).left ≡ 0) ⊎ (held_of w.ring.slots ≡ []) = elim sent.5 as (λ _. ((sends m r d).left ≡ 0) ⊎ (held_of w.ring.slots ≡ [])) [
        | inl spent ↦ inl (none-less (next_batch m r d) d.left none ∙ sym at.left ∙ spent)
        | inr empty ↦ inr (ap (λ (j : RingView). held_of j.slots) ring ∙ empty)
      ] in
      let f = subst P (sym is_next) (record { ring = l.ring; durable = l.durable; counted = l.counted; untouched = l.untouched; shell = l.shell }, none, sent.4 ∙ at.done, drained) in
      stops-at (Ok (end.Done k)) item w.ring t z [] verdict (fits, f.0, f.1, f.2, f.3, refl) (quiet z sent.3)
  batch-stops (Ok end.Empty) item d u w p0 q t z verdict fits is_next says at sent cause = absurd sent
  batch-stops (Ok end.Refused) item d u w p0 q t z verdict fits is_next says at sent cause = absurd sent
  batch-stops (Ok end.Broken) item d u w p0 q t z verdict fits is_next says at sent cause =
      let ring : w.ring ≡ u.ring = ap (λ (j : TrackerView). j.ring) sent.1 in
      let l = leaves-as d u.ring w.ring t t at.leaves ring refl in
      let P : RoundState S → Type 0 = λ j. Leaves m r j old w.ring t in
      let f = subst P (sym is_next) (record { ring = l.ring; durable = l.durable; counted = l.counted; untouched = l.untouched; shell = l.shell }) in
      let same : frame_in u.ring.slots (batch_now p0.left u.order u.ring.slots) ≡ writes m r g.state item = frame-same m r d old u p0 t at ∙ sym says in
      let Q : List ℕ → Type 0 = λ b. WritesPart b y z in
      let part = subst Q same sent.2 in
      let st = stops-at (Ok end.Broken) item w.ring t z (take part.0 (writes m r g.state item)) verdict (fits, f, (part.0, part.1, refl), cause refl) part.2 in
      (st.0, inr st.1)
  batch-stops (Ok (end.WrongAnswer got)) item d u w p0 q t z verdict fits is_next says at sent cause = absurd sent
  batch-stops (Ok end.TooManyCommands) item d u w p0 q t z verdict fits is_next says at sent cause = absurd sent
  batch-stops (Err failed) item d u w p0 q t z verdict fits is_next says at sent cause = absurd sent

  -- the login was refused
  refused-stops : (u w : TrackerView) (q : Progress) (t : S) (z : Option Traffic) (out : List ℕ) → HearsSome m (nat_lt p.orders 16) v u piece n (hearing.Done heard.Refused) s t out → IsQuiet u w p q y z → Ended (Ok end.Refused) w.ring t z
  refused-stops u w q t z out hears still =
      let steps = hears.0.steps in
      let f = steps.2 in
      let ring : w.ring ≡ v.ring = ap (λ (j : TrackerView). j.ring) still.view ∙ ap (λ (j : TrackerView). j.ring) f.2 in
      stops-at (Ok end.Refused) (answer 0) w.ring t z [] (steps.1 ∙ ap (λ (i : DownValue). whole i (length (v.have ++ take n piece))) f.0)
      (refl, sym g.stands.accepted ∙ f.1, leaves-as g.state v.ring w.ring s t g.stands.leaves ring f.3, refl) (quiet z still.told)

  -- a command too many
  unobeyed-stops : (u w : TrackerView) (q : Progress) (t : S) (z : Option Traffic) (out : List ℕ) → HearsSome m (nat_lt p.orders 16) v u piece n hearing.Unobeyed s t out → IsQuiet u w p q y z → Ended (Ok end.TooManyCommands) w.ring t z
  unobeyed-stops u w q t z out hears still =
      let f = hears.0 in
      let ring : w.ring ≡ v.ring = ap (λ (j : TrackerView). j.ring) still.view ∙ ap (λ (j : TrackerView). j.ring) f.is in
      let many = ltb-false p.orders 16 hears.2 in
      let orders_at = g.stands.orders in
      stops-at (Ok end.TooManyCommands) (order f.body) w.ring t z [] f.verdict
      ((f.body, refl), sym g.stands.accepted ∙ f.answered, omega arith, leaves-as g.state v.ring w.ring s t g.stands.leaves ring hears.1, refl) (quiet z still.told)

  -- the answer to a command went out in part
  answer-stops : (e : Result RoundEnd MediumFault) (u w : TrackerView) (q : Progress) (t : S) (z : Option Traffic) (out : List ℕ) → HearsSome m (nat_lt p.orders 16) v u piece n (hearing.Done heard.Answer) s t out → SendsAnswer (Some e) out p q y z → w ≡ u → (e ≡ Ok end.Broken → rose) → Ended e w.ring t z
  answer-stops (Ok (end.Done k)) u w q t z out hears sent same cause = absurd sent
  answer-stops (Ok end.Empty) u w q t z out hears sent same cause = absurd sent
  answer-stops (Ok end.Refused) u w q t z out hears sent same cause = absurd sent
  answer-stops (Ok end.Broken) u w q t z out hears sent same cause =
      let steps = hears.0.steps in
      let f = steps.2 in
      let body = f.0 in
      let d = g.state in
      let view : w ≡ record v { have = [] } = same ∙ f.3 in
      let low = ltb-true p.orders 16 (hears.1 refl) in
      let orders_at = g.stands.orders in
      let said : out ≡ writes m r d (order body) = f.5 ∙ ap (λ (j : ℕ × S). answer_frame m j.0 j.1 body) (λ i. (g.stands.imei i, g.stands.leaves.shell i)) in
      let Q : List ℕ → Type 0 = λ b. WritesPart b y z in
      let part = subst Q said sent.1 in
      let at = orders-on m r d old v w p q s t body g.stands view sent.0 f.4 in
      let st = stops-at (Ok end.Broken) (order body) w.ring t z (take part.0 (writes m r d (order body))) (steps.1 ∙ ap (λ (i : DownValue). whole i (length (v.have ++ take n piece))) f.1)
      ((sym g.stands.accepted ∙ f.2, omega arith), at.leaves, (part.0, part.1, refl), cause refl) part.2 in
      (st.0, inr st.1)
  answer-stops (Ok (end.WrongAnswer got)) u w q t z out hears sent same cause = absurd sent
  answer-stops (Ok end.TooManyCommands) u w q t z out hears sent same cause = absurd sent
  answer-stops (Err failed) u w q t z out hears sent same cause = absurd sent

  -- something else was heard
  wrong-stops : (k : Got) (u w : TrackerView) (q : Progress) (t : S) (z : Option Traffic) (out : List ℕ) → HearsSome m (nat_lt p.orders 16) v u piece n (hearing.Done (heard.Wrong k)) s t out → IsQuiet u w p q y z → Ended (Ok (end.WrongAnswer k)) w.ring t z
  wrong-stops (got.Login b) u w q t z out hears still =
      let steps = hears.0.steps in
      let f = steps.2 in
      let ring : w.ring ≡ v.ring = ap (λ (j : TrackerView). j.ring) still.view ∙ ap (λ (j : TrackerView). j.ring) f.1 in
      let P : Bool × List ℕ → Type 0 = λ j. IsWrong j.0 j.1 (got.Login b) steps.0 in
      stops-at (Ok (end.WrongAnswer (got.Login b))) steps.0 w.ring t z [] steps.1
      (subst P (λ i. (g.stands.accepted i, g.stands.batch i)) f.0, leaves-as g.state v.ring w.ring s t g.stands.leaves ring f.2, refl) (quiet z still.told)
  wrong-stops (got.Count c) u w q t z out hears still =
      let steps = hears.0.steps in
      let f = steps.2 in
      let ring : w.ring ≡ v.ring = ap (λ (j : TrackerView). j.ring) still.view ∙ ap (λ (j : TrackerView). j.ring) f.1 in
      let P : Bool × List ℕ → Type 0 = λ j. IsWrong j.0 j.1 (got.Count c) steps.0 in
      stops-at (Ok (end.WrongAnswer (got.Count c))) steps.0 w.ring t z [] steps.1
      (subst P (λ i. (g.stands.accepted i, g.stands.batch i)) f.0, leaves-as g.state v.ring w.ring s t g.stands.leaves ring f.2, refl) (quiet z still.told)
  wrong-stops (got.Frame found) u w q t z out hears still =
      let steps = hears.0.steps in
      let d = g.state in
      let a = g.advances in
      let piece_now = take n piece in
      let broken = judged m r d old v p s (v.have ++ piece_now) _ g.stands steps.0 in
      let stays : down_verdict d.accepted ((v.have ++ piece_now) ++ back) ≡ fault found.kind found.place = down_stays d.accepted (v.have ++ piece_now) back (λ e. absurd (let f : down_verdict d.accepted (v.have ++ piece_now) ≡ short = e in cc)) ∙ broken in
      let whole_rest : judge (down_rows d.accepted) 0 (v.have ++ (piece_now ++ back)) ≡ fault found.kind found.place = ap (down_verdict d.accepted) (sym (append_assoc v.have piece_now back)) ∙ stays in
      let unfinished : IsNotWhole (judge (down_rows d.accepted) 0 (v.have ++ (piece_now ++ back))) = subst (λ (k : Verdict DownValue). IsNotWhole k) (sym whole_rest) tt in
      let ring : w.ring ≡ v.ring = ap (λ (j : TrackerView). j.ring) still.view ∙ ap (λ (j : TrackerView). j.ring) steps.1 in
      let all_taken : taken ≡ bytes ++ (piece_now ++ back) = split ∙ append_assoc bytes piece_now back in (
        d,
        record {
          items = a.items;
          rest = v.have ++ (piece_now ++ back);
          reading = record {
            is = ap (down_reading false) all_taken ∙ rest_grows (down_rows false) (down_rows true) (down_rows d.accepted) bytes (piece_now ++ back) v.have a.items down_begins a.reading a.place unfinished
                ∙ ap (λ (i : List (Item DownValue)). record { items = i; rest = v.have ++ (piece_now ++ back) }) (append-nil a.items);
            judged = ap (λ rows. judge rows 0 (v.have ++ (piece_now ++ back))) a.place ∙ whole_rest;
          };
          fits = a.fits;
          state = a.state;
          waits = waiting m r bytes taken old v p s x y g;
          leaves = leaves-as d v.ring w.ring s t g.stands.leaves ring steps.2;
          wire = moves_as (taken ++ []) (written m r a ++ []) taken (written m r a) x z (append-nil taken) (append-nil (written m r a)) (moves_then taken (written m r a) [] [] x y z g.wire (quiet z still.told));
        },
      )

  -- the medium failed
  medium-stops : (failed : MediumFault) (u w : TrackerView) (q : Progress) (t : S) (z : Option Traffic) (out : List ℕ) → HearsSome m (nat_lt p.orders 16) v u piece n (hearing.Done heard.MediumFault) s t out → IsQuiet u w p q y z → Ended (Err failed) w.ring t z
  medium-stops failed u w q t z out hears still =
      let steps = hears.0.steps in
      let f = steps.2 in
      let d = g.state in
      let down = f.4 in
      let ring : w.ring ≡ u.ring = ap (λ (j : TrackerView). j.ring) still.view in
      let size : length v.batch ≡ length d.batch = ap length g.stands.batch in
      let accepted : d.accepted ≡ true = sym g.stands.accepted ∙ f.1 in
      let some = f.2 in
      let slots = slots-same m r d old v p s g.stands in
      let inside : FailsInside m r d old u.ring t = record {
        ring = down.is ∙ ap (λ (j : RingView). let k : RingView = record { medium = u.ring.medium; slots = j.slots; next = j.next; down = true } in k) g.stands.leaves.ring;
        images = holds-map (length u.ring.slots) u.ring.medium.content (MayClose (reached v.ring.medium.left v.batch) v.ring.slots) (MayClose d.batch (slots_now m r d))
            (λ left may. (let P : List ℕ × List (Option Held) → Type 0 = λ j. MayClose j.0 j.1 left in subst P (λ i. (g.stands.batch i, slots i)) (some-reached v.ring.medium.left v.batch v.ring.slots left may))) down.images;
        counted = counted-as (omega arith) (λ k. k) (λ k. k) (counted-then g.stands.leaves.counted down.counted);
        shell = f.5 ∙ g.stands.leaves.shell;
      } in
      let P : RingView → Type 0 = λ j. FailsInside m r d old j t in
      stops-at (Err failed) (count (length v.batch)) w.ring t z [] (steps.1 ∙ ap (λ (i : DownValue). whole i (length (v.have ++ take n piece))) f.0)
      ((accepted, (omega arith), size), ap count size, subst P (sym ring) inside, refl) (quiet z still.told)

  -- a turn that ends the round
  ends-by : (h : Hearing) (e : Result RoundEnd MediumFault) (u w : TrackerView) (q : Progress) (t : S) (z : Option Traffic) (out : List ℕ) → HearsSome m (nat_lt p.orders 16) v u piece n h s t out → Reacts h (Some e) u w out p q y z → (e ≡ Ok end.Broken → rose) → Ended e w.ring t z
  ends-by (hearing.Done heard.More) e u w q t z out hears reacts cause = absurd reacts
  ends-by (hearing.Done heard.Accepted) e u w q t z out hears reacts cause =
      let steps = hears.0.steps in
      let f = steps.2 in
      let P : S → Type 0 = λ k. Ended e w.ring k z in
      subst P (sym f.3) (batch-stops e (answer 1) (accepts m r g.state) u w p q s z (steps.1 ∙ ap (λ (i : DownValue). whole i (length (v.have ++ take n piece))) f.0) (sym g.stands.accepted ∙ f.1, refl) refl refl
      (accepts-on m r g.state old v u p s g.stands f.2) reacts cause)
  ends-by (hearing.Done heard.Refused) (Ok (end.Done k)) u w q t z out hears reacts cause = absurd reacts
  ends-by (hearing.Done heard.Refused) (Ok end.Empty) u w q t z out hears reacts cause = absurd reacts
  ends-by (hearing.Done heard.Refused) (Ok end.Refused) u w q t z out hears reacts cause = refused-stops u w q t z out hears reacts
  ends-by (hearing.Done heard.Refused) (Ok end.Broken) u w q t z out hears reacts cause = absurd reacts
  ends-by (hearing.Done heard.Refused) (Ok (end.WrongAnswer k)) u w q t z out hears reacts cause = absurd reacts
  ends-by (hearing.Done heard.Refused) (Ok end.TooManyCommands) u w q t z out hears reacts cause = absurd reacts
  ends-by (hearing.Done heard.Refused) (Err failed) u w q t z out hears reacts cause = absurd reacts
  ends-by (hearing.Done (heard.Released k)) e u w q t z out hears reacts cause =
      let steps = hears.0.steps in
      let f = steps.2 in
      let size : length v.batch ≡ length g.state.batch = ap length g.stands.batch in
      let some = f.2 in
      let P : S → Type 0 = λ j. Ended e w.ring j z in
      subst P (sym f.6) (batch-stops e (count (length v.batch)) (counts m r g.state) u w (record p { done = p.done + k }) q s z (steps.1 ∙ ap (λ (i : DownValue). whole i (length (v.have ++ take n piece))) f.0)
      (sym g.stands.accepted ∙ f.1, (omega arith), size) refl refl (counts-on m r g.state old v u p k s g.stands f.3 f.4 f.5) reacts cause)
  ends-by (hearing.Done heard.Answer) e u w q t z out hears reacts cause = answer-stops e u w q t z out hears reacts.0 reacts.1 cause
  ends-by (hearing.Done (heard.Wrong k)) (Ok (end.Done j)) u w q t z out hears reacts cause = absurd reacts
  ends-by (hearing.Done (heard.Wrong k)) (Ok end.Empty) u w q t z out hears reacts cause = absurd reacts
  ends-by (hearing.Done (heard.Wrong k)) (Ok end.Refused) u w q t z out hears reacts cause = absurd reacts
  ends-by (hearing.Done (heard.Wrong k)) (Ok end.Broken) u w q t z out hears reacts cause = absurd reacts
  ends-by (hearing.Done (heard.Wrong k)) (Ok (end.WrongAnswer j)) u w q t z out hears reacts cause =
      let P : Got → Type 0 = λ i. Ended (Ok (end.WrongAnswer i)) w.ring t z in subst P (sym reacts.1) (wrong-stops k u w q t z out hears reacts.0)
  ends-by (hearing.Done (heard.Wrong k)) (Ok end.TooManyCommands) u w q t z out hears reacts cause = absurd reacts
  ends-by (hearing.Done (heard.Wrong k)) (Err failed) u w q t z out hears reacts cause = absurd reacts
  ends-by (hearing.Done heard.MediumFault) (Ok (end.Done j)) u w q t z out hears reacts cause = absurd reacts
  ends-by (hearing.Done heard.MediumFault) (Ok end.Empty) u w q t z out hears reacts cause = absurd reacts
  ends-by (hearing.Done heard.MediumFault) (Ok end.Refused) u w q t z out hears reacts cause = absurd reacts
  ends-by (hearing.Done heard.MediumFault) (Ok end.Broken) u w q t z out hears reacts cause = absurd reacts
  ends-by (hearing.Done heard.MediumFault) (Ok (end.WrongAnswer j)) u w q t z out hears reacts cause = absurd reacts
  ends-by (hearing.Done heard.MediumFault) (Ok end.TooManyCommands) u w q t z out hears reacts cause = absurd reacts
  ends-by (hearing.Done heard.MediumFault) (Err failed) u w q t z out hears reacts cause = medium-stops failed u w q t z out hears reacts
  ends-by hearing.Unobeyed (Ok (end.Done j)) u w q t z out hears reacts cause = absurd reacts
  ends-by hearing.Unobeyed (Ok end.Empty) u w q t z out hears reacts cause = absurd reacts
  ends-by hearing.Unobeyed (Ok end.Refused) u w q t z out hears reacts cause = absurd reacts
  ends-by hearing.Unobeyed (Ok end.Broken) u w q t z out hears reacts cause = absurd reacts
  ends-by hearing.Unobeyed (Ok (end.WrongAnswer j)) u w q t z out hears reacts cause = absurd reacts
  ends-by hearing.Unobeyed (Ok end.TooManyCommands) u w q t z out hears reacts cause = unobeyed-stops u w q t z out hears reacts
  ends-by hearing.Unobeyed (Err failed) u w q t z out hears reacts cause = absurd reacts

  pub ends-with : (e : Result RoundEnd MediumFault) (w : TrackerView) (q : Progress) (t : S) (z : Option Traffic) → Takes m (Some e) v w piece n s t p q y z → (e ≡ Ok end.Broken → rose) → Ended e w.ring t z
  ends-with e w q t z takes cause = ends-by takes.hearing e takes.heard w q t z takes.out takes.hears takes.reacts cause

-- The link's end, or a read that failed: all that was taken was looked at.
pub ends-read : {S : Type 0} (m : ShellMeaning S) (r : Round S) (taken : List ℕ) (old : RingView) (v : TrackerView) (p : Progress) (s : S) (x y z : Option Traffic) (g : Goes m r taken taken old v p s x y) → Moves [] [] y z
    → Rests m r short taken g.state old v.ring s x z
ends-read m r taken old v p s x y z g still = record {
  items = g.advances.items;
  rest = v.have;
  reading = record {
    is = g.advances.reading;
    judged = ap (λ rows. judge rows 0 v.have) g.advances.place ∙ ap (λ (b : Bool). down_verdict b v.have) (sym g.stands.accepted) ∙ (g.ready.known.talk g.ready.talking).waits;
  };
  fits = g.advances.fits;
  state = g.advances.state;
  waits = waiting m r taken taken old v p s x y g;
  leaves = g.stands.leaves;
  wire = moves_as (taken ++ []) (written m r g.advances ++ []) taken (written m r g.advances) x z (append-nil taken) (append-nil (written m r g.advances)) (moves_then taken (written m r g.advances) [] [] x y z g.wire still);
}
